pub mod Names
pub mod Numbers
pub mod Flow
pub mod Rows
pub mod Walks
