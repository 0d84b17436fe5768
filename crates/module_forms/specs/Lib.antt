pub mod Kind
pub mod Part
pub mod Rest
pub mod Rows
pub mod Form
pub mod Seen
