pub mod Live
pub mod Words
pub mod Backward
pub mod Settling
pub mod Rows
pub mod Whole
