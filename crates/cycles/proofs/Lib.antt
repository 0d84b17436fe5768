pub mod Ranked
pub mod Marks
