pub mod Cycles
pub mod Marked
