pub mod Atoms
pub mod Counts
pub mod Within
