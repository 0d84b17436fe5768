pub mod Refusals
pub mod Entries
pub mod Sizes
pub mod Duplicates
pub mod Checks
