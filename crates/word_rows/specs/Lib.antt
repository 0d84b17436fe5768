pub mod Standing
pub mod Entries
pub mod Targets
pub mod Lookup
pub mod Names
pub mod Rows
pub mod Setting
