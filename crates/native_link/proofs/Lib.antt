pub mod Sizes
pub mod Lookups
pub mod Rows
pub mod Second
pub mod Tables
