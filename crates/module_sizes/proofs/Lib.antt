pub mod Weights
pub mod Tokens
pub mod Terms
pub mod Parts
pub mod EachRow
pub mod Rows
pub mod Functions
pub mod Modules
