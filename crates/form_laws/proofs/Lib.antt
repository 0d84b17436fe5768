pub mod Terms
pub mod Parts
pub mod Rows
pub mod EachKind
pub mod Whole
pub mod Fronts
