pub mod Rows
pub mod WrittenLaws
pub mod Cells
pub mod Parts
pub mod Numbers
