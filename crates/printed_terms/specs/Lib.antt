pub mod Printable
pub mod ReadAs
