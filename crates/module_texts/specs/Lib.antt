pub mod Texts
pub mod Bounds
