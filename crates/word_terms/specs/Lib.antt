pub mod Literals
pub mod Standing
