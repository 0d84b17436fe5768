pub mod Texts
pub mod Checks
pub mod Carried
