pub mod Trivial
pub mod Words
pub mod Returned
pub mod Image
pub mod Compiled
