pub mod Lookup
pub mod Places
pub mod Checking
pub mod Image
pub mod Laws
