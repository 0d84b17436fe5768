pub mod Terms
pub mod BuiltInLaws
pub mod Raising
pub mod Callees
pub mod Lists
