pub mod Reading
pub mod Advance
pub mod Canonical
pub mod Entry
