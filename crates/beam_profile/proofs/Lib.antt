pub mod Beginning
pub mod Functions
pub mod Modules
pub mod FewItems
pub mod Added
