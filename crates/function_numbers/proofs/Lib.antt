pub mod Any
pub mod Places
pub mod Keys
pub mod Noted
pub mod Exported
pub mod Numbered
