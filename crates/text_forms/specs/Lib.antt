pub mod Spelling
pub mod Places
pub mod Refusals
pub mod Moves
pub mod Steps
pub mod InPlace
