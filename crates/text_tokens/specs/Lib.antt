pub mod Character
pub mod Pieces
pub mod Tokens
pub mod Found
pub mod Class
pub mod Canonical
pub mod Cuts
pub mod Spellings
