pub mod Lexing
pub mod Numbers
pub mod BareAtoms
pub mod QuotedAtoms
pub mod Layers
pub mod Allowed
pub mod Written
pub mod ReadBack
