pub mod Compared
pub mod Pairs
pub mod Spelt
pub mod Ordinal
pub mod Shown
pub mod Waiting
pub mod Texts
pub mod Nodes
