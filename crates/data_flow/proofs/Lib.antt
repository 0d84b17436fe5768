pub mod Cuts
pub mod Looks
pub mod Points
pub mod Sets
pub mod Settling
