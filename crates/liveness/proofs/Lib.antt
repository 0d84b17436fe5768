pub mod Bits
pub mod Edges
pub mod Spreading
pub mod Settled
pub mod Columns
pub mod Shown
pub mod Whole
