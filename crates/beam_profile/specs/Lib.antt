pub mod Header
pub mod Sequence
pub mod Labels
pub mod Module
pub mod Forms
pub mod Whole
pub mod Sizes
