pub mod Steps
pub mod Acts
pub mod Paths
pub mod Rows
pub mod Located
pub mod Stands
pub mod Kept
pub mod Law
pub mod CompiledLaw
pub mod FittingLaw
pub mod ImageLaw
pub mod OfTexts
pub mod Defined
pub mod Checked
mod Tests
