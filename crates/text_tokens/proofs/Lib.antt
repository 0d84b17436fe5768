pub mod Runs
pub mod Quotes
pub mod Bytes
pub mod Integers
pub mod Fronts
pub mod CanonicalTokens
pub mod CutLaws
pub mod Longest
