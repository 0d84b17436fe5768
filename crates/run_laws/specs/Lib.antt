pub mod Formed
pub mod Shown
pub mod Runs
pub mod Static
pub mod Example
pub mod Ranks
pub mod Activations
