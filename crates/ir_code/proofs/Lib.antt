pub mod Growing
pub mod Turns
pub mod Counted
pub mod Sound
pub mod Ready
pub mod Holding
pub mod Knows
pub mod Short
