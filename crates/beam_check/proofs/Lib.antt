pub mod Sound
pub mod Texts
mod Lows
pub mod Saying
