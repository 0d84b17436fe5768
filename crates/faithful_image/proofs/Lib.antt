pub mod Watching
pub mod LineLaw
