pub mod Agreement
pub mod Meaning
pub mod Faithful
pub mod Line
pub mod Watched
