pub mod Live
pub mod Agree
pub mod Sites
