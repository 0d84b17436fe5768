pub mod Mentions
pub mod Shown
pub mod Laying
pub mod Constants
pub mod Known
pub mod Room
pub mod Laws
