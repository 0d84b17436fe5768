pub mod Hand
pub mod Fitting
