pub mod Count
pub mod Written
pub mod Laying
pub mod Laws
