pub mod Few
pub mod Units
pub mod Placing
pub mod Entering
pub mod Asking
pub mod Stopping
pub mod Duplicated
pub mod Refusing
