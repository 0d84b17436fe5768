pub mod Mask
pub mod Spelling
pub mod Fitting
pub mod Rules
pub mod Cursor
pub mod Reading
pub mod Places
pub mod Numbers
