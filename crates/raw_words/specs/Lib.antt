-- specs/Lib.antt
pub mod Ownership
