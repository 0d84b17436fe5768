-- proofs/Lib.antt
pub mod Sharing
pub mod Steps
