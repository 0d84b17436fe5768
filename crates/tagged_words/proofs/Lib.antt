-- proofs/Lib.antt
pub mod WordLaws
pub mod RegionLaws
pub mod Begins
pub mod Tables
pub mod StoreLaws
pub mod SeenLaws
