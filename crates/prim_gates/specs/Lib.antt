pub mod Reply
pub mod Shapes
pub mod Gate
pub mod Law
pub mod Said
pub mod Shallow
pub mod Ended
pub mod Chain
