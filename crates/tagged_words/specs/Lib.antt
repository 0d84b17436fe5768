pub mod Region
pub mod Word
pub mod Store
pub mod Look
pub mod Seen
pub mod Laid
pub mod Follow
pub mod Atoms
