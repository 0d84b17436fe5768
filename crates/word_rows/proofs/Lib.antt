pub mod Standing
pub mod Functions
pub mod Starting
pub mod Given
