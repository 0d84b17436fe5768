pub mod Tests
pub mod Reaching
pub mod Free
pub mod Short
pub mod Rounds
pub mod Lowest
pub mod Forgetting
pub mod Steps
