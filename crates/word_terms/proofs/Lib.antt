pub mod Steps
pub mod StandingLaws
