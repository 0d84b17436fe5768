pub mod FaultsLaw
pub mod Endings
pub mod Course
pub mod RunCourse
pub mod StatusLaw
