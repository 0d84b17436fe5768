pub mod Advancing
pub mod ReadingLaws
pub mod FewForms
pub mod AtomSizes
pub mod EntryNames
