pub mod Numbers
pub mod FilesLaw
pub mod CheckingLaw
pub mod RunningLaw
pub mod AnswerLaw
pub mod ReadLaw
pub mod MeaningLaw
pub mod CompilingLaw
