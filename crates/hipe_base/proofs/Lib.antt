pub mod PutLaws
pub mod ReadLaws
pub mod FileLaws
