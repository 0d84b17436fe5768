pub mod OrderLaws
pub mod TermLaws
pub mod CompareLaws
pub mod OneTerm
pub mod Utf8Order
pub mod NameLaws
pub mod TextLaws
