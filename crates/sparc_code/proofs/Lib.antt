pub mod BitLemmas
pub mod Fields
pub mod Laws
