pub mod Name
pub mod Small
pub mod Tree
pub mod Term
pub mod Size
pub mod IsTerm
pub mod Order
pub mod Text
