pub mod Names
pub mod Points
pub mod Order
