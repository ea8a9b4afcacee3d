pub mod Feed
pub mod Plain
