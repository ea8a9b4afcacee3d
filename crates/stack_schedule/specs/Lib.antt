pub mod Costs
pub mod Endings
pub mod Spans
pub mod Schedule
pub mod Built
