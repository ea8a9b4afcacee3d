pub mod Meaning
pub mod Shape
pub mod Weight
pub mod Spans
