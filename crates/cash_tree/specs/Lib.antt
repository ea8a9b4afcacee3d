pub mod Nodes
pub mod Spans
