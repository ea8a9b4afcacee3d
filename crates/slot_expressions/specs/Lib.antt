pub mod Room
pub mod Spans
pub mod Ready
pub mod Reads
pub mod Pieces
pub mod Rows
