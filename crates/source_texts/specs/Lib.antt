pub mod RefusalText
pub mod RunText
pub mod TraceLines
