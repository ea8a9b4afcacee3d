pub mod Scoped
pub mod Room
pub mod Weighed
pub mod Spans
pub mod Arranged
pub mod Statements
pub mod Functions
