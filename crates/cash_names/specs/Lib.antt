pub mod Expressions
pub mod Outline
pub mod Reading
pub mod Scopes
pub mod Answer
pub mod Definitions
