pub mod Shapes
pub mod Ends
pub mod Outline
pub mod Reading
pub mod Typing
pub mod Untyped
pub mod Answer
pub mod Laws
