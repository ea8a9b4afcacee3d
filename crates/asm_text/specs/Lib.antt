pub mod Assembly
pub mod Cutting
pub mod Reading
