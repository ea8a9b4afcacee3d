pub mod Turns
pub mod Located
