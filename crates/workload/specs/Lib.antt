pub mod Work
pub mod Refused
pub mod Lines
