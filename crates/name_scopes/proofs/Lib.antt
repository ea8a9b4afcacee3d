pub mod Granted
pub mod Scoping
pub mod Requirement
