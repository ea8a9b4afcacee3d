pub mod FaultLines
pub mod Spent
