pub mod Low
pub mod Sought
pub mod Steps
