pub mod Ends
pub mod Keeps
