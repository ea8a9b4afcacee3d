pub mod Sublists
pub mod Counts
pub mod Trace
pub mod Tidy
pub mod Scripts
