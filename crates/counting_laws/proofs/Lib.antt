pub mod Counting
pub mod Choosing
