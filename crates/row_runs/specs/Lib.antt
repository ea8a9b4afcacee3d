pub mod Rows
pub mod Code
