pub mod Describes
pub mod Correct
pub mod Runs
pub mod Compile
pub mod Code
