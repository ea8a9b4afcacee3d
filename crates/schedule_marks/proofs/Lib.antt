pub mod Keeps
pub mod Rows
pub mod Noting
pub mod Choices
pub mod Passed
pub mod Texts
pub mod Going
pub mod Whole
