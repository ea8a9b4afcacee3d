pub mod Marks
pub mod First
