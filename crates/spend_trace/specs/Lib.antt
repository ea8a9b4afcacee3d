pub mod Heights
pub mod Judged
pub mod Traced
