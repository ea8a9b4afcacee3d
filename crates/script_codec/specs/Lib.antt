pub mod Spelling
pub mod Reading
pub mod Places
pub mod Counting
pub mod Words
pub mod Names
