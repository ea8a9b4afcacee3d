pub mod Bytes
pub mod Places
pub mod Within
pub mod Filling
pub mod Amounts
pub mod Elements
pub mod Subjects
pub mod Turned
