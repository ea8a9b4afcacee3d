pub mod Nested
pub mod Branches
pub mod Underneath
