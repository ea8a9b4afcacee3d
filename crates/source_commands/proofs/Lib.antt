pub mod Calls
pub mod Causes
pub mod Decided
pub mod Ready
pub mod Stored
