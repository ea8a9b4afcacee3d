pub mod Bytes
pub mod Transaction
pub mod Given
pub mod Limits
pub mod Lookup
pub mod Table
pub mod Verdict
pub mod World
