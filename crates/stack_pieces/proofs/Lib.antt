pub mod Plans
pub mod Prefix
pub mod Chunks
pub mod Many
