pub mod Items
pub mod Bytes
