pub mod Bytes
pub mod Layers
pub mod Granted
pub mod Symbols
pub mod Spelled
pub mod Named
pub mod Typed
pub mod Whole
