pub mod Literals
pub mod Sound
pub mod Room
pub mod Plain
