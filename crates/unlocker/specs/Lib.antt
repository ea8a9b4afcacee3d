pub mod Building
pub mod Handing
pub mod Scripts
pub mod Spends
pub mod Values
