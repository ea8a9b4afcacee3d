pub mod Cut
pub mod Turn
pub mod Digits
pub mod Again
