pub mod SpendDebug
pub mod SpendLines
pub mod Telling
