pub mod Stack
pub mod Turned
pub mod Asking
pub mod Deeds
pub mod Table
