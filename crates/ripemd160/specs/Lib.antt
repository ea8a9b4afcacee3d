pub mod Ripemd160
pub mod Rounds
