pub mod Names
pub mod Pragmas
pub mod Wants
pub mod Uses
