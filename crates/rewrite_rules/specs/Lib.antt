pub mod Rows
pub mod Effects
pub mod Rules
pub mod Fitting
pub mod Law
pub mod Laws
