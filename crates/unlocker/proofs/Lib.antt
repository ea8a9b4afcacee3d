pub mod Fitting
pub mod Limits
pub mod Pushed
pub mod Sizes
pub mod Spent
