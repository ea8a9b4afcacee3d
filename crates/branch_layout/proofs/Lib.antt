pub mod Counts
pub mod Runs
pub mod Weights
pub mod Drops
pub mod Raised
pub mod Joined
