pub mod Answered
pub mod Finished
pub mod Fitting
pub mod Told
