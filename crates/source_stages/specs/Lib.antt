pub mod Accepted
pub mod Stages
