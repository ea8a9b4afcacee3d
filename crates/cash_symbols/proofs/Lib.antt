pub mod Fixpoint
pub mod Steps
