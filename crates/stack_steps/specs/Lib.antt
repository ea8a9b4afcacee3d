pub mod Lower
pub mod Operations
pub mod Steps
