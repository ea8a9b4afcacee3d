pub mod Answering
pub mod Complete
pub mod TopCall
