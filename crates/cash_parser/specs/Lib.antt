pub mod Files
pub mod FileReading
pub mod Answer
pub mod Inside
pub mod Names
