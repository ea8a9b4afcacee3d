pub mod Begins
pub mod Sound
pub mod Unrolled
pub mod Complete
pub mod Loops
pub mod Small
pub mod Inside
