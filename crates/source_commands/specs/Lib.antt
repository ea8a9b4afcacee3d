pub mod Compiled
pub mod Judged
pub mod Meaning
pub mod Sources
