pub mod FileSound
pub mod FileComplete
pub mod FileLoop
pub mod SmallTree
pub mod InsideTree
pub mod Names
