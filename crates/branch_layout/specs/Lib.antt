pub mod Slots
pub mod Arms
