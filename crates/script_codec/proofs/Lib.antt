pub mod Seams
pub mod Sizes
pub mod Own
pub mod Table
pub mod Round
pub mod Only
