pub mod Lengths
pub mod Moments
pub mod Cut
pub mod Found
pub mod Gaps
pub mod Pieces
pub mod Values
pub mod Texts
