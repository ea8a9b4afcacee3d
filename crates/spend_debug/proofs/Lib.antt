pub mod Built
pub mod Cuts
pub mod HexBytes
pub mod Placed
pub mod ReadElements
