pub mod Pieces
pub mod Choice
pub mod Place
pub mod Selection
