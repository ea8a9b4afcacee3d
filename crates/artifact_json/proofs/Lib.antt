pub mod Named
pub mod Spellings
pub mod Storable
pub mod Rereads
pub mod WholeLaw
