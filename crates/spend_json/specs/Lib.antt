pub mod Fields
pub mod Given
pub mod Values
pub mod Choices
pub mod Parts
pub mod Transactions
pub mod Rows
pub mod Files
