pub mod Gap
pub mod Numbers
pub mod Dates
pub mod Rows
pub mod Tokens
pub mod Laws
