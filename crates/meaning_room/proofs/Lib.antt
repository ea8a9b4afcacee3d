pub mod Places
pub mod Under
