pub mod Fields
pub mod Document
