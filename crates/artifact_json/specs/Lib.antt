pub mod Types
pub mod Artifact
pub mod Fields
pub mod Reading
pub mod Text
