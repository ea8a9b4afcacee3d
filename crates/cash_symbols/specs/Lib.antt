pub mod Words
pub mod Lexemes
pub mod Fixpoint
pub mod Front
pub mod DepthRules
