pub mod Operand
pub mod Width
pub mod Operation
pub mod Reads
pub mod Causes
