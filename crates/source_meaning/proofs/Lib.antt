pub mod Steps
pub mod StmtSteps
pub mod Multi
