pub mod StatementSound
pub mod StatementComplete
pub mod StatementLoop
