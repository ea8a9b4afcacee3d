-- What the machine works on.
pub use Rattle.opcode_table.specs.Stack.{Stack, Action, shared}
