-- The bytes of a locking bytecode, where they are given.
use Rattle.std.specs.Prelude.{ℕ, List, Option, Some, None}
use Rattle.tx_context.specs.declared.part.Bytecode.{Bytecode}
use Rattle.tx_context.specs.declared.part.Bytecode.TheVariants.{Given, Own}

abbrev pub given_bytes : Bytecode → Option (List ℕ)
given_bytes (Given bytes) = Some bytes.items
given_bytes Own = None
