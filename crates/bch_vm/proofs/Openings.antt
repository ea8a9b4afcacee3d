-- How many conditions the row of an opcode opens.
use Rattle.std.proofs.Common.{◌≡◌, ℕ, ◌-◌, ◌≤◌, Bool, true, false, cond, nat_lt, Option, Some, None, arith, refl}
use Rattle.std.proofs.lemmas.Bool.{false≢true}
use Rattle.std.proofs.lemmas.Bool.Decides.{nat_tests}
use Rattle.std.specs.Prelude.{slice_get}
use Rattle.script_codec.specs.Counting.{weight}
use Rattle.opcode_table.specs.declared.rows.Row.{Row}
use Rattle.opcode_table.specs.declared.rows.Row.TheVariants.{Never, Opens, Flips, Closes, Lays, Fetches, Separates, Does, DoesAndVerifies}
use Rattle.opcode_table.specs.Table.{rows, bad, row_or_bad, row_of}
use Rattle.bch_vm.specs.Opening.{row_opening}

one_at_most : (row : Row) → row_opening row ≤ 1
one_at_most (Never cause) = omega arith
one_at_most (Opens sense) = omega arith
one_at_most Flips = omega arith
one_at_most Closes = omega arith
one_at_most Lays = omega arith
one_at_most Fetches = omega arith
one_at_most Separates = omega arith
one_at_most (Does deed) = omega arith
one_at_most (DoesAndVerifies deed) = omega arith

-- an opcode that opens one is counted
pub opens_counted : (opcode : ℕ) → row_opening (row_of opcode) ≤ weight opcode
opens_counted opcode = by_tests (nat_lt opcode 0x61) (nat_lt 0x60 opcode) (grind (arith, nat_tests))
  where
    by_tests : (low counted : Bool) → (low ≡ false → counted ≡ true) → row_opening (cond low bad (row_or_bad (slice_get rows (opcode - 0x61)))) ≤ cond counted 1 0
    by_tests true counted is = omega arith
    by_tests false true is = one_at_most (row_or_bad (slice_get rows (opcode - 0x61)))
    by_tests false false is = absurd (false≢true (is refl))
