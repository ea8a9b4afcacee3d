-- The tables are the same, and what holds of each row.
use Rattle.std.proofs.Common.{◌≡◌, ℕ, zero, suc, ◌-◌, Bool, true, false, cond, nat_lt, List, [], ◌∷◌, Option, Some, None, refl}
use Rattle.std.specs.Prelude.{slice_get}
use Rattle.std.specs.List.{list_all}
use Rattle.std.proofs.lemmas.Bool.{and_parts}
use Rattle.opcode_table.specs.declared.rows.Row.{Row}
use Rattle.opcode_table.specs.declared.rows.TheConstants.{ROWS}
use Rattle.opcode_table.specs.Table.{rows, bad, row_or_bad, row_of, is_modest_row}

pub same_rows : ROWS ≡ rows
unfolding rows
same_rows = refl

-- what holds of each row of a table, and of a bad one
at_row : (holds : Row → Bool) (table : List Row) (at : ℕ) → holds bad ≡ true → list_all holds table ≡ true
    → holds (row_or_bad (slice_get table at)) ≡ true
at_row holds [] at otherwise all = otherwise
at_row holds (row ∷ table) zero otherwise all = (and_parts _ _ all).0
at_row holds (row ∷ table) (suc at) otherwise all = at_row holds table at otherwise (and_parts _ _ all).1

all_modest : list_all is_modest_row rows ≡ true
unfolding rows
all_modest = refl

pub modest : (opcode : ℕ) → is_modest_row (row_of opcode) ≡ true
modest opcode = by_test (nat_lt opcode 0x61)
  where
    by_test : (t : Bool) → is_modest_row (cond t bad (row_or_bad (slice_get rows (opcode - 0x61)))) ≡ true
    by_test true = refl
    by_test false = at_row is_modest_row rows (opcode - 0x61) refl all_modest
