-- Runs of the same code at another place.
use Rattle.std.specs.Prelude.{◌≡◌, ◌⊎◌, ℕ, ◌+◌, Bool, true, false, not, List, map, Result, Ok, Err}
use Rattle.std.specs.List.{list_all}
use Rattle.script_codec.specs.declared.instr.Instr.{Instr}
use Rattle.script_codec.specs.declared.instr.Instr.TheVariants.{Push, Do}
use Rattle.opcode_table.specs.declared.rows.Row.{Row}
use Rattle.opcode_table.specs.declared.rows.Row.TheVariants.{Separates}
use Rattle.opcode_table.specs.Table.{row_of}
use Rattle.bch_vm.specs.Script.{State, Progress, Failure, Executed}

-- ---- no separator

abbrev pub row_separates : Row → Bool
row_separates Separates = true
row_separates _ = false

-- CODESEPARATOR alone changes where the active bytecode begins
abbrev pub separates : Instr → Bool
separates (Push e) = false
separates (Do opcode) = row_separates (row_of opcode.0)

abbrev pub is_unseparated : List Instr → Bool
is_unseparated code = list_all (λ instr. not (separates instr)) code

-- ---- so many instructions further on

-- The last executed instruction is the same. Where none was, it is still the one that was executed before the code.
abbrev pub IsLastBehind : ℕ → Progress → Progress → Progress → Progress → Type 0
IsLastBehind before p q t u = (u.last ≡ before + t.last) ⊎ ((t.last ≡ p.last) × (u.last ≡ q.last))

-- The run ends in the same stacks, or fails for the same cause at the same instruction.
abbrev pub EndsBehind : ℕ → Progress → Progress → Result State Failure → Result State Failure → Type 0
EndsBehind before p q (Err failure) r = r ≡ Err (record { at = before + failure.at; cause = failure.cause })
EndsBehind before p q (Ok t) r =
    (u : State) × (r ≡ Ok u) × (u.board ≡ t.board) × IsLastBehind before p q t.progress u.progress

-- the executed instructions are the same
abbrev pub executed_behind : ℕ → Executed → Executed
executed_behind before e = record { at = before + e.at; height = e.height }

abbrev pub all_executed_behind : ℕ → List Executed → List Executed
all_executed_behind before es = map (executed_behind before) es
