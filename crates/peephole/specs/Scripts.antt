-- The machine's runs of code and of code that stands for it.
use Rattle.std.specs.Prelude.{◌≡◌, ℕ, ◌+◌, Bool, false, IsFalse, List, [], Option, Some, None, option_map, slice_get, Result, Ok, Err}
use Rattle.cash_base.specs.declared.place.Span.{Span}
use Rattle.cash_base.specs.Source.{place_in}
use Rattle.cash_base.specs.declared.fault.MachineCause.{MachineCause}
use Rattle.tx_context.specs.World.{World}
use Rattle.script_codec.specs.declared.instr.Instr.{Instr}
use Rattle.script_codec.specs.declared.spans.Spanned.{Spanned}
use Rattle.opcode_table.specs.Stack.{Stack}
use Rattle.bch_vm.specs.Setting.{setting_in}
use Rattle.bch_vm.specs.Board.{board}
use Rattle.bch_vm.specs.Script.{State, state, Progress, Failure, run, run_end}
use Rattle.row_runs.specs.Rows.{instructions}
use Rattle.rewrite_rules.specs.Rows.{Next, run_rows, is_underflow}
use Rattle.peephole.specs.Trace.{trace, last_statement}

abbrev pub failure : ℕ → MachineCause → Failure
failure at cause = record { at = at; cause = cause }

-- the run finds too few elements
abbrev pub is_short : Result State Failure → Bool
is_short (Ok s) = false
is_short (Err f) = is_underflow f.cause

-- the place of a failure by the row with its index; there is none at the end
abbrev pub place_of : List Spanned → Failure → Option Span
place_of rows f = option_map (λ r. place_in r.doing r.checking f.cause) (slice_get rows f.at)

-- both end in the same stacks, or fail for the same cause at the same place
abbrev pub EndsAlike : List Spanned → List Spanned → Result State Failure → Result State Failure → Type 0
EndsAlike before after (Ok s) end = (t : State) × (end ≡ Ok t) × (t.board ≡ s.board)
EndsAlike before after (Err f) end =
    (at : ℕ) × (end ≡ Err (failure at f.cause)) × (place_of after (failure at f.cause) ≡ place_of before f)

-- in every world, on every stack on which the machine's run of the first code meets no Underflow
abbrev pub RunsAlike : List Spanned → List Spanned → Type 0
RunsAlike before after = (world : World) (stack : Stack) → IsFalse (is_short (run_end world (instructions before) stack))
    → EndsAlike before after (run_end world (instructions before) stack) (run_end world (instructions after) stack)

-- ---- rows behind other instructions

-- the checking span of the row with this index
abbrev pub statement_at : List Spanned → ℕ → Option Span
statement_at rows at = option_map (λ r. r.checking) (slice_get rows at)

-- The last executed instruction other than IF, NOTIF, ELSE and ENDIF is, behind so many others, a row of this statement; or it is
-- still the one from before, where no row was executed.
abbrev pub HasLast : List Spanned → Progress → Option Span → ℕ → Type 0
HasLast rows p None last = last ≡ p.last
HasLast rows p (Some statement) last = (at : ℕ) × (last ≡ p.at + at) × (statement_at rows at ≡ Some statement)

-- The machine leaves the same stacks and open conditions, or fails for the same cause, behind so many instructions, at a row that
-- has the place.
abbrev pub GoesAlike : List Spanned → Progress → Option Span → Next → Result State Failure → Type 0
GoesAlike rows p statement (Ok b) end = (t : State) × (end ≡ Ok t) × (t.board ≡ b) × (HasLast rows p statement t.progress.last)
GoesAlike rows p statement (Err fault) end =
    (at : ℕ) × (end ≡ Err (failure (p.at + at) fault.cause)) × (place_of rows (failure at fault.cause) ≡ Some fault.span)

-- In every world, on every stack, in whichever code and behind whichever instructions of it: a run of the rows is the machine's
-- run of their instructions.
abbrev pub RunsAnywhere : List Spanned → Type 0
RunsAnywhere rows = (world : World) (whole : List Instr) (stack : Stack) (p : Progress)
    → GoesAlike rows p (last_statement None (trace world rows (board stack [] [] 0))) (run_rows world rows (board stack [] [] 0))
    (run (setting_in world whole) (instructions rows) (state stack p))
