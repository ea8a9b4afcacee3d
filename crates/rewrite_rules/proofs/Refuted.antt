-- Rewritings that the table doesn't have: each is false, as these runs of a window and of what would stand in its place show.
use Rattle.std.specs.Prelude.{◌≡◌, ℕ, true, List, [], ◌∷◌, Ok, Err, refl}
use Rattle.cash_base.specs.declared.fault.Cause.TheVariants.{NotANumber}
use Rattle.cash_base.specs.declared.fault.MachineCause.TheVariants.{Shared}
use Rattle.cash_base.specs.declared.place.Span.{Span}
use Rattle.cash_base.specs.Number.{digits}
use Rattle.tx_context.specs.Transaction.{plain_input, transaction}
use Rattle.tx_context.specs.World.{World}
use Rattle.script_codec.specs.declared.instr.Instr.{Instr}
use Rattle.opcode_table.specs.Stack.{Stack}
use Rattle.opcode_table.specs.Table.{rows}
use Rattle.bch_vm.specs.Board.{Board, board}
use Rattle.row_runs.specs.Rows.{fault}
use Rattle.rewrite_rules.specs.Rows.{row, Next, run_rows}
use Rattle.rewrite_rules.specs.Rules.{rows_of, does, one_pushed, DROP, OVER, DUP2, SWAP, SUB, NOT, NUMEQUAL, NUMEQUALVERIFY, VERIFY}

-- a transaction with one input, of lock time 0
abbrev pub world : World
world = record { context = transaction 2 0 (plain_input 0 [] [] ∷ []) [] 0; verdicts = []; redeem = [] }

abbrev pub place : ℕ → Span
place k = record { from = k; to = k }

abbrev pub statement : Span
statement = place 9

abbrev pub on : Stack → Board
on stack = board stack [] [] 0

abbrev pub goes : List Instr → Stack → Next
goes instrs stack = run_rows world (rows_of instrs place statement) (on stack)

-- CHECKLOCKTIMEVERIFY, DROP, push 1 leaves a truth; CHECKLOCKTIMEVERIFY alone leaves its operand, which may be none.
pub lock_time : (goes (does 0xb1 ∷ DROP ∷ one_pushed ∷ []) ([] ∷ []) ≡ Ok (on ((1 ∷ []) ∷ []))) × (goes (does 0xb1 ∷ []) ([] ∷ []) ≡ Ok (on ([] ∷ [])))
unfolding rows
lock_time = (refl, refl)

-- NOT takes a number alone, NOTIF any element.
pub not_if : (goes (NOT ∷ does 0x63 ∷ []) ((0 ∷ []) ∷ []) ≡ Err (fault (place 0) (Shared NotANumber)))
    × (goes (does 0x64 ∷ []) ((0 ∷ []) ∷ []) ≡ Ok (board [] [] (true ∷ []) 0))
unfolding rows
not_if = (refl, refl)

-- NUMEQUAL fails at its operation, and with one span NUMEQUALVERIFY would at its statement.
pub one_span : (goes (NUMEQUAL ∷ VERIFY ∷ []) ((0 ∷ []) ∷ [] ∷ []) ≡ Err (fault (place 0) (Shared NotANumber)))
    × (run_rows world (row statement NUMEQUALVERIFY statement ∷ []) (on ((0 ∷ []) ∷ [] ∷ [])) ≡ Err (fault statement (Shared NotANumber)))
unfolding rows
one_span = (refl, refl)

-- 2 - 1 and 1 - 2
pub swap_sub : (goes (SWAP ∷ SUB ∷ []) ((1 ∷ []) ∷ (2 ∷ []) ∷ []) ≡ Ok (on ((0x81 ∷ []) ∷ [])))
    × (goes (SUB ∷ []) ((1 ∷ []) ∷ (2 ∷ []) ∷ []) ≡ Ok (on ((1 ∷ []) ∷ [])))
unfolding rows digits
swap_sub = (refl, refl)

-- two copies of two elements, in their order and in the other
pub over_over : (goes (OVER ∷ OVER ∷ []) ((1 ∷ []) ∷ (2 ∷ []) ∷ []) ≡ Ok (on ((1 ∷ []) ∷ (2 ∷ []) ∷ (1 ∷ []) ∷ (2 ∷ []) ∷ [])))
    × (goes (DUP2 ∷ SWAP ∷ []) ((1 ∷ []) ∷ (2 ∷ []) ∷ []) ≡ Ok (on ((2 ∷ []) ∷ (1 ∷ []) ∷ (1 ∷ []) ∷ (2 ∷ []) ∷ [])))
unfolding rows
over_over = (refl, refl)
