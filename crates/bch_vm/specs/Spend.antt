-- A spend, as the Bitcoin Cash specification has it, with BIP 16 for redeem scripts.
use Rattle.std.specs.Prelude.{ℕ, ◌+◌, ◌==◌, Bool, false, ◌&&◌, nat_lt, if◌then◌else◌, List, [], ◌∷◌, length, slice_index, slice_index_or, Result, Ok, Err}
use Rattle.cash_base.specs.declared.fault.MachineCause.{MachineCause}
use Rattle.cash_base.specs.declared.fault.MachineCause.TheVariants.{Truncated, NotPushOnly, HashDiffers, EndFalse, EndEmpty, NotClean, ScriptSize}
use Rattle.cash_base.specs.Number.{truth_of}
use Rattle.tx_context.specs.Transaction.{InputParts, Transaction, plain_input}
use Rattle.tx_context.specs.Table as verdict
use Rattle.script_codec.specs.Reading.{Piece, Whole, CutOff, instruction, reading}
use Rattle.bch_vm.specs.declared.outcome.Which.{Which}
use Rattle.bch_vm.specs.declared.outcome.Which.TheVariants.{Unlocking, Locking, Redeem}
use Rattle.bch_vm.specs.declared.outcome.MachineOutcome.{MachineOutcome}
use Rattle.bch_vm.specs.declared.outcome.MachineOutcome.TheVariants.{Accepted, Refused}
use Rattle.opcode_table.specs.Stack.{Stack}
use Rattle.bch_vm.specs.Setting.{Setting, setting_of}
use Rattle.bch_vm.specs.Board.{is_executed}
use Rattle.bch_vm.specs.Script.{State, state, beginning, balanced, Counted, counted, piece_after, Failure}
use Rattle.bch_vm.specs.Course.{Course, Passes, Gives, Stops, ◌>>=◌, ◌>>◌, row_of, outcome_of}

-- ---- a script with all checks

-- a failure ends the spend in its script
abbrev pub told : {A : Type 0} → Which → Result A Failure → Course A
told which (Ok a) = Gives a
told which (Err failure) = Stops (Refused which failure.at failure.cause)

abbrev pub piece_executed : Piece → List Bool → Bool
piece_executed (Whole raw) conditions = is_executed (instruction raw) conditions
piece_executed CutOff conditions = false

-- an instruction that was passed has its row, and one that fails ends the spend
abbrev pub step_course : Which → Piece → Counted → Result Counted MachineCause → Course Counted
step_course which piece s (Ok next) =
    Passes (row_of which s.state.progress.at (piece_executed piece s.state.board.conditions) next.state.board.stack) (Gives next)
step_course which piece s (Err cause) = Stops (Refused which s.state.progress.at cause)

-- the instructions from the left, and at the end no condition may be open
abbrev pub pieces_course : Setting → Which → List Piece → Counted → Course State
pieces_course setting which [] s = told which (balanced s.state.board.conditions s.state)
pieces_course setting which (piece ∷ more) s = do
  next ← step_course which piece s (piece_after setting piece s)
  pieces_course setting which more next

abbrev pub sized : Which → List ℕ → Course (Unit {0})
sized which script = if nat_lt 10000 (length script) then Stops (Refused which 0 ScriptSize) else Gives tt

-- A script on the stack that is there. The alternate stack, the conditions, the count and the separator begin anew.
abbrev pub script_course : Transaction (List ℕ) → List verdict.Row → Which → List ℕ → Stack → Course State
script_course context verdicts which script stack = do
  sized which script
  pieces_course (setting_of context verdicts script) which (reading script) (counted (state stack beginning) 0)

-- ---- the unlocking script

-- the refusal of the first instruction that is no push: an opcode above 60, or a push that is cut off
abbrev pub push_check : ℕ → List Piece → Course (Unit {0})
push_check at [] = Gives tt
push_check at (CutOff ∷ more) = Stops (Refused Unlocking at Truncated)
push_check at (Whole raw ∷ more) =
    if nat_lt 0x60 raw.opcode then Stops (Refused Unlocking at NotPushOnly) else push_check (at + 1) more

-- the stack of the state that is given
abbrev pub given_stack : Course State → Stack
given_stack (Passes row rest) = given_stack rest
given_stack (Gives s) = s.board.stack
given_stack (Stops outcome) = []

-- the stack that the unlocking script leaves
abbrev pub stack_left : Transaction (List ℕ) → List verdict.Row → List ℕ → Stack
stack_left context verdicts unlocking = given_stack (script_course context verdicts Unlocking unlocking [])

-- ---- the ends

-- The top of the stack must be true. The refusal has the script that was run last and the index of its last executed
-- instruction other than IF, NOTIF, ELSE and ENDIF, or 0.
abbrev pub top_check : Which → MachineCause → ℕ → Stack → Course (Unit {0})
top_check which cause last [] = Stops (Refused which last EndEmpty)
top_check which cause last (e ∷ rest) = if truth_of e then Gives tt else Stops (Refused which last cause)

-- and there must be no other element
abbrev pub clean : Which → ℕ → Stack → MachineOutcome
clean which last (e ∷ []) = Accepted
clean which last _ = Refused which last NotClean

-- HASH160, a push of 20 bytes, EQUAL: the pattern of BIP 16
abbrev pub is_p2sh : List ℕ → Bool
is_p2sh script =
    (length script == 23)
    && ((slice_index script 0 == 0xa9) && ((slice_index script 1 == 0x14) && (slice_index script 22 == 0x87)))

abbrev pub false_cause : List ℕ → MachineCause
false_cause locking = if is_p2sh locking then HashDiffers else EndFalse

-- the end of the redeem script decides
abbrev pub after_redeem : State → Course MachineOutcome
after_redeem end = do
  top_check Redeem EndFalse end.progress.last end.board.stack
  Stops (clean Redeem end.progress.last end.board.stack)

-- The top of the stack is the redeem script, which is run on the rest. An empty stack has failed HASH160 before.
abbrev pub redeemed : Transaction (List ℕ) → List verdict.Row → ℕ → Stack → Course MachineOutcome
redeemed context verdicts last [] = Stops (Refused Locking last EndEmpty)
redeemed context verdicts last (redeem ∷ rest) = do
  end ← script_course context verdicts Redeem redeem rest
  after_redeem end

-- a spend whose locking script has left this state without a redeem script
abbrev pub locked : State → Course MachineOutcome
locked end = Stops (clean Locking end.progress.last end.board.stack)

-- After a locking script of that pattern the stack that the unlocking script left is taken again.
abbrev pub after_locking : Transaction (List ℕ) → List verdict.Row → List ℕ → List ℕ → State → Course MachineOutcome
after_locking context verdicts unlocking locking end = do
  top_check Locking (false_cause locking) end.progress.last end.board.stack
  if is_p2sh locking then redeemed context verdicts end.progress.last (stack_left context verdicts unlocking) else locked end

abbrev pub after_unlocking : Transaction (List ℕ) → List verdict.Row → List ℕ → List ℕ → State → Course MachineOutcome
after_unlocking context verdicts unlocking locking left = do
  end ← script_course context verdicts Locking locking left.board.stack
  after_locking context verdicts unlocking locking end

-- ---- a spend

-- Before anything is run, the unlocking script is read: it must be pushes alone.
abbrev pub scripts_course : Transaction (List ℕ) → List verdict.Row → List ℕ → List ℕ → Course MachineOutcome
scripts_course context verdicts unlocking locking = do
  push_check 0 (reading unlocking)
  left ← script_course context verdicts Unlocking unlocking []
  after_unlocking context verdicts unlocking locking left

-- the input that is spent, which each context has
abbrev pub spent_input : Transaction (List ℕ) → InputParts (List ℕ)
spent_input t = slice_index_or t.inputs t.active (plain_input 0 [] [])

-- the course of the spend of the active input
abbrev pub spend_course : Transaction (List ℕ) → List verdict.Row → Course MachineOutcome
spend_course context verdicts =
    scripts_course context verdicts (spent_input context).unlocking (spent_input context).locking

abbrev pub spend_outcome : Transaction (List ℕ) → List verdict.Row → MachineOutcome
spend_outcome context verdicts = outcome_of (spend_course context verdicts)
