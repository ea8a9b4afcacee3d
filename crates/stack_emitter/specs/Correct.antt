-- What it is for emitted rows to follow slot code.
use Rattle.std.specs.Prelude.{◌≡◌, ◌+◌, ◌≤◌, ℕ, Bool, true, false, List, [], ◌∷◌, ◌++◌, map, length, Option, Some, None, unwrap_or, ◌⊎◌, if◌then◌else◌, Result, Ok, Err}
use Rattle.cash_base.specs.declared.fault.Cause.TheVariants.{CheckFailed}
use Rattle.cash_base.specs.declared.fault.MachineCause.TheVariants.{Shared}
use Rattle.cash_base.specs.declared.place.Slot.{Slot}
use Rattle.cash_base.specs.declared.place.Span.{Span}
use Rattle.cash_base.specs.Failing.{◌>>=◌}
use Rattle.cash_base.specs.Number.{truth_of}
use Rattle.tx_context.specs.World.{World}
use Rattle.script_codec.specs.declared.instr.Instr.{Instr}
use Rattle.script_codec.specs.declared.spans.Spanned.{Spanned}
use Rattle.opcode_table.specs.Stack.{Stack}
use Rattle.bch_vm.specs.Board.{is_live}
use Rattle.source_meaning.specs.declared.outcome.Failure.{Failure}
use Rattle.source_meaning.specs.Meaning.{Env, with_value, checked}
use Rattle.slot_code.specs.Meaning.{State, state, Act, on_one, on_two, goes_on}
use Rattle.slot_code.specs.Shape.{Operand}
use Rattle.row_runs.specs.Rows.{Machine, machine, Fault, fault, Next, run_rows, Executed, executed, last_of, IsNested}
use Rattle.stack_emitter.specs.Places.{Spot}
use Rattle.stack_emitter.specs.declared.emit.Emitter.{Emitter}
use Rattle.stack_emitter.specs.Codes.{are_sound, are_plain, bytes_of, ops_of}

-- ---- states and stacks

-- the element of a slot; what stands for one that has none is never read
abbrev pub value : Env → Slot → List ℕ
value env slot = unwrap_or (env slot) []

-- the machine that stands for a state: the operands, then the slots from the top, and the rest
abbrev pub machine_at : List Slot → Stack → List Bool → State → Machine
machine_at slots rest conditions s = machine (s.operands ++ (map (value s.env) slots ++ rest)) conditions

-- as many operands as the place says, those that it knows among them
abbrev pub Fits : List Operand → Stack → Type 0
Fits [] [] = Unit {0}
Fits (None ∷ known) (e ∷ operands) = Fits known operands
Fits (Some k ∷ known) (e ∷ operands) = (e ≡ k) × Fits known operands
Fits _ _ = ⊥

-- the machine fails with the same cause at the same place
abbrev pub told : Failure → Fault
told f = fault f.span (Shared f.cause)

-- both failed alike, or the machine stands for the state, whose operands are those of the place
abbrev pub Agrees : Spot → Stack → List Bool → Result State Failure → Next → Type 0
Agrees p rest conditions (Ok s) next = Fits p.operands s.operands × (next ≡ Ok (machine_at p.slots rest conditions s))
Agrees p rest conditions (Err failure) next = next ≡ Err (told failure)

-- ---- rows

-- what is done in a world
abbrev pub Deed : Type 0
Deed = World → Act

-- nested rows that do, in every world, what the deed does, from one place to another
pub record Follows (rows : List Spanned) (deed : Deed) (p q : Spot) : Type 0 where
  pub nested : IsNested rows
  pub sound : are_sound rows ≡ true
  pub runs : (world : World) (s : State) (rest : Stack) (conditions : List Bool) → is_live conditions ≡ true → Fits p.operands s.operands
      → Agrees q rest conditions (deed world s) (run_rows world rows (machine_at p.slots rest conditions s))

-- what an emitter added does what the deed does
pub record Emits (old new : Emitter) (deed : Deed) : Type 0 where
  pub rows : List Spanned
  pub grown : new.code.items ≡ old.code.items ++ rows
  pub follows : Follows rows deed old.place new.place

-- the same, by rows of one operation of a statement, without IF, NOTIF, ELSE and ENDIF
pub record Adds (doing checking : Span) (old new : Emitter) (deed : Deed) : Type 0 where
  pub emits : Emits old new deed
  pub plain : are_plain doing checking emits.rows ≡ true

-- at most so many bytes and counted opcodes more, where each slot that no longer stands gives one of each, and each further slot
-- takes one of each
pub record Costs (old new : Emitter) (bytes ops : ℕ) : Type 0 where
  pub bytes_fit : bytes_of new.code.items + length new.place.slots ≤ bytes_of old.code.items + length old.place.slots + bytes
  pub ops_fit : ops_of new.code.items + length new.place.slots ≤ ops_of old.code.items + length old.place.slots + ops

-- ---- deeds

-- does nothing
abbrev pub nothing : Deed
nothing world s = Ok s

-- one deed after the other
abbrev pub then_deed : Deed → Deed → Deed
then_deed f g world s = do
  next ← f world s
  g world next

-- puts an element on the operands
abbrev pub lit_deed : List ℕ → Deed
lit_deed e world s = Ok (state (e ∷ s.operands) s.env)

-- puts the value of a slot on the operands
abbrev pub get_deed : Slot → Deed
get_deed slot world s = Ok (state (value s.env slot ∷ s.operands) s.env)

-- drops the operand on top
abbrev pub drop_deed : Span → Deed
drop_deed doing world s = on_one doing s.operands (λ a rest. Ok (state rest s.env))

-- of two operands one is kept: the upper one, or else the lower
abbrev pub keep_deed : Bool → Span → Deed
keep_deed upper doing world s = on_two doing s.operands (λ a b rest. Ok (state ((if upper then b else a) ∷ rest) s.env))

-- the lower of two operands becomes the value of the slot, or is dropped
abbrev pub lower_deed : Bool → Slot → Span → Deed
lower_deed true slot doing world s = on_two doing s.operands (λ a b rest. Ok (state (b ∷ rest) (with_value slot a s.env)))
lower_deed false slot doing world s = keep_deed true doing world s

-- the operand becomes the value of the slot, or is dropped
abbrev pub store_deed : Bool → Slot → Span → Deed
store_deed true slot doing world s = on_one doing s.operands (λ a rest. Ok (state rest (with_value slot a s.env)))
store_deed false slot doing world s = drop_deed doing world s

-- two operands become the values of two slots, the lower one that of the left, or are dropped
abbrev pub pair_deed : Bool → Bool → Slot → Slot → Span → Deed
pair_deed left_kept right_kept left right doing = then_deed (lower_deed left_kept left doing) (store_deed right_kept right doing)

-- the operand is checked, and must be true
abbrev pub check_deed : Span → Span → Deed
check_deed doing checking world s = on_one doing s.operands (λ a rest. goes_on rest (checked checking a s.env))

-- ---- ends of paths

-- the last executed row other than IF, NOTIF, ELSE and ENDIF has this checking span, whatever was executed before
abbrev pub IsLast : World → List Spanned → Machine → Span → Type 0
IsLast world rows m span =
    (at : ℕ) (before : Option Executed) → (e : Executed) × (last_of before (executed world at rows m) ≡ Some e) × (e.row.checking ≡ span)

-- one element is left, of this truth, and the last row has this checking span
pub record EndsIn (truth : Bool) (world : World) (rows : List Spanned) (m : Machine) (conditions : List Bool) (span : Span) : Type 0 where
  pub element : List ℕ
  pub truth_is : truth_of element ≡ truth
  pub ends : run_rows world rows m ≡ Ok (machine (element ∷ []) conditions)
  pub last : IsLast world rows m span

-- a false end stands for the failure of the last check
pub record FalseEnd (world : World) (rows : List Spanned) (m : Machine) (conditions : List Bool) (failure : Failure) (span : Span) : Type 0 where
  pub ends : EndsIn false world rows m conditions span
  pub cause : failure.cause ≡ CheckFailed
  pub place : failure.span ≡ span

-- A path's end: one true element where the deed is met; else the same failure, or one false element.
abbrev pub AtEnd : World → List Spanned → Machine → List Bool → Span → Result State Failure → Type 0
AtEnd world rows m conditions span (Ok s) = EndsIn true world rows m conditions span
AtEnd world rows m conditions span (Err failure) =
    (run_rows world rows m ≡ Err (told failure)) ⊎ FalseEnd world rows m conditions failure span

-- nested rows that end each path of the deed, with nothing below
pub record Tail (rows : List Spanned) (deed : Deed) (p : Spot) (span : Span) : Type 0 where
  pub nested : IsNested rows
  pub sound : are_sound rows ≡ true
  pub ends : (world : World) (s : State) (conditions : List Bool) → is_live conditions ≡ true → Fits p.operands s.operands
      → AtEnd world rows (machine_at p.slots [] conditions s) conditions span (deed world s)

-- what an emitter added ends each path of the deed, by rows of one statement
pub record Ends (checking : Span) (old new : Emitter) (deed : Deed) : Type 0 where
  pub rows : List Spanned
  pub plain : are_plain checking checking rows ≡ true
  pub grown : new.code.items ≡ old.code.items ++ rows
  pub tail : Tail rows deed old.place checking

-- at most a byte and a counted opcode for each slot that stood, and one more
pub record EndCosts (old new : Emitter) : Type 0 where
  pub bytes_fit : bytes_of new.code.items ≤ bytes_of old.code.items + length old.place.slots + 1
  pub ops_fit : ops_of new.code.items ≤ ops_of old.code.items + length old.place.slots + 1

-- rows of one statement for instructions that serve no operation
abbrev pub rows_of : Span → List Instr → List Spanned
rows_of checking instrs = map (λ instr. record { instr = instr; doing = checking; checking = checking }) instrs
