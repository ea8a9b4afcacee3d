-- What slot code does: operations on operands, and values of slots. Which operation a form is, and how an operation fails, is
-- that of the source's meaning.
use Rattle.std.specs.Prelude.{ℕ, ◌+◌, ◌==◌, nat_le, if◌then◌else◌, List, [], ◌∷◌, ◌++◌, length, map, take, drop, reverse, slice_get, None, unwrap_or, Result, Ok}
use Rattle.cash_base.specs.declared.fault.Cause.TheVariants.{CheckFailed}
use Rattle.cash_base.specs.declared.place.Span.{Span}
use Rattle.cash_base.specs.declared.place.Slot.{Slot}
use Rattle.cash_base.specs.Failing.{◌>>=◌}
use Rattle.cash_base.specs.Number.{truth_of}
use Rattle.element_ops.specs.declared.op.Op2.TheVariants.{Cat}
use Rattle.element_ops.specs.Operation.{Outcome, result1, result2, result3, split_parts}
use Rattle.tx_context.specs.World.{World}
use Rattle.tx_context.specs.Lookup.{context_value, indexed_value, time_outcome, age_outcome}
use Rattle.tx_context.specs.Verdict.{single_verdict, multi_verdict}
use Rattle.tx_context.specs.declared.verdict.Kind.TheVariants.{Single, DataSig}
use Rattle.form_tables.specs.Forms.{verdict_result, pushed_chunk}
use Rattle.source_meaning.specs.declared.outcome.Failure.{Failure}
use Rattle.source_meaning.specs.declared.outcome.SourceOutcome.{SourceOutcome}
use Rattle.source_meaning.specs.Meaning.{Env, with_value, fails, at_span, checked, passed, ended}
use Rattle.slot_code.specs.declared.slots.SlotInstr.{SlotInstr}
use Rattle.slot_code.specs.declared.slots.SlotKind.{SlotKind}
use Rattle.slot_code.specs.declared.slots.SlotFunction.{SlotFunction}
use Rattle.slot_code.specs.declared.slots.SlotKind.TheOpen.{SlotKind-F, SlotInstr-F}
use Rattle.slot_code.specs.declared.slots.SlotKind.TheFolds.{fold-SlotKind, fold-SlotInstr}

-- the operands, the last one first, and the values of the slots that have one
pub record State : Type 0 where
  pub operands : List (List ℕ)
  pub env : Env

abbrev pub state : List (List ℕ) → Env → State
state operands env = record { operands = operands; env = env }

-- what an instruction leaves, or where it fails and why
abbrev pub Next : Type 0
Next = Result State Failure

abbrev pub Act : Type 0
Act = State → Next

-- one act after the other
abbrev pub all_acts : List Act → Act
all_acts [] s = Ok s
all_acts (act ∷ acts) s = do
  next ← act s
  all_acts acts next

-- where operands are missing, which well-formed code never meets, a run fails at once
abbrev pub stuck : Span → Next
stuck doing = fails doing CheckFailed

-- the operands of an instruction, in the order in which they were given, and the rest
abbrev pub on_one : Span → List (List ℕ) → (List ℕ → List (List ℕ) → Next) → Next
on_one doing (a ∷ rest) f = f a rest
on_one doing _ f = stuck doing

abbrev pub on_two : Span → List (List ℕ) → (List ℕ → List ℕ → List (List ℕ) → Next) → Next
on_two doing (b ∷ a ∷ rest) f = f a b rest
on_two doing _ f = stuck doing

abbrev pub on_three : Span → List (List ℕ) → (List ℕ → List ℕ → List ℕ → List (List ℕ) → Next) → Next
on_three doing (c ∷ b ∷ a ∷ rest) f = f a b c rest
on_three doing _ f = stuck doing

-- an operation's element goes on the operands; its fault carries the span of what is done
abbrev pub gives : Span → Outcome → List (List ℕ) → Env → Next
gives doing outcome rest env = do
  e ← at_span doing outcome
  Ok (state (e ∷ rest) env)

-- both parts of a split, the right one on top
abbrev pub splits : Span → List ℕ → List ℕ → List (List ℕ) → Env → Next
splits doing a b rest env = do
  parts ← at_span doing (split_parts a b)
  Ok (state (parts.1 ∷ parts.0 ∷ rest) env)

-- the signatures and the keys under these counts, in the order in which they were given
abbrev pub sigs_on : ℕ → ℕ → List (List ℕ) → List (List ℕ)
sigs_on sigs keys operands = reverse (take sigs (drop (keys + 2) operands))

abbrev pub keys_on : ℕ → List (List ℕ) → List (List ℕ)
keys_on keys operands = reverse (take keys (drop 1 operands))

-- beside the signatures and the keys it takes two numbers and an empty element
abbrev pub checks_many : World → Span → ℕ → ℕ → List (List ℕ) → Env → Next
checks_many world doing sigs keys operands env =
    if nat_le (sigs + keys + 3) (length operands)
    then gives doing (verdict_result (multi_verdict world.verdicts (sigs_on sigs keys operands) (keys_on keys operands)))
    (drop (sigs + keys + 3) operands) env
    else stuck doing

-- what a check leaves, and the rest of the operands
abbrev pub goes_on : List (List ℕ) → Result Env Failure → Next
goes_on rest result = do
  env ← result
  Ok (state rest env)

abbrev pub without_value : Slot → Env → Env
without_value slot env other = if other.0 == slot.0 then None else env other

-- An operation fails where it stands, and a false `require` and a missed time at their statement.
abbrev pub kind_act : World → SlotKind-F (Span → Span → Act) Act → Span → Span → Act
kind_act world (SlotKind-F.Lit e) doing checking s = Ok (state (e.items ∷ s.operands) s.env)
kind_act world (SlotKind-F.Get slot) doing checking s = Ok (state (unwrap_or (s.env slot) [] ∷ s.operands) s.env)
kind_act world (SlotKind-F.Do1 op) doing checking s =
    on_one doing s.operands (λ a rest. gives doing (result1 op a) rest s.env)
kind_act world (SlotKind-F.Do2 op) doing checking s =
    on_two doing s.operands (λ a b rest. gives doing (result2 op a b) rest s.env)
kind_act world (SlotKind-F.Do3 op) doing checking s =
    on_three doing s.operands (λ a b c rest. gives doing (result3 op a b c) rest s.env)
kind_act world SlotKind-F.Split doing checking s =
    on_two doing s.operands (λ a b rest. splits doing a b rest s.env)
kind_act world (SlotKind-F.Keep right) doing checking s =
    on_two doing s.operands (λ a b rest. Ok (state ((if right then b else a) ∷ rest) s.env))
kind_act world (SlotKind-F.Look0 what) doing checking s =
    gives doing (context_value world.context what world.redeem) s.operands s.env
kind_act world (SlotKind-F.LookAt what) doing checking s =
    on_one doing s.operands (λ a rest. gives doing (indexed_value world.context what a) rest s.env)
kind_act world SlotKind-F.CheckSig doing checking s = on_two doing s.operands (λ sig key rest.
    gives doing (verdict_result (single_verdict world.verdicts Single sig key [])) rest s.env)
kind_act world SlotKind-F.CheckData doing checking s = on_three doing s.operands (λ sig message key rest.
    gives doing (verdict_result (single_verdict world.verdicts DataSig sig key message)) rest s.env)
kind_act world (SlotKind-F.CheckMulti sigs keys) doing checking s = checks_many world doing sigs keys s.operands s.env
kind_act world SlotKind-F.Time doing checking s =
    on_one doing s.operands (λ a rest. goes_on rest (passed checking (time_outcome world.context a) s.env))
kind_act world SlotKind-F.Age doing checking s =
    on_one doing s.operands (λ a rest. goes_on rest (passed checking (age_outcome world.context a) s.env))
kind_act world SlotKind-F.Require doing checking s =
    on_one doing s.operands (λ a rest. goes_on rest (checked checking a s.env))
kind_act world SlotKind-F.Chunk doing checking s =
    on_two doing s.operands (λ so_far chunk rest. gives doing (result2 Cat so_far (pushed_chunk chunk)) rest s.env)
kind_act world (SlotKind-F.Define slot) doing checking s =
    on_one doing s.operands (λ a rest. Ok (state rest (with_value slot a s.env)))
kind_act world (SlotKind-F.DefinePair left right) doing checking s =
    on_two doing s.operands (λ a b rest. Ok (state rest (with_value right b (with_value left a s.env))))
kind_act world (SlotKind-F.Assign slot) doing checking s =
    on_one doing s.operands (λ a rest. Ok (state rest (with_value slot a s.env)))
kind_act world (SlotKind-F.End slot) doing checking s = Ok (state s.operands (without_value slot s.env))
kind_act world (SlotKind-F.If yes_acts no_acts) doing checking s =
    on_one doing s.operands (λ a rest. all_acts (if truth_of a then yes_acts else no_acts) (state rest s.env))

abbrev pub instr_act : SlotInstr-F (Span → Span → Act) Act → Act
instr_act instr = instr.kind instr.doing instr.checking

-- what an instruction does
unfoldable pub act_of : World → SlotInstr → Act
act_of world = fold-SlotInstr (Span → Span → Act) Act (kind_act world) instr_act

-- ... by its kind, at its two places
unfoldable pub act_at : World → SlotKind → Span → Span → Act
act_at world = fold-SlotKind (Span → Span → Act) Act (kind_act world) instr_act

-- what instructions do, one after the other
abbrev pub run_of : World → List SlotInstr → Act
run_of world body = all_acts (map (act_of world) body)

-- the values at the start: the constructor's elements in the first slots, and behind them the function's
abbrev pub handed : List (List ℕ) → List (List ℕ) → Env
handed ctor args slot = slice_get (ctor ++ args) slot.0

-- how a run of a function ends: met, or failed at a place for a cause
abbrev pub slot_outcome : SlotFunction → List (List ℕ) → List (List ℕ) → World → SourceOutcome
slot_outcome f ctor args world = ended (run_of world f.body (state [] (handed ctor args)))
