-- What an instruction does to both stacks, to the open conditions and to the place of the separator, as the Bitcoin Cash
-- specification has it.
use Rattle.std.specs.Prelude.{ℕ, ◌+◌, ◌==◌, Bool, true, false, not, ◌&&◌, ◌||◌, nat_lt, nat_le, if◌then◌else◌, List, [], ◌∷◌, length, Result, Ok, Err}
use Rattle.std.specs.List.{list_all}
use Rattle.cash_base.specs.declared.fault.MachineCause.{MachineCause}
use Rattle.cash_base.specs.declared.fault.MachineCause.TheVariants.{Underflow, Unbalanced, StackLimit, AltEmpty}
use Rattle.cash_base.specs.Failing.{◌>>=◌, ◌>>◌, refused_if}
use Rattle.cash_base.specs.Number.{truth_of}
use Rattle.script_codec.specs.declared.instr.Instr.{Instr}
use Rattle.script_codec.specs.declared.instr.Instr.TheVariants.{Push, Do}
use Rattle.script_codec.specs.Counting.{takes_keys}
use Rattle.opcode_table.specs.declared.rows.Row.{Row}
use Rattle.opcode_table.specs.declared.rows.Row.TheVariants.{Never, Opens, Flips, Closes, Lays, Fetches, Separates, Does, DoesAndVerifies}
use Rattle.opcode_table.specs.Stack.{Stack, Action}
use Rattle.opcode_table.specs.Deeds.{done, done_and_verified, keys_on}
use Rattle.opcode_table.specs.Table.{row_of}
use Rattle.bch_vm.specs.Setting.{Around, asked_at}

-- both stacks, the top first; the open conditions, the innermost first; and the place in the script's bytes after the last
-- separator that was executed, or 0 where none was
pub record Board : Type 0 where
  pub stack : Stack
  pub alternate : Stack
  pub conditions : List Bool
  pub separator : ℕ

abbrev pub board : Stack → Stack → List Bool → ℕ → Board
board stack alternate conditions separator =
    record { stack = stack; alternate = alternate; conditions = conditions; separator = separator }

abbrev pub Move : Type 0
Move = Board → Result Board MachineCause

-- the elements on both stacks
abbrev pub height : Board → ℕ
height b = length b.stack + length b.alternate

-- an opcode is executed where all open conditions are true
abbrev pub is_live : List Bool → Bool
is_live conditions = list_all (λ c. c) conditions

-- ---- the opcodes of conditions, which act in every branch

-- a truth, or the contrary
abbrev pub sensed : Bool → Bool → Bool
sensed true truth = truth
sensed false truth = not truth

-- the test of a condition is taken from the stack
abbrev pub test_taken : Bool → Stack → Result (Bool × Stack) MachineCause
test_taken sense [] = Err Unbalanced
test_taken sense (a ∷ rest) = Ok (sensed sense (truth_of a), rest)

-- IF and NOTIF: where it is executed it takes a and opens its truth or the contrary, and otherwise it opens false
abbrev pub opened_where : Bool → Bool → Move
opened_where true sense b = do
  taken ← test_taken sense b.stack
  Ok (board taken.1 b.alternate (taken.0 ∷ b.conditions) b.separator)
opened_where false sense b = Ok (board b.stack b.alternate (false ∷ b.conditions) b.separator)

abbrev pub opened : Bool → Move
opened sense b = opened_where (is_live b.conditions) sense b

-- ELSE: flips the innermost
abbrev pub flipped : List Bool → Result (List Bool) MachineCause
flipped [] = Err Unbalanced
flipped (c ∷ conditions) = Ok (not c ∷ conditions)

-- ENDIF: closes the innermost
abbrev pub closed : List Bool → Result (List Bool) MachineCause
closed [] = Err Unbalanced
closed (c ∷ conditions) = Ok conditions

abbrev pub on_conditions : (List Bool → Result (List Bool) MachineCause) → Move
on_conditions change b = do
  conditions ← change b.conditions
  Ok (board b.stack b.alternate conditions b.separator)

-- ---- the others, which act where they are executed

-- an action on the stack
abbrev pub on_stack : Action → Move
on_stack action b = do
  stack ← action b.stack
  Ok (board stack b.alternate b.conditions b.separator)

-- TOALTSTACK: the top of this stack is moved to the alternate stack
abbrev pub laid_from : Stack → Move
laid_from [] b = Err Underflow
laid_from (e ∷ rest) b = Ok (board rest (e ∷ b.alternate) b.conditions b.separator)

-- FROMALTSTACK: the top of this alternate stack is moved back
abbrev pub fetched_from : Stack → Move
fetched_from [] b = Err AltEmpty
fetched_from (e ∷ rest) b = Ok (board (e ∷ b.stack) rest b.conditions b.separator)

-- CODESEPARATOR: the active bytecode begins after it
abbrev pub separated : ℕ → Move
separated next b = Ok (board b.stack b.alternate b.conditions next)

abbrev pub executed_where : Bool → Move → Move
executed_where true move b = move b
executed_where false move b = Ok b

abbrev pub executed : Move → Move
executed move b = executed_where (is_live b.conditions) move b

-- ---- an instruction

-- what an opcode of this row does
abbrev pub row_after : Around → Row → Move
row_after around (Never cause) b = Err cause
row_after around (Opens sense) b = opened sense b
row_after around Flips b = on_conditions flipped b
row_after around Closes b = on_conditions closed b
row_after around Lays b = executed (laid_from b.stack) b
row_after around Fetches b = executed (fetched_from b.alternate) b
row_after around Separates b = executed (separated around.next) b
row_after around (Does deed) b = executed (on_stack (done (asked_at around b.separator) deed)) b
row_after around (DoesAndVerifies deed) b = executed (on_stack (done_and_verified (asked_at around b.separator) deed)) b

abbrev pub pushed_where : Bool → List ℕ → Board → Board
pushed_where true e b = board (e ∷ b.stack) b.alternate b.conditions b.separator
pushed_where false e b = b

-- what an instruction does
abbrev pub board_after : Around → Instr → Move
board_after around (Push e) b = Ok (pushed_where (is_live b.conditions) e.items b)
board_after around (Do opcode) b = row_after around (row_of opcode.0) b

-- and after it more than 1,000 elements on both stacks are refused
abbrev pub limited_after : Around → Instr → Move
limited_after around instr b = do
  next ← board_after around instr b
  refused_if (nat_lt 1000 (height next)) StackLimit
  Ok next

-- the keys of a multisignature check that is executed count as opcodes too
abbrev pub keys_counted : Instr → Board → ℕ
keys_counted (Push e) b = 0
keys_counted (Do opcode) b = if is_live b.conditions && takes_keys opcode.0 then keys_on b.stack else 0

-- ---- which instructions count as executed

-- the conditions around the innermost
abbrev pub outer : List Bool → List Bool
outer [] = []
outer (c ∷ conditions) = conditions

-- IF, NOTIF, ELSE and ENDIF, and VERIF and VERNOTIF among them, which may stand nowhere
abbrev pub is_condition : ℕ → Bool
is_condition opcode = nat_le 0x63 opcode && nat_le opcode 0x68

-- ELSE and ENDIF
abbrev pub ends_block : ℕ → Bool
ends_block opcode = (opcode == 0x67) || (opcode == 0x68)

-- An instruction is executed where all open conditions are true. An ELSE or ENDIF counts as executed where all but the
-- innermost are.
abbrev pub is_executed : Instr → List Bool → Bool
is_executed (Push e) conditions = is_live conditions
is_executed (Do opcode) conditions = if ends_block opcode.0 then is_live (outer conditions) else is_live conditions

-- it is executed, and is no IF, NOTIF, ELSE or ENDIF
abbrev pub is_effective : Instr → List Bool → Bool
is_effective (Push e) conditions = is_live conditions
is_effective (Do opcode) conditions = is_live conditions && not (is_condition opcode.0)
