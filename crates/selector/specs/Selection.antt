-- What it is for code to select a function, by an element of the stack.
use Rattle.std.specs.Prelude.{◌≡◌, ℕ, ◌+◌, ◌-◌, ◌*◌, ◌≤◌, ◌<◌, ◌==◌, nat_lt, Bool, false, not, IsTrue, IsFalse, List, ◌∷◌, ◌++◌, length, slice_get, ℤ, pos, negsuc, Some, None, Result, Ok, Err}
use Rattle.std.specs.List.{AllByRecursion, list_all, list_any}
use Rattle.cash_base.specs.declared.fault.Cause.TheVariants.{NotANumber, CheckFailed}
use Rattle.cash_base.specs.declared.fault.MachineCause.{MachineCause}
use Rattle.cash_base.specs.declared.fault.MachineCause.TheVariants.{Shared, Underflow}
use Rattle.cash_base.specs.declared.place.Span.{Span}
use Rattle.cash_base.specs.Failing.{◌>>=◌}
use Rattle.cash_base.specs.Number.{number_of}
use Rattle.tx_context.specs.World.{World}
use Rattle.script_codec.specs.declared.instr.Instr.{Instr}
use Rattle.script_codec.specs.declared.spans.Spanned.{Spanned}
use Rattle.script_codec.specs.declared.spans.Marked.{Marked}
use Rattle.script_codec.specs.Names.{are_named}
use Rattle.script_codec.specs.Spelling.{are_instructions, spellings}
use Rattle.opcode_table.specs.Stack.{Stack}
use Rattle.bch_vm.specs.Setting.{Setting, setting_in}
use Rattle.bch_vm.specs.Script.{State, state, Progress, beginning, run, run_end, Failure, Executed, executed_in}
use Rattle.run_laws.specs.Nested.{is_nested}
use Rattle.bch_vm.specs.Law.{are_keys_known}
use Rattle.run_laws.specs.Branches.{past}
use Rattle.run_laws.specs.Underneath.{is_without_depth}
use Rattle.selector.specs.Place.{is_unseparated, EndsBehind, all_executed_behind}
use Rattle.selector.specs.Pieces.{instructions, Piece, Function, code_of, functions_of, own_of, marks_of, foreign_opcodes, is_opcode, AreOwn, size_of, opcodes_of}

-- ---- what is asked

-- each function's code is nested
abbrev pub AreNested : List Marked → Type 0
AreNested functions = AllByRecursion (λ function. IsTrue (is_nested (instructions function.code.items))) functions

-- and no CODESEPARATOR stands in it
abbrev pub AreUnseparated : List Marked → Type 0
AreUnseparated functions = AllByRecursion (λ function. IsTrue (is_unseparated (instructions function.code.items))) functions

-- ---- failures of the selector

-- the row with this number has the contract's place
pub record StandsAt (contract : Span) (rows : List Spanned) (at : ℕ) : Type 0 where
  pub row : Spanned
  pub found : slice_get rows at ≡ Some row
  pub doing : row.doing ≡ contract
  pub checking : row.checking ≡ contract

-- the run fails for this cause, at the contract's place
pub record FailsAt (contract : Span) (rows : List Spanned) (cause : MachineCause) (end : Result State Failure) : Type 0 where
  pub at : ℕ
  pub fails : end ≡ Err (record { at = at; cause = cause })
  pub stands : StandsAt contract rows at

-- ---- a function that is run

-- behind instructions, of which the last was executed
abbrev pub behind : List Instr → Progress → Progress
behind code p =
    record { at = p.at + length code; last = p.at + (length code - 1); place = p.place + length (spellings code) }

-- A function's code is run at its place, behind the instructions in front of it, and then those after it are passed.
abbrev pub run_in_place : Setting → List Instr → List Instr → List Instr → Stack → Result State Failure
run_in_place setting before code after stack = do
  t ← run setting code (state stack (behind before beginning))
  Ok (past after t)

-- the place of the function with this number among the pieces
pub record Stands (pieces : List Piece) (at : ℕ) : Type 0 where
  pub before : List Piece
  pub function : Marked
  pub after : List Piece
  pub parts : pieces ≡ before ++ (Function function ∷ after)
  pub count : length (functions_of before) ≡ at

-- each of these executed instructions stands at the contract's place
abbrev pub AreChoosing : Span → List Spanned → List Executed → Type 0
AreChoosing contract rows es = AllByRecursion (λ e. StandsAt contract rows e.at) es

-- A run executes some of the selector's instructions, the last of which leaves a stack of this height, just before the
-- function's code; then those that a run of the function alone executes, each at its place; and then some of the selector's.
pub record ExecutesBehind (contract : Span) (rows : List Spanned) (before height : ℕ) (alone whole : List Executed) : Type 0 where
  pub front : List Executed
  pub last : Executed
  pub after : List Executed
  pub are : whole ≡ front ++ (last ∷ (all_executed_behind before alone ++ after))
  pub at : last.at + 1 ≡ before
  pub leaves : last.height ≡ height
  pub choosing : AreChoosing contract rows (front ++ last ∷ after)

-- where the selector is the number of this function
pub record Chooses (contract : Span) (ctors : ℕ) (code : List Spanned) (pieces : List Piece) (at : ℕ) : Type 0 where
  pub place : Stands pieces at
  pub runs : (world : World) (given rest : Stack) (selector : List ℕ) → length given ≡ ctors → number_of selector ≡ Some (pos at)
      → run_end world (instructions code) (given ++ selector ∷ rest)
      ≡ run_in_place (setting_in world (instructions code)) (instructions (code_of place.before))
      (instructions place.function.code.items) (instructions (code_of place.after)) (given ++ rest)
  -- so it ends as the run of the function alone, each instruction at its place
  pub alone : (world : World) (given rest : Stack) (selector : List ℕ) → length given ≡ ctors → number_of selector ≡ Some (pos at)
      → EndsBehind (length (code_of place.before)) beginning (behind (instructions (code_of place.before)) beginning)
      (run_end world (instructions place.function.code.items) (given ++ rest))
      (run_end world (instructions code) (given ++ selector ∷ rest))
  -- and executes the same, from a stack of the constructor's elements and the rest
  pub executes : (world : World) (given rest : Stack) (selector : List ℕ) → length given ≡ ctors → number_of selector ≡ Some (pos at)
      → ExecutesBehind contract code (length (code_of place.before)) (length (given ++ rest))
      (executed_in (setting_in world (instructions place.function.code.items)) (instructions place.function.code.items)
      (Ok (state (given ++ rest) beginning)))
      (executed_in (setting_in world (instructions code)) (instructions code) (Ok (state (given ++ selector ∷ rest) beginning)))

-- ---- no function that is run

-- the selector is no number
abbrev pub RefusesNoNumber : Span → ℕ → List Spanned → Type 0
RefusesNoNumber contract ctors code =
    (world : World) (given rest : Stack) (selector : List ℕ) → length given ≡ ctors → number_of selector ≡ None
    → FailsAt contract code (Shared NotANumber) (run_end world (instructions code) (given ++ selector ∷ rest))

-- one of so many functions has this number
abbrev pub is_function : ℕ → ℤ → Bool
is_function count (pos n) = nat_lt n count
is_function count (negsuc n) = false

-- the selector is another number
abbrev pub RefusesOthers : Span → ℕ → ℕ → List Spanned → Type 0
RefusesOthers contract ctors count code =
    (world : World) (given rest : Stack) (selector : List ℕ) (n : ℤ) → length given ≡ ctors → number_of selector ≡ Some n
    → IsFalse (is_function count n)
    → FailsAt contract code (Shared CheckFailed) (run_end world (instructions code) (given ++ selector ∷ rest))

-- no selector stands there
abbrev pub RefusesNone : Span → ℕ → List Spanned → Type 0
RefusesNone contract ctors code =
    (world : World) (stack : Stack) → length stack ≤ ctors
    → FailsAt contract code Underflow (run_end world (instructions code) stack)

-- ---- what each instruction is

-- where the code of each function is so, the code is
abbrev pub Keeps : (List Instr → Bool) → List Marked → Marked → Type 0
Keeps is_so functions code =
    AllByRecursion (λ function. IsTrue (is_so (instructions function.code.items))) functions → IsTrue (is_so (instructions code.code.items))

-- none of the instructions is this opcode
abbrev pub lacks : ℕ → List Instr → Bool
lacks byte code = list_all (λ instr. not (is_opcode byte instr)) code

-- ---- the whole

-- The code of one function is that function's.
pub record IsAlone (function code : Marked) : Type 0 where
  pub rows : code.code.items ≡ function.code.items
  pub marks : code.marks.items ≡ function.marks.items

-- The code of two functions or more. The selector stands below so many elements of the constructor.
pub record Selects (functions : List Marked) (ctors : ℕ) (contract : Span) (code : Marked) : Type 0 where
  -- each function's code stands in it in one piece, in the order of the functions, and all else chooses among them
  pub pieces : List Piece
  pub rows : code.code.items ≡ code_of pieces
  pub in_order : functions_of pieces ≡ functions
  pub marks : code.marks.items ≡ marks_of 0 pieces
  pub own : AreOwn contract (own_of pieces)
  -- what is added for each function
  pub bytes : size_of (own_of pieces) ≤ 15 * length functions
  pub opcodes : opcodes_of (own_of pieces) ≤ 7 * length functions
  pub nested : IsTrue (is_nested (instructions code.code.items))
  pub unseparated : IsTrue (is_unseparated (instructions code.code.items))
  -- where they stand in the code of no function: DEPTH, TOALTSTACK, FROMALTSTACK, CODESEPARATOR and both checks of several
  -- signatures
  pub lacking : (byte : ℕ) → IsTrue (list_any (λ other. byte == other) foreign_opcodes) → Keeps (lacks byte) functions code
  pub shallow : Keeps is_without_depth functions code
  -- opcodes above 60 (hexadecimal) alone, and each check of several signatures behind the push of its number of keys
  pub spelled : Keeps are_instructions functions code
  -- and opcodes with a name alone
  pub named : Keeps are_named functions code
  pub keys : Keeps (are_keys_known false) functions code
  -- what is run
  pub chosen : (at : ℕ) → at < length functions → Chooses contract ctors code.code.items pieces at
  pub no_number : RefusesNoNumber contract ctors code.code.items
  pub others : RefusesOthers contract ctors (length functions) code.code.items
  pub missing : RefusesNone contract ctors code.code.items
