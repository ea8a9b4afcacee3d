-- What is run of IF or NOTIF, ELSE and ENDIF around nested code.
use Rattle.std.specs.Prelude.{◌≡◌, ℕ, Bool, true, false, IsTrue, IsFalse, List, [], ◌∷◌, ◌++◌, Result, Ok, Err}
use Rattle.cash_base.specs.Failing.{◌>>=◌}
use Rattle.cash_base.specs.Number.{truth_of}
use Rattle.script_codec.specs.declared.instr.Instr.{Instr}
use Rattle.script_codec.specs.declared.instr.Instr.TheVariants.{Do}
use Rattle.bch_vm.specs.Stack.{Stack}
use Rattle.bch_vm.specs.Setting.{Setting}
use Rattle.bch_vm.specs.Board.{board, is_live, sensed}
use Rattle.bch_vm.specs.Script.{State, state_of, run, Failure, executed_in}
use Rattle.run_laws.specs.Nested.{progress_over}

-- ---- code that is not executed

-- Code that is not executed, since some open condition is false, changes nothing but that its instructions were passed.
abbrev pub ChangesNothing : Setting → List Instr → Type 0
ChangesNothing setting code =
    (s : State) → IsFalse (is_live s.board.conditions)
    → run setting code s ≡ Ok (state_of s.board (progress_over code s.progress))

-- and none of them is among the instructions that a run executes
abbrev pub ExecutesNothing : Setting → List Instr → Type 0
ExecutesNothing setting code = (s : State) → IsFalse (is_live s.board.conditions) → executed_in setting code (Ok s) ≡ []

-- ---- open conditions

-- where it ends, the same conditions are open as before it
abbrev pub HasConditionsOf : State → Result State Failure → Type 0
HasConditionsOf s (Ok t) = t.board.conditions ≡ s.board.conditions
HasConditionsOf s (Err failure) = Unit {0}

-- the state with these conditions open
abbrev pub under : List Bool → State → State
under conditions s = state_of (board s.board.stack s.board.alternate conditions s.board.separator) s.progress

-- Under whichever open conditions, if all are true, it goes alike.
abbrev pub GoesUnderAny : Setting → List Instr → Type 0
GoesUnderAny setting code = (s : State) (conditions : List Bool)
    → IsTrue (is_live s.board.conditions) → IsTrue (is_live conditions)
    → run setting code (under conditions s) ≡ (run setting code s >>= λ t. Ok (under conditions t))

-- ---- arms

abbrev pub opcode : ℕ → Instr
opcode byte = Do (record { 0 = byte })

-- IF, or NOTIF, which wants the contrary
abbrev pub opener : Bool → Instr
opener true = opcode 0x63
opener false = opcode 0x64

abbrev pub ELSE : Instr
ELSE = opcode 0x67

abbrev pub ENDIF : Instr
ENDIF = opcode 0x68

-- an arm alone, and two arms
abbrev pub one_arm : Bool → List Instr → List Instr
one_arm sense arm = opener sense ∷ (arm ++ (ENDIF ∷ []))

abbrev pub two_arms : Bool → List Instr → List Instr → List Instr
two_arms sense first second = opener sense ∷ (first ++ (ELSE ∷ (second ++ (ENDIF ∷ []))))

-- all open conditions are true, and this test stands on top of the rest of the stack
pub record IsAtTest (s : State) (test : List ℕ) (rest : Stack) : Type 0 where
  pub live : IsTrue (is_live s.board.conditions)
  pub stack : s.board.stack ≡ test ∷ rest

-- the first arm is taken
abbrev pub picks : Bool → List ℕ → Bool
picks sense test = sensed sense (truth_of test)

-- the test is gone, and these instructions were passed
abbrev pub past_test : List Instr → Stack → State → State
past_test passed rest s =
    state_of (board rest s.board.alternate s.board.conditions s.board.separator) (progress_over passed s.progress)

-- these instructions were passed
abbrev pub past : List Instr → State → State
past passed t = state_of t.board (progress_over passed t.progress)

-- An arm that is taken is run, and nothing else. The instructions before and after it are passed.
abbrev pub arm_run : Setting → List Instr → List Instr → List Instr → Stack → State → Result State Failure
arm_run setting before arm after rest s = do
  t ← run setting arm (past_test before rest s)
  Ok (past after t)

abbrev pub RunsTheFirst : Setting → Bool → List Instr → List Instr → Type 0
RunsTheFirst setting sense first second = (s : State) (test : List ℕ) (rest : Stack)
    → IsAtTest s test rest → IsTrue (picks sense test)
    → run setting (two_arms sense first second) s
    ≡ arm_run setting (opener sense ∷ []) first (ELSE ∷ (second ++ (ENDIF ∷ []))) rest s

abbrev pub RunsTheSecond : Setting → Bool → List Instr → List Instr → Type 0
RunsTheSecond setting sense first second = (s : State) (test : List ℕ) (rest : Stack)
    → IsAtTest s test rest → IsFalse (picks sense test)
    → run setting (two_arms sense first second) s
    ≡ arm_run setting (opener sense ∷ (first ++ (ELSE ∷ []))) second (ENDIF ∷ []) rest s

abbrev pub RunsTheOnly : Setting → Bool → List Instr → Type 0
RunsTheOnly setting sense arm = (s : State) (test : List ℕ) (rest : Stack)
    → IsAtTest s test rest → IsTrue (picks sense test)
    → run setting (one_arm sense arm) s ≡ arm_run setting (opener sense ∷ []) arm (ENDIF ∷ []) rest s

abbrev pub RunsNone : Setting → Bool → List Instr → Type 0
RunsNone setting sense arm = (s : State) (test : List ℕ) (rest : Stack)
    → IsAtTest s test rest → IsFalse (picks sense test)
    → run setting (one_arm sense arm) s ≡ Ok (past_test (one_arm sense arm) rest s)
