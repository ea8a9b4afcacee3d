-- What a spend goes through: a row for each instruction that is passed, and how it ends.
use Rattle.std.specs.Prelude.{ℕ, Bool, List, [], ◌∷◌}
use Rattle.std.specs.List.{filter}
use Rattle.bch_vm.specs.declared.outcome.MachineOutcome.{MachineOutcome}
use Rattle.bch_vm.specs.declared.outcome.Which.{Which}
use Rattle.bch_vm.specs.Stack.{Stack}

-- an instruction that was passed: its script and index, whether it was executed, and the stack after it
pub record Row : Type 0 where
  pub script : Which
  pub at : ℕ
  pub executed : Bool
  pub stack : Stack

abbrev pub row_of : Which → ℕ → Bool → Stack → Row
row_of script at executed stack = record { script = script; at = at; executed = executed; stack = stack }

-- rows, and after them a result, or the end of the whole spend
pub data Course (A : Type 0) : Type 0 where
  Passes : Row → Course A → Course A
  Gives : A → Course A
  Stops : MachineOutcome → Course A

-- one course, and from its result on another; where the spend ends nothing follows
infixl 10 ◌>>=◌
abbrev pub ◌>>=◌ : {A B : Type 0} → Course A → (A → Course B) → Course B
(Passes row rest) >>= f = Passes row (rest >>= f)
(Gives a) >>= f = f a
(Stops outcome) >>= f = Stops outcome

infixl 10 ◌>>◌
abbrev pub ◌>>◌ : {A B : Type 0} → Course A → Course B → Course B
(Passes row rest) >> next = Passes row (rest >> next)
(Gives a) >> next = next
(Stops outcome) >> next = Stops outcome

-- how it ends
abbrev pub outcome_of : Course MachineOutcome → MachineOutcome
outcome_of (Passes row rest) = outcome_of rest
outcome_of (Gives outcome) = outcome
outcome_of (Stops outcome) = outcome

abbrev pub rows_of : {A : Type 0} → Course A → List Row
rows_of (Passes row rest) = row ∷ rows_of rest
rows_of (Gives a) = []
rows_of (Stops outcome) = []

-- the instructions that are executed, in order, each with the stack after it
abbrev pub executed_rows : {A : Type 0} → Course A → List Row
executed_rows course = filter (λ row. row.executed) (rows_of course)
