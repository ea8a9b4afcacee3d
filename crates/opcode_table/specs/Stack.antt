-- What opcodes work on, and the shapes of what they do to it.
use Rattle.std.specs.Prelude.{ℕ, zero, suc, List, [], ◌∷◌, ◌++◌, reverse, slice_index_or, Result, Ok, Err}
use Rattle.cash_base.specs.declared.fault.Cause.{Cause}
use Rattle.cash_base.specs.declared.fault.MachineCause.{MachineCause}
use Rattle.cash_base.specs.declared.fault.MachineCause.TheVariants.{Shared, Underflow}
use Rattle.cash_base.specs.Failing.{◌>>=◌}

-- elements, the top first
abbrev pub Stack : Type 0
Stack = List (List ℕ)

-- what is done to the stack, or why it fails
abbrev pub Action : Type 0
Action = Stack → Result Stack MachineCause

-- a cause that the source's run has too
abbrev pub shared : {A : Type 0} → Result A Cause → Result A MachineCause
shared (Ok x) = Ok x
shared (Err cause) = Err (Shared cause)

-- ---- one, two or three elements are taken, and others put in their place, the top first

abbrev pub on_one : (List ℕ → Result Stack MachineCause) → Action
on_one put (a ∷ rest) = do
  es ← put a
  Ok (es ++ rest)
on_one put _ = Err Underflow

-- the top is the second of them
abbrev pub on_two : (List ℕ → List ℕ → Result Stack MachineCause) → Action
on_two put (b ∷ a ∷ rest) = do
  es ← put a b
  Ok (es ++ rest)
on_two put _ = Err Underflow

-- the top is the third of them
abbrev pub on_three : (List ℕ → List ℕ → List ℕ → Result Stack MachineCause) → Action
on_three put (c ∷ b ∷ a ∷ rest) = do
  es ← put a b c
  Ok (es ++ rest)
on_three put _ = Err Underflow

-- ---- so many elements are taken

abbrev pub with_top : List ℕ → Stack × Stack → Stack × Stack
with_top e parts = (e ∷ parts.0, parts.1)

-- so many elements from the top, the top first, and what is left
abbrev pub taken : ℕ → Stack → Result (Stack × Stack) MachineCause
taken zero stack = Ok ([], stack)
taken (suc more) [] = Err Underflow
taken (suc more) (e ∷ stack) = do
  parts ← taken more stack
  Ok (with_top e parts)

-- of these elements those with the numbers, in order, the last on top
abbrev pub put_on : Stack → Stack → List ℕ → Stack
put_on rest es [] = rest
put_on rest es (number ∷ numbers) = put_on (slice_index_or es number [] ∷ rest) es numbers

-- takes so many elements, of which the deepest is number 0, and puts those with the numbers
abbrev pub puts : ℕ → List ℕ → Action
puts count numbers stack = do
  parts ← taken count stack
  Ok (put_on parts.1 (reverse parts.0) numbers)
