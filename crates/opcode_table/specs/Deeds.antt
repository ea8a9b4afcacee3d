-- What the deeds of the table do to the stack, as the Bitcoin Cash specification has them. In the comments the top stands
-- right.
use Rattle.std.specs.Prelude.{ℕ, ◌+◌, ◌==◌, not, Bool, nat_lt, nat_le, if◌then◌else◌, List, [], ◌∷◌, ◌++◌, length, take, drop, reverse, ℤ, pos, negsuc, slice_get, Option, Some, None, Result, Ok, Err}
use Rattle.cash_base.specs.declared.fault.Cause.{Cause}
use Rattle.cash_base.specs.declared.fault.Cause.TheVariants.{CheckFailed}
use Rattle.cash_base.specs.declared.fault.MachineCause.{MachineCause}
use Rattle.cash_base.specs.declared.fault.MachineCause.TheVariants.{Shared, Underflow, KeyCount, CheckBits, OpLimit}
use Rattle.cash_base.specs.Failing.{◌>>=◌, ◌>>◌, refused_if}
use Rattle.cash_base.specs.Number.{truth_of}
use Rattle.cash_base.specs.Operand.{operand_number, truth_bytes}
use Rattle.element_ops.specs.declared.op.Op1.{Op1}
use Rattle.element_ops.specs.declared.op.Op1.TheVariants.{Size}
use Rattle.element_ops.specs.declared.op.Op2.{Op2}
use Rattle.element_ops.specs.declared.op.Op3.{Op3}
use Rattle.element_ops.specs.Operation.{result1, result2, result3, split_parts}
use Rattle.tx_context.specs.declared.verdict.Kind.TheVariants.{Single, DataSig}
use Rattle.tx_context.specs.Lookup.{number_bytes, context_value, indexed_value, time_outcome, age_outcome}
use Rattle.tx_context.specs.Verdict.{single_verdict, multi_verdict}
use Rattle.opcode_table.specs.declared.rows.Deed.{Deed}
use Rattle.opcode_table.specs.declared.rows.Deed.TheVariants.{Stays, Refuses, Puts, One, Two, Three, Measures, Splits, CopiesTrue, Counts, Copies, Moves, Verifies, Asks, AsksAt, Waits, Ages, Checks, ChecksData, ChecksMany}
use Rattle.opcode_table.specs.Stack.{Stack, Action, shared, on_one, on_two, on_three, taken, puts}
use Rattle.opcode_table.specs.Asking.{Asked}

-- an operation on elements, with what it gives on top of what is kept
abbrev pub gives : Stack → Result (List ℕ) Cause → Result Stack MachineCause
gives kept outcome = do
  e ← shared outcome
  Ok (e ∷ kept)

-- ---- operations on the elements on top

abbrev pub operates1 : Op1 → Action
operates1 op = on_one (λ a. gives [] (result1 op a))

abbrev pub operates2 : Op2 → Action
operates2 op = on_two (λ a b. gives [] (result2 op a b))

abbrev pub operates3 : Op3 → Action
operates3 op = on_three (λ a b c. gives [] (result3 op a b c))

-- SIZE: a to a and its length
abbrev pub measured : Action
measured = on_one (λ a. gives (a ∷ []) (result1 Size a))

-- SPLIT: a n to the first n bytes of a and the rest
abbrev pub split : Action
split = on_two (λ a n. shared (split_parts a n) >>= λ parts. Ok (parts.1 ∷ parts.0 ∷ []))

-- IFDUP: copies a where it is true
abbrev pub copied_if_true : Action
copied_if_true = on_one (λ a. Ok (if truth_of a then a ∷ a ∷ [] else a ∷ []))

-- VERIFY: takes a, which must be true
abbrev pub verified : Action
verified = on_one (λ a. refused_if (not (truth_of a)) (Shared CheckFailed) >> Ok [])

-- DEPTH: the height of the stack
abbrev pub counted : Action
counted stack = Ok (number_bytes (length stack) ∷ stack)

-- ---- elements at an index

-- takes a number that stands above at least one element
abbrev pub index_taken : Stack → Result (ℤ × Stack) MachineCause
index_taken (index ∷ below ∷ rest) = do
  n ← shared (operand_number index)
  Ok (n, below ∷ rest)
index_taken _ = Err Underflow

abbrev pub element_or_underflow : Option (List ℕ) → Result (List ℕ) MachineCause
element_or_underflow None = Err Underflow
element_or_underflow (Some e) = Ok e

-- a copy of the element so many below the top
abbrev pub copied : ℕ → Action
copied n stack = do
  e ← element_or_underflow (slice_get stack n)
  Ok (e ∷ stack)

-- the element so many below the top, moved to the top
abbrev pub moved : ℕ → Action
moved n stack = do
  e ← element_or_underflow (slice_get stack n)
  Ok (e ∷ take n stack ++ drop (n + 1) stack)

-- none is at a negative number
abbrev pub at_index : (ℕ → Action) → ℤ → Action
at_index action (pos n) stack = action n stack
at_index action (negsuc n) stack = Err Underflow

-- PICK: takes n, above at least one element, and copies the element n below the top
abbrev pub picked : Action
picked stack = do
  indexed ← index_taken stack
  at_index copied indexed.0 indexed.1

-- ROLL: takes n, above at least one element, and moves the element n below the top
abbrev pub rolled : Action
rolled stack = do
  indexed ← index_taken stack
  at_index moved indexed.0 indexed.1

-- ---- what is asked of the transaction

-- the top stays, and is the lock time or the age that is wanted
abbrev pub lock_met : (List ℕ → Result (Unit {0}) Cause) → Action
lock_met outcome = on_one (λ a. shared (outcome a) >> Ok (a ∷ []))

-- ---- checks of signatures

-- the truth of a check
abbrev pub judged : Result Bool Cause → Result Stack MachineCause
judged outcome = do
  truth ← shared outcome
  Ok (truth_bytes truth ∷ [])

-- CHECKSIG: takes a signature and a key
abbrev pub checked : Asked → Action
checked asked = on_two (λ sig key. judged (single_verdict asked.verdicts Single sig key []))

-- CHECKDATASIG: takes a signature, a message and a key
abbrev pub checked_data : Asked → Action
checked_data asked = on_three (λ sig message key. judged (single_verdict asked.verdicts DataSig sig key message))

-- a number from 0 to so many
abbrev pub number_within : ℕ → ℤ → Result ℕ MachineCause
number_within most (pos n) = if nat_le n most then Ok n else Err KeyCount
number_within most (negsuc n) = Err KeyCount

-- takes a number from 0 to so many
abbrev pub number_taken : ℕ → Stack → Result (ℕ × Stack) MachineCause
number_taken most [] = Err Underflow
number_taken most (e ∷ rest) = do
  n ← shared (operand_number e)
  number ← number_within most n
  Ok (number, rest)

-- takes an element that must be empty
abbrev pub empty_taken : Action
empty_taken [] = Err Underflow
empty_taken (e ∷ rest) = do
  refused_if (nat_lt 0 (length e)) CheckBits
  Ok rest

-- Takes a number of keys, from 0 to 20, and so many keys. They count as opcodes, of which so many may come.
abbrev pub keys_taken : ℕ → Stack → Result (Stack × Stack) MachineCause
keys_taken left stack = do
  number ← number_taken 20 stack
  refused_if (nat_lt left number.0) OpLimit
  taken number.0 number.1

-- Takes a number of signatures, from 0 to so many, so many signatures, and an empty element.
abbrev pub sigs_taken : ℕ → Stack → Result (Stack × Stack) MachineCause
sigs_taken most stack = do
  number ← number_taken most stack
  parts ← taken number.0 number.1
  rest ← empty_taken parts.1
  Ok (parts.0, rest)

-- CHECKMULTISIG: takes n, n keys, m, m signatures, where m is at most n, and an empty element
abbrev pub checked_many : Asked → Action
checked_many asked stack = do
  keys ← keys_taken asked.left stack
  sigs ← sigs_taken (length keys.0) keys.1
  truth ← shared (multi_verdict asked.verdicts (reverse sigs.0) (reverse keys.0))
  Ok (truth_bytes truth ∷ sigs.1)

-- the number that was taken, or 0
abbrev pub number_or_none : Result (ℕ × Stack) MachineCause → ℕ
number_or_none (Ok taken) = taken.0
number_or_none (Err cause) = 0

-- the keys of a multisignature check on this stack
abbrev pub keys_on : Stack → ℕ
keys_on stack = number_or_none (number_taken 20 stack)

-- ---- a deed

abbrev pub done : Asked → Deed → Action
done asked Stays stack = Ok stack
done asked (Refuses cause) stack = Err cause
done asked (Puts count put numbers) stack = puts count (take put numbers) stack
done asked (One op) stack = operates1 op stack
done asked (Two op) stack = operates2 op stack
done asked (Three op) stack = operates3 op stack
done asked Measures stack = measured stack
done asked Splits stack = split stack
done asked CopiesTrue stack = copied_if_true stack
done asked Counts stack = counted stack
done asked Copies stack = picked stack
done asked Moves stack = rolled stack
done asked Verifies stack = verified stack
done asked (Asks what) stack = gives stack (context_value asked.context what asked.active)
done asked (AsksAt what) stack = on_one (λ index. gives [] (indexed_value asked.context what index)) stack
done asked Waits stack = lock_met (time_outcome asked.context) stack
done asked Ages stack = lock_met (age_outcome asked.context) stack
done asked Checks stack = checked asked stack
done asked ChecksData stack = checked_data asked stack
done asked ChecksMany stack = checked_many asked stack

-- a deed, and then VERIFY
abbrev pub done_and_verified : Asked → Deed → Action
done_and_verified asked deed stack = do
  next ← done asked deed stack
  verified next
