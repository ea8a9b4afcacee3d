-- What a spend can be asked about its transaction.
use Rattle.std.specs.Prelude.{ℕ, ◌/◌, ◌%◌, ◌^◌, ◌==◌, Bool, not, ◌&&◌, ◌||◌, nat_lt, if◌then◌else◌, List, length, slice_get, ℤ, pos, negsuc, unsigned_abs, Option, Some, None, Result, Ok, Err}
use Rattle.std.specs.Bool.{beq}
use Rattle.std.specs.Int.{is_negative}
use Rattle.cash_base.specs.declared.fault.Cause.{Cause}
use Rattle.cash_base.specs.declared.fault.Cause.TheVariants.{Oversize, IndexRange, LockTime, Age}
use Rattle.cash_base.specs.declared.look.Look0.{Look0}
use Rattle.cash_base.specs.declared.look.Look0.TheVariants.{Version, Locktime, InputCount, OutputCount, ActiveIndex, ActiveBytecode}
use Rattle.cash_base.specs.declared.look.LookAt.{LookAt}
use Rattle.cash_base.specs.declared.look.LookAt.TheVariants.{UtxoValue, UtxoBytecode, OutpointHash, OutpointIndex, InputBytecode, InputSequence, OutputValue, OutputBytecode}
use Rattle.cash_base.specs.declared.element.TheConstants.{MAX_ELEMENT_LEN}
use Rattle.cash_base.specs.Failing.{◌>>=◌, ◌>>◌, refused_if}
use Rattle.cash_base.specs.Number.{minimal_bytes}
use Rattle.cash_base.specs.Operand.{operand_number}
use Rattle.tx_context.specs.Transaction.{InputParts, Transaction}
use Rattle.tx_context.specs.declared.look_up.TheConstants.{LONGEST_LOCK, FIRST_TIME, FINAL_SEQUENCE}

-- the element of a number
abbrev pub number_bytes : ℕ → List ℕ
number_bytes n = minimal_bytes (pos n)

-- bytes as an element
abbrev pub sized : List ℕ → Result (List ℕ) Cause
sized bytes = if nat_lt MAX_ELEMENT_LEN (length bytes) then Err Oversize else Ok bytes

-- what is asked of the whole transaction; the active bytecode is handed in
abbrev pub context_value : Transaction (List ℕ) → Look0 → List ℕ → Result (List ℕ) Cause
context_value t Version active = Ok (number_bytes t.version)
context_value t Locktime active = Ok (number_bytes t.locktime)
context_value t InputCount active = Ok (number_bytes (length t.inputs))
context_value t OutputCount active = Ok (number_bytes (length t.outputs))
context_value t ActiveIndex active = Ok (number_bytes t.active)
context_value t ActiveBytecode active = sized active

abbrev pub item_or_cause : {A : Type 0} → Option A → Result A Cause
item_or_cause None = Err IndexRange
item_or_cause (Some item) = Ok item

-- the item at a number that is an index
abbrev pub item_at : {A : Type 0} → ℤ → List A → Result A Cause
item_at (pos n) items = item_or_cause (slice_get items n)
item_at (negsuc n) items = Err IndexRange

-- what is asked of the input or output at a number
abbrev pub value_at : Transaction (List ℕ) → LookAt → ℤ → Result (List ℕ) Cause
value_at t UtxoValue n = item_at n t.inputs >>= λ i. Ok (number_bytes i.value)
value_at t UtxoBytecode n = item_at n t.inputs >>= λ i. sized i.locking
value_at t OutpointHash n = item_at n t.inputs >>= λ i. Ok i.hash
value_at t OutpointIndex n = item_at n t.inputs >>= λ i. Ok (number_bytes i.index)
value_at t InputBytecode n = item_at n t.inputs >>= λ i. sized i.unlocking
value_at t InputSequence n = item_at n t.inputs >>= λ i. Ok (number_bytes i.sequence)
value_at t OutputValue n = item_at n t.outputs >>= λ o. Ok (number_bytes o.value)
value_at t OutputBytecode n = item_at n t.outputs >>= λ o. sized o.locking

-- what is asked of the input or output at an index, which is an element
abbrev pub indexed_value : Transaction (List ℕ) → LookAt → List ℕ → Result (List ℕ) Cause
indexed_value t what index = operand_number index >>= λ n. value_at t what n

abbrev pub sequence_of : Option (InputParts (List ℕ)) → ℕ
sequence_of None = 0
sequence_of (Some i) = i.sequence

-- the sequence number of the active input
abbrev pub active_sequence : Transaction (List ℕ) → ℕ
active_sequence t = sequence_of (slice_get t.inputs t.active)

-- too many bytes, or negative: no number that a lock is given as
abbrev pub is_no_lock : List ℕ → ℤ → Bool
is_no_lock e n = nat_lt LONGEST_LOCK (length e) || is_negative n

-- One is a height, and the other a time.
abbrev pub differs_in_kind : ℕ → ℕ → Bool
differs_in_kind a b = if nat_lt a FIRST_TIME then not (nat_lt b FIRST_TIME) else nat_lt b FIRST_TIME

-- the wanted lock time is of the other kind than the transaction's, or later, or the transaction's doesn't count
abbrev pub is_time_missed : Transaction (List ℕ) → ℕ → Bool
is_time_missed t n = differs_in_kind n t.locktime || (nat_lt t.locktime n || (active_sequence t == FINAL_SEQUENCE))

abbrev pub time_outcome : Transaction (List ℕ) → List ℕ → Result (Unit {0}) Cause
time_outcome t e = operand_number e >>= λ n.
    refused_if (is_no_lock e n || is_time_missed t (unsigned_abs n)) LockTime

-- the bit of this number, counted from 0
abbrev pub has_bit : ℕ → ℕ → Bool
has_bit bit n = n / 2 ^ bit % 2 == 1

-- By bit 31 an age is switched off, by bit 22 it is a time and not a number of blocks, and its low 16 bits are the age. Here
-- the age isn't reached, or doesn't count.
abbrev pub is_age_missed : Transaction (List ℕ) → ℕ → Bool
is_age_missed t n =
    let sequence = active_sequence t in
    nat_lt t.version 2
    || (has_bit 31 sequence
    || (not (beq (has_bit 22 n) (has_bit 22 sequence)) || nat_lt (sequence % 2 ^ 16) (n % 2 ^ 16)))

abbrev pub age_outcome : Transaction (List ℕ) → List ℕ → Result (Unit {0}) Cause
age_outcome t e = operand_number e >>= λ n.
    refused_if (is_no_lock e n) Age
    >> refused_if (not (has_bit 31 (unsigned_abs n)) && is_age_missed t (unsigned_abs n)) Age
