-- What the checks of signatures answer by a table of verdicts.
use Rattle.std.specs.Prelude.{ℕ, Bool, true, false, nat_lt, if◌then◌else◌, List, [], ◌∷◌, length, reverse, Option, Some, None, Result, Ok, Err}
use Rattle.std.specs.List.{list_any}
use Rattle.cash_base.specs.declared.fault.Cause.{Cause}
use Rattle.cash_base.specs.declared.fault.Cause.TheVariants.{NullFail, Malformed as MalformedCause}
use Rattle.cash_base.specs.Failing.{◌>>=◌}
use Rattle.tx_context.specs.Table.{Row, speaks_of}
use Rattle.tx_context.specs.declared.verdict.Kind.{Kind}
use Rattle.tx_context.specs.declared.verdict.Kind.TheVariants.{Single, Multi, DataSig}
use Rattle.tx_context.specs.declared.verdict.Answer.{Answer}
use Rattle.tx_context.specs.declared.verdict.Answer.TheVariants.{Good, Malformed}

-- what the row on this kind, signature, key and message says, if there is one
abbrev pub answer_in : Kind → List ℕ → List ℕ → List ℕ → List Row → Option Answer
answer_in kind sig key message [] = None
answer_in kind sig key message (row ∷ rows) =
    if speaks_of kind sig key message row then Some row.answer else answer_in kind sig key message rows

-- a check of the transaction's signature by one key has no message
abbrev pub asked_message : Kind → List ℕ → List ℕ
asked_message Single message = []
asked_message Multi message = message
asked_message DataSig message = message

-- a false check is a failure where a signature was given
abbrev pub failed_check : Bool → Result Bool Cause
failed_check true = Err NullFail
failed_check false = Ok false

-- the outcome of one row, or of none
abbrev pub one_outcome : Option Answer → List ℕ → Result Bool Cause
one_outcome (Some Good) sig = Ok true
one_outcome (Some Malformed) sig = Err MalformedCause
one_outcome None sig = failed_check (nat_lt 0 (length sig))

-- a check of one signature by one key
abbrev pub single_verdict : List Row → Kind → List ℕ → List ℕ → List ℕ → Result Bool Cause
single_verdict rows kind sig key message =
    one_outcome (answer_in kind sig key (asked_message kind message) rows) sig

-- by the row on a signature and a key: the outcome where it is good, and where there is none
abbrev pub step_outcome : Option Answer → Result Bool Cause → Result Bool Cause → Result Bool Cause
step_outcome (Some Good) good none = good
step_outcome (Some Malformed) good none = Err MalformedCause
step_outcome None good none = none

-- Whether the signatures are met by the keys, both with the last first. Each key is tried once; a signature that is met
-- gives way to the one before it.
abbrev pub are_met : List Row → List (List ℕ) → List (List ℕ) → Result Bool Cause
are_met rows [] keys = Ok true
are_met rows (sig ∷ sigs) [] = Ok false
are_met rows (sig ∷ sigs) (key ∷ keys) =
    if nat_lt (length (key ∷ keys)) (length (sig ∷ sigs)) then Ok false
    else step_outcome (answer_in Multi sig key [] rows) (are_met rows sigs keys) (are_met rows (sig ∷ sigs) keys)

-- the outcome where signatures are met, or not
abbrev pub many_outcome : Bool → List (List ℕ) → Result Bool Cause
many_outcome true sigs = Ok true
many_outcome false sigs = failed_check (list_any (λ sig. nat_lt 0 (length sig)) sigs)

-- a check of several signatures by several keys, from the last of both
abbrev pub multi_verdict : List Row → List (List ℕ) → List (List ℕ) → Result Bool Cause
multi_verdict rows sigs keys = are_met rows (reverse sigs) (reverse keys) >>= λ met. many_outcome met sigs
