-- How an element is read as a number, and which element a truth value is. Elements stand here as their bytes.
use Rattle.std.specs.Prelude.{ℕ, Bool, true, false, List, [], ◌∷◌, ℤ, Option, Some, None, Result, Ok, Err}
use Rattle.cash_base.specs.declared.fault.Cause.{Cause}
use Rattle.cash_base.specs.declared.fault.Cause.TheVariants.{NotANumber}
use Rattle.cash_base.specs.Number.{number_of}

-- the number, or there is none
abbrev pub number_or_cause : Option ℤ → Result ℤ Cause
number_or_cause None = Err NotANumber
number_or_cause (Some n) = Ok n

-- an operand that is read as a number
abbrev pub operand_number : List ℕ → Result ℤ Cause
operand_number e = number_or_cause (number_of e)

-- the element of a truth value: 01, or the empty one
abbrev pub truth_bytes : Bool → List ℕ
truth_bytes true = 1 ∷ []
truth_bytes false = []
