-- How an operation writes numbers and truth values. Elements stand here as their bytes.
use Rattle.std.specs.Prelude.{ℕ, ◌^◌, Bool, nat_lt, if◌then◌else◌, List, ℤ, unsigned_abs, Result, Ok, Err}
use Rattle.cash_base.specs.declared.fault.Cause.{Cause}
use Rattle.cash_base.specs.declared.fault.Cause.TheVariants.{NumberRange}
use Rattle.cash_base.specs.Number.{minimal_bytes}
use Rattle.cash_base.specs.Operand.{truth_bytes}

-- an element can stand for the numbers from -(2^63 - 1) to 2^63 - 1
abbrev pub is_in_range : ℤ → Bool
is_in_range n = nat_lt (unsigned_abs n) (2 ^ 63)

-- the element of a number
abbrev pub number_element : ℤ → Result (List ℕ) Cause
number_element n = if is_in_range n then Ok (minimal_bytes n) else Err NumberRange

abbrev pub truth_element : Bool → Result (List ℕ) Cause
truth_element value = Ok (truth_bytes value)
