-- Steps and tests that may fail, one after another: the first failure is that of the whole.
use Rattle.std.specs.Prelude.{ℕ, Bool, true, false, Option, Some, None, Result, Ok, Err}

infixl 10 ◌>>=◌
abbrev pub ◌>>=◌ : {A B E : Type 0} → Result A E → (A → Result B E) → Result B E
(Ok x) >>= f = f x
(Err e) >>= f = Err e

infixl 10 ◌>>◌
abbrev pub ◌>>◌ : {A B E : Type 0} → Result A E → Result B E → Result B E
(Ok x) >> next = next
(Err e) >> next = Err e

-- refused where the test holds
abbrev pub refused_if : {E : Type 0} → Bool → E → Result (Unit {0}) E
refused_if true fault = Err fault
refused_if false fault = Ok tt

-- refused where there is an offender, whose index the fault carries
abbrev pub refused_at : {E : Type 0} → Option ℕ → (ℕ → E) → Result (Unit {0}) E
refused_at (Some index) fault = Err (fault index)
refused_at None fault = Ok tt
