-- A name at its place: that it is as wanted, and what comes of it, or the fault.
use Rattle.std.specs.Prelude.{ℕ, List, Result, Ok}
use Rattle.cash_base.specs.Failing.{◌>>=◌}
use Rattle.cash_base.specs.declared.place.Span.{Span}
use Rattle.cash_base.specs.declared.place.Slot.{Slot}
use Rattle.name_scopes.specs.declared.fault.NameFault.{NameFault}
use Rattle.name_scopes.specs.Names.{Names, slot, with_variable}
use Rattle.name_scopes.specs.Wants.{Want, is_new, refusal, granted}

abbrev pub Answer : Type 0 → Type 0
Answer A = Result A NameFault

-- a part of a tree, by the names in scope in front of it, and the names in scope after it
abbrev pub Running : Type 0 → Type 0
Running A = Names → Answer (A × Names)

-- a value, where one thing is as it is wanted
abbrev pub given : {A : Type 0} → List ℕ → Want → A → Answer A
given source want value = granted (refusal source want) value

abbrev pub check : List ℕ → Want → Answer (Unit {0})
check source want = given source want tt

-- that two names may be declared, one after the other
abbrev pub check_two : List ℕ → Span → Span → Names → Answer (Unit {0})
check_two source left right names = do
  u ← check source (is_new names left)
  check source (is_new (with_variable source left names) right)

-- a variable is declared
abbrev pub introduction : List ℕ → Span → Running Slot
introduction source span names = do
  u ← check source (is_new names span)
  Ok (slot names.next, with_variable source span names)
