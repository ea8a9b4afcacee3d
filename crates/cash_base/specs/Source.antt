-- Spans of a source, and which of its two spans a failing row is reported at.
use Rattle.std.specs.Prelude.{ℕ, ◌-◌, ◌≤◌, List, [], ◌∷◌, take, drop}
use Rattle.cash_base.specs.declared.fault.Cause.TheVariants.{CheckFailed}
use Rattle.cash_base.specs.declared.fault.MachineCause.{MachineCause}
use Rattle.cash_base.specs.declared.fault.MachineCause.TheVariants.{Shared, EndFalse}
use Rattle.cash_base.specs.declared.place.Span.{Span}

-- the slice of a source at a span; of a span that reaches past the source, what there is of it
abbrev pub text_at : List ℕ → Span → List ℕ
text_at source span = take (span.to - span.from) (drop span.from source)

-- a span lies in a source of so many bytes
pub record IsInside (len : ℕ) (span : Span) : Type 0 where
  pub ordered : span.from ≤ span.to
  pub ends : span.to ≤ len

abbrev pub AreInside : ℕ → List Span → Type 0
AreInside len [] = Unit {0}
AreInside len (span ∷ spans) = IsInside len span × AreInside len spans

-- A false check, in the code or at its end, is reported at its statement, and every other cause at the operation.
abbrev pub place_in : (doing checking : Span) → MachineCause → Span
place_in doing checking (Shared CheckFailed) = checking
place_in doing checking EndFalse = checking
place_in doing checking _ = doing
