-- The executed instructions of the selector stand at the contract's place.
use Rattle.std.proofs.Common.{◌≡◌, ◌⊎◌, inl, inr, ℕ, ◌+◌, List, [], ◌∷◌, ◌++◌, length, ap, ◌∙◌, arith}
use Rattle.std.specs.List.{AllByRecursion}
use Rattle.cash_base.specs.declared.place.Span.{Span}
use Rattle.script_codec.specs.declared.spans.Spanned.{Spanned}
use Rattle.bch_vm.specs.Script.{Executed}
use Rattle.selector.specs.Place.{all_executed_behind}
use Rattle.selector.specs.Selection.{StandsAt}
use Rattle.selector.proofs.Executed.{AreAt}
use Rattle.selector.proofs.Stands.{stands_behind, stands_in_front}

-- an executed instruction so many instructions behind the start of these rows, at the contract's place
pub record IsOwnFrom (contract : Span) (rows : List Spanned) (from : ℕ) (e : Executed) : Type 0 where
  pub index : ℕ
  pub at : e.at ≡ from + index
  pub stands : StandsAt contract rows index

abbrev pub AreOwnFrom : Span → List Spanned → ℕ → List Executed → Type 0
AreOwnFrom contract rows from es = AllByRecursion (IsOwnFrom contract rows from) es

pub own_both : (contract : Span) (rows : List Spanned) (from : ℕ) (first second : List Executed)
    → AreOwnFrom contract rows from first → AreOwnFrom contract rows from second → AreOwnFrom contract rows from (first ++ second)
own_both contract rows from [] second a b = b
own_both contract rows from (e ∷ first) second a b = (a.0, own_both contract rows from first second a.1 b)

pub own_behind : (contract : Span) (front back : List Spanned) (from from′ : ℕ) (es : List Executed) → from′ ≡ from + length front
    → AreOwnFrom contract back from′ es → AreOwnFrom contract (front ++ back) from es
own_behind contract front back from from′ [] there all = tt
own_behind contract front back from from′ (e ∷ es) there all = (
  record {
    index = length front + all.0.index;
    at = all.0.at ∙ ap (λ n. n + all.0.index) there ∙ omega arith;
    stands = stands_behind contract front back all.0.index all.0.stands;
  },
  own_behind contract front back from from′ es there all.1,
)

pub own_in_front : (contract : Span) (front back : List Spanned) (from : ℕ) (es : List Executed)
    → AreOwnFrom contract front from es → AreOwnFrom contract (front ++ back) from es
own_in_front contract front back from [] all = tt
own_in_front contract front back from (e ∷ es) all = (
  record { index = all.0.index; at = all.0.at; stands = stands_in_front contract front back all.0.index all.0.stands },
  own_in_front contract front back from es all.1,
)

-- those of two numbers
pub own_at_either : (contract : Span) (rows : List Spanned) (from i j : ℕ) (es : List Executed) → StandsAt contract rows i
    → StandsAt contract rows j → AreAt (from + i) (from + j) es → AreOwnFrom contract rows from es
own_at_either contract rows from i j [] first second all = tt
own_at_either contract rows from i j (e ∷ es) first second all =
    (by_number all.0, own_at_either contract rows from i j es first second all.1)
  where
    by_number : (e.at ≡ from + i) ⊎ (e.at ≡ from + j) → IsOwnFrom contract rows from e
    by_number (inl is) = record { index = i; at = is; stands = first }
    by_number (inr is) = record { index = j; at = is; stands = second }

-- those of one number
pub own_at_each : (contract : Span) (rows : List Spanned) (from i : ℕ) (es : List Executed) → StandsAt contract rows i
    → AllByRecursion (λ e. e.at ≡ from + i) es → AreOwnFrom contract rows from es
own_at_each contract rows from i [] stands all = tt
own_at_each contract rows from i (e ∷ es) stands all =
    (record { index = i; at = all.0; stands = stands }, own_at_each contract rows from i es stands all.1)

-- ---- the whole

-- The executed instructions are some of the selector's, the last of which leaves a stack of this height, then those of the
-- function, and then some of the selector's.
pub record Executes (contract : Span) (rows : List Spanned) (from before height : ℕ) (alone all : List Executed) : Type 0 where
  pub front : List Executed
  pub last : Executed
  pub after : List Executed
  pub are : all ≡ front ++ (last ∷ (all_executed_behind (from + before) alone ++ after))
  pub at : last.at + 1 ≡ from + before
  pub leaves : last.height ≡ height
  pub own : AreOwnFrom contract rows from (front ++ last ∷ after)
