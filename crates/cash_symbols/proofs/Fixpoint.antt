-- The fixed point of a step: what each step keeps holds of it, and it is one step of itself.
use Rattle.std.proofs.Common.{◌≡◌, ℕ, zero, suc, ◌<◌, List, Some, arith}
use Rattle.cash_symbols.specs.Lexemes.{Lexeme}
use Rattle.cash_symbols.specs.Fixpoint.{ReaderOf, within, fixed}

-- all that a reader gives is good
abbrev pub Gives-good : (G : Type 0) (V : G → Type 0) → ((g : G) → List Lexeme → V g × List Lexeme → Type 0)
    → ReaderOf G V → Type 0
Gives-good G V Good read = (g : G) (ts : List Lexeme) (x : V g × List Lexeme) → read g ts ≡ Some x → Good g ts x

-- two readers agree on what weighs less
abbrev pub Agree-below : (G : Type 0) (V : G → Type 0) → (G → List Lexeme → ℕ) → ReaderOf G V → ReaderOf G V → ℕ
    → Type 0
Agree-below G V weight f h w = (g : G) (ts : List Lexeme) → weight g ts < w → f g ts ≡ h g ts

module _ (G : Type 0) (V : G → Type 0) (step : ReaderOf G V → ReaderOf G V) (weight : G → List Lexeme → ℕ)
    (Good : (g : G) → List Lexeme → V g × List Lexeme → Type 0)
    (step_good : (read : ReaderOf G V) → Gives-good G V Good read → Gives-good G V Good (step read))
    (step_same : (f h : ReaderOf G V) → Gives-good G V Good f → (g : G) (ts : List Lexeme)
    → Agree-below G V weight f h (weight g ts) → step f g ts ≡ step h g ts) where
  within_good : (n : ℕ) → Gives-good G V Good (within G V step n)
  unfolding within
  within_good zero g ts x e = absurd cc
  within_good (suc n) g ts x e = step_good (within G V step n) (within_good n) g ts x e

  pub fixed_good : Gives-good G V Good (fixed G V step weight)
  unfolding fixed
  fixed_good g ts x e = within_good _ g ts x e

  enough : (n m : ℕ) (g : G) (ts : List Lexeme) → weight g ts < n → weight g ts < m
      → within G V step n g ts ≡ within G V step m g ts
  unfolding within
  enough zero m g ts lt lt' = absurd (omega arith)
  enough (suc n) zero g ts lt lt' = absurd (omega arith)
  enough (suc n) (suc m) g ts lt lt' =
      step_same (within G V step n) (within G V step m) (within_good n) g ts
      (λ g' us less. enough n m g' us (omega arith) (omega arith))

  pub fixed_unrolled : (g : G) (ts : List Lexeme) → fixed G V step weight g ts ≡ step (fixed G V step weight) g ts
  unfolding fixed within
  fixed_unrolled g ts =
      step_same (within G V step (weight g ts)) (fixed G V step weight) (within_good (weight g ts)) g ts
      (λ g' us less. enough (weight g ts) (suc (weight g' us)) g' us less (omega arith))
