-- A reader as the fixed point of one step.
use Rattle.std.specs.Prelude.{ℕ, zero, suc, List, Option, Some, None}
use Rattle.cash_symbols.specs.Lexemes.{Lexeme}

infixl 10 ◌>>=◌
abbrev pub ◌>>=◌ : {A B : Type 0} → Option A → (A → Option B) → Option B
None >>= f = None
(Some x) >>= f = f x

-- A reader of the goals G gives a value and the lexemes after it, or nothing.
abbrev pub ReaderOf : (G : Type 0) → (G → Type 0) → Type 0
ReaderOf G V = (g : G) → List Lexeme → Option (V g × List Lexeme)

-- at most n steps deep
unfoldable pub within : (G : Type 0) (V : G → Type 0) → (ReaderOf G V → ReaderOf G V) → ℕ → ReaderOf G V
within G V step zero g ts = None
within G V step (suc n) g ts = step (within G V step n) g ts

-- as deep as it weighs
unfoldable pub fixed : (G : Type 0) (V : G → Type 0) → (ReaderOf G V → ReaderOf G V) → (G → List Lexeme → ℕ)
    → ReaderOf G V
fixed G V step weight g ts = within G V step (suc (weight g ts)) g ts
