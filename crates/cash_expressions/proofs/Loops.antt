-- One step of reading, in the form that the goals of the code have.
use Rattle.std.proofs.Common.{◌≡◌, ℕ, zero, suc, ◌-◌, ◌<◌, List, [], ◌∷◌, ◌++◌, Option, Some, None, refl, sym, ap, append_assoc, arith, codes}
use Rattle.std.proofs.lemmas.List.{append-nil}
use Rattle.cash_base.specs.declared.place.Span.{Span}
use Rattle.cash_symbols.specs.Lexemes.{Lexeme}
use Rattle.cash_symbols.specs.Fixpoint.{◌>>=◌}
use Rattle.cash_expressions.specs.Grammar.{Expression, level}
use Rattle.cash_expressions.specs.Reading.{whole_part, part, operators, items, operators_step, reading}
use Rattle.cash_symbols.specs.Front.{eaten, operator_at}
use Rattle.cash_expressions.proofs.Unrolled.{unrolled}

-- ---- a level above the tightest

pub level_read : (n : ℕ) (ts : List Lexeme) → 0 < n
    → reading (part (level n)) ts ≡
    (reading (part (level (n - 1))) ts >>= λ left. reading (operators (n - 1) left.0) left.1)
level_read zero ts lt = absurd (omega arith)
level_read (suc k) ts lt = let e : suc k - 1 ≡ k = omega arith in rw e (unrolled (part (level (suc k))) ts)

pub operators_read : (n : ℕ) (left : Expression) (ts : List Lexeme) → 0 < n
    → reading (operators (n - 1) left) ts ≡ operators_step reading (n - 1) left ts (operator_at n ts)
operators_read zero left ts lt = absurd (omega arith)
operators_read (suc k) left ts lt = let e : suc k - 1 ≡ k = omega arith in rw e (unrolled (operators k left) ts)

-- ---- items: what was read before, and what is still read

abbrev pub with_front : List Expression → Option ((List Expression × Span) × List Lexeme)
    → Option ((List Expression × Span) × List Lexeme)
with_front front read = read >>= λ x. Some ((front ++ x.0.0, x.0.1), x.1)

front-one : (front : List Expression) (e : Expression) (read : Option ((List Expression × Span) × List Lexeme))
    → with_front front (read >>= λ x. Some ((e ∷ x.0.0, x.0.1), x.1)) ≡ with_front (front ++ e ∷ []) read
front-one front e None = refl
front-one front e (Some x) =
    ap (λ (es : List Expression). Some ((es, x.0.1), x.1)) (sym (append_assoc front (e ∷ []) x.0.0))

pub no_more : (front : List Expression) (close : List ℕ) (ts : List Lexeme) (c : Span × List Lexeme)
    → eaten close ts ≡ Some c → with_front front (reading (items close) ts) ≡ Some ((front, c.0), c.1)
no_more front close ts c at =
    rw (unrolled (items close) ts, at) (ap (λ (es : List Expression). Some ((es, c.0), c.1)) (append-nil front))

pub one_more : (front : List Expression) (close : List ℕ) (ts : List Lexeme) (e : Expression × List Lexeme)
    (comma : Span × List Lexeme) → eaten close ts ≡ None
    → reading whole_part ts ≡ Some e → eaten (codes ",") e.1 ≡ Some comma
    → with_front front (reading (items close) ts) ≡ with_front (front ++ e.0 ∷ []) (reading (items close) comma.1)
one_more front close ts e comma no_close read at =
    rw (unrolled (items close) ts, no_close, read, at) (front-one front e.0 (reading (items close) comma.1))
