-- Statements that were read before, and those that are still read.
use Rattle.std.proofs.Common.{◌≡◌, List, [], ◌∷◌, ◌++◌, Option, Some, None, refl, sym, ap, append_assoc, codes}
use Rattle.std.proofs.lemmas.List.{append-nil}
use Rattle.cash_base.specs.declared.place.Span.{Span}
use Rattle.cash_symbols.specs.Lexemes.{Lexeme}
use Rattle.cash_symbols.specs.Fixpoint.{◌>>=◌}
use Rattle.cash_symbols.specs.Front.{eaten}
use Rattle.cash_statements.specs.Statements.{Statement}
use Rattle.cash_statements.specs.StatementReading.{statement, run, statement_reading}
use Rattle.cash_statements.proofs.StatementSound.{statement_unrolled}

abbrev pub with_front : List Statement → Option ((List Statement × Span) × List Lexeme)
    → Option ((List Statement × Span) × List Lexeme)
with_front front read = read >>= λ x. Some ((front ++ x.0.0, x.0.1), x.1)

front-one : (front : List Statement) (s : Statement) (read : Option ((List Statement × Span) × List Lexeme))
    → with_front front (read >>= λ x. Some ((s ∷ x.0.0, x.0.1), x.1)) ≡ with_front (front ++ s ∷ []) read
front-one front s None = refl
front-one front s (Some x) =
    ap (λ (ss : List Statement). Some ((ss, x.0.1), x.1)) (sym (append_assoc front (s ∷ []) x.0.0))

pub no_more : (front : List Statement) (ts : List Lexeme) (c : Span × List Lexeme) → eaten (codes "}") ts ≡ Some c
    → with_front front (statement_reading run ts) ≡ Some ((front, c.0), c.1)
no_more front ts c at =
    rw (statement_unrolled run ts, at) (ap (λ (ss : List Statement). Some ((ss, c.0), c.1)) (append-nil front))

pub one_more : (front : List Statement) (ts : List Lexeme) (s : Statement × List Lexeme) → eaten (codes "}") ts ≡ None
    → statement_reading statement ts ≡ Some s
    → with_front front (statement_reading run ts) ≡ with_front (front ++ s.0 ∷ []) (statement_reading run s.1)
one_more front ts s no_close read =
    rw (statement_unrolled run ts, no_close, read) (front-one front s.0 (statement_reading run s.1))
