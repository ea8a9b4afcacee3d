-- What was read before, and what is still read, of parameters, functions and pragmas.
use Rattle.std.proofs.Common.{◌≡◌, List, [], ◌∷◌, ◌++◌, Option, Some, None, refl, sym, ap, append_assoc, codes}
use Rattle.std.proofs.lemmas.List.{append-nil}
use Rattle.cash_base.specs.declared.place.Span.{Span}
use Rattle.cash_tree.specs.declared.Param.{Param}
use Rattle.cash_tree.specs.declared.Constraint.{Constraint}
use Rattle.cash_symbols.specs.Lexemes.{Lexeme}
use Rattle.cash_symbols.specs.Fixpoint.{◌>>=◌}
use Rattle.cash_symbols.specs.Front.{eaten}
use Rattle.cash_parser.specs.Files.{Tree, FunctionTree}
use Rattle.cash_parser.specs.FileReading.{params, functions, file, param_at, function_at, contract_at, pragma_at, with_pragmas, file_reading}
use Rattle.cash_parser.proofs.FileSound.{file_unrolled}

abbrev pub with_front : {A : Type 0} → List A → Option ((List A × Span) × List Lexeme)
    → Option ((List A × Span) × List Lexeme)
with_front front read = read >>= λ x. Some ((front ++ x.0.0, x.0.1), x.1)

front-one : {A : Type 0} (front : List A) (e : A) (read : Option ((List A × Span) × List Lexeme))
    → with_front front (read >>= λ x. Some ((e ∷ x.0.0, x.0.1), x.1)) ≡ with_front (front ++ e ∷ []) read
front-one front e None = refl
front-one {A = A} front e (Some x) =
    ap (λ (es : List A). Some ((es, x.0.1), x.1)) (sym (append_assoc front (e ∷ []) x.0.0))

pub no_more_params : (front : List (Param Span)) (ts : List Lexeme) (c : Span × List Lexeme)
    → eaten (codes ")") ts ≡ Some c → with_front front (file_reading params ts) ≡ Some ((front, c.0), c.1)
no_more_params front ts c at =
    rw (file_unrolled params ts, at) (ap (λ (es : List (Param Span)). Some ((es, c.0), c.1)) (append-nil front))

pub one_more_param : (front : List (Param Span)) (ts : List Lexeme) (p : Param Span × List Lexeme)
    (comma : Span × List Lexeme) → eaten (codes ")") ts ≡ None
    → param_at ts ≡ Some p → eaten (codes ",") p.1 ≡ Some comma
    → with_front front (file_reading params ts) ≡ with_front (front ++ p.0 ∷ []) (file_reading params comma.1)
one_more_param front ts p comma no_close read at =
    rw (file_unrolled params ts, no_close, read, at) (front-one front p.0 (file_reading params comma.1))

pub no_more_functions : (front : List FunctionTree) (ts : List Lexeme) (c : Span × List Lexeme)
    → eaten (codes "}") ts ≡ Some c → with_front front (file_reading functions ts) ≡ Some ((front, c.0), c.1)
no_more_functions front ts c at =
    rw (file_unrolled functions ts, at) (ap (λ (es : List FunctionTree). Some ((es, c.0), c.1)) (append-nil front))

pub one_more_function : (front : List FunctionTree) (ts : List Lexeme) (f : FunctionTree × List Lexeme)
    → eaten (codes "}") ts ≡ None
    → function_at file_reading ts ≡ Some f
    → with_front front (file_reading functions ts) ≡ with_front (front ++ f.0 ∷ []) (file_reading functions f.1)
one_more_function front ts f no_close read =
    rw (file_unrolled functions ts, no_close, read) (front-one front f.0 (file_reading functions f.1))

-- ---- pragmas

pragmas-one : (front more : List Constraint) (read : Option (Tree × List Lexeme))
    → with_pragmas front (with_pragmas more read) ≡ with_pragmas (front ++ more) read
pragmas-one front more None = refl
pragmas-one front more (Some x) =
    ap (λ (cs : List Constraint). Some
    (record { name = x.0.name; span = x.0.span; pragmas = cs; params = x.0.params; functions = x.0.functions }, x.1))
    (sym (append_assoc front more x.0.pragmas))

pub one_more_pragma : (front : List Constraint) (ts : List Lexeme) (p : Span × List Lexeme)
    (more : List Constraint × List Lexeme) → eaten (codes "pragma") ts ≡ Some p
    → pragma_at p.1 ≡ Some more
    → with_pragmas front (file_reading file ts) ≡ with_pragmas (front ++ more.0) (file_reading file more.1)
one_more_pragma front ts p more at read =
    rw (file_unrolled file ts, at, read) (pragmas-one front more.0 (file_reading file more.1))

pub no_more_pragmas : (front : List Constraint) (ts : List Lexeme) → eaten (codes "pragma") ts ≡ None
    → with_pragmas front (file_reading file ts) ≡ with_pragmas front (contract_at file_reading ts)
no_more_pragmas front ts at = rw (file_unrolled file ts, at) refl

pub no_pragmas : (read : Option (Tree × List Lexeme)) → with_pragmas [] read ≡ read
no_pragmas None = refl
no_pragmas (Some x) = refl
