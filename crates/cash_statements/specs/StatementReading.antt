-- Reading of statements, over the reading of expressions.
use Rattle.std.specs.Prelude.{ℕ, ◌+◌, ◌*◌, Bool, true, false, List, [], ◌∷◌, length, Option, Some, None, codes, if◌then◌else◌}
use Rattle.cash_base.specs.declared.place.Span.{Span}
use Rattle.cash_tree.specs.declared.Ty.{Ty}
use Rattle.cash_symbols.specs.Lexemes.{Lexeme}
use Rattle.cash_symbols.specs.Fixpoint.{◌>>=◌, ReaderOf, fixed}
use Rattle.cash_expressions.specs.Grammar.{Expression}
use Rattle.cash_symbols.specs.Front.{across, name_of, name_value, is_mark, eaten, taken, type_value, this_text}
use Rattle.cash_expressions.specs.Reading.{whole_part, reading}
use Rattle.cash_statements.specs.Statements.{Statement, Body, param_of, define_of, pair_of, assign_of, time_of, age_of, require_of, if_of, if_else_of}

pub data Goal : Type 0 where
  statement : Goal
  block : Goal
  -- statements up to the closing brace, which is read too
  run : Goal

abbrev pub Value : Goal → Type 0
Value statement = Statement
Value block = Body
Value run = List Statement × Span

abbrev pub Reader : Type 0
Reader = ReaderOf Goal Value

-- ---- statements without an `if`

-- whether the word `constant` stands in front, and the lexemes after all such words
abbrev pub constants_at : List Lexeme → Bool × List Lexeme
constants_at [] = (false, [])
constants_at (t ∷ rest) = if is_mark (codes "constant") t.symbol then (true, (constants_at rest).1) else (
  false,
  t ∷
      rest,
)

-- an expression and `;`
abbrev pub value_at : List Lexeme → Option ((Expression × Span) × List Lexeme)
value_at ts = do
  e ← reading whole_part ts
  c ← eaten (codes ";") e.1
  Some ((e.0, c.0), c.1)

-- an expression, `)` and `;`
abbrev pub test_at : List Lexeme → Option ((Expression × Span) × List Lexeme)
test_at ts = do
  e ← reading whole_part ts
  c ← eaten (codes ")") e.1
  z ← eaten (codes ";") c.1
  Some ((e.0, z.0), z.1)

-- the lexemes after a word, a dot and a name
abbrev pub clock_at : List ℕ → List ℕ → List Lexeme → Option (Unit {0} × List Lexeme)
clock_at word field ts = do
  x ← eaten word ts
  d ← eaten (codes ".") x.1
  w ← taken (name_value (this_text field)) d.1
  Some (tt, w.1)

abbrev pub age_step : Span → List Lexeme → Option (Unit {0} × List Lexeme) → Option (Statement × List Lexeme)
age_step r ts (Some after) = do
  g ← eaten (codes ">=") after.1
  e ← test_at g.1
  Some (age_of r e.0.0 e.0.1, e.1)
age_step r ts None = do
  e ← test_at ts
  Some (require_of r e.0.0 e.0.1, e.1)

abbrev pub time_step : Span → List Lexeme → Option (Unit {0} × List Lexeme) → Option (Statement × List Lexeme)
time_step r ts (Some after) = do
  g ← eaten (codes ">=") after.1
  e ← test_at g.1
  Some (time_of r e.0.0 e.0.1, e.1)
time_step r ts None = age_step r ts (clock_at (codes "this") (codes "age") ts)

-- after a type and its name, where a comma follows
abbrev pub pair_at : Span → Ty → Span → List Lexeme → Option (Statement × List Lexeme)
pair_at s ty p ts = do
  ty' ← taken type_value ts
  n ← taken name_of ty'.1
  q ← eaten (codes "=") n.1
  e ← value_at q.1
  Some (pair_of s (param_of ty p) (param_of ty'.0.0 n.0.1) e.0.0 e.0.1, e.1)

-- a pair has no `constant`
abbrev pub second_step : Span → Ty → Bool → Span → List Lexeme → Option (Statement × List Lexeme)
second_step s ty true p ts = None
second_step s ty false p ts = pair_at s ty p ts

abbrev pub comma_step : Span → Ty → Bool → Span → List Lexeme → Option (Span × List Lexeme)
    → Option (Statement × List Lexeme)
comma_step s ty is_constant p ts (Some m) = second_step s ty is_constant p m.1
comma_step s ty is_constant p ts None = do
  q ← eaten (codes "=") ts
  e ← value_at q.1
  Some (define_of s ty is_constant p e.0.0 e.0.1, e.1)

abbrev pub defined_at : Span → Ty → Bool × List Lexeme → Option (Statement × List Lexeme)
defined_at s ty constants = do
  n ← taken name_of constants.1
  comma_step s ty constants.0 n.0.1 n.1 (eaten (codes ",") n.1)

abbrev pub typed_step : List Lexeme → Option ((Ty × Span) × List Lexeme) → Option (Statement × List Lexeme)
typed_step ts (Some ty) = defined_at ty.0.1 ty.0.0 (constants_at ty.1)
typed_step ts None = do
  n ← taken name_of ts
  q ← eaten (codes "=") n.1
  e ← value_at q.1
  Some (assign_of n.0.1 e.0.0 e.0.1, e.1)

abbrev pub require_step : List Lexeme → Option (Span × List Lexeme) → Option (Statement × List Lexeme)
require_step ts (Some r) = do
  o ← eaten (codes "(") r.1
  time_step r.0 o.1 (clock_at (codes "tx") (codes "time") o.1)
require_step ts None = typed_step ts (taken type_value ts)

unfoldable pub simple_at : List Lexeme → Option (Statement × List Lexeme)
simple_at ts = require_step ts (eaten (codes "require") ts)

-- ---- one step

abbrev pub else_step : Reader → Span → Expression → Body → List Lexeme → Option (Span × List Lexeme)
    → Option (Statement × List Lexeme)
else_step read i e body ts (Some l) = do
  other ← read block l.1
  Some (if_else_of i e body other.0, other.1)
else_step read i e body ts None = Some (if_of i e body, ts)

abbrev pub statement_step : Reader → List Lexeme → Option (Span × List Lexeme) → Option (Statement × List Lexeme)
statement_step read ts (Some i) = do
  o ← eaten (codes "(") i.1
  e ← reading whole_part o.1
  c ← eaten (codes ")") e.1
  body ← read block c.1
  else_step read i.0 e.0 body.0 body.1 (eaten (codes "else") body.1)
statement_step read ts None = simple_at ts

abbrev pub block_step : Reader → List Lexeme → Option (Span × List Lexeme) → Option (Body × List Lexeme)
block_step read ts (Some o) = do
  r ← read run o.1
  Some ((r.0.0, across o.0 r.0.1), r.1)
block_step read ts None = do
  s ← read statement ts
  Some ((s.0 ∷ [], s.0.span), s.1)

abbrev pub run_step : Reader → List Lexeme → Option (Span × List Lexeme)
    → Option ((List Statement × Span) × List Lexeme)
run_step read ts (Some c) = Some (([], c.0), c.1)
run_step read ts None = do
  s ← read statement ts
  others ← read run s.1
  Some ((s.0 ∷ others.0.0, others.0.1), others.1)

abbrev pub step : Reader → (g : Goal) → List Lexeme → Option (Value g × List Lexeme)
step read statement ts = statement_step read ts (eaten (codes "if") ts)
step read block ts = block_step read ts (eaten (codes "{") ts)
step read run ts = run_step read ts (eaten (codes "}") ts)

abbrev pub rank : Goal → ℕ
rank statement = 0
rank block = 1
rank run = 1

abbrev pub weight : Goal → List Lexeme → ℕ
weight g ts = 2 * length ts + rank g

unfoldable pub statement_reading : Reader
statement_reading = fixed Goal Value step weight
