-- Reading of contracts, over the reading of statements.
use Rattle.std.specs.Prelude.{ℕ, ◌==◌, List, [], ◌∷◌, length, Option, Some, None, codes, if◌then◌else◌}
use Rattle.cash_base.specs.declared.place.Span.{Span}
use Rattle.cash_tree.specs.declared.Param.{Param}
use Rattle.cash_tree.specs.declared.Constraint.{Constraint}
use Rattle.cash_symbols.specs.Words.{is_constraint_sign}
use Rattle.cash_symbols.specs.Lexemes.{Lexeme, Symbol, Version}
use Rattle.cash_symbols.specs.Fixpoint.{◌>>=◌, ReaderOf, fixed}
use Rattle.cash_symbols.specs.Front.{name_of, mark_value, eaten, taken, type_value}
use Rattle.cash_statements.specs.Statements.{param_of}
use Rattle.cash_statements.specs.StatementReading.{run, statement_reading}
use Rattle.cash_parser.specs.Files.{Tree, FunctionTree, bare_constraint, signed_constraint, function_of, contract_of, with_pragma}

pub data Goal : Type 0 where
  -- parameters up to the closing bracket, which is read too
  params : Goal
  -- functions up to the closing brace, which is read too
  functions : Goal
  -- pragmas and the contract
  file : Goal

abbrev pub Value : Goal → Type 0
Value params = List (Param Span) × Span
Value functions = List FunctionTree × Span
Value file = Tree

abbrev pub Reader : Type 0
Reader = ReaderOf Goal Value

-- ---- constraints

abbrev pub version_value : Symbol → Option (Unit {0})
version_value Version = Some tt
version_value _ = None

abbrev pub sign_value : List ℕ → Option (List ℕ)
sign_value text = if is_constraint_sign text then Some text else None

abbrev pub constraint_step : List Lexeme → Option ((List ℕ × Span) × List Lexeme) → Option (Constraint × List Lexeme)
constraint_step ts (Some s) = do
  v ← taken version_value s.1
  Some (signed_constraint s.0.1 v.0.1, v.1)
constraint_step ts None = do
  v ← taken version_value ts
  Some (bare_constraint v.0.1, v.1)

abbrev pub constraint_at : List Lexeme → Option (Constraint × List Lexeme)
constraint_at ts = constraint_step ts (taken (mark_value sign_value) ts)

abbrev pub second_step : Constraint → List Lexeme → Option (Span × List Lexeme) → Option (List Constraint × List Lexeme)
second_step first ts (Some z) = Some (first ∷ [], z.1)
second_step first ts None = do
  second ← constraint_at ts
  z ← eaten (codes ";") second.1
  Some (first ∷ second.0 ∷ [], z.1)

-- after the word `pragma`
unfoldable pub pragma_at : List Lexeme → Option (List Constraint × List Lexeme)
pragma_at ts = do
  w ← eaten (codes "cashscript") ts
  first ← constraint_at w.1
  second_step first.0 first.1 (eaten (codes ";") first.1)

-- these constraints in front of those that are read
abbrev pub with_pragmas : List Constraint → Option (Tree × List Lexeme) → Option (Tree × List Lexeme)
with_pragmas front read = read >>= λ x. Some (with_pragma front x.0, x.1)

-- ---- one step

abbrev pub param_at : List Lexeme → Option (Param Span × List Lexeme)
param_at ts = do
  ty ← taken type_value ts
  n ← taken name_of ty.1
  Some (param_of ty.0.0 n.0.1, n.1)

abbrev pub last_step : Param Span → Option (Span × List Lexeme) → Option ((List (Param Span) × Span) × List Lexeme)
last_step p (Some c) = Some ((p ∷ [], c.0), c.1)
last_step p None = None

abbrev pub comma_step : Reader → Param Span → List Lexeme → Option (Span × List Lexeme)
    → Option ((List (Param Span) × Span) × List Lexeme)
comma_step read p ts (Some m) = do
  others ← read params m.1
  Some ((p ∷ others.0.0, others.0.1), others.1)
comma_step read p ts None = last_step p (eaten (codes ")") ts)

abbrev pub params_step : Reader → List Lexeme → Option (Span × List Lexeme)
    → Option ((List (Param Span) × Span) × List Lexeme)
params_step read ts (Some c) = Some (([], c.0), c.1)
params_step read ts None = do
  p ← param_at ts
  comma_step read p.0 p.1 (eaten (codes ",") p.1)

-- a name and the parameters after it
abbrev pub head_at : Reader → List Lexeme → Option ((Span × List (Param Span)) × List Lexeme)
head_at read ts = do
  n ← taken name_of ts
  o ← eaten (codes "(") n.1
  ps ← read params o.1
  Some ((n.0.1, ps.0.0), ps.1)

abbrev pub function_at : Reader → List Lexeme → Option (FunctionTree × List Lexeme)
function_at read ts = do
  f ← eaten (codes "function") ts
  h ← head_at read f.1
  b ← eaten (codes "{") h.1
  ss ← statement_reading run b.1
  Some (function_of f.0 h.0.0 h.0.1 ss.0.0 ss.0.1, ss.1)

abbrev pub functions_step : Reader → List Lexeme → Option (Span × List Lexeme)
    → Option ((List FunctionTree × Span) × List Lexeme)
functions_step read ts (Some c) = Some (([], c.0), c.1)
functions_step read ts None = do
  f ← function_at read ts
  others ← read functions f.1
  Some ((f.0 ∷ others.0.0, others.0.1), others.1)

abbrev pub contract_at : Reader → List Lexeme → Option (Tree × List Lexeme)
contract_at read ts = do
  k ← eaten (codes "contract") ts
  h ← head_at read k.1
  b ← eaten (codes "{") h.1
  fs ← read functions b.1
  Some (contract_of k.0 h.0.0 h.0.1 fs.0.0 fs.0.1, fs.1)

abbrev pub file_step : Reader → List Lexeme → Option (Span × List Lexeme) → Option (Tree × List Lexeme)
file_step read ts (Some p) = do
  constraints ← pragma_at p.1
  tree ← read file constraints.1
  Some (with_pragma constraints.0 tree.0, tree.1)
file_step read ts None = contract_at read ts

abbrev pub step : Reader → (g : Goal) → List Lexeme → Option (Value g × List Lexeme)
step read params ts = params_step read ts (eaten (codes ")") ts)
step read functions ts = functions_step read ts (eaten (codes "}") ts)
step read file ts = file_step read ts (eaten (codes "pragma") ts)

abbrev pub weight : Goal → List Lexeme → ℕ
weight g ts = length ts

unfoldable pub file_reading : Reader
file_reading = fixed Goal Value step weight

-- all of the lexemes
unfoldable pub tree_of : List Lexeme → Option Tree
tree_of ts = do
  tree ← file_reading file ts
  if length tree.1 == 0 then Some tree.0 else None
