-- Reading from left to right: one step for each part, and its fixed point.
use Rattle.std.specs.Prelude.{ℕ, zero, suc, ◌+◌, ◌*◌, true, false, List, [], ◌∷◌, length, Option, Some, None, codes}
use Rattle.cash_base.specs.declared.place.Span.{Span}
use Rattle.cash_tree.specs.declared.Ty.{Ty}
use Rattle.cash_tree.specs.declared.UnaryOp.{UnaryOp}
use Rattle.cash_tree.specs.declared.BinaryOp.{BinaryOp}
use Rattle.cash_tree.specs.declared.ExprKind.TheVariants as nodes
use Rattle.cash_symbols.specs.declared.words.Property.{Property}
use Rattle.cash_symbols.specs.declared.words.Property.TheVariants as properties
use Rattle.cash_symbols.specs.declared.words.Side.{Side}
use Rattle.cash_symbols.specs.declared.words.Suffix.{Suffix}
use Rattle.cash_symbols.specs.declared.words.Suffix.TheVariants as suffixes
use Rattle.cash_symbols.specs.Words.{loosest, unit_of, suffix_of, property_of, active_of, count_of, member_of}
use Rattle.cash_symbols.specs.Lexemes.{Lexeme, Symbol, Hex, Text, Date}
use Rattle.cash_symbols.specs.Fixpoint.{◌>>=◌, ReaderOf, fixed}
use Rattle.cash_expressions.specs.Grammar.{Expression, expr, binary_of, unary_of, length_of, reverse_of, split_of, index_of, bracketed, call_of, new_of, array_of, cast_to, look_of, look_at_of, number_of, Part, primary, postfix, unary, level}
use Rattle.cash_symbols.specs.Front.{across, name_of, name_value, signs, first, eaten, taken, type_value, number_value, this_text, operator_at}

-- what is read
pub data Goal : Type 0 where
  part : Part → Goal
  -- ... after the expression: operators of the level above this one
  operators : ℕ → Expression → Goal
  -- ... after the expression: what may be added to it
  suffixes_of : Expression → Goal
  -- up to this closing sign, which is read too
  items : List ℕ → Goal

-- the value of what is read
abbrev pub Value : Goal → Type 0
Value (part p) = Expression
Value (operators k e) = Expression
Value (suffixes_of e) = Expression
Value (items close) = List Expression × Span

abbrev pub Reader : Type 0
Reader = ReaderOf Goal Value

-- an expression
abbrev pub whole_part : Goal
whole_part = part (level loosest)

-- ---- one step: what is read of a part, where `read` reads the parts in it

-- as long as operators of the level follow
abbrev pub operators_step : Reader → ℕ → Expression → List Lexeme → Option (BinaryOp × List Lexeme)
    → Option (Expression × List Lexeme)
operators_step read k left ts None = Some (left, ts)
operators_step read k left ts (Some o) = do
  right ← read (part (level k)) o.1
  read (operators k (binary_of o.0 left right.0)) right.1

abbrev pub sign_step : Reader → List Lexeme → Option ((UnaryOp × Span) × List Lexeme)
    → Option (Expression × List Lexeme)
sign_step read ts (Some o) = do
  e ← read (part unary) o.1
  Some (unary_of o.0.0 o.0.1 e.0, e.1)
sign_step read ts None = read (part postfix) ts

-- after an expression, a dot and a word
abbrev pub word_step : Reader → Expression → Suffix → Span → List Lexeme → Option (Expression × List Lexeme)
word_step read e suffixes.Length s ts = read (suffixes_of (length_of e s)) ts
word_step read e suffixes.Reverse s ts = do
  o ← eaten (codes "(") ts
  c ← eaten (codes ")") o.1
  read (suffixes_of (reverse_of e c.0)) c.1
word_step read e suffixes.Split s ts = do
  o ← eaten (codes "(") ts
  at ← read whole_part o.1
  c ← eaten (codes ")") at.1
  read (suffixes_of (split_of e at.0 c.0)) c.1

abbrev pub index_step : Reader → Expression → List Lexeme → Option (Span × List Lexeme)
    → Option (Expression × List Lexeme)
index_step read e ts (Some o) = do
  n ← taken number_value o.1
  c ← eaten (codes "]") n.1
  read (suffixes_of (index_of e n.0.0 c.0)) c.1
index_step read e ts None = Some (e, ts)

abbrev pub suffix_step : Reader → Expression → List Lexeme → Option (Span × List Lexeme)
    → Option (Expression × List Lexeme)
suffix_step read e ts (Some d) = do
  w ← taken (name_value suffix_of) d.1
  word_step read e w.0.0 w.0.1 w.1
suffix_step read e ts None = index_step read e ts (eaten (codes "[") ts)

abbrev pub unit_step : ℕ → Span → List Lexeme → Option ((ℕ × Span) × List Lexeme) → Option (Expression × List Lexeme)
unit_step n s ts (Some u) = Some (number_of n u.0.0 (across s u.0.1), u.1)
unit_step n s ts None = Some (number_of n 1 s, ts)

abbrev pub value_of : Span → List Lexeme → Symbol → Option (Expression × List Lexeme)
value_of s rest (Hex (Some bytes)) = Some (expr (nodes.Hex bytes) s, rest)
value_of s rest (Text bytes) = Some (expr (nodes.Text bytes) s, rest)
value_of s rest (Date seconds) = Some (expr (nodes.Date seconds) s, rest)
value_of s rest _ = None

abbrev pub value_step : Option (Lexeme × List Lexeme) → Option (Expression × List Lexeme)
value_step None = None
value_step (Some t) = value_of t.0.span t.1 t.0.symbol

abbrev pub number_step : List Lexeme → Option ((ℕ × Span) × List Lexeme) → Option (Expression × List Lexeme)
number_step ts (Some n) = unit_step n.0.0 n.0.1 n.1 (taken (name_value unit_of) n.1)
number_step ts None = value_step (first ts)

abbrev pub false_step : List Lexeme → Option (Span × List Lexeme) → Option (Expression × List Lexeme)
false_step ts (Some s) = Some (expr (nodes.Bool false) s.0, s.1)
false_step ts None = number_step ts (taken number_value ts)

abbrev pub true_step : List Lexeme → Option (Span × List Lexeme) → Option (Expression × List Lexeme)
true_step ts (Some s) = Some (expr (nodes.Bool true) s.0, s.1)
true_step ts None = false_step ts (eaten (codes "false") ts)

abbrev pub literal_at : List Lexeme → Option (Expression × List Lexeme)
literal_at ts = true_step ts (eaten (codes "true") ts)

-- a call where a bracket follows, or else a name
abbrev pub call_step : Reader → List ℕ → Span → List Lexeme → Option (Span × List Lexeme)
    → Option (Expression × List Lexeme)
call_step read word s ts (Some o) = do
  args ← read (items (codes ")")) o.1
  Some (call_of word s args.0.0 args.0.1, args.1)
call_step read word s ts None = Some (expr (nodes.Name s) s, ts)

abbrev pub name_step : Reader → List Lexeme → Option ((List ℕ × Span) × List Lexeme) → Option (Expression × List Lexeme)
name_step read ts (Some w) = call_step read w.0.0 w.0.1 w.1 (eaten (codes "(") w.1)
name_step read ts None = literal_at ts

-- a cast has one or two expressions
abbrev pub cast_of : Ty → Span → List Expression → Span → Option Expression
cast_of ty s [] c = None
cast_of ty s (e ∷ []) c = Some (cast_to ty s e None c)
cast_of ty s (e ∷ size ∷ []) c = Some (cast_to ty s e (Some size) c)
cast_of ty s (e ∷ size ∷ more ∷ others) c = None

abbrev pub cast_step : Reader → List Lexeme → Option ((Ty × Span) × List Lexeme) → Option (Expression × List Lexeme)
cast_step read ts (Some ty) = do
  o ← eaten (codes "(") ty.1
  args ← read (items (codes ")")) o.1
  e ← cast_of ty.0.0 ty.0.1 args.0.0 args.0.1
  Some (e, args.1)
cast_step read ts None = name_step read ts (taken name_of ts)

abbrev pub this_step : Reader → List Lexeme → Option (Span × List Lexeme) → Option (Expression × List Lexeme)
this_step read ts (Some x) = do
  d ← eaten (codes ".") x.1
  w ← taken (name_value active_of) d.1
  Some (look_of x.0 w.0.0 w.0.1, w.1)
this_step read ts None = cast_step read ts (taken type_value ts)

-- an input, or an output, where a bracket follows, or else how many there are
abbrev pub side_step : Reader → Span → Side → List Lexeme → Option (Span × List Lexeme)
    → Option (Expression × List Lexeme)
side_step read x side ts (Some o) = do
  e ← read whole_part o.1
  c ← eaten (codes "]") e.1
  d ← eaten (codes ".") c.1
  m ← taken (name_value (member_of side)) d.1
  Some (look_at_of x m.0.0 e.0 m.0.1, m.1)
side_step read x side ts None = do
  d ← eaten (codes ".") ts
  l ← taken (name_value (this_text (codes "length"))) d.1
  Some (look_of x (count_of side) l.0.1, l.1)

abbrev pub property_step : Reader → Span → Property → Span → List Lexeme → Option (Expression × List Lexeme)
property_step read x (properties.Whole look) s ts = Some (look_of x look s, ts)
property_step read x (properties.Listed side) s ts = side_step read x side ts (eaten (codes "[") ts)

abbrev pub tx_step : Reader → List Lexeme → Option (Span × List Lexeme) → Option (Expression × List Lexeme)
tx_step read ts (Some x) = do
  d ← eaten (codes ".") x.1
  w ← taken (name_value property_of) d.1
  property_step read x.0 w.0.0 w.0.1 w.1
tx_step read ts None = this_step read ts (eaten (codes "this") ts)

abbrev pub new_step : Reader → List Lexeme → Option (Span × List Lexeme) → Option (Expression × List Lexeme)
new_step read ts (Some n) = do
  w ← taken name_of n.1
  o ← eaten (codes "(") w.1
  args ← read (items (codes ")")) o.1
  Some (new_of n.0 w.0.0 w.0.1 args.0.0 args.0.1, args.1)
new_step read ts None = tx_step read ts (eaten (codes "tx") ts)

abbrev pub array_step : Reader → List Lexeme → Option (Span × List Lexeme) → Option (Expression × List Lexeme)
array_step read ts (Some o) = do
  args ← read (items (codes "]")) o.1
  Some (array_of o.0 args.0.0 args.0.1, args.1)
array_step read ts None = new_step read ts (eaten (codes "new") ts)

abbrev pub bracket_step : Reader → List Lexeme → Option (Span × List Lexeme) → Option (Expression × List Lexeme)
bracket_step read ts (Some o) = do
  e ← read whole_part o.1
  c ← eaten (codes ")") e.1
  Some (bracketed o.0 e.0 c.0, c.1)
bracket_step read ts None = array_step read ts (eaten (codes "[") ts)

abbrev pub last_step : Expression → Option (Span × List Lexeme) → Option ((List Expression × Span) × List Lexeme)
last_step e (Some c) = Some ((e ∷ [], c.0), c.1)
last_step e None = None

abbrev pub comma_step : Reader → List ℕ → Expression → List Lexeme → Option (Span × List Lexeme)
    → Option ((List Expression × Span) × List Lexeme)
comma_step read close e ts (Some comma) = do
  others ← read (items close) comma.1
  Some ((e ∷ others.0.0, others.0.1), others.1)
comma_step read close e ts None = last_step e (eaten close ts)

abbrev pub items_step : Reader → List ℕ → List Lexeme → Option (Span × List Lexeme)
    → Option ((List Expression × Span) × List Lexeme)
items_step read close ts (Some c) = Some (([], c.0), c.1)
items_step read close ts None = do
  e ← read whole_part ts
  comma_step read close e.0 e.1 (eaten (codes ",") e.1)

abbrev pub step : Reader → (g : Goal) → List Lexeme → Option (Value g × List Lexeme)
step read (part primary) ts = bracket_step read ts (eaten (codes "(") ts)
step read (part postfix) ts = do
  e ← read (part primary) ts
  read (suffixes_of e.0) e.1
step read (part unary) ts = sign_step read ts (taken signs ts)
step read (part (level zero)) ts = read (part unary) ts
step read (part (level (suc k))) ts = do
  left ← read (part (level k)) ts
  read (operators k left.0) left.1
step read (operators k left) ts = operators_step read k left ts (operator_at (suc k) ts)
step read (suffixes_of e) ts = suffix_step read e ts (eaten (codes ".") ts)
step read (items close) ts = items_step read close ts (eaten close ts)

-- ---- as many steps as it takes

abbrev pub rank : Goal → ℕ
rank (part primary) = 0
rank (part postfix) = 1
rank (part unary) = 2
rank (part (level k)) = k + 3
rank (operators k e) = k + 3
rank (suffixes_of e) = 0
rank (items close) = 13

abbrev pub weight : Goal → List Lexeme → ℕ
weight g ts = 16 * length ts + rank g

unfoldable pub reading : Reader
reading = fixed Goal Value step weight
