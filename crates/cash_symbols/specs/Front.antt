-- What stands in front of the lexemes: what a symbol stands for, and one lexeme that is read.
use Rattle.std.specs.Prelude.{◌≡◌, ℕ, ◌==◌, Bool, true, false, List, [], ◌∷◌, Option, Some, None, Result, Ok, Err, if◌then◌else◌}
use Rattle.cash_base.specs.declared.place.Span.{Span}
use Rattle.cash_tree.specs.declared.Ty.{Ty}
use Rattle.cash_tree.specs.declared.UnaryOp.{UnaryOp}
use Rattle.cash_tree.specs.declared.BinaryOp.{BinaryOp}
use Rattle.cash_symbols.specs.declared.fault.Stop.{Stop}
use Rattle.cash_symbols.specs.declared.fault.Stop.TheVariants as stops
use Rattle.cash_symbols.specs.Words.{is_text, operator_of, prefix_of}
use Rattle.cash_symbols.specs.Lexemes.{Lexeme, Symbol, Mark, Type_, Name, Number}
use Rattle.cash_symbols.specs.Fixpoint.{◌>>=◌}

abbrev pub lex : Symbol → Span → Lexeme
lex symbol span = record { symbol = symbol; span = span }

-- a sign or a reserved word
abbrev pub mark : List ℕ → Span → Lexeme
mark text span = lex (Mark text) span

-- from the first to the last
abbrev pub across : Span → Span → Span
across first last = record { from = first.from; to = last.to }

-- ---- what a symbol stands for

-- the text of a sign, or of a reserved word that names no type
abbrev pub mark_of : Symbol → Option (List ℕ)
mark_of (Mark text) = Some text
mark_of _ = None

-- the text of a word that is not reserved
abbrev pub name_of : Symbol → Option (List ℕ)
name_of (Name text) = Some text
name_of _ = None

abbrev pub mark_value : {A : Type 0} → (List ℕ → Option A) → Symbol → Option A
mark_value f symbol = mark_of symbol >>= f

abbrev pub name_value : {A : Type 0} → (List ℕ → Option A) → Symbol → Option A
name_value f symbol = name_of symbol >>= f

-- the level and the operator with two sides of a sign
abbrev pub joins : Symbol → Option (ℕ × BinaryOp)
joins symbol = mark_value operator_of symbol

-- the operator with one side of a sign
abbrev pub signs : Symbol → Option UnaryOp
signs symbol = mark_value prefix_of symbol

-- ---- what stands in front

-- the lexeme in front, and those after it
abbrev pub first : List Lexeme → Option (Lexeme × List Lexeme)
first [] = None
first (t ∷ rest) = Some (t, rest)

abbrev pub is_same : List ℕ → Option (List ℕ) → Bool
is_same text None = false
is_same text (Some other) = is_text other text

abbrev pub is_mark : List ℕ → Symbol → Bool
is_mark text symbol = is_same text (mark_of symbol)

-- the span of the lexeme in front, where it is this sign or reserved word, and the lexemes after it
abbrev pub eaten : List ℕ → List Lexeme → Option (Span × List Lexeme)
eaten text [] = None
eaten text (t ∷ rest) = if is_mark text t.symbol then Some (t.span, rest) else None

abbrev pub with_place : {A : Type 0} → Option A → Span → List Lexeme → Option ((A × Span) × List Lexeme)
with_place None span rest = None
with_place (Some value) span rest = Some ((value, span), rest)

-- what the lexeme in front stands for, its span, and the lexemes after it
abbrev pub taken : {A : Type 0} → (Symbol → Option A) → List Lexeme → Option ((A × Span) × List Lexeme)
taken value [] = None
taken value (t ∷ rest) = with_place (value t.symbol) t.span rest

abbrev pub type_value : Symbol → Option Ty
type_value (Type_ ty) = Some ty
type_value _ = None

abbrev pub number_value : Symbol → Option ℕ
number_value (Number n) = Some n
number_value _ = None

abbrev pub this_text : List ℕ → List ℕ → Option (Unit {0})
this_text text other = if is_text other text then Some tt else None

-- the operator in front, where it is of this level, and the lexemes after it
abbrev pub of_level : ℕ → List Lexeme → Option (((ℕ × BinaryOp) × Span) × List Lexeme) → Option (BinaryOp × List Lexeme)
of_level n ts None = None
of_level n ts (Some o) = if o.0.0.0 == n then Some (o.0.0.1, o.1) else None

abbrev pub operator_at : ℕ → List Lexeme → Option (BinaryOp × List Lexeme)
operator_at n ts = of_level n ts (taken joins ts)

-- ---- the code against the reading

-- What a function returned, seen by view, is what reading gives, unless memory ran out.
abbrev pub Fails : {Y : Type 0} → Stop → Option Y → Type 0
Fails stops.Memory read = Unit {0}
Fails (stops.Syntax left) read = read ≡ None

abbrev pub Gives : {X Y : Type 0} → (X → Y) → Result X Stop → Option Y → Type 0
Gives view (Ok x) read = read ≡ Some (view x)
Gives view (Err e) read = Fails e read
