-- What an expression begins with.
use Rattle.std.proofs.Common.{◌≡◌, ℕ, ◌<◌, Bool, true, false, List, [], ◌∷◌, ◌++◌, length, Option, refl, ap, arith, codes}
use Rattle.std.specs.Prelude.{◌||◌, is_some}
use Rattle.std.proofs.lemmas.Bool.{false≢true}
use Rattle.cash_tree.specs.declared.UnaryOp.{UnaryOp}
use Rattle.cash_symbols.specs.Words.{is_text}
use Rattle.cash_symbols.specs.Lexemes.{Lexeme, Symbol, Mark, Type_, Name, Number, Hex, Text, Date, Version}
use Rattle.cash_expressions.specs.Grammar.{Expression, Part, primary, postfix, unary, level, Spells, number, number_with_unit, hex_literal, text_literal, date_literal, true_literal, false_literal, name, call, brackets, array, new, cast, cast_with_size, whole, count, member, active, bare, length_word, reverse_call, split_call, index, no_sign, sign, no_operator, tighter, operator}
use Rattle.cash_symbols.specs.Front.{signs}
use Rattle.cash_symbols.proofs.Steps.{starts}

-- the signs and words with which an expression without a sign begins
abbrev is_opening : List ℕ → Bool
is_opening text =
    is_text text (codes "(") || is_text text (codes "[") || is_text text (codes "true") || is_text text (codes "false")
    || is_text text (codes "new") || is_text text (codes "tx") || is_text text (codes "this")

abbrev pub is_plain : Symbol → Bool
is_plain (Mark text) = is_opening text
is_plain (Type_ ty) = true
is_plain (Name text) = true
is_plain (Number n) = true
is_plain (Hex bytes) = true
is_plain (Text bytes) = true
is_plain (Date seconds) = true
is_plain Version = false

abbrev pub is_first : Symbol → Bool
is_first symbol = is_plain symbol || is_some (signs symbol)

abbrev pub test_of : Part → Symbol → Bool
test_of primary = is_plain
test_of postfix = is_plain
test_of unary = is_first
test_of (level k) = is_first

or_left : (a b : Bool) → a ≡ true → a || b ≡ true
or_left true b e = refl
or_left false b e = absurd (false≢true e)

or_right : (a b : Bool) → b ≡ true → a || b ≡ true
or_right true b e = refl
or_right false b e = e

plain_first : (a : List Lexeme) → starts is_plain a ≡ true → starts is_first a ≡ true
plain_first [] h = h
plain_first (t ∷ a) h = or_left (is_plain t.symbol) (is_some (signs t.symbol)) h

before : (test : Symbol → Bool) (a b : List Lexeme) → starts test a ≡ true → starts test (a ++ b) ≡ true
before test [] b h = absurd (false≢true h)
before test (t ∷ a) b h = h

pub begins : {p : Part} {a : List Lexeme} {e : Expression} → Spells p a e → starts (test_of p) a ≡ true
begins number = refl
begins (number_with_unit text u w q) = refl
begins hex_literal = refl
begins text_literal = refl
begins date_literal = refl
begins true_literal = refl
begins false_literal = refl
begins name = refl
begins (call o c args) = refl
begins (brackets o c d) = refl
begins (array o c args) = refl
begins (new n s o c args) = refl
begins (cast s o c args) = refl
begins (cast_with_size s o c args) = refl
begins (whole look x d s q) = refl
begins (count side x d s d' l q) = refl
begins (member field side look x d s o c d' m q q' h) = refl
begins (active look x d s q) = refl
begins (bare d) = begins d
begins (length_word word d s {a = a} q h) = before is_plain a _ (begins h)
begins (reverse_call word d s o c {a = a} q h) = before is_plain a _ (begins h)
begins (split_call word d s o c {a = a} q h at) = before is_plain a _ (begins h)
begins (index n o s c {a = a} h) = before is_plain a _ (begins h)
begins (no_sign {a = a} d) = plain_first a (begins d)
begins (sign t op q d) =
    or_right (is_plain t.symbol) (is_some (signs t.symbol)) (ap (λ (o : Option UnaryOp). is_some o) q)
begins (no_operator d) = begins d
begins (tighter d) = begins d
begins (operator k t op {a = a} {b = b} j d d') = before is_first a (t ∷ b) (begins d)

headed : (test : Symbol → Bool) (a : List Lexeme) → starts test a ≡ true → 0 < length a
headed test [] h = absurd (false≢true h)
headed test (t ∷ a) h = omega arith

pub not_empty : (p : Part) (a : List Lexeme) → starts (test_of p) a ≡ true → 0 < length a
not_empty p a h = headed (test_of p) a h
