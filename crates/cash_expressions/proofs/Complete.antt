-- What is spelled is read: the reader gives the expression and the lexemes after it, where the next of them doesn't continue it.
use Rattle.std.proofs.Common.{◌≡◌, ℕ, zero, suc, ◌<◌, Bool, true, false, List, [], ◌∷◌, ◌++◌, Option, Some, None, refl, sym, ap, ◌∙◌, append_assoc, arith, codes}
use Rattle.std.specs.Prelude.{IfSome, is_some}
use Rattle.std.proofs.lemmas.Bool.{eq-eqb, ne_eqb, false≢true}
use Rattle.cash_base.specs.declared.place.Span.{Span}
use Rattle.cash_tree.specs.declared.BinaryOp.{BinaryOp}
use Rattle.cash_tree.specs.declared.UnaryOp.{UnaryOp}
use Rattle.cash_symbols.specs.Words.{is_text, loosest, operator_of, prefix_of, unit_of}
use Rattle.cash_symbols.specs.Lexemes.{Lexeme, Symbol, Mark, Type_, Name, Number, Hex, Text, Date}
use Rattle.cash_expressions.specs.Grammar.{Expression, Part, primary, postfix, unary, level, Spells, number, number_with_unit, hex_literal, text_literal, date_literal, true_literal, false_literal, name, call, brackets, array, new, cast, cast_with_size, whole, count, member, active, bare, length_word, reverse_call, split_call, index, no_sign, sign, no_operator, tighter, operator, SpellsAll, none, last, next}
use Rattle.cash_symbols.specs.Front.{lex, mark, name_value, joins, signs, eaten, taken, of_level, operator_at}
use Rattle.cash_expressions.specs.Reading.{part, operators, suffixes_of, items, operators_step, index_step, suffix_step, unit_step, call_step, items_step, reading}
use Rattle.cash_symbols.proofs.Steps.{text_is, starts, absent}
use Rattle.cash_expressions.proofs.Unrolled.{unrolled}
use Rattle.cash_expressions.proofs.Begins.{is_plain, is_first, begins}

-- ---- what doesn't continue an expression

-- no bracket, which would make a name a call, and no unit
pub record EndsName (ts : List Lexeme) : Type 0 where
  pub no_call : eaten (codes "(") ts ≡ None
  pub no_unit : taken (name_value unit_of) ts ≡ None

-- no operator up to this level
abbrev pub EndsLevel : ℕ → List Lexeme → Type 0
EndsLevel k ts = IfSome (taken joins ts) (λ o. k < o.0.0.0)

pub record Ends (k : ℕ) (ts : List Lexeme) : Type 0 where
  pub of_name : EndsName ts
  pub no_member : eaten (codes ".") ts ≡ None
  pub no_index : eaten (codes "[") ts ≡ None
  pub no_operator_up : EndsLevel k ts

looser : (k : ℕ) (o : Option (((ℕ × BinaryOp) × Span) × List Lexeme)) → IfSome o (λ j. suc k < j.0.0.0)
    → IfSome o (λ j. k < j.0.0.0)
looser k None h = tt
looser k (Some j) h = omega arith

ends_looser : (k : ℕ) (ts : List Lexeme) → Ends (suc k) ts → Ends k ts
ends_looser k ts h =
    record {
      of_name = h.of_name;
      no_member = h.no_member;
      no_index = h.no_index;
      no_operator_up = looser k (taken joins ts) h.no_operator_up;
    }

-- an operator ends what is tighter
no_name : (symbol : Symbol) (s : Span) (rest : List Lexeme) (j : ℕ × BinaryOp) → joins symbol ≡ Some j
    → taken (name_value unit_of) (lex symbol s ∷ rest) ≡ None
no_name (Name text) s rest j e = absurd cc
no_name symbol s rest j e = refl

not_sign : (text : List ℕ) (t : Lexeme) (rest : List Lexeme) (j : ℕ × BinaryOp) → is_some (operator_of text) ≡ false
    → joins t.symbol ≡ Some j → eaten text (t ∷ rest) ≡ None
not_sign text t rest j other e =
    absent (λ s. is_some (joins s)) text (t ∷ []) rest (ap (λ (o : Option (ℕ × BinaryOp)). is_some o) e) other

operator_ends : (k : ℕ) (t : Lexeme) (op : BinaryOp) (rest : List Lexeme) → joins t.symbol ≡ Some (suc k, op)
    → Ends k (t ∷ rest)
unfolding operator_of
operator_ends k t op rest e = record {
  of_name =
      record {
        no_call = not_sign (codes "(") t rest (suc k, op) refl e;
        no_unit = no_name t.symbol t.span rest (suc k, op) e;
      };
  no_member = not_sign (codes ".") t rest (suc k, op) refl e;
  no_index = not_sign (codes "[") t rest (suc k, op) refl e;
  no_operator_up = rw e (omega arith);
}

-- a sign that is no operator, no bracket and no dot ends an expression
mark_ends : (k : ℕ) (text : List ℕ) (s : Span) (rest : List Lexeme) → operator_of text ≡ None
    → eaten (codes "(") (mark text s ∷ rest) ≡ None → eaten (codes ".") (mark text s ∷ rest) ≡ None
    → eaten (codes "[") (mark text s ∷ rest) ≡ None → Ends k (mark text s ∷ rest)
mark_ends k text s rest e round dot square = record {
  of_name = record { no_call = round; no_unit = refl };
  no_member = dot;
  no_index = square;
  no_operator_up = rw e tt;
}

pub close_ends : (k : ℕ) (s : Span) (rest : List Lexeme) → Ends k (mark (codes ")") s ∷ rest)
unfolding operator_of
close_ends k s rest = mark_ends k (codes ")") s rest refl refl refl refl

pub square_ends : (k : ℕ) (s : Span) (rest : List Lexeme) → Ends k (mark (codes "]") s ∷ rest)
unfolding operator_of
square_ends k s rest = mark_ends k (codes "]") s rest refl refl refl refl

pub comma_ends : (k : ℕ) (s : Span) (rest : List Lexeme) → Ends k (mark (codes ",") s ∷ rest)
unfolding operator_of
comma_ends k s rest = mark_ends k (codes ",") s rest refl refl refl refl

pub semicolon_ends : (k : ℕ) (s : Span) (rest : List Lexeme) → Ends k (mark (codes ";") s ∷ rest)
unfolding operator_of
semicolon_ends k s rest = mark_ends k (codes ";") s rest refl refl refl refl

pub nothing_ends : (k : ℕ) → Ends k []
nothing_ends k =
    record {
      of_name = record { no_call = refl; no_unit = refl };
      no_member = refl;
      no_index = refl;
      no_operator_up = tt;
    }

dot_ends : (s : Span) (rest : List Lexeme) → EndsName (mark (codes ".") s ∷ rest)
dot_ends s rest = record { no_call = refl; no_unit = refl }

open_square_ends : (s : Span) (rest : List Lexeme) → EndsName (mark (codes "[") s ∷ rest)
open_square_ends s rest = record { no_call = refl; no_unit = refl }

-- ---- where a loop of the reader goes on, and where it ends

operator_is : (n : ℕ) (t : Lexeme) (op : BinaryOp) (rest : List Lexeme) → joins t.symbol ≡ Some (n, op)
    → operator_at n (t ∷ rest) ≡ Some (op, rest)
operator_is n t op rest e = rw (e, eq-eqb n n refl) refl

no_operator_of : (n : ℕ) (ts : List Lexeme) (o : Option (((ℕ × BinaryOp) × Span) × List Lexeme))
    → IfSome o (λ j. n < j.0.0.0) → of_level n ts o ≡ None
no_operator_of n ts None h = refl
no_operator_of n ts (Some j) h = rw (ne_eqb j.0.0.0 n (λ e. omega arith)) refl

operators_end : (k : ℕ) (e : Expression) (rest : List Lexeme) → Ends (suc k) rest
    → reading (operators k e) rest ≡ Some (e, rest)
operators_end k e rest h =
    unrolled (operators k e) rest ∙ ap (operators_step reading k e rest)
    (no_operator_of (suc k) rest (taken joins rest) h.no_operator_up)

suffixes_end : (k : ℕ) (e : Expression) (rest : List Lexeme) → Ends k rest
    → reading (suffixes_of e) rest ≡ Some (e, rest)
suffixes_end k e rest h =
    unrolled (suffixes_of e) rest ∙ ap (suffix_step reading e rest) h.no_member ∙
    ap (index_step reading e rest) h.no_index

-- ---- what is read of each part

abbrev pub Reads : Part → List Lexeme → Expression → Type 0
Reads primary a e = (rest : List Lexeme) → EndsName rest → reading (part primary) (a ++ rest) ≡ Some (e, rest)
Reads postfix a e =
    (rest : List Lexeme) → EndsName rest → reading (part postfix) (a ++ rest) ≡ reading (suffixes_of e) rest
Reads unary a e = (rest : List Lexeme) → Ends 0 rest → reading (part unary) (a ++ rest) ≡ Some (e, rest)
Reads (level zero) a e = (rest : List Lexeme) → Ends 0 rest → reading (part (level 0)) (a ++ rest) ≡ Some (e, rest)
Reads (level (suc k)) a e =
    (rest : List Lexeme) → Ends k rest → reading (part (level (suc k))) (a ++ rest) ≡ reading (operators k e) rest

-- a sign that may close a list of expressions
pub record Closes (close : List ℕ) : Type 0 where
  pub ends : (k : ℕ) (s : Span) (rest : List Lexeme) → Ends k (mark close s ∷ rest)
  pub is_close : (s : Span) (rest : List Lexeme) → eaten close (mark close s ∷ rest) ≡ Some (s, rest)
  pub no_comma : (s : Span) (rest : List Lexeme) → eaten (codes ",") (mark close s ∷ rest) ≡ None
  pub begins_none : is_first (Mark close) ≡ false

pub closes_round : Closes (codes ")")
unfolding prefix_of
closes_round = record { ends = close_ends; is_close = λ s rest. refl; no_comma = λ s rest. refl; begins_none = refl }

pub closes_square : Closes (codes "]")
unfolding prefix_of
closes_square = record { ends = square_ends; is_close = λ s rest. refl; no_comma = λ s rest. refl; begins_none = refl }

abbrev ReadsAll : List Lexeme → List Expression → Type 0
ReadsAll a es =
    (close : List ℕ) → Closes close → (c : Span) (rest : List Lexeme) → reading (items close)
    (a ++ (mark close c ∷ rest)) ≡ Some ((es, c), rest)

pub whole_level : (k : ℕ) (a : List Lexeme) (e : Expression) → Reads (level k) a e → (rest : List Lexeme)
    → Ends k rest → reading (part (level k)) (a ++ rest) ≡ Some (e, rest)
whole_level zero a e h rest ends = h rest ends
whole_level (suc k) a e h rest ends = h rest (ends_looser k rest ends) ∙ operators_end k e rest ends

-- ---- what is not in front

not_opening : (text : List ℕ) (op : UnaryOp) (b b' : Bool) → is_text text (codes "!") ≡ b
    → is_text text (codes "-") ≡ b' → prefix_of text ≡ Some op → is_plain (Mark text) ≡ false
unfolding prefix_of
not_opening text op true b' e e' q = rw (text_is text (codes "!") e) refl
not_opening text op false true e e' q = rw (text_is text (codes "-") e') refl
not_opening text op false false e e' q = absurd (let h = rw (e, e') at q in cc)

opening_no_sign : (text : List ℕ) (o : Option UnaryOp) → prefix_of text ≡ o → is_plain (Mark text) ≡ true → o ≡ None
opening_no_sign text None q h = refl
opening_no_sign text (Some op) q h =
    absurd (false≢true (sym (not_opening text op (is_text text (codes "!")) (is_text text (codes "-")) refl refl q) ∙
    h))

plain_no_sign : (symbol : Symbol) → is_plain symbol ≡ true → signs symbol ≡ None
plain_no_sign (Mark text) h = opening_no_sign text (prefix_of text) refl h
plain_no_sign symbol h = refl

no_sign_at : (a rest : List Lexeme) → starts is_plain a ≡ true
    → reading (part unary) (a ++ rest) ≡ reading (part postfix) (a ++ rest)
no_sign_at [] rest h = absurd (false≢true h)
no_sign_at (t ∷ a) rest h =
    let no : signs t.symbol ≡ None = plain_no_sign t.symbol h in
    unrolled (part unary) (t ∷ (a ++ rest)) ∙ rw no refl

-- what begins an expression doesn't close the items
item_of : (close : List ℕ) → Closes close → (a rest : List Lexeme) → starts is_first a ≡ true
    → reading (items close) (a ++ rest) ≡ items_step reading close (a ++ rest) None
item_of close h a rest first =
    unrolled (items close) (a ++ rest) ∙ ap (items_step reading close (a ++ rest))
    (absent is_first close a rest first h.begins_none)

mutual
  pub complete : {p : Part} {a : List Lexeme} {e : Expression} → Spells p a e → Reads p a e
  complete (number {n = n} {s}) =
      λ rest ends. unrolled (part primary) (lex (Number n) s ∷ rest) ∙ ap (unit_step n s rest) ends.no_unit
  complete (number_with_unit {n = n} {s} word u w q) =
      λ rest ends. unrolled (part primary) (lex (Number n) s ∷ lex (Name word) w ∷ rest) ∙ rw q refl
  complete (hex_literal {bytes = bytes} {s}) = λ rest ends. unrolled (part primary) (lex (Hex (Some bytes)) s ∷ rest)
  complete (text_literal {bytes = bytes} {s}) = λ rest ends. unrolled (part primary) (lex (Text bytes) s ∷ rest)
  complete (date_literal {seconds = seconds} {s}) = λ rest ends. unrolled (part primary) (lex (Date seconds) s ∷ rest)
  complete (true_literal {s = s}) = λ rest ends. unrolled (part primary) (mark (codes "true") s ∷ rest)
  complete (false_literal {s = s}) = λ rest ends. unrolled (part primary) (mark (codes "false") s ∷ rest)
  complete (name {word = word} {s = s}) =
      λ rest ends. unrolled (part primary) (lex (Name word) s ∷ rest) ∙ ap (call_step reading word s rest) ends.no_call
  complete (call {word = word} {s = s} o c {a} {es} d) = λ rest ends.
      let g : (a ++ (mark (codes ")") c ∷ [])) ++ rest ≡ a ++ (mark (codes ")") c ∷ rest) = append_assoc a
      (mark (codes ")") c ∷ []) rest in
      unrolled (part primary) (lex (Name word) s ∷ mark (codes "(") o ∷ ((a ++ (mark (codes ")") c ∷ [])) ++ rest)) ∙
      rw (g, complete_all d (codes ")") closes_round c rest) refl
  complete (brackets o c {a = a} {e} d) = λ rest ends.
      let g : (a ++ (mark (codes ")") c ∷ [])) ++ rest ≡ a ++ (mark (codes ")") c ∷ rest) = append_assoc a
      (mark (codes ")") c ∷ []) rest in
      unrolled (part primary) (mark (codes "(") o ∷ ((a ++ (mark (codes ")") c ∷ [])) ++ rest)) ∙
      rw (g, whole_level loosest a e (complete d) (mark (codes ")") c ∷ rest) (close_ends loosest c rest)) refl
  complete (array o c {a = a} {es} d) = λ rest ends.
      let g : (a ++ (mark (codes "]") c ∷ [])) ++ rest ≡ a ++ (mark (codes "]") c ∷ rest) = append_assoc a
      (mark (codes "]") c ∷ []) rest in
      unrolled (part primary) (mark (codes "[") o ∷ ((a ++ (mark (codes "]") c ∷ [])) ++ rest)) ∙
      rw (g, complete_all d (codes "]") closes_square c rest) refl
  complete (new {word = word} n s o c {a} {es} d) = λ rest ends.
      let g : (a ++ (mark (codes ")") c ∷ [])) ++ rest ≡ a ++ (mark (codes ")") c ∷ rest) = append_assoc a
      (mark (codes ")") c ∷ []) rest in
      unrolled (part primary) (mark (codes "new") n ∷ lex (Name word) s ∷ mark (codes "(") o ∷
      ((a ++ (mark (codes ")") c ∷ [])) ++ rest)) ∙ rw (g, complete_all d (codes ")") closes_round c rest) refl
  complete (cast {ty = ty} s o c {a} {e} d) = λ rest ends.
      let g : (a ++ (mark (codes ")") c ∷ [])) ++ rest ≡ a ++ (mark (codes ")") c ∷ rest) = append_assoc a
      (mark (codes ")") c ∷ []) rest in
      unrolled (part primary) (lex (Type_ ty) s ∷ mark (codes "(") o ∷ ((a ++ (mark (codes ")") c ∷ [])) ++ rest)) ∙
      rw (g, complete_all d (codes ")") closes_round c rest) refl
  complete (cast_with_size {ty = ty} s o c {a} {e} {size} d) = λ rest ends.
      let g : (a ++ (mark (codes ")") c ∷ [])) ++ rest ≡ a ++ (mark (codes ")") c ∷ rest) = append_assoc a
      (mark (codes ")") c ∷ []) rest in
      unrolled (part primary) (lex (Type_ ty) s ∷ mark (codes "(") o ∷ ((a ++ (mark (codes ")") c ∷ [])) ++ rest)) ∙
      rw (g, complete_all d (codes ")") closes_round c rest) refl
  complete (whole {word = word} look x d s q) =
      λ rest ends. unrolled (part primary) (mark (codes "tx") x ∷ mark (codes ".") d ∷ lex (Name word) s ∷ rest) ∙
      rw q refl
  complete (count {word = word} side x d s d' l q) = λ rest ends.
      unrolled (part primary) (mark (codes "tx") x ∷ mark (codes ".") d ∷ lex (Name word) s ∷ mark (codes ".") d' ∷
      lex (Name (codes "length")) l ∷ rest) ∙ rw q refl
  complete (member {word = word} field side look x d s o c d' m {a} {e} q q' h) = λ rest ends.
      let tail : List Lexeme = mark (codes ".") d' ∷ lex (Name field) m ∷ [] in
      let g : (a ++ (mark (codes "]") c ∷ tail)) ++ rest ≡ a ++ (mark (codes "]") c ∷ (tail ++ rest)) = append_assoc a
      (mark (codes "]") c ∷ tail) rest in
      unrolled (part primary) (mark (codes "tx") x ∷ mark (codes ".") d ∷ lex (Name word) s ∷ mark (codes "[") o ∷
      ((a ++ (mark (codes "]") c ∷ tail)) ++ rest))
      ∙ rw (
        q,
        g,
        whole_level loosest a e (complete h) (mark (codes "]") c ∷ (tail ++ rest))
            (square_ends loosest c (tail ++ rest)),
        q',
      ) refl
  complete (active {word = word} look x d s q) =
      λ rest ends. unrolled (part primary) (mark (codes "this") x ∷ mark (codes ".") d ∷ lex (Name word) s ∷ rest) ∙
      rw q refl
  complete (bare {a = a} {e} d) = λ rest ends. unrolled (part postfix) (a ++ rest) ∙ rw (complete d rest ends) refl
  complete (length_word word d s {a = a} {e} q h) = λ rest ends.
      let tail : List Lexeme = mark (codes ".") d ∷ lex (Name word) s ∷ [] in
      rw (append_assoc a tail rest) (complete h (tail ++ rest) (dot_ends d (lex (Name word) s ∷ rest)) ∙
      unrolled (suffixes_of e) (tail ++ rest) ∙ rw q refl)
  complete (reverse_call word d s o c {a = a} {e} q h) = λ rest ends.
      let tail : List Lexeme = mark (codes ".") d ∷ lex (Name word) s ∷ mark (codes "(") o ∷ mark (codes ")") c ∷ [] in
      rw (append_assoc a tail rest) (complete h (tail ++ rest)
      (dot_ends d (lex (Name word) s ∷ mark (codes "(") o ∷ mark (codes ")") c ∷ rest)) ∙
      unrolled (suffixes_of e) (tail ++ rest) ∙ rw q refl)
  complete (split_call word d s o c {a = a} {b} {e} {at} q h h') = λ rest ends.
      let g : (b ++ (mark (codes ")") c ∷ [])) ++ rest ≡ b ++ (mark (codes ")") c ∷ rest) = append_assoc b
      (mark (codes ")") c ∷ []) rest in
      let tail : List Lexeme = mark (codes ".") d ∷ lex (Name word) s ∷ mark (codes "(") o ∷
      (b ++ (mark (codes ")") c ∷ [])) in
      rw (append_assoc a tail rest) (complete h (tail ++ rest)
      (dot_ends d (lex (Name word) s ∷ mark (codes "(") o ∷ ((b ++ (mark (codes ")") c ∷ [])) ++ rest)))
      ∙ unrolled (suffixes_of e) (tail ++ rest) ∙ rw
      (q, g, whole_level loosest b at (complete h') (mark (codes ")") c ∷ rest) (close_ends loosest c rest)) refl)
  complete (index n o s c {a = a} {e} h) = λ rest ends.
      let tail : List Lexeme = mark (codes "[") o ∷ lex (Number n) s ∷ mark (codes "]") c ∷ [] in
      rw (append_assoc a tail rest) (complete h (tail ++ rest)
      (open_square_ends o (lex (Number n) s ∷ mark (codes "]") c ∷ rest)) ∙ unrolled (suffixes_of e) (tail ++ rest))
  complete (no_sign {a = a} {e} d) =
      λ rest ends. no_sign_at a rest (begins d) ∙ complete d rest ends.of_name ∙ suffixes_end 0 e rest ends
  complete (sign t op {a = a} {e} q d) =
      λ rest ends. unrolled (part unary) (t ∷ (a ++ rest)) ∙ rw (q, complete d rest ends) refl
  complete (no_operator {a = a} {e} d) = λ rest ends. unrolled (part (level 0)) (a ++ rest) ∙ complete d rest ends
  complete (tighter {k = k} {a = a} {e} d) =
      λ rest ends. unrolled (part (level (suc k))) (a ++ rest) ∙ rw (whole_level k a e (complete d) rest ends) refl
  complete (operator k t op {a = a} {b} {left} {right} j d d') = λ rest ends.
      let g : (a ++ (t ∷ b)) ++ rest ≡ a ++ (t ∷ (b ++ rest)) = append_assoc a (t ∷ b) rest in
      let h : operator_at (suc k) (t ∷ (b ++ rest)) ≡ Some (op, b ++ rest) = operator_is (suc k) t op (b ++ rest) j in
      rw g (complete d (t ∷ (b ++ rest)) (operator_ends k t op (b ++ rest) j) ∙
      unrolled (operators k left) (t ∷ (b ++ rest)) ∙ rw (h, whole_level k b right (complete d') rest ends) refl)

  pub complete_all : {a : List Lexeme} {es : List Expression} → SpellsAll a es → ReadsAll a es
  complete_all none =
      λ close closes c rest. unrolled (items close) (mark close c ∷ rest) ∙
      ap (items_step reading close (mark close c ∷ rest)) (closes.is_close c rest)
  complete_all (last {a = a} {e} d) = λ close closes c rest.
      item_of close closes a (mark close c ∷ rest) (begins d)
      ∙ rw (
        whole_level loosest a e (complete d) (mark close c ∷ rest) (closes.ends loosest c rest),
        closes.no_comma c
            rest,
        closes.is_close c rest,
      ) refl
  complete_all (next s {a = a} {b} {e} {es} d d') = λ close closes c rest.
      let g : (a ++ (mark (codes ",") s ∷ b)) ++ (mark close c ∷ rest) ≡ a ++
      (mark (codes ",") s ∷ (b ++ (mark close c ∷ rest))) = append_assoc a (mark (codes ",") s ∷ b)
      (mark close c ∷ rest) in
      rw g (item_of close closes a (mark (codes ",") s ∷ (b ++ (mark close c ∷ rest))) (begins d)
      ∙ rw (
        whole_level loosest a e (complete d) (mark (codes ",") s ∷ (b ++ (mark close c ∷ rest)))
            (comma_ends loosest s (b ++ (mark close c ∷ rest))),
        complete_all d' close closes c rest,
      ) refl)
