-- Where lexemes stand in order, the spans of an expression that they spell lie among them.
use Rattle.std.proofs.Common.{◌≡◌, ℕ, ◌≤◌, List, [], ◌∷◌, ◌++◌, map, Option, Some, None, Bool, true, false, ℤ, refl, sym, ap, ◌∙◌, subst, arith, codes, rules}
use Rattle.std.proofs.lemmas.List.{append-nil}
use Rattle.cash_base.specs.declared.place.Span.{Span}
use Rattle.cash_base.specs.Source.{IsInside, AreInside}
use Rattle.cash_base.specs.declared.look.Look0.{Look0}
use Rattle.cash_base.specs.declared.look.LookAt.{LookAt}
use Rattle.cash_tree.specs.declared.Ty.{Ty}
use Rattle.cash_tree.specs.declared.UnaryOp.{UnaryOp}
use Rattle.cash_tree.specs.declared.BinaryOp.{BinaryOp}
use Rattle.cash_tree.specs.declared.Builtin.{Builtin}
use Rattle.cash_tree.specs.declared.Callee.{Callee}
use Rattle.cash_tree.specs.declared.ExprKind.TheVariants as nodes
use Rattle.cash_tree.specs.declared.ExprKind.TheFolds.{fold-ExprKind, the_lemmas}
use Rattle.cash_symbols.specs.Words.{function_of, instantiation_of, count_of}
use Rattle.cash_symbols.specs.Lexemes.{Lexeme, Mark, Type_, Name, Number, Hex, Text, Date}
use Rattle.cash_expressions.specs.Grammar.{Expression, Kind, callee_of, Part, Spells, number, number_with_unit, hex_literal, text_literal, date_literal, true_literal, false_literal, name, call, brackets, array, new, cast, cast_with_size, whole, count, member, active, bare, length_word, reverse_call, split_call, index, no_sign, sign, no_operator, tighter, operator, SpellsAll, none, last, next}
use Rattle.cash_symbols.specs.Front.{lex, mark, across}
use Rattle.cash_tree.specs.Nodes.{joined}
use Rattle.cash_tree.specs.Spans.{itself, callee_spans, some_or_none, expression_kind_spans, node_spans, expression_spans}

-- ---- lexemes in order

abbrev pub Stand : ℕ → List Lexeme → ℕ → Type 0
Stand from [] to = from ≤ to
Stand from (t ∷ ts) to = (from ≤ t.span.from) × (t.span.from ≤ t.span.to) × Stand t.span.to ts to

pub record IsBetween (from to : ℕ) (span : Span) : Type 0 where
  pub after : from ≤ span.from
  pub ordered : span.from ≤ span.to
  pub before : span.to ≤ to

pub ends : (from to : ℕ) (a : List Lexeme) → Stand from a to → from ≤ to
ends from to [] h = h
ends from to (t ∷ a) h = let k = ends t.span.to to a h.2 in omega (arith, h.0, h.1, k)

pub cut : (from to : ℕ) (a b : List Lexeme) → Stand from (a ++ b) to → (at : ℕ) × Stand from a at × Stand at b to
cut from to [] b h = (from, omega arith, h)
cut from to (t ∷ a) b h = let k = cut t.span.to to a b h.2 in (k.0, (h.0, h.1, k.1), k.2)

pub front : (from to : ℕ) (a b : List Lexeme) → Stand from (a ++ b) to → Stand from a to
front from to [] b h = ends from to b h
front from to (t ∷ a) b h = (h.0, h.1, front t.span.to to a b h.2)

pub narrow : {from to : ℕ} {span : Span} → IsBetween from to span → IsInside to span
narrow b = record { ordered = b.ordered; ends = b.before }

-- the first of some lexemes
pub head : (from to : ℕ) (t : Lexeme) (ts : List Lexeme) → Stand from (t ∷ ts) to → IsBetween from to t.span
head from to t ts h = record { after = h.0; ordered = h.1; before = ends t.span.to to ts h.2 }

-- from a lexeme to the end of a later one, and what stands after that
pub reach : (from to : ℕ) (s : Lexeme) (a b : List Lexeme) (t : Lexeme) (more : List Lexeme)
    → Stand from (s ∷ (a ++ (b ++ t ∷ more))) to
    → (from ≤ s.span.from) × (s.span.from ≤ t.span.to) × Stand t.span.to more to
reach from to s a b t more h =
    let k = cut s.span.to to a (b ++ t ∷ more) h.2 in
    let m = cut k.0 to b (t ∷ more) k.2 in
    let x = ends s.span.to k.0 a k.1 in
    let y = ends k.0 m.0 b m.1 in
    (h.0, omega (arith, h.1, x, y, m.2.0, m.2.1), m.2.2)

pub spread : (from to : ℕ) (s : Lexeme) (a b : List Lexeme) (t : Lexeme) (more : List Lexeme)
    → Stand from (s ∷ (a ++ (b ++ t ∷ more))) to → IsBetween from to (across s.span t.span)
spread from to s a b t more h =
    let r = reach from to s a b t more h in
    record { after = r.0; ordered = r.1; before = ends t.span.to to more r.2 }

-- from a span to a later lexeme
grown : (from to : ℕ) (span : Span) (a b : List Lexeme) (t : Lexeme)
    → ((at : ℕ) → Stand from a at → IsBetween from at span) → Stand from (a ++ (b ++ t ∷ [])) to
    → IsBetween from to (across span t.span)
grown from to span a b t own h =
    let k = cut from to a (b ++ t ∷ []) h in
    let m = cut k.0 to b (t ∷ []) k.2 in
    let e = own k.0 k.1 in
    let y = ends k.0 m.0 b m.1 in
    record { after = e.after; ordered = omega (arith, e.ordered, e.before, y, m.2.0, m.2.1); before = m.2.2 }

-- ---- the span of an expression

pub own : {p : Part} {a : List Lexeme} {e : Expression} (from to : ℕ) → Spells p a e → Stand from a to
    → IsBetween from to e.span
own from to (number {n = n} {s}) h = head from to (lex (Number n) s) [] h
own from to (number_with_unit {n = n} {s} text u w q) h =
    spread from to (lex (Number n) s) [] [] (lex (Name text) w) [] h
own from to (hex_literal {bytes = bytes} {s}) h = head from to (lex (Hex (Some bytes)) s) [] h
own from to (text_literal {bytes = bytes} {s}) h = head from to (lex (Text bytes) s) [] h
own from to (date_literal {seconds = seconds} {s}) h = head from to (lex (Date seconds) s) [] h
own from to (true_literal {s = s}) h = head from to (mark (codes "true") s) [] h
own from to (false_literal {s = s}) h = head from to (mark (codes "false") s) [] h
own from to (name {word = word} {s}) h = head from to (lex (Name word) s) [] h
own from to (call {word = word} {s} o c {a = a} d) h =
    spread from to (lex (Name word) s) (mark (codes "(") o ∷ a) [] (mark (codes ")") c) [] h
own from to (brackets o c {a = a} d) h = spread from to (mark (codes "(") o) a [] (mark (codes ")") c) [] h
own from to (array o c {a = a} d) h = spread from to (mark (codes "[") o) a [] (mark (codes "]") c) [] h
own from to (new {word = word} n s o c {a = a} d) h =
    spread from to (mark (codes "new") n) (lex (Name word) s ∷ mark (codes "(") o ∷ a) [] (mark (codes ")") c) [] h
own from to (cast {ty = ty} s o c {a = a} d) h =
    spread from to (lex (Type_ ty) s) (mark (codes "(") o ∷ a) [] (mark (codes ")") c) [] h
own from to (cast_with_size {ty = ty} s o c {a = a} d) h =
    spread from to (lex (Type_ ty) s) (mark (codes "(") o ∷ a) [] (mark (codes ")") c) [] h
own from to (whole {word = word} look x d s q) h =
    spread from to (mark (codes "tx") x) (mark (codes ".") d ∷ []) [] (lex (Name word) s) [] h
own from to (count {word = word} side x d s d' l q) h =
    spread from to (mark (codes "tx") x) (mark (codes ".") d ∷ lex (Name word) s ∷ []) (mark (codes ".") d' ∷ [])
    (lex (Name (codes "length")) l) [] h
own from to (member {word = word} field side look x d s o c d' m {a = a} q q' k) h =
    spread from to (mark (codes "tx") x) (mark (codes ".") d ∷ lex (Name word) s ∷ mark (codes "[") o ∷ a)
    (mark (codes "]") c ∷ mark (codes ".") d' ∷ []) (lex (Name field) m) [] h
own from to (active {word = word} look x d s q) h =
    spread from to (mark (codes "this") x) (mark (codes ".") d ∷ []) [] (lex (Name word) s) [] h
own from to (bare d) h = own from to d h
own from to (length_word word d s {a = a} {e} q k) h =
    grown from to e.span a (mark (codes ".") d ∷ []) (lex (Name word) s) (λ at g. own from at k g) h
own from to (reverse_call word d s o c {a = a} {e} q k) h =
    grown from to e.span a (mark (codes ".") d ∷ lex (Name word) s ∷ mark (codes "(") o ∷ []) (mark (codes ")") c)
    (λ at g. own from at k g) h
own from to (split_call word d s o c {a = a} {b} {e} q k k') h =
    grown from to e.span a (mark (codes ".") d ∷ lex (Name word) s ∷ mark (codes "(") o ∷ b) (mark (codes ")") c)
    (λ at g. own from at k g) h
own from to (index n o s c {a = a} {e} k) h =
    grown from to e.span a (mark (codes "[") o ∷ lex (Number n) s ∷ []) (mark (codes "]") c) (λ at g. own from at k g) h
own from to (no_sign d) h = own from to d h
own from to (sign t op q d) h =
    let k = own t.span.to to d h.2 in
    record { after = h.0; ordered = omega (arith, h.1, k.after, k.ordered); before = k.before }
own from to (no_operator d) h = own from to d h
own from to (tighter d) h = own from to d h
own from to (operator k t op {a = a} {b} j d d') h =
    let c = cut from to a (t ∷ b) h in
    let l = own from c.0 d c.1 in
    let r = own t.span.to to d' c.2.2 in
    record {
      after = l.after;
      ordered = omega (arith, l.ordered, l.before, c.2.0, c.2.1, r.after, r.ordered);
      before = r.before;
    }

-- ---- the spans in an expression, beside its own

abbrev pub inner : Kind → List Span
inner = fold-ExprKind Span (Unit {0}) (List Span) (List Span) (expression_kind_spans itself) node_spans

pub own_and_inner : (e : Expression) → expression_spans itself e ≡ e.span ∷ inner e.kind
own_and_inner e = search (rules, the_lemmas)

pub in_unary : (v : Expression) (op : UnaryOp) → inner (nodes.Unary op v) ≡ expression_spans itself v
in_unary v op = search (rules, the_lemmas)

pub in_binary : (v w : Expression) (op : BinaryOp)
    → inner (nodes.Binary op v w) ≡ expression_spans itself v ++ expression_spans itself w
in_binary v w op = search (rules, the_lemmas)

in_length : (v : Expression) → inner (nodes.Length v) ≡ expression_spans itself v
in_length v = search (rules, the_lemmas)

in_reverse : (v : Expression) → inner (nodes.Reverse v) ≡ expression_spans itself v
in_reverse v = search (rules, the_lemmas)

in_split : (v w : Expression) → inner (nodes.Split v w) ≡ expression_spans itself v ++ expression_spans itself w
in_split v w = search (rules, the_lemmas)

in_index : (v : Expression) (n : ℕ) → inner (nodes.Index v n) ≡ expression_spans itself v
in_index v n = search (rules, the_lemmas)

in_cast : (v : Expression) (ty : Ty) → inner (nodes.Cast ty v None) ≡ expression_spans itself v ++ []
in_cast v ty = search (rules, the_lemmas)

in_sized_cast : (v w : Expression) (ty : Ty)
    → inner (nodes.Cast ty v (Some w)) ≡ expression_spans itself v ++ expression_spans itself w
in_sized_cast v w ty = search (rules, the_lemmas)

in_call : (callee : Callee) (args : List Expression)
    → inner (nodes.Call callee args) ≡ callee_spans callee ++ joined (map (expression_spans itself) args)
in_call callee args = search (rules, the_lemmas)

in_new : (callee : Callee) (args : List Expression)
    → inner (nodes.New callee args) ≡ callee_spans callee ++ joined (map (expression_spans itself) args)
in_new callee args = search (rules, the_lemmas)

in_array : (items : List Expression) → inner (nodes.Array items) ≡ joined (map (expression_spans itself) items)
in_array items = search (rules, the_lemmas)

in_look_at : (v : Expression) (look : LookAt) → inner (nodes.LookAt look v) ≡ expression_spans itself v
in_look_at v look = search (rules, the_lemmas)

in_int : (n u : ℕ) → inner (nodes.Int n u) ≡ []
in_int n u = search (rules, the_lemmas)

in_bool : (b : Bool) → inner (nodes.Bool b) ≡ []
in_bool b = search (rules, the_lemmas)

in_hex : (bytes : List ℕ) → inner (nodes.Hex bytes) ≡ []
in_hex bytes = search (rules, the_lemmas)

in_text : (bytes : List ℕ) → inner (nodes.Text bytes) ≡ []
in_text bytes = search (rules, the_lemmas)

in_date : (seconds : ℤ) → inner (nodes.Date seconds) ≡ []
in_date seconds = search (rules, the_lemmas)

pub in_name : (s : Span) → inner (nodes.Name s) ≡ s ∷ []
in_name s = search (rules, the_lemmas)

in_look : (look : Look0) → inner (nodes.Look0 look) ≡ []
in_look look = search (rules, the_lemmas)

-- ---- all spans of an expression

pub both : (n : ℕ) (xs ys : List Span) → AreInside n xs → AreInside n ys → AreInside n (xs ++ ys)
both n [] ys h k = k
both n (x ∷ xs) ys h k = (h.0, both n xs ys h.1 k)

pub parts : (n : ℕ) (xs ys : List Span) → AreInside n (xs ++ ys) → AreInside n xs × AreInside n ys
parts n [] ys h = (tt, h)
parts n (x ∷ xs) ys h = let k = parts n xs ys h.1 in ((h.0, k.0), k.1)

callee_inside : (n : ℕ) (o : Option Builtin) (s : Span) → IsInside n s → AreInside n (callee_spans (callee_of o s))
callee_inside n (Some builtin) s h = tt
callee_inside n None s h = (h, tt)

all_of : (n : ℕ) (e : Expression) → IsInside n e.span → AreInside n (inner e.kind) → AreInside n (expression_spans itself e)
all_of n e h k = subst (AreInside n) (sym (own_and_inner e)) (h, k)

same : (n : ℕ) (xs ys : List Span) → xs ≡ ys → AreInside n ys → AreInside n xs
same n xs ys e h = subst (AreInside n) (sym e) h

mutual
  pub inner_inside : {p : Part} {a : List Lexeme} {e : Expression} (from n : ℕ) → Spells p a e → Stand from a n
      → AreInside n (inner e.kind)
  inner_inside from n (number {n = digits}) h = same n (inner (nodes.Int digits 1)) [] (in_int digits 1) tt
  inner_inside from n (number_with_unit {n = digits} text u w q) h =
      same n (inner (nodes.Int digits u)) [] (in_int digits u) tt
  inner_inside from n (hex_literal {bytes = bytes}) h = same n (inner (nodes.Hex bytes)) [] (in_hex bytes) tt
  inner_inside from n (text_literal {bytes = bytes}) h = same n (inner (nodes.Text bytes)) [] (in_text bytes) tt
  inner_inside from n (date_literal {seconds = seconds}) h = same n (inner (nodes.Date seconds)) [] (in_date seconds) tt
  inner_inside from n true_literal h = same n (inner (nodes.Bool true)) [] (in_bool true) tt
  inner_inside from n false_literal h = same n (inner (nodes.Bool false)) [] (in_bool false) tt
  inner_inside from n (name {word = word} {s}) h =
      same n (inner (nodes.Name s)) (s ∷ []) (in_name s) (narrow (head from n (lex (Name word) s) [] h), tt)
  inner_inside from n (call {word = word} {s} o c {a = a} {es} d) h =
      let rest = mark (codes "(") o ∷ (a ++ mark (codes ")") c ∷ []) in
      let callee = callee_of (function_of word) s in
      same n (inner (nodes.Call callee es)) (callee_spans callee ++ joined (map (expression_spans itself) es))
      (in_call callee es)
      (both n (callee_spans callee) (joined (map (expression_spans itself) es))
      (callee_inside n (function_of word) s (narrow (head from n (lex (Name word) s) rest h)))
      (all_inside o.to n d (front o.to n a (mark (codes ")") c ∷ []) h.2.2)))
  inner_inside from n (brackets o c {a = a} {e} d) h =
      inner_inside o.to n d (front o.to n a (mark (codes ")") c ∷ []) h.2)
  inner_inside from n (array o c {a = a} {es} d) h =
      same n (inner (nodes.Array es)) (joined (map (expression_spans itself) es)) (in_array es)
      (all_inside o.to n d (front o.to n a (mark (codes "]") c ∷ []) h.2))
  inner_inside from n (new {word = word} w s o c {a = a} {es} d) h =
      let rest = mark (codes "(") o ∷ (a ++ mark (codes ")") c ∷ []) in
      let callee = callee_of (instantiation_of word) s in
      same n (inner (nodes.New callee es)) (callee_spans callee ++ joined (map (expression_spans itself) es)) (in_new callee es)
      (both n (callee_spans callee) (joined (map (expression_spans itself) es))
      (callee_inside n (instantiation_of word) s (narrow (head w.to n (lex (Name word) s) rest h.2)))
      (all_inside o.to n d (front o.to n a (mark (codes ")") c ∷ []) h.2.2.2)))
  inner_inside from n (cast {ty = ty} s o c {a = a} {e} d) h =
      same n (inner (nodes.Cast ty e None)) (expression_spans itself e ++ []) (in_cast e ty)
      (all_inside o.to n d (front o.to n a (mark (codes ")") c ∷ []) h.2.2))
  inner_inside from n (cast_with_size {ty = ty} s o c {a = a} {e} {size} d) h =
      let two : AreInside n (expression_spans itself e ++ (expression_spans itself size ++ [])) =
      all_inside o.to n d (front o.to n a (mark (codes ")") c ∷ []) h.2.2) in
      same n (inner (nodes.Cast ty e (Some size))) (expression_spans itself e ++ expression_spans itself size)
      (in_sized_cast e size ty)
      (subst (λ (z : List Span). AreInside n (expression_spans itself e ++ z)) (append-nil (expression_spans itself size)) two)
  inner_inside from n (whole look x d s q) h = same n (inner (nodes.Look0 look)) [] (in_look look) tt
  inner_inside from n (count side x d s d' l q) h =
      same n (inner (nodes.Look0 (count_of side))) [] (in_look (count_of side)) tt
  inner_inside from n (member {word = word} field side look x d s o c d' m {a = a} {e} q q' k) h =
      let rest = mark (codes "]") c ∷ mark (codes ".") d' ∷ lex (Name field) m ∷ [] in
      let g : Stand o.to a n = front o.to n a rest h.2.2.2.2 in
      same n (inner (nodes.LookAt look e)) (expression_spans itself e) (in_look_at e look)
      (all_of n e (narrow (own o.to n k g)) (inner_inside o.to n k g))
  inner_inside from n (active look x d s q) h = same n (inner (nodes.Look0 look)) [] (in_look look) tt
  inner_inside from n (bare d) h = inner_inside from n d h
  inner_inside from n (length_word word d s {a = a} {e} q k) h =
      let g : Stand from a n = front from n a (mark (codes ".") d ∷ lex (Name word) s ∷ []) h in
      same n (inner (nodes.Length e)) (expression_spans itself e) (in_length e)
      (all_of n e (narrow (own from n k g)) (inner_inside from n k g))
  inner_inside from n (reverse_call word d s o c {a = a} {e} q k) h =
      let rest = mark (codes ".") d ∷ lex (Name word) s ∷ mark (codes "(") o ∷ mark (codes ")") c ∷ [] in
      let g : Stand from a n = front from n a rest h in
      same n (inner (nodes.Reverse e)) (expression_spans itself e) (in_reverse e)
      (all_of n e (narrow (own from n k g)) (inner_inside from n k g))
  inner_inside from n (split_call word d s o c {a = a} {b} {e} {at} q k k') h =
      let close = mark (codes ")") c ∷ [] in
      let rest = mark (codes ".") d ∷ lex (Name word) s ∷ mark (codes "(") o ∷ (b ++ close) in
      let g : Stand from a n = front from n a rest h in
      let z : Stand o.to b n = front o.to n b close (cut from n a rest h).2.2.2.2 in
      same n (inner (nodes.Split e at)) (expression_spans itself e ++ expression_spans itself at) (in_split e at)
      (both n (expression_spans itself e) (expression_spans itself at)
      (all_of n e (narrow (own from n k g)) (inner_inside from n k g))
      (all_of n at (narrow (own o.to n k' z)) (inner_inside o.to n k' z)))
  inner_inside from n (index digits o s c {a = a} {e} k) h =
      let rest = mark (codes "[") o ∷ lex (Number digits) s ∷ mark (codes "]") c ∷ [] in
      let g : Stand from a n = front from n a rest h in
      same n (inner (nodes.Index e digits)) (expression_spans itself e) (in_index e digits)
      (all_of n e (narrow (own from n k g)) (inner_inside from n k g))
  inner_inside from n (no_sign d) h = inner_inside from n d h
  inner_inside from n (sign t op {e = e} q d) h =
      same n (inner (nodes.Unary op e)) (expression_spans itself e) (in_unary e op)
      (all_of n e (narrow (own t.span.to n d h.2)) (inner_inside t.span.to n d h.2))
  inner_inside from n (no_operator d) h = inner_inside from n d h
  inner_inside from n (tighter d) h = inner_inside from n d h
  inner_inside from n (operator k t op {a = a} {b} {left} {right} j d d') h =
      let g : Stand from a n = front from n a (t ∷ b) h in
      let z : Stand t.span.to b n = (cut from n a (t ∷ b) h).2.2 in
      same n (inner (nodes.Binary op left right)) (expression_spans itself left ++ expression_spans itself right)
      (in_binary left right op)
      (both n (expression_spans itself left) (expression_spans itself right)
      (all_of n left (narrow (own from n d g)) (inner_inside from n d g))
      (all_of n right (narrow (own t.span.to n d' z)) (inner_inside t.span.to n d' z)))

  pub all_inside : {a : List Lexeme} {es : List Expression} (from n : ℕ) → SpellsAll a es → Stand from a n
      → AreInside n (joined (map (expression_spans itself) es))
  all_inside from n none h = tt
  all_inside from n (last {e = e} d) h =
      both n (expression_spans itself e) [] (all_of n e (narrow (own from n d h)) (inner_inside from n d h)) tt
  all_inside from n (next s {a = a} {b} {e} {es} d d') h =
      let rest = mark (codes ",") s ∷ b in
      let g : Stand from a n = front from n a rest h in
      both n (expression_spans itself e) (joined (map (expression_spans itself) es))
      (all_of n e (narrow (own from n d g)) (inner_inside from n d g))
      (all_inside s.to n d' (cut from n a rest h).2.2)

pub expression_inside : {p : Part} {a : List Lexeme} {e : Expression} (from n : ℕ) → Spells p a e → Stand from a n
    → AreInside n (expression_spans itself e)
expression_inside {e = e} from n d h = all_of n e (narrow (own from n d h)) (inner_inside from n d h)

-- ---- the spans of an expression, by its kind

pub spans_of_name : (e : Expression) (s : Span) → e.kind ≡ nodes.Name s → expression_spans itself e ≡ e.span ∷ s ∷ []
spans_of_name e s is =
    own_and_inner e ∙ ap (λ (kind : Kind). e.span ∷ inner kind) is ∙ ap (λ (z : List Span). e.span ∷ z) (in_name s)

pub spans_of_binary : (e left right : Expression) (op : BinaryOp) → e.kind ≡ nodes.Binary op left right
    → expression_spans itself e ≡ e.span ∷ (expression_spans itself left ++ expression_spans itself right)
spans_of_binary e left right op is =
    own_and_inner e ∙ ap (λ (kind : Kind). e.span ∷ inner kind) is ∙ ap (λ (z : List Span). e.span ∷ z)
    (in_binary left right op)
