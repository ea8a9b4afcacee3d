-- What is read is spelled: one step of reading keeps it.
use Rattle.std.proofs.Common.{◌≡◌, ℕ, zero, suc, ◌==◌, List, [], ◌∷◌, ◌++◌, Option, Some, None, refl, sym, ap, subst, ◌∙◌, append_assoc, codes}
use Rattle.std.proofs.lemmas.Bool.{eqb-true}
use Rattle.std.proofs.lemmas.List.{append-nil}
use Rattle.cash_base.specs.declared.place.Span.{Span}
use Rattle.cash_tree.specs.declared.Ty.{Ty}
use Rattle.cash_tree.specs.declared.UnaryOp.{UnaryOp}
use Rattle.cash_tree.specs.declared.BinaryOp.{BinaryOp}
use Rattle.cash_symbols.specs.declared.words.Property.{Property}
use Rattle.cash_symbols.specs.declared.words.Property.TheVariants as properties
use Rattle.cash_symbols.specs.declared.words.Side.{Side}
use Rattle.cash_symbols.specs.declared.words.Suffix.{Suffix}
use Rattle.cash_symbols.specs.declared.words.Suffix.TheVariants as suffixes
use Rattle.cash_symbols.specs.Words.{loosest, unit_of, suffix_of, property_of, active_of, member_of}
use Rattle.cash_symbols.specs.Lexemes.{Lexeme, Symbol, Type_, Name, Number, Hex, Text, Date}
use Rattle.cash_expressions.specs.Grammar.{Expression, binary_of, length_of, reverse_of, split_of, index_of, primary, postfix, unary, level, Spells, number, number_with_unit, hex_literal, text_literal, date_literal, true_literal, false_literal, name, call, brackets, array, new, cast, cast_with_size, whole, count, member, active, bare, length_word, reverse_call, split_call, index, no_sign, sign, no_operator, tighter, operator, SpellsAll, none, last, next}
use Rattle.cash_symbols.specs.Front.{lex, mark, name_of, name_value, joins, signs, first, eaten, taken, type_value, number_value, this_text, of_level, operator_at}
use Rattle.cash_expressions.specs.Reading.{Goal, Value, Reader, whole_part, part, operators, suffixes_of, items, operators_step, sign_step, word_step, index_step, suffix_step, unit_step, value_of, value_step, number_step, false_step, true_step, call_step, name_step, cast_of, cast_step, this_step, side_step, property_step, tx_step, new_step, array_step, bracket_step, last_step, comma_step, items_step, step}
use Rattle.cash_symbols.proofs.Fixpoint.{Gives-good}
use Rattle.cash_symbols.proofs.Steps.{bind_some, some_is, chosen, Takes, nothing, one, joint, eats, eaten_is, first_is, taken_is, named, takes_name, takes_type, takes_number, this_text_is}

-- what a value says of the lexemes that were read
abbrev pub Sound : (g : Goal) → List Lexeme → Value g × List Lexeme → Type 0
Sound (part p) ts x = (a : List Lexeme) × Takes ts a x.1 × Spells p a x.0
Sound (operators k left) ts x =
    (b : List Lexeme) × Takes ts b x.1 ×
    ((a : List Lexeme) → Spells (level (suc k)) a left → Spells (level (suc k)) (a ++ b) x.0)
Sound (suffixes_of e) ts x =
    (b : List Lexeme) × Takes ts b x.1 × ((a : List Lexeme) → Spells postfix a e → Spells postfix (a ++ b) x.0)
Sound (items close) ts x = (a : List Lexeme) × Takes ts a (mark close x.0.1 ∷ x.1) × SpellsAll a x.0.0

-- the value that a step gave
found : (g : Goal) (ts : List Lexeme) {x y : Value g × List Lexeme} → Some y ≡ Some x → Sound g ts y → Sound g ts x
found g ts q h = subst (λ z. Sound g ts z) (some_is q) h

-- the operator of a level
pub record Operator (n : ℕ) (ts : List Lexeme) (o : BinaryOp × List Lexeme) : Type 0 where
  pub sign : Lexeme
  pub parts : ts ≡ sign ∷ o.1
  pub joined : joins sign.symbol ≡ Some (n, o.0)

level_found : (n : ℕ) (ts : List Lexeme) (j : Option (((ℕ × BinaryOp) × Span) × List Lexeme))
    (o : BinaryOp × List Lexeme) → taken joins ts ≡ j → of_level n ts j ≡ Some o → Operator n ts o
level_found n ts None o at e = absurd cc
level_found n ts (Some j) o at e =
    let h = chosen (j.0.0.0 == n) (j.0.0.1, j.1) o e in
    let t = taken_is joins ts j at in
    let level-is : j.0.0.0 ≡ n = eqb-true j.0.0.0 n h.0 in
    let op-is : j.0.0.1 ≡ o.0 = ap (λ (y : BinaryOp × List Lexeme). y.0) h.1 in
    record {
      sign = lex t.symbol j.0.1;
      parts = t.parts ∙ ap (λ (y : BinaryOp × List Lexeme). lex t.symbol j.0.1 ∷ y.1) h.1;
      joined = t.is ∙ ap (λ (m : ℕ). Some (m, j.0.0.1)) level-is ∙ ap (λ (op : BinaryOp). Some (n, op)) op-is;
    }

pub operator_found : (n : ℕ) (ts : List Lexeme) (o : BinaryOp × List Lexeme) → operator_at n ts ≡ Some o
    → Operator n ts o
operator_found n ts o e = level_found n ts (taken joins ts) o refl e

abbrev Primary : List Lexeme → Expression × List Lexeme → Type 0
Primary ts x = Sound (part primary) ts x

-- ---- literals

unit_sound : (n : ℕ) (s : Span) (ts us : List Lexeme) (u : Option ((ℕ × Span) × List Lexeme))
    (x : Expression × List Lexeme)
    → Takes ts (lex (Number n) s ∷ []) us → taken (name_value unit_of) us ≡ u → unit_step n s us u ≡ Some x
    → Primary ts x
unit_sound n s ts us (Some u) x front at q =
    let w = named unit_of us u at in found (part primary) ts q
    (_, joint front w.takes, number_with_unit w.text u.0.0 u.0.1 w.is)
unit_sound n s ts us None x front at q = found (part primary) ts q (_, front, number)

value_sound : (s : Span) (rest : List Lexeme) (symbol : Symbol) (x : Expression × List Lexeme)
    → value_of s rest symbol ≡ Some x → Primary (lex symbol s ∷ rest) x
value_sound s rest (Hex (Some bytes)) x q =
    found (part primary) (lex (Hex (Some bytes)) s ∷ rest) q (_, one (lex (Hex (Some bytes)) s) rest, hex_literal)
value_sound s rest (Text bytes) x q =
    found (part primary) (lex (Text bytes) s ∷ rest) q (_, one (lex (Text bytes) s) rest, text_literal)
value_sound s rest (Date seconds) x q =
    found (part primary) (lex (Date seconds) s ∷ rest) q (_, one (lex (Date seconds) s) rest, date_literal)
value_sound s rest symbol x q = absurd cc

value_at_sound : (ts : List Lexeme) (o : Option (Lexeme × List Lexeme)) (x : Expression × List Lexeme)
    → first ts ≡ o → value_step o ≡ Some x → Primary ts x
value_at_sound ts (Some t) x at q =
    subst (λ (z : List Lexeme). Primary z x) (sym (first_is ts t at)) (value_sound t.0.span t.1 t.0.symbol x q)
value_at_sound ts None x at q = absurd cc

number_sound : (ts : List Lexeme) (o : Option ((ℕ × Span) × List Lexeme)) (x : Expression × List Lexeme)
    → taken number_value ts ≡ o → number_step ts o ≡ Some x → Primary ts x
number_sound ts (Some n) x at q =
    unit_sound n.0.0 n.0.1 ts n.1 (taken (name_value unit_of) n.1) x (takes_number ts n at) refl q
number_sound ts None x at q = value_at_sound ts (first ts) x refl q

false_sound : (ts : List Lexeme) (o : Option (Span × List Lexeme)) (x : Expression × List Lexeme)
    → eaten (codes "false") ts ≡ o → false_step ts o ≡ Some x → Primary ts x
false_sound ts (Some s) x at q = found (part primary) ts q (_, eats at, false_literal)
false_sound ts None x at q = number_sound ts (taken number_value ts) x refl q

true_sound : (ts : List Lexeme) (o : Option (Span × List Lexeme)) (x : Expression × List Lexeme)
    → eaten (codes "true") ts ≡ o → true_step ts o ≡ Some x → Primary ts x
true_sound ts (Some s) x at q = found (part primary) ts q (_, eats at, true_literal)
true_sound ts None x at q = false_sound ts (eaten (codes "false") ts) x refl q

cast_sound_of : (ty : Ty) (s o c : Span) (ts a rest : List Lexeme) (es : List Expression) (e : Expression)
    → Takes ts (lex (Type_ ty) s ∷ mark (codes "(") o ∷ (a ++ mark (codes ")") c ∷ [])) rest → SpellsAll a es
    → cast_of ty s es c ≡ Some e → Primary ts (e, rest)
cast_sound_of ty s o c ts a rest [] e split d q = absurd cc
cast_sound_of ty s o c ts a rest (v ∷ []) e split d q =
    subst (λ (z : Expression). Primary ts (z, rest)) (some_is q) (_, split, cast s o c d)
cast_sound_of ty s o c ts a rest (v ∷ size ∷ []) e split d q =
    subst (λ (z : Expression). Primary ts (z, rest)) (some_is q) (_, split, cast_with_size s o c d)
cast_sound_of ty s o c ts a rest (v ∷ size ∷ more ∷ others) e split d q = absurd cc

module _ (read : Reader) (sound : Gives-good Goal Value Sound read) where
  operators_sound : (k : ℕ) (left : Expression) (ts : List Lexeme) (o : Option (BinaryOp × List Lexeme))
      (x : Expression × List Lexeme)
      → operator_at (suc k) ts ≡ o → operators_step read k left ts o ≡ Some x → Sound (operators k left) ts x
  operators_sound k left ts None x at q = found (operators k left) ts q ([], nothing ts, λ a d. rw append-nil d)
  operators_sound k left ts (Some o) x at q =
      let t = operator_found (suc k) ts o at in
      let r = bind_some _ _ x q in
      let h = sound (part (level k)) o.1 r.0 r.1 in
      let m = sound (operators k (binary_of o.0 left r.0.0)) r.0.1 x r.2 in
      let sign : Takes ts (t.sign ∷ []) o.1 = record { parts = t.parts } in (
        _,
        joint sign (joint h.1 m.1),
        λ a d. subst (λ (z : List Lexeme). Spells (level (suc k)) z x.0) (append_assoc a (t.sign ∷ h.0) m.0)
            (m.2 (a ++ (t.sign ∷ h.0)) (operator k t.sign o.0 t.joined d h.2)),
      )

  word_sound : (e : Expression) (d : Span) (text : List ℕ) (suffix : Suffix) (s : Span) (ts us : List Lexeme)
      (x : Expression × List Lexeme)
      → Takes ts (mark (codes ".") d ∷ lex (Name text) s ∷ []) us → suffix_of text ≡ Some suffix
      → word_step read e suffix s us ≡ Some x → Sound (suffixes_of e) ts x
  word_sound e d text suffixes.Length s ts us x front is q =
      let m = sound (suffixes_of (length_of e s)) us x q in
      let t : List Lexeme = mark (codes ".") d ∷ lex (Name text) s ∷ [] in (
        _,
        joint front m.1,
        λ a h. subst (λ (z : List Lexeme). Spells postfix z x.0) (append_assoc a t m.0)
            (m.2 (a ++ t) (length_word text d s is h)),
      )
  word_sound e d text suffixes.Reverse s ts us x front is q =
      let o = bind_some _ _ x q in
      let c = bind_some _ _ x o.2 in
      let m = sound (suffixes_of (reverse_of e c.0.0)) c.0.1 x c.2 in
      let t : List Lexeme = mark (codes ".") d ∷ lex (Name text) s ∷ mark (codes "(") o.0.0 ∷ mark (codes ")") c.0.0 ∷
      [] in (
        _,
        joint (joint front (joint (eats o.1) (eats c.1))) m.1,
        λ a h. subst
            (λ (z : List Lexeme). Spells postfix z x.0) (append_assoc a t m.0)
            (m.2 (a ++ t) (reverse_call text d s o.0.0 c.0.0 is h)),
      )
  word_sound e d text suffixes.Split s ts us x front is q =
      let o = bind_some _ _ x q in
      let at = bind_some _ _ x o.2 in
      let c = bind_some _ _ x at.2 in
      let i = sound whole_part o.0.1 at.0 at.1 in
      let m = sound (suffixes_of (split_of e at.0.0 c.0.0)) c.0.1 x c.2 in
      let t : List Lexeme = mark (codes ".") d ∷ lex (Name text) s ∷ mark (codes "(") o.0.0 ∷
      (i.0 ++ mark (codes ")") c.0.0 ∷ []) in (
        _,
        joint (joint front (joint (eats o.1) (joint i.1 (eats c.1)))) m.1,
        λ a h. subst
            (λ (z : List Lexeme). Spells postfix z x.0) (append_assoc a t m.0)
            (m.2 (a ++ t) (split_call text d s o.0.0 c.0.0 is h i.2)),
      )

  index_sound : (e : Expression) (ts : List Lexeme) (o : Option (Span × List Lexeme)) (x : Expression × List Lexeme)
      → eaten (codes "[") ts ≡ o → index_step read e ts o ≡ Some x → Sound (suffixes_of e) ts x
  index_sound e ts (Some o) x at q =
      let n = bind_some _ _ x q in
      let c = bind_some _ _ x n.2 in
      let m = sound (suffixes_of (index_of e n.0.0.0 c.0.0)) c.0.1 x c.2 in
      let t : List Lexeme = mark (codes "[") o.0 ∷ lex (Number n.0.0.0) n.0.0.1 ∷ mark (codes "]") c.0.0 ∷ [] in (
        _,
        joint (joint (eats at) (joint (takes_number o.1 n.0 n.1) (eats c.1))) m.1,
        λ a h. subst
            (λ (z : List Lexeme). Spells postfix z x.0) (append_assoc a t m.0)
            (m.2 (a ++ t) (index n.0.0.0 o.0 n.0.0.1 c.0.0 h)),
      )
  index_sound e ts None x at q = found (suffixes_of e) ts q ([], nothing ts, λ a d. rw append-nil d)

  suffixes_sound : (e : Expression) (ts : List Lexeme) (o : Option (Span × List Lexeme)) (x : Expression × List Lexeme)
      → eaten (codes ".") ts ≡ o → suffix_step read e ts o ≡ Some x → Sound (suffixes_of e) ts x
  suffixes_sound e ts (Some d) x at q =
      let w = bind_some _ _ x q in
      let n = named suffix_of d.1 w.0 w.1 in
      word_sound e d.0 n.text w.0.0.0 w.0.0.1 ts w.0.1 x (joint (eats at) n.takes) n.is w.2
  suffixes_sound e ts None x at q = index_sound e ts (eaten (codes "[") ts) x refl q

  sign_sound : (ts : List Lexeme) (o : Option ((UnaryOp × Span) × List Lexeme)) (x : Expression × List Lexeme)
      → taken signs ts ≡ o → sign_step read ts o ≡ Some x → Sound (part unary) ts x
  sign_sound ts (Some o) x at q =
      let r = bind_some _ _ x q in
      let t = taken_is signs ts o at in
      let front : Takes ts (lex t.symbol o.0.1 ∷ []) o.1 = record { parts = t.parts } in
      let h = sound (part unary) o.1 r.0 r.1 in
      found (part unary) ts r.2 (_, joint front h.1, sign (lex t.symbol o.0.1) o.0.0 t.is h.2)
  sign_sound ts None x at q = let h = sound (part postfix) ts x q in (h.0, h.1, no_sign h.2)

  call_sound : (word : List ℕ) (s : Span) (ts us : List Lexeme) (o : Option (Span × List Lexeme))
      (x : Expression × List Lexeme)
      → Takes ts (lex (Name word) s ∷ []) us → eaten (codes "(") us ≡ o → call_step read word s us o ≡ Some x
      → Primary ts x
  call_sound word s ts us (Some o) x front at q =
      let r = bind_some _ _ x q in
      let h = sound (items (codes ")")) o.1 r.0 r.1 in
      found (part primary) ts r.2 (
        _,
        joint front
            (joint (eats at) (joint h.1 (one (mark (codes ")") r.0.0.1) r.0.1))),
        call o.0 r.0.0.1 h.2,
      )
  call_sound word s ts us None x front at q = found (part primary) ts q (_, front, name)

  name_sound : (ts : List Lexeme) (o : Option ((List ℕ × Span) × List Lexeme)) (x : Expression × List Lexeme)
      → taken name_of ts ≡ o → name_step read ts o ≡ Some x → Primary ts x
  name_sound ts (Some w) x at q = call_sound w.0.0 w.0.1 ts w.1 (eaten (codes "(") w.1) x (takes_name ts w at) refl q
  name_sound ts None x at q = true_sound ts (eaten (codes "true") ts) x refl q

  cast_sound : (ts : List Lexeme) (o : Option ((Ty × Span) × List Lexeme)) (x : Expression × List Lexeme)
      → taken type_value ts ≡ o → cast_step read ts o ≡ Some x → Primary ts x
  cast_sound ts (Some ty) x at q =
      let o = bind_some _ _ x q in
      let r = bind_some _ _ x o.2 in
      let e = bind_some _ _ x r.2 in
      let h = sound (items (codes ")")) o.0.1 r.0 r.1 in
      found (part primary) ts e.2
      (cast_sound_of ty.0.0 ty.0.1 o.0.0 r.0.0.1 ts h.0 r.0.1 r.0.0.0 e.0
      (joint (takes_type ts ty at) (joint (eats o.1) (joint h.1 (one (mark (codes ")") r.0.0.1) r.0.1)))) h.2 e.1)
  cast_sound ts None x at q = name_sound ts (taken name_of ts) x refl q

  this_sound : (ts : List Lexeme) (o : Option (Span × List Lexeme)) (x : Expression × List Lexeme)
      → eaten (codes "this") ts ≡ o → this_step read ts o ≡ Some x → Primary ts x
  this_sound ts (Some s) x at q =
      let d = bind_some _ _ x q in
      let w = bind_some _ _ x d.2 in
      let n = named active_of d.0.1 w.0 w.1 in
      found (part primary) ts w.2 (_, joint (eats at) (joint (eats d.1) n.takes), active w.0.0.0 s.0 d.0.0 w.0.0.1 n.is)
  this_sound ts None x at q = cast_sound ts (taken type_value ts) x refl q

  side_sound : (s d w : Span) (text : List ℕ) (side : Side) (ts us : List Lexeme) (o : Option (Span × List Lexeme))
      (x : Expression × List Lexeme)
      → Takes ts (mark (codes "tx") s ∷ mark (codes ".") d ∷ lex (Name text) w ∷ []) us
      → property_of text ≡ Some (properties.Listed side)
      → eaten (codes "[") us ≡ o → side_step read s side us o ≡ Some x → Primary ts x
  side_sound s d w text side ts us (Some o) x front is at q =
      let e = bind_some _ _ x q in
      let c = bind_some _ _ x e.2 in
      let d' = bind_some _ _ x c.2 in
      let m = bind_some _ _ x d'.2 in
      let h = sound whole_part o.1 e.0 e.1 in
      let n = named (member_of side) d'.0.1 m.0 m.1 in
      found (part primary) ts m.2 (
        _,
        joint front
            (joint (eats at) (joint h.1 (joint (eats c.1) (joint (eats d'.1) n.takes)))),
        member n.text side m.0.0.0 s d
            w o.0 c.0.0 d'.0.0 m.0.0.1 is n.is h.2,
      )
  side_sound s d w text side ts us None x front is at q =
      let d' = bind_some _ _ x q in
      let l = bind_some _ _ x d'.2 in
      let n = named (this_text (codes "length")) d'.0.1 l.0 l.1 in
      let length-is : n.text ≡ codes "length" = this_text_is (codes "length") n.text l.0.0.0 n.is in
      let at-length : Takes d'.0.1 (lex (Name (codes "length")) l.0.0.1 ∷ []) l.0.1 = subst
      (λ (z : List ℕ). Takes d'.0.1 (lex (Name z) l.0.0.1 ∷ []) l.0.1) length-is n.takes in
      found (part primary) ts l.2 (_, joint front (joint (eats d'.1) at-length), count side s d w d'.0.0 l.0.0.1 is)

  property_sound : (s d w : Span) (text : List ℕ) (property : Property) (ts us : List Lexeme)
      (x : Expression × List Lexeme)
      → Takes ts (mark (codes "tx") s ∷ mark (codes ".") d ∷ lex (Name text) w ∷ []) us
      → property_of text ≡ Some property
      → property_step read s property w us ≡ Some x → Primary ts x
  property_sound s d w text (properties.Whole look) ts us x front is q =
      found (part primary) ts q (_, front, whole look s d w is)
  property_sound s d w text (properties.Listed side) ts us x front is q =
      side_sound s d w text side ts us (eaten (codes "[") us) x front is refl q

  tx_sound : (ts : List Lexeme) (o : Option (Span × List Lexeme)) (x : Expression × List Lexeme)
      → eaten (codes "tx") ts ≡ o → tx_step read ts o ≡ Some x → Primary ts x
  tx_sound ts (Some s) x at q =
      let d = bind_some _ _ x q in
      let w = bind_some _ _ x d.2 in
      let n = named property_of d.0.1 w.0 w.1 in
      property_sound s.0 d.0.0 w.0.0.1 n.text w.0.0.0 ts w.0.1 x (joint (eats at) (joint (eats d.1) n.takes)) n.is w.2
  tx_sound ts None x at q = this_sound ts (eaten (codes "this") ts) x refl q

  new_sound : (ts : List Lexeme) (o : Option (Span × List Lexeme)) (x : Expression × List Lexeme)
      → eaten (codes "new") ts ≡ o → new_step read ts o ≡ Some x → Primary ts x
  new_sound ts (Some n) x at q =
      let w = bind_some _ _ x q in
      let o = bind_some _ _ x w.2 in
      let r = bind_some _ _ x o.2 in
      let h = sound (items (codes ")")) o.0.1 r.0 r.1 in
      found (part primary) ts r.2 (
        _,
        joint (eats at) (joint (takes_name n.1 w.0 w.1)
            (joint (eats o.1) (joint h.1 (one (mark (codes ")") r.0.0.1) r.0.1)))),
        new n.0 w.0.0.1 o.0.0 r.0.0.1 h.2,
      )
  new_sound ts None x at q = tx_sound ts (eaten (codes "tx") ts) x refl q

  array_sound : (ts : List Lexeme) (o : Option (Span × List Lexeme)) (x : Expression × List Lexeme)
      → eaten (codes "[") ts ≡ o → array_step read ts o ≡ Some x → Primary ts x
  array_sound ts (Some o) x at q =
      let r = bind_some _ _ x q in
      let h = sound (items (codes "]")) o.1 r.0 r.1 in
      found (part primary) ts r.2 (
        _,
        joint (eats at) (joint h.1 (one (mark (codes "]") r.0.0.1) r.0.1)),
        array o.0
            r.0.0.1 h.2,
      )
  array_sound ts None x at q = new_sound ts (eaten (codes "new") ts) x refl q

  bracket_sound : (ts : List Lexeme) (o : Option (Span × List Lexeme)) (x : Expression × List Lexeme)
      → eaten (codes "(") ts ≡ o → bracket_step read ts o ≡ Some x → Primary ts x
  bracket_sound ts (Some o) x at q =
      let r = bind_some _ _ x q in
      let c = bind_some _ _ x r.2 in
      let h = sound whole_part o.1 r.0 r.1 in
      found (part primary) ts c.2 (_, joint (eats at) (joint h.1 (eats c.1)), brackets o.0 c.0.0 h.2)
  bracket_sound ts None x at q = array_sound ts (eaten (codes "[") ts) x refl q

  last_sound : (close : List ℕ) (e : Expression) (ts a us : List Lexeme) (c : Option (Span × List Lexeme))
      (x : (List Expression × Span) × List Lexeme)
      → Takes ts a us → Spells (level loosest) a e → eaten close us ≡ c → last_step e c ≡ Some x
      → Sound (items close) ts x
  last_sound close e ts a us (Some c) x split d at q =
      found (items close) ts q (
        a,
        record {
          parts = split.parts ∙ ap (λ (z : List Lexeme). a ++ z)
              (eaten_is close us c at);
        },
        last d,
      )
  last_sound close e ts a us None x split d at q = absurd cc

  comma_sound : (close : List ℕ) (e : Expression) (ts a us : List Lexeme) (o : Option (Span × List Lexeme))
      (x : (List Expression × Span) × List Lexeme)
      → Takes ts a us → Spells (level loosest) a e → eaten (codes ",") us ≡ o
      → comma_step read close e us o ≡ Some x → Sound (items close) ts x
  comma_sound close e ts a us (Some comma) x split d at q =
      let r = bind_some _ _ x q in
      let h = sound (items close) comma.1 r.0 r.1 in
      found (items close) ts r.2 (_, joint split (joint (eats at) h.1), next comma.0 d h.2)
  comma_sound close e ts a us None x split d at q = last_sound close e ts a us (eaten close us) x split d refl q

  items_sound : (close : List ℕ) (ts : List Lexeme) (o : Option (Span × List Lexeme))
      (x : (List Expression × Span) × List Lexeme) → eaten close ts ≡ o → items_step read close ts o ≡ Some x
      → Sound (items close) ts x
  items_sound close ts (Some c) x at q = found (items close) ts q ([], record { parts = eaten_is close ts c at }, none)
  items_sound close ts None x at q =
      let r = bind_some _ _ x q in
      let h = sound whole_part ts r.0 r.1 in
      comma_sound close r.0.0 ts h.0 r.0.1 (eaten (codes ",") r.0.1) x h.1 h.2 refl r.2

  pub step_sound : Gives-good Goal Value Sound (step read)
  step_sound (part primary) ts x q = bracket_sound ts (eaten (codes "(") ts) x refl q
  step_sound (part postfix) ts x q =
      let r = bind_some _ _ x q in
      let h = sound (part primary) ts r.0 r.1 in
      let m = sound (suffixes_of r.0.0) r.0.1 x r.2 in
      (_, joint h.1 m.1, m.2 h.0 (bare h.2))
  step_sound (part unary) ts x q = sign_sound ts (taken signs ts) x refl q
  step_sound (part (level zero)) ts x q = let h = sound (part unary) ts x q in (h.0, h.1, no_operator h.2)
  step_sound (part (level (suc k))) ts x q =
      let r = bind_some _ _ x q in
      let h = sound (part (level k)) ts r.0 r.1 in
      let m = sound (operators k r.0.0) r.0.1 x r.2 in
      (_, joint h.1 m.1, m.2 h.0 (tighter h.2))
  step_sound (operators k left) ts x q = operators_sound k left ts (operator_at (suc k) ts) x refl q
  step_sound (suffixes_of e) ts x q = suffixes_sound e ts (eaten (codes ".") ts) x refl q
  step_sound (items close) ts x q = items_sound close ts (eaten close ts) x refl q
