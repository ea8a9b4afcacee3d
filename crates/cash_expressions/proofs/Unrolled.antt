-- Reading is one step of reading: enough steps are as good as any number more.
use Rattle.std.proofs.Common.{◌≡◌, ℕ, zero, suc, ◌*◌, ◌<◌, List, ◌∷◌, ◌++◌, length, Option, Some, None, refl, ap, arith, length-append, codes}
use Rattle.cash_base.specs.declared.place.Span.{Span}
use Rattle.cash_tree.specs.declared.Ty.{Ty}
use Rattle.cash_tree.specs.declared.UnaryOp.{UnaryOp}
use Rattle.cash_tree.specs.declared.BinaryOp.{BinaryOp}
use Rattle.cash_symbols.specs.declared.words.Property.{Property}
use Rattle.cash_symbols.specs.declared.words.Property.TheVariants as properties
use Rattle.cash_symbols.specs.declared.words.Side.{Side}
use Rattle.cash_symbols.specs.declared.words.Suffix.{Suffix}
use Rattle.cash_symbols.specs.declared.words.Suffix.TheVariants as suffixes
use Rattle.cash_symbols.specs.Words.{loosest, suffix_of, property_of, member_of}
use Rattle.cash_symbols.specs.Lexemes.{Lexeme}
use Rattle.cash_symbols.specs.Fixpoint.{◌>>=◌}
use Rattle.cash_expressions.specs.Grammar.{Expression, binary_of, unary_of, length_of, reverse_of, split_of, index_of, bracketed, call_of, new_of, array_of, look_at_of, Part, primary, postfix, unary, level}
use Rattle.cash_symbols.specs.Front.{name_of, name_value, signs, eaten, taken, type_value, number_value, operator_at}
use Rattle.cash_expressions.specs.Reading.{Goal, Value, Reader, whole_part, part, operators, suffixes_of, items, operators_step, sign_step, word_step, index_step, suffix_step, call_step, name_step, cast_of, cast_step, this_step, side_step, property_step, tx_step, new_step, array_step, bracket_step, comma_step, items_step, weight, reading, step}
use Rattle.cash_expressions.proofs.Begins.{begins, not_empty}
use Rattle.cash_symbols.proofs.Steps.{then_same, eaten_shorter, taken_shorter}
use Rattle.cash_symbols.proofs.Fixpoint.{Gives-good, Agree-below, fixed_good, fixed_unrolled}
use Rattle.cash_expressions.proofs.Sound.{Sound, operator_found, step_sound}

pub operator_shorter : (n : ℕ) (ts : List Lexeme) (o : BinaryOp × List Lexeme) → operator_at n ts ≡ Some o
    → length ts ≡ suc (length o.1)
operator_shorter n ts o e = ap length (operator_found n ts o e).parts

-- Two readers that agree on what weighs less than this agree on one more step.
module _ (f h : Reader) (shorter : (p : Part) (ts : List Lexeme) (x : Expression × List Lexeme) → f (part p) ts
    ≡ Some x → length x.1 < length ts) where
  abbrev Agrees : ℕ → Type 0
  Agrees = Agree-below Goal Value weight f h

  operators_same : (k : ℕ) (left : Expression) (ts : List Lexeme) (o : Option (BinaryOp × List Lexeme))
      → operator_at (suc k) ts ≡ o → Agrees (weight (operators k left) ts)
      → operators_step f k left ts o ≡ operators_step h k left ts o
  operators_same k left ts None at same = refl
  operators_same k left ts (Some o) at same =
      let len = operator_shorter (suc k) ts o at in
      then_same _ _ _ _ (same (part (level k)) o.1 (omega arith))
      (λ x e. let s = shorter (level k) o.1 x e in same (operators k (binary_of o.0 left x.0)) x.1 (omega arith))

  sign_same : (ts : List Lexeme) (o : Option ((UnaryOp × Span) × List Lexeme)) → taken signs ts ≡ o
      → Agrees (weight (part unary) ts) → sign_step f ts o ≡ sign_step h ts o
  sign_same ts (Some o) at same =
      let len = taken_shorter signs ts o at in ap (λ z. z >>= λ e. Some (unary_of o.0.0 o.0.1 e.0, e.1))
      (same (part unary) o.1 (omega arith))
  sign_same ts None at same = same (part postfix) ts (omega arith)

  word_same : (e : Expression) (suffix : Suffix) (s : Span) (ts us : List Lexeme) → length us < length ts
      → Agrees (16 * length ts) → word_step f e suffix s us ≡ word_step h e suffix s us
  word_same e suffixes.Length s ts us lt same = same (suffixes_of (length_of e s)) us (omega arith)
  word_same e suffixes.Reverse s ts us lt same =
      then_same _ _ _ _ refl (λ o at_o.
      let lo = eaten_shorter (codes "(") us o at_o in
      then_same _ _ _ _ refl (λ c at_c.
      let lc = eaten_shorter (codes ")") o.1 c at_c in
      same (suffixes_of (reverse_of e c.0)) c.1 (omega arith)))
  word_same e suffixes.Split s ts us lt same =
      then_same _ _ _ _ refl (λ o at_o.
      let lo = eaten_shorter (codes "(") us o at_o in
      then_same _ _ _ _ (same whole_part o.1 (omega arith)) (λ i at_i.
      let li = shorter (level loosest) o.1 i at_i in
      then_same _ _ _ _ refl (λ c at_c.
      let lc = eaten_shorter (codes ")") i.1 c at_c in
      same (suffixes_of (split_of e i.0 c.0)) c.1 (omega arith))))

  index_same : (e : Expression) (ts : List Lexeme) (o : Option (Span × List Lexeme)) → eaten (codes "[") ts ≡ o
      → Agrees (16 * length ts) → index_step f e ts o ≡ index_step h e ts o
  index_same e ts (Some o) at same =
      let lo = eaten_shorter (codes "[") ts o at in
      then_same _ _ _ _ refl (λ n at_n.
      let ln = taken_shorter number_value o.1 n at_n in
      then_same _ _ _ _ refl (λ c at_c.
      let lc = eaten_shorter (codes "]") n.1 c at_c in
      same (suffixes_of (index_of e n.0.0 c.0)) c.1 (omega arith)))
  index_same e ts None at same = refl

  suffix_same : (e : Expression) (ts : List Lexeme) (o : Option (Span × List Lexeme)) → eaten (codes ".") ts ≡ o
      → Agrees (16 * length ts) → suffix_step f e ts o ≡ suffix_step h e ts o
  suffix_same e ts (Some d) at same =
      let ld = eaten_shorter (codes ".") ts d at in
      then_same _ _ _ _ refl (λ w at_w.
      let lw = taken_shorter (name_value suffix_of) d.1 w at_w in
      word_same e w.0.0 w.0.1 ts w.1 (omega arith) same)
  suffix_same e ts None at same = index_same e ts (eaten (codes "[") ts) refl same

  call_same : (word : List ℕ) (s : Span) (ts us : List Lexeme) (o : Option (Span × List Lexeme))
      → length us < length ts → eaten (codes "(") us ≡ o → Agrees (16 * length ts)
      → call_step f word s us o ≡ call_step h word s us o
  call_same word s ts us (Some o) lt at same =
      let len = eaten_shorter (codes "(") us o at in ap
      (λ z. z >>= λ args. Some (call_of word s args.0.0 args.0.1, args.1))
      (same (items (codes ")")) o.1 (omega arith))
  call_same word s ts us None lt at same = refl

  name_same : (ts : List Lexeme) (o : Option ((List ℕ × Span) × List Lexeme)) → taken name_of ts ≡ o
      → Agrees (16 * length ts) → name_step f ts o ≡ name_step h ts o
  name_same ts (Some w) at same =
      let len = taken_shorter name_of ts w at in call_same w.0.0 w.0.1 ts w.1 (eaten (codes "(") w.1) (omega arith)
      refl same
  name_same ts None at same = refl

  cast_same : (ts : List Lexeme) (o : Option ((Ty × Span) × List Lexeme)) → taken type_value ts ≡ o
      → Agrees (16 * length ts) → cast_step f ts o ≡ cast_step h ts o
  cast_same ts (Some ty) at same =
      let lt = taken_shorter type_value ts ty at in
      then_same _ _ _ _ refl (λ o at_o.
      let lo = eaten_shorter (codes "(") ty.1 o at_o in
      ap (λ z. z >>= λ args. cast_of ty.0.0 ty.0.1 args.0.0 args.0.1 >>= λ e. Some (e, args.1))
      (same (items (codes ")")) o.1 (omega arith)))
  cast_same ts None at same = name_same ts (taken name_of ts) refl same

  this_same : (ts : List Lexeme) (o : Option (Span × List Lexeme)) → Agrees (16 * length ts)
      → this_step f ts o ≡ this_step h ts o
  this_same ts (Some x) same = refl
  this_same ts None same = cast_same ts (taken type_value ts) refl same

  side_same : (x : Span) (side : Side) (ts us : List Lexeme) (o : Option (Span × List Lexeme))
      → length us < length ts → eaten (codes "[") us ≡ o → Agrees (16 * length ts)
      → side_step f x side us o ≡ side_step h x side us o
  side_same x side ts us (Some o) lt at same =
      let lo = eaten_shorter (codes "[") us o at in
      ap (λ z. z >>= λ e. eaten (codes "]") e.1 >>= λ c. eaten (codes ".") c.1 >>= λ d. taken
      (name_value (member_of side)) d.1 >>= λ m. Some (look_at_of x m.0.0 e.0 m.0.1, m.1))
      (same whole_part o.1 (omega arith))
  side_same x side ts us None lt at same = refl

  property_same : (x : Span) (property : Property) (s : Span) (ts us : List Lexeme) → length us < length ts
      → Agrees (16 * length ts) → property_step f x property s us ≡ property_step h x property s us
  property_same x (properties.Whole look) s ts us lt same = refl
  property_same x (properties.Listed side) s ts us lt same = side_same x side ts us (eaten (codes "[") us) lt refl same

  tx_same : (ts : List Lexeme) (o : Option (Span × List Lexeme)) → eaten (codes "tx") ts ≡ o
      → Agrees (16 * length ts) → tx_step f ts o ≡ tx_step h ts o
  tx_same ts (Some x) at same =
      let lx = eaten_shorter (codes "tx") ts x at in
      then_same _ _ _ _ refl (λ d at_d.
      let ld = eaten_shorter (codes ".") x.1 d at_d in
      then_same _ _ _ _ refl (λ w at_w.
      let lw = taken_shorter (name_value property_of) d.1 w at_w in
      property_same x.0 w.0.0 w.0.1 ts w.1 (omega arith) same))
  tx_same ts None at same = this_same ts (eaten (codes "this") ts) same

  new_same : (ts : List Lexeme) (o : Option (Span × List Lexeme)) → eaten (codes "new") ts ≡ o
      → Agrees (16 * length ts) → new_step f ts o ≡ new_step h ts o
  new_same ts (Some n) at same =
      let ln = eaten_shorter (codes "new") ts n at in
      then_same _ _ _ _ refl (λ w at_w.
      let lw = taken_shorter name_of n.1 w at_w in
      then_same _ _ _ _ refl (λ o at_o.
      let lo = eaten_shorter (codes "(") w.1 o at_o in
      ap (λ z. z >>= λ args. Some (new_of n.0 w.0.0 w.0.1 args.0.0 args.0.1, args.1))
      (same (items (codes ")")) o.1 (omega arith))))
  new_same ts None at same = tx_same ts (eaten (codes "tx") ts) refl same

  array_same : (ts : List Lexeme) (o : Option (Span × List Lexeme)) → eaten (codes "[") ts ≡ o
      → Agrees (16 * length ts) → array_step f ts o ≡ array_step h ts o
  array_same ts (Some o) at same =
      let lo = eaten_shorter (codes "[") ts o at in ap
      (λ z. z >>= λ args. Some (array_of o.0 args.0.0 args.0.1, args.1))
      (same (items (codes "]")) o.1 (omega arith))
  array_same ts None at same = new_same ts (eaten (codes "new") ts) refl same

  bracket_same : (ts : List Lexeme) (o : Option (Span × List Lexeme)) → eaten (codes "(") ts ≡ o
      → Agrees (16 * length ts) → bracket_step f ts o ≡ bracket_step h ts o
  bracket_same ts (Some o) at same =
      let lo = eaten_shorter (codes "(") ts o at in ap
      (λ z. z >>= λ e. eaten (codes ")") e.1 >>= λ c. Some (bracketed o.0 e.0 c.0, c.1))
      (same whole_part o.1 (omega arith))
  bracket_same ts None at same = array_same ts (eaten (codes "[") ts) refl same

  comma_same : (close : List ℕ) (ts : List Lexeme) (e : Expression) (us : List Lexeme)
      (o : Option (Span × List Lexeme)) → eaten (codes ",") us ≡ o → length us < length ts
      → Agrees (weight (items close) ts)
      → comma_step f close e us o ≡ comma_step h close e us o
  comma_same close ts e us (Some comma) at lt same =
      let len = eaten_shorter (codes ",") us comma at in ap
      (λ z. z >>= λ others. Some ((e ∷ others.0.0, others.0.1), others.1))
      (same (items close) comma.1 (omega arith))
  comma_same close ts e us None at lt same = refl

  items_same : (close : List ℕ) (ts : List Lexeme) (o : Option (Span × List Lexeme))
      → Agrees (weight (items close) ts) → items_step f close ts o ≡ items_step h close ts o
  items_same close ts (Some c) same = refl
  items_same close ts None same =
      then_same _ _ _ _ (same whole_part ts (omega arith))
      (λ x e. comma_same close ts x.0 x.1 (eaten (codes ",") x.1) refl (shorter (level loosest) ts x e) same)

  step_same : (g : Goal) (ts : List Lexeme) → Agrees (weight g ts) → step f g ts ≡ step h g ts
  step_same (part primary) ts same = bracket_same ts (eaten (codes "(") ts) refl (λ g us lt. same g us (omega arith))
  step_same (part postfix) ts same =
      then_same _ _ _ _ (same (part primary) ts (omega arith))
      (λ x e. let s = shorter primary ts x e in same (suffixes_of x.0) x.1 (omega arith))
  step_same (part unary) ts same = sign_same ts (taken signs ts) refl same
  step_same (part (level zero)) ts same = same (part unary) ts (omega arith)
  step_same (part (level (suc k))) ts same =
      then_same _ _ _ _ (same (part (level k)) ts (omega arith))
      (λ x e. let s = shorter (level k) ts x e in same (operators k x.0) x.1 (omega arith))
  step_same (operators k left) ts same = operators_same k left ts (operator_at (suc k) ts) refl same
  step_same (suffixes_of e) ts same = suffix_same e ts (eaten (codes ".") ts) refl (λ g us lt. same g us (omega arith))
  step_same (items close) ts same = items_same close ts (eaten close ts) same

shorter_of : (f : Reader) → Gives-good Goal Value Sound f
    → (p : Part) (ts : List Lexeme) (x : Expression × List Lexeme) → f (part p) ts ≡ Some x → length x.1 < length ts
shorter_of f good p ts x e =
    let h = good (part p) ts x e in
    let some : 0 < length h.0 = not_empty p h.0 (begins h.2) in
    let split : length ts ≡ length (h.0 ++ x.1) = ap length h.1.parts in
    omega (arith, length-append h.0 x.1)

all_same : (f h : Reader) → Gives-good Goal Value Sound f → (g : Goal) (ts : List Lexeme)
    → Agree-below Goal Value weight f h (weight g ts) → step f g ts ≡ step h g ts
all_same f h good = step_same f h (shorter_of f good)

pub unrolled : (g : Goal) (ts : List Lexeme) → reading g ts ≡ step reading g ts
unfolding reading
unrolled = fixed_unrolled Goal Value step weight Sound step_sound all_same

pub sound : (g : Goal) (ts : List Lexeme) (x : Value g × List Lexeme) → reading g ts ≡ Some x → Sound g ts x
unfolding reading
sound = fixed_good Goal Value step weight Sound step_sound all_same

pub reading_shorter : (p : Part) (ts : List Lexeme) (x : Expression × List Lexeme) → reading (part p) ts ≡ Some x
    → length x.1 < length ts
reading_shorter = shorter_of reading sound
