-- What a rule finds at the end of the code, and what is free of the rule.
use Rattle.std.proofs.Common.{◌≡◌, ℕ, ◌-◌, ◌<◌, ◌≤◌, Bool, true, false, not, ◌&&◌, ◌||◌, List, [], ◌∷◌, ◌++◌, length, map, take, drop, reverse, Option, Some, None, refl, sym, ap, ◌∙◌, subst, arith, append_assoc, append-nil, nat_lt}
use Rattle.std.specs.Prelude.{option_to_list, ◌==◌}
use Rattle.std.specs.List.{list_all}
use Rattle.std.proofs.lemmas.Bool.{and_parts, ltb-true, both_ways, not-true, false≢true}
use Rattle.std.proofs.lemmas.List.{length-append, drop_at, take-append-drop, same_from_push, take_rest, reverse-append, reverse-reverse}
use Rattle.cash_base.specs.declared.place.Span.{Span}
use Rattle.script_codec.specs.declared.instr.Instr.{Instr}
use Rattle.script_codec.specs.declared.instr.Instr.TheVariants.{Push, Do}
use Rattle.script_codec.specs.declared.spans.Spanned.{Spanned}
use Rattle.opcode_table.specs.Table.{row_of}
use Rattle.bch_vm.specs.Board.{is_condition}
use Rattle.rewrite_rules.specs.Rows.{row, row_is_plain, is_plain}
use Rattle.rewrite_rules.specs.Rules.{Rule, rows_of, window_of, Matches, Rewrites, copy_rules, move_rules, swap_rules, fusing_rules, all_rules}
use Rattle.rewrite_rules.specs.Law.{Holds}
use Rattle.rewrite_rules.proofs.Windows.{length_window, length_replacement}
use Rattle.peephole.specs.Tidy.{is_branch, StandsFor, ends, MayStay, EachRule, IsFreeOf, EndsFreeOf, IsTidy, Replaces, Tidying}
use Rattle.peephole.proofs.Stands.{shape_of, rule_stands, stands_self, stands_then, stands_after}

-- a window is as wide as its rule
matched_length : (r : Rule) (w : List Spanned) → Matches r w → length w ≡ length r.before
matched_length r w m = ap length m.is ∙ length_window r.before m.places m.checking

-- what a rule finds
pub too_short : (width least : ℕ) (r : Rule) (code : List Spanned) (last : Bool) → Holds width least r → length code < width → EndsFreeOf code last r
too_short width least r code last h short = record {
  free = λ front w e m.
      absurd (omega (arith, (shape_of width least r h).wide, matched_length r w m, ap length e, length-append front w, short));
}

window_is_end : (width : ℕ) (r : Rule) (code front w : List Spanned) (start : ℕ) → length r.before ≡ width → width ≤ length code → start ≡ length code - width → code ≡ front ++ w → Matches r w → w ≡ drop start code
window_is_end width r code front w start wide le at e m =
    sym (drop_at front w start (omega (arith, wide, le, at, matched_length r w m, ap length e, length-append front w))) ∙ ap (drop start) (sym e)

pub not_there : (width least : ℕ) (r : Rule) (code : List Spanned) (last : Bool) (start : ℕ) → Holds width least r → width ≤ length code → start ≡ length code - width → (Matches r (take (length code - start) (drop start code)) → ⊥) → EndsFreeOf code last r
not_there width least r code last start h le at none = record {
  free = λ front w e m.
      absurd (none (subst (Matches r) (sym (take_rest code start)) (subst (Matches r) (window_is_end width r code front w start (shape_of width least r h).wide le at e m) m)));
}

plain_no_branch : (instr : Instr) → is_plain instr ≡ true → is_branch instr ≡ false
plain_no_branch (Push e) p = refl
plain_no_branch (Do opcode) p =
    by (is_condition opcode.0) (and_parts (not (is_condition opcode.0)) (row_is_plain (row_of opcode.0)) p).0
  where
    by : (b : Bool) → not b ≡ true → (b && not ((opcode.0 == 0x65) || (opcode.0 == 0x66))) ≡ false
    by true h = absurd (false≢true h)
    by false h = refl

plain_front : (instrs : List Instr) (places : ℕ → Span) (checking : Span) → list_all is_plain instrs ≡ true → 0 < length instrs → ends (rows_of instrs places checking) ≡ false
plain_front [] places checking p h = absurd (omega arith)
plain_front (i ∷ instrs) places checking p h = plain_no_branch i (and_parts (is_plain i) (list_all is_plain instrs) p).0

pub replaces : (width least : ℕ) (r : Rule) (code by : List Spanned) (last : Bool) (start : ℕ) → Holds width least r → width ≤ length code → start ≡ length code - width → Rewrites r (take (length code - start) (drop start code)) by → (by ≡ [] → last ≡ false) → Replaces code last start by
replaces width least r code by last start h le at x' next =
    let x = subst (λ w. Rewrites r w by) (take_rest code start) x' in
    let s = shape_of width least r h in
    let long = ap length x.now ∙ length_replacement r x.places x.checking in
    record {
      within = omega (arith, le, at, long, s.fewer);
      at_most = omega (arith, long, s.at_most);
      plain = ap not (ap ends x.was ∙ plain_front r.before x.places x.checking s.before (omega (arith, s.wide, s.fewer)));
      stands = λ rest e. subst (λ w. StandsFor (w ++ rest) (by ++ rest)) (sym x.was) (subst (λ b. StandsFor (window_of r x.places x.checking ++ rest) (b ++ rest)) (sym x.now) (rule_stands width least r x.places x.checking rest h (λ none. e ∙ next (x.now ∙ ap (map (λ instr. row x.checking instr (x.places r.place))) none))));
    }

-- each rule
each_both : (P Q R : Rule → Type 0) (rules : List Rule) → ((r : Rule) → P r → Q r → R r) → EachRule P rules → EachRule Q rules → EachRule R rules
each_both P Q R [] f p q = tt
each_both P Q R (r ∷ rules) f p q = (f r p.0 q.0, each_both P Q R rules f p.1 q.1)

each_from : (P Q : Rule → Type 0) (rules : List Rule) → ((r : Rule) → P r → Q r) → EachRule P rules → EachRule Q rules
each_from P Q [] f p = tt
each_from P Q (r ∷ rules) f p = (f r p.0, each_from P Q rules f p.1)

each_append : (P : Rule → Type 0) (xs ys : List Rule) → EachRule P xs → EachRule P ys → EachRule P (xs ++ ys)
each_append P [] ys p q = q
each_append P (x ∷ xs) ys p q = (p.0, each_append P xs ys p.1 q)

pub each_rule : (P : Rule → Type 0) → EachRule P copy_rules → EachRule P move_rules → EachRule P swap_rules → EachRule P fusing_rules → EachRule P all_rules
each_rule P a b c d =
    each_append P copy_rules (move_rules ++ (swap_rules ++ fusing_rules)) a
    (each_append P move_rules (swap_rules ++ fusing_rules) b (each_append P swap_rules fusing_rules c d))

abbrev all_wide : List Rule → Bool
all_wide [] = true
all_wide (r ∷ rules) = nat_lt 0 (length r.before) && all_wide rules

each_wide : (Q : Rule → Type 0) (rules : List Rule) → ((r : Rule) → 0 < length r.before → Q r) → all_wide rules ≡ true → EachRule Q rules
each_wide Q [] f h = tt
each_wide Q (r ∷ rules) f h =
    let a = and_parts (nat_lt 0 (length r.before)) (all_wide rules) h in (f r (ltb-true _ _ a.0), each_wide Q rules f a.1)

-- the last row of code
data Ending (code : List Spanned) : Type 0 where
  Empty : code ≡ [] → Ending code
  Pushed : (front : List Spanned) (last : Spanned) → code ≡ front ++ last ∷ [] → Ending code

ending : (code : List Spanned) → Ending code
ending [] = Empty refl
ending (x ∷ code) = under x code (ending code)
  where
    under : (x : Spanned) (code : List Spanned) → Ending code → Ending (x ∷ code)
    under x code (Empty e) = Pushed [] x (ap (λ l. x ∷ l) e)
    under x code (Pushed front last e) = Pushed (x ∷ front) last (ap (λ l. x ∷ l) e)

-- code with one more row
free_pushed : (done left : List Spanned) (x : Spanned) (r : Rule) → IsFreeOf done (x ∷ left) r → EndsFreeOf (done ++ x ∷ []) (ends left) r → IsFreeOf (done ++ x ∷ []) left r
free_pushed done left x r old new = record {
  free = λ front w back e m. by_ending front w back e m (ending back);
}
  where
    by_ending : (front w back : List Spanned) → done ++ x ∷ [] ≡ front ++ (w ++ back) → Matches r w → Ending back → MayStay r (back ++ left)
    by_ending front w back e m (Empty none) =
        subst (λ b. MayStay r (b ++ left)) (sym none) (new.free front w (e ∙ ap (λ b. front ++ (w ++ b)) none ∙ ap (λ l. front ++ l) (append-nil w)) m)
    by_ending front w back e m (Pushed back' y is) =
        let both = same_from_push done (front ++ (w ++ back')) x y (e ∙ ap (λ b. front ++ (w ++ b)) is ∙ ap (λ l. front ++ l) (sym (append_assoc w back' (y ∷ []))) ∙ sym (append_assoc front (w ++ back') (y ∷ []))) in
        let stay = old.free front w back' both.0 m in
        (stay.0, ap ends (ap (λ b. b ++ left) is ∙ append_assoc back' (y ∷ []) left ∙ ap (λ z. back' ++ (z ∷ left)) (sym both.1)) ∙ stay.1)

-- code that is cut back to before a window
free_cut : (done left tail by front' : List Spanned) (x : Spanned) (r : Rule) → done ++ x ∷ [] ≡ front' ++ tail → ends tail ≡ false → IsFreeOf done (x ∷ left) r → IsFreeOf front' (by ++ left) r
free_cut done left tail by front' x r cut plain old = record {
  free = λ front w back e m. by_ending front w back e m (ending tail);
}
  where
    ends_more : (a b : List Spanned) → ends a ≡ false → ends (a ++ b) ≡ false
    ends_more [] b h = cc
    ends_more (y ∷ a) b h = h

    same_ends : (back rest rest' : List Spanned) → ends rest ≡ false → ends (back ++ rest) ≡ true → ends (back ++ rest') ≡ true
    same_ends [] rest rest' f t = absurd (both_ways (ends rest) f t)
    same_ends (y ∷ back) rest rest' f t = t

    by_ending : (front w back : List Spanned) → front' ≡ front ++ (w ++ back) → Matches r w → Ending tail → MayStay r (back ++ (by ++ left))
    by_ending front w back e m (Empty none) = absurd (both_ways (ends tail) plain (ap ends none))
    by_ending front w back e m (Pushed tail' y is) =
        let both = same_from_push done (front' ++ tail') x y (cut ∙ ap (λ t. front' ++ t) is ∙ sym (append_assoc front' tail' (y ∷ []))) in
        let whole : done ≡ front ++ (w ++ (back ++ tail')) =
        both.0 ∙ ap (λ l. l ++ tail') e ∙ append_assoc front (w ++ back) tail' ∙ ap (λ l. front ++ l) (append_assoc w back tail') in
        let stay = old.free front w (back ++ tail') whole m in
        let same : (back ++ tail') ++ (x ∷ left) ≡ back ++ (tail ++ left) =
        append_assoc back tail' (x ∷ left)
        ∙ ap (λ l. back ++ l) (ap (λ z. tail' ++ (z ∷ left)) both.1 ∙ sym (append_assoc tail' (y ∷ []) left) ∙ ap (λ l. l ++ left) (sym is)) in
        (stay.0, same_ends back (tail ++ left) (by ++ left) (ends_more tail left plain) (ap ends (sym same) ∙ stay.1))

-- the loop
nothing_there : (r : Rule) (rest : List Spanned) → 0 < length r.before → IsFreeOf [] rest r
nothing_there r rest wide = record {
  free = λ front w back e m.
      absurd (omega (arith, wide, matched_length r w m, ap length e, length-append front (w ++ back), length-append w back));
}

pub begins : (code done left : List Spanned) → done ≡ [] → left ≡ reverse code → Tidying code done (reverse left)
begins code done left none turned =
    let rest : reverse left ≡ code = ap reverse turned ∙ reverse-reverse code in
    record {
      stands = subst (λ l. StandsFor code l) (sym (ap (λ d. d ++ reverse left) none ∙ rest)) (stands_self code);
      free = subst (λ d. EachRule (IsFreeOf d (reverse left)) all_rules) (sym none) (each_wide (IsFreeOf [] (reverse left)) all_rules (λ r wide. nothing_there r (reverse left) wide) refl);
    }

turned_next : (before after : List Spanned) (x : Spanned) → before ≡ after ++ x ∷ [] → reverse before ≡ x ∷ reverse after
turned_next before after x e = ap reverse e ∙ reverse-append after (x ∷ [])

pub pushed : (code done done' left left' : List Spanned) (x : Spanned) (last : Bool) → Tidying code done (reverse left) → left ≡ left' ++ x ∷ [] → done' ≡ done ++ x ∷ [] → last ≡ ends (reverse left') → EachRule (EndsFreeOf done' last) all_rules → Tidying code done' (reverse left')
pushed code done done' left left' x last t next more is free =
    let turned = turned_next left left' x next in
    let free' = subst (λ b. EachRule (EndsFreeOf (done ++ x ∷ []) b) all_rules) is (subst (λ d. EachRule (EndsFreeOf d last) all_rules) more free) in
    let old = subst (λ l. EachRule (IsFreeOf done l) all_rules) turned t.free in
    subst (λ d. Tidying code d (reverse left')) (sym more) (record {
      stands = subst (StandsFor code) (ap (λ l. done ++ l) turned ∙ sym (append_assoc done (x ∷ []) (reverse left'))) t.stands;
      free = each_both (IsFreeOf done (x ∷ reverse left')) (EndsFreeOf (done ++ x ∷ []) (ends (reverse left'))) (IsFreeOf (done ++ x ∷ []) (reverse left')) all_rules (λ r. free_pushed done (reverse left') x r) old free';
    })

pub cut_back : (code done done' cut left left' left'' by : List Spanned) (x : Spanned) (last : Bool) (start : ℕ) → Tidying code done (reverse left) → left ≡ left' ++ x ∷ [] → done' ≡ done ++ x ∷ [] → last ≡ ends (reverse left') → Replaces done' last start by → cut ≡ take start done' → left'' ≡ left' ++ by → reverse by ≡ by → Tidying code cut (reverse left'')
cut_back code done done' cut left left' left'' by x last start t next more is new at back turns =
    let turned = turned_next left left' x next in
    let rest = reverse left' in
    let front = take start done' in
    let tail = drop start done' in
    let whole : done' ≡ front ++ tail = sym (take-append-drop start done') in
    let old = subst (λ l. EachRule (IsFreeOf done l) all_rules) turned t.free in
    let same : done ++ reverse left ≡ front ++ (tail ++ rest) =
    ap (λ l. done ++ l) turned ∙ sym (append_assoc done (x ∷ []) rest) ∙ ap (λ l. l ++ rest) (sym more ∙ whole) ∙ append_assoc front tail rest in
    let after : reverse left'' ≡ by ++ rest = ap reverse back ∙ reverse-append left' by ∙ ap (λ l. l ++ rest) turns in
    subst (λ l. Tidying code cut l) (sym after) (subst (λ c. Tidying code c (by ++ rest)) (sym at) (record {
      stands = stands_then code (front ++ (tail ++ rest)) (front ++ (by ++ rest)) (subst (StandsFor code) same t.stands) (stands_after front (tail ++ rest) (by ++ rest) (new.stands rest (sym is)));
      free = each_from (IsFreeOf done (x ∷ rest)) (IsFreeOf front (by ++ rest)) all_rules (λ r. free_cut done rest tail by front x r (sym more ∙ whole) (not-true (ends tail) new.plain)) old;
    }))

-- nothing and one row are the same from the end
pub turned_few : (o : Option Spanned) → reverse (option_to_list o) ≡ option_to_list o
turned_few (Some r) = refl
turned_few None = refl

pub finished : (code done left : List Spanned) → Tidying code done (reverse left) → left ≡ [] → IsTidy code done
finished code done left t none = record {
  stands = subst (StandsFor code) (ap (λ l. done ++ reverse l) none ∙ append-nil done) t.stands;
  free = subst (λ l. EachRule (IsFreeOf done (reverse l)) all_rules) none t.free;
}
