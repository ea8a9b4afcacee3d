-- The loop that drops what isn't kept.
use Rattle.std.proofs.Common.{◌≡◌, ℕ, suc, ◌+◌, ◌*◌, ◌<◌, ◌≤◌, Bool, true, false, cond, not, List, [], ◌∷◌, ◌++◌, length, take, drop, refl, sym, ap, ◌∙◌, subst, append_assoc, append-nil, add-one, drop-cons, get_or, arith}
use Rattle.std.proofs.lemmas.List.{drop_all, take_all, length-take}
use Rattle.std.proofs.lemmas.List.Elements.{filter_more}
use Rattle.std.proofs.lemmas.List.Filters.{length-filter_both, length-filter_more}
use Rattle.cash_base.specs.declared.place.Slot.{Slot}
use Rattle.script_codec.specs.declared.instr.Instr.{Instr}
use Rattle.branch_layout.specs.Slots.{has, kept_of, spare_of}
use Rattle.branch_layout.specs.Arms.{Reaches, AreMoves, DropOnly, discarding, KeepsOnly}
use Rattle.branch_layout.proofs.Runs.{reaches_then, reaches_along, discarded_past}
use Rattle.branch_layout.proofs.Weights.{moves_nothing, moves_both, moves_within, discarding_moves, drop_nothing, drops_both, drops_discarding}

-- what was seen is kept or dropped, and the rest still stands below it
pub record KeepsSoFar (keep layout left : List Slot) (moves : List Instr) (i : ℕ) : Type 0 where
  pub left_is : left ≡ kept_of keep (take i layout)
  pub reaches : Reaches moves layout (left ++ drop i layout)
  pub drops : DropOnly (spare_of keep (take i layout)) moves
  pub weighs : AreMoves (5 * spare_of keep (take i layout)) (2 * spare_of keep (take i layout)) moves

pub kept_and_spare : (keep layout : List Slot) → length (kept_of keep layout) + spare_of keep layout ≡ length layout
kept_and_spare keep layout = length-filter_both (has keep) (λ slot. not (has keep slot)) (λ slot. refl) layout

pub left_small : (keep layout left : List Slot) (moves : List Instr) (i : ℕ) → KeepsSoFar keep layout left moves i
    → length left ≤ length layout
left_small keep layout left moves i k =
    let e = kept_and_spare keep (take i layout) in
    let f = ap length k.left_is in
    let t = length-take i layout in
    omega (arith, e, f, t)

pub none_kept : (keep layout : List Slot) → KeepsSoFar keep layout [] [] 0
none_kept keep layout = record {
  left_is = refl;
  reaches = λ setting s element_of rest live. refl;
  drops = drop_nothing;
  weighs = moves_nothing 0 0;
}

pub one_more : (keep layout left next : List Slot) (moves after : List Instr) (i : ℕ) (x d : Slot) (b : Bool)
    → KeepsSoFar keep layout left moves i → i < length layout → length layout ≤ 160 → x ≡ get_or layout i d → b ≡ has keep x
    → next ≡ cond b (left ++ x ∷ []) left → after ≡ cond b moves (moves ++ discarding (length left))
    → KeepsSoFar keep layout next after (i + 1)
one_more keep layout left next moves after i x d b k lt small at test n m = by b test n m
  where
    rest : List Slot
    rest = drop (i + 1) layout

    here : drop i layout ≡ x ∷ rest
    here = drop-cons layout i d lt ∙ ap (λ y. y ∷ drop (suc i) layout) (sym at) ∙ ap (λ j. x ∷ drop j layout) (sym (add-one i))

    kept_more : kept_of keep (take (i + 1) layout) ≡ kept_of keep (take i layout) ++ cond (has keep x) (x ∷ []) []
    kept_more =
        subst (λ y. kept_of keep (take (i + 1) layout) ≡ kept_of keep (take i layout) ++ cond (has keep y) (y ∷ []) []) (sym at)
        (filter_more (has keep) layout i d lt)

    spare_more : spare_of keep (take (i + 1) layout) ≡ spare_of keep (take i layout) + cond (not (has keep x)) 1 0
    spare_more =
        subst (λ y. spare_of keep (take (i + 1) layout) ≡ spare_of keep (take i layout) + cond (not (has keep y)) 1 0) (sym at)
        (length-filter_more (λ slot. not (has keep slot)) layout i d lt)

    by : (c : Bool) → c ≡ has keep x → next ≡ cond c (left ++ x ∷ []) left → after ≡ cond c moves (moves ++ discarding (length left))
        → KeepsSoFar keep layout next after (i + 1)
    by true t e f =
        let s : spare_of keep (take i layout) ≡ spare_of keep (take (i + 1) layout) =
        let c : ◌≡◌ {A = ℕ} (cond (not (has keep x)) 1 0) 0 = ap (λ h. cond (not h) 1 0) (sym t) in omega (arith, spare_more, c) in
        record {
          left_is = e ∙ ap (λ l. l ++ x ∷ []) k.left_is ∙ ap (λ h. kept_of keep (take i layout) ++ cond h (x ∷ []) []) t ∙ sym kept_more;
          reaches = reaches_along moves after layout layout (left ++ drop i layout) (next ++ rest) (sym f) refl
              (ap (λ l. left ++ l) here ∙ sym (append_assoc left (x ∷ []) rest) ∙ ap (λ l. l ++ rest) (sym e)) k.reaches;
          drops = subst (λ l. DropOnly (spare_of keep (take (i + 1) layout)) l) (sym f) (subst (λ j. DropOnly j moves) s k.drops);
          weighs = subst (λ l. AreMoves (5 * spare_of keep (take (i + 1) layout)) (2 * spare_of keep (take (i + 1) layout)) l) (sym f)
              (subst (λ j. AreMoves (5 * j) (2 * j) moves) s k.weighs);
        }
    by false t e f =
        let s : spare_of keep (take i layout) + 1 ≡ spare_of keep (take (i + 1) layout) =
        let c : ◌≡◌ {A = ℕ} (cond (not (has keep x)) 1 0) 1 = ap (λ h. cond (not h) 1 0) (sym t) in omega (arith, spare_more, c) in
        let room : length left ≤ 160 = let l = left_small keep layout left moves i k in omega (arith, l, small) in
        record {
          left_is = e ∙ k.left_is ∙ sym (append-nil (kept_of keep (take i layout)))
              ∙ ap (λ h. kept_of keep (take i layout) ++ cond h (x ∷ []) []) t ∙ sym kept_more;
          reaches = reaches_along (moves ++ discarding (length left)) after layout layout (left ++ rest) (next ++ rest) (sym f) refl
              (ap (λ l. l ++ rest) (sym e))
              (reaches_then moves (discarding (length left)) layout (left ++ x ∷ rest) (left ++ rest)
              (reaches_along moves moves layout layout (left ++ drop i layout) (left ++ x ∷ rest) refl refl (ap (λ l. left ++ l) here) k.reaches)
              (discarded_past left x rest room));
          drops = subst (λ l. DropOnly (spare_of keep (take (i + 1) layout)) l) (sym f)
              (subst (λ j. DropOnly j (moves ++ discarding (length left))) s
              (drops_both (spare_of keep (take i layout)) 1 moves (discarding (length left)) k.drops (drops_discarding (length left))));
          weighs = subst (λ l. AreMoves (5 * spare_of keep (take (i + 1) layout)) (2 * spare_of keep (take (i + 1) layout)) l) (sym f)
              (moves_within (5 * spare_of keep (take i layout) + 5) (2 * spare_of keep (take i layout) + 2)
              (5 * spare_of keep (take (i + 1) layout)) (2 * spare_of keep (take (i + 1) layout)) (moves ++ discarding (length left))
              (moves_both (5 * spare_of keep (take i layout)) (2 * spare_of keep (take i layout)) 5 2 moves (discarding (length left))
              k.weighs (discarding_moves (length left) room))
              (omega (arith, s)) (omega (arith, s)));
        }

pub all_kept : (keep layout left : List Slot) (moves : List Instr) (i : ℕ) → KeepsSoFar keep layout left moves i
    → length layout ≤ i
    → KeepsOnly keep layout left moves
all_kept keep layout left moves i k past =
    let t : take i layout ≡ layout = take_all i layout past in
    let d : drop i layout ≡ [] = drop_all i layout past in
    record {
      left_is = k.left_is ∙ ap (kept_of keep) t;
      reaches = reaches_along moves moves layout layout (left ++ drop i layout) left refl refl
          (ap (λ l. left ++ l) d ∙ append-nil left) k.reaches;
      drops = subst (λ l. DropOnly (spare_of keep l) moves) t k.drops;
      weighs = subst (λ l. AreMoves (5 * spare_of keep l) (2 * spare_of keep l) moves) t k.weighs;
    }
