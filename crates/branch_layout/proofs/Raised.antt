-- The slots of a target are brought to the top, the last of them first.
use Rattle.std.proofs.Common.{◌≡◌, ℕ, suc, ◌+◌, ◌*◌, ◌≤◌, true, cond, List, [], ◌∷◌, ◌++◌, length, take, drop, Some, refl, sym, ap, ◌∙◌, append_assoc, append-nil, length-append, arith}
use Rattle.std.specs.Prelude.{remove}
use Rattle.std.proofs.lemmas.List.{length-take-le}
use Rattle.cash_base.specs.declared.place.Slot.{Slot}
use Rattle.script_codec.specs.declared.instr.Instr.{Instr}
use Rattle.branch_layout.specs.Slots.{is_slot, has, count_of, place_of}
use Rattle.branch_layout.specs.Arms.{Reaches, raising, Raises, Arranges}
use Rattle.branch_layout.proofs.Counts.{is_itself, count_append, has_by_count, none_counted, IsPlace, at_place}
use Rattle.branch_layout.proofs.Runs.{reaches_then, reaches_nothing, reaches_along, raised_past}
use Rattle.branch_layout.proofs.Weights.{moves_nothing, moves_both, moves_within, raising_moves}

pub none_raised : (left : List Slot) (moves : List Instr) → Raises [] left left moves moves
none_raised left moves = record {
  added = [];
  grown = sym (append-nil moves);
  reaches = reaches_nothing left left refl;
  weighs = moves_nothing 0 0;
  counts = λ slot. omega arith;
  size = omega arith;
}

-- what a longer target asks for, a shorter one does too
pub fewer : (x : Slot) (others left : List Slot) → ((s : Slot) → count_of s (x ∷ others) ≤ count_of s left)
    → (s : Slot) → count_of s others ≤ count_of s left
fewer x others left h s = let k = h s in omega (arith, k)

-- the next one is among those that are left
pub is_left : (x : Slot) (others before left : List Slot) (old new : List Instr) → Raises others before left old new
    → ((s : Slot) → count_of s (x ∷ others) ≤ count_of s before) → has left x ≡ true
is_left x others before left old new r h =
    let k : ◌≡◌ {A = ℕ} (cond (is_slot x x) 1 0) 1 = ap (λ b. cond b 1 0) (is_itself x) in
    let c = r.counts x in
    let n = h x in
    has_by_count x left (omega (arith, k, c, n))

pub depth_small : (x : Slot) (others before left : List Slot) (old new : List Instr) (at : ℕ)
    → Raises others before left old new
    → place_of x left ≡ Some at → length before ≤ 160 → length others + at ≤ 160
depth_small x others before left old new at r e small =
    let p = at_place x left at e in omega (arith, r.size, p.inside, small)

pub one_raised : (x : Slot) (others before left : List Slot) (old mid new : List Instr) (at : ℕ)
    → Raises others before left old mid
    → place_of x left ≡ Some at → length before ≤ 160 → new ≡ mid ++ raising (length others + at)
    → Raises (x ∷ others) before (remove left at) old new
one_raised x others before left old mid new at r e small grown =
    record {
      added = r.added ++ raising (length others + at);
      grown = grown ∙ ap (λ l. l ++ raising (length others + at)) r.grown ∙ append_assoc old r.added (raising (length others + at));
      reaches = reaches_then r.added (raising (length others + at)) before (others ++ left) (x ∷ (others ++ (above ++ below))) r.reaches lifted;
      weighs = moves_within (4 * length others + 4) (length others + 1) (4 * length (x ∷ others)) (length (x ∷ others))
          (r.added ++ raising (length others + at))
          (moves_both (4 * length others) (length others) 4 1 r.added (raising (length others + at)) r.weighs (raising_moves (length others + at) deep))
          (omega arith) (omega arith);
      counts = λ s. counted s;
      size = let l = ap length place.split in let m = length-append above (x ∷ below) in let n = length-append above below in
          omega (arith, r.size, l, m, n);
    }
  where
    above : List Slot
    above = take at left

    below : List Slot
    below = drop (suc at) left

    place : IsPlace x left at
    place = at_place x left at e

    deep : length others + at ≤ 160
    deep = depth_small x others before left old mid at r e small

    depth : length (others ++ above) ≡ length others + at
    depth = let t = length-take-le at left (omega (arith, place.inside)) in let l = length-append others above in omega (arith, t, l)

    lifted : Reaches (raising (length others + at)) (others ++ left) (x ∷ (others ++ (above ++ below)))
    lifted = reaches_along (raising (length (others ++ above))) (raising (length others + at))
        ((others ++ above) ++ x ∷ below) (others ++ left) (x ∷ ((others ++ above) ++ below)) (x ∷ (others ++ (above ++ below)))
        (ap raising depth)
        (append_assoc others above (x ∷ below) ∙ ap (λ l. others ++ l) (sym place.split))
        (ap (λ l. x ∷ l) (append_assoc others above below))
        (raised_past (others ++ above) x below (omega (arith, depth, deep)))

    counted : (s : Slot) → count_of s (x ∷ others) + count_of s (above ++ below) ≡ count_of s before
    counted s =
        let c = r.counts s in
        let l = ap (count_of s) place.split in
        let m = count_append s above (x ∷ below) in
        let n = count_append s above below in
        omega (arith, c, l, m, n)

pub none_arranged : (slots target : List Slot) (old new : List Instr) → slots ≡ target → new ≡ old
    → Arranges slots target old new
none_arranged slots target old new same e = record {
  added = [];
  grown = e ∙ sym (append-nil old);
  reaches = reaches_nothing slots target same;
  weighs = moves_nothing (4 * length target) (length target);
  size = ap length (sym same);
}

pub all_arranged : (slots target left : List Slot) (old new : List Instr) → Raises target slots left old new
    → ((s : Slot) → count_of s slots ≡ count_of s target) → Arranges slots target old new
all_arranged slots target left old new r same =
    let none : left ≡ [] = none_counted left (λ s. let c = r.counts s in let d = same s in omega (arith, c, d)) in
    record {
      added = r.added;
      grown = r.grown;
      reaches = reaches_along r.added r.added slots slots (target ++ left) target refl refl
          (ap (λ l. target ++ l) none ∙ append-nil target) r.reaches;
      weighs = r.weighs;
      size = let l = ap length none in omega (arith, r.size, l);
    }
