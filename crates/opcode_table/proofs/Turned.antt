-- Slices of elements as stacks.
use Rattle.std.proofs.Common.{◌≡◌, ℕ, zero, suc, ◌+◌, ◌-◌, ◌≤◌, ◌<◌, List, [], ◌∷◌, ◌++◌, length, map, take, drop, get_or, Some, Result, Ok, Err, refl, sym, ap, ◌∙◌, subst, append_assoc, arith}
use Rattle.std.specs.Prelude.{reverse, slice_get}
use Rattle.std.proofs.Math.Seq.{get_or-append_seam}
use Rattle.std.proofs.lemmas.Option.{slice_get-get_or}
use Rattle.std.proofs.lemmas.List.{reverse-append, reverse-reverse, length-reverse, length-map, map-append, take-append-drop, length-append, length-drop, take_at, drop_at}
use Rattle.arrayvec.specs.ArrayVec.{ArrayVec}
use Rattle.cash_base.specs.declared.fault.MachineCause.{MachineCause}
use Rattle.cash_base.specs.declared.fault.MachineCause.TheVariants.{Underflow}
use Rattle.cash_base.specs.Failing.{◌>>=◌}
use Rattle.opcode_table.specs.Stack.{Stack, with_top, taken}
use Rattle.opcode_table.specs.Turned.{turned}
use Rattle.opcode_table.specs.Deeds.{element_or_underflow, moved}

pub length_turned : (xs : List (ArrayVec ℕ)) → length (turned xs) ≡ length xs
length_turned xs = rw (length-reverse, length-map) refl

pub turned_apart : (rest top : List (ArrayVec ℕ)) → turned (rest ++ top) ≡ turned top ++ turned rest
turned_apart rest top = rw (map-append, reverse-append) refl

-- the last of a slice is the top
pub turned_last : (xs rest : List (ArrayVec ℕ)) (x : ArrayVec ℕ) → xs ≡ rest ++ x ∷ [] → turned xs ≡ x.items ∷ turned rest
turned_last xs rest x h = rw (h, map-append, reverse-append) refl

-- the operands of a check, the deepest first
pub turned_back : (xs : List (ArrayVec ℕ)) → reverse (turned xs) ≡ map (λ e. e.items) xs
turned_back xs = reverse-reverse (map (λ e. e.items) xs)

-- ---- elements that are taken

pub taken_whole : (top rest : Stack) → taken (length top) (top ++ rest) ≡ Ok (top, rest)
taken_whole [] rest = refl
taken_whole (e ∷ top) rest = ap (λ (r : Result (Stack × Stack) MachineCause). r >>= λ parts. Ok (with_top e parts)) (taken_whole top rest)

pub taken_few : (count : ℕ) (stack : Stack) → length stack < count → taken count stack ≡ Err Underflow
taken_few zero stack few = absurd (omega (arith, few))
taken_few (suc count) [] few = refl
taken_few (suc count) (e ∷ stack) few =
    ap (λ (r : Result (Stack × Stack) MachineCause). r >>= λ parts. Ok (with_top e parts)) (taken_few count stack (omega (arith, few)))

pub split_few : (count : ℕ) (xs : List (ArrayVec ℕ)) → length xs < count → taken count (turned xs) ≡ Err Underflow
split_few count xs few = taken_few count (turned xs) (omega (arith, few, length_turned xs))

pub split_taken : (count place : ℕ) (xs : List (ArrayVec ℕ)) → place + count ≡ length xs
    → taken count (turned xs) ≡ Ok (turned (drop place xs), turned (take place xs))
split_taken count place xs is =
    let rest = take place xs in
    let top = drop place xs in
    let many : length (turned top) ≡ count = omega (arith, length_turned top, length-drop place xs, is) in
    ap (λ (s : Stack). taken count s) (ap turned (sym (take-append-drop place xs)) ∙ turned_apart rest top)
    ∙ ap (λ (n : ℕ). taken n (turned top ++ turned rest)) (sym many)
    ∙ taken_whole (turned top) (turned rest)

-- ---- an element that is moved to the top

-- a list around one of its places
around : {X : Type 0} (xs : List X) (i : ℕ) (d : X) → i < length xs → xs ≡ take i xs ++ get_or xs i d ∷ drop (suc i) xs
around [] i d within = absurd (omega (arith, within))
around (x ∷ xs) zero d within = refl
around (x ∷ xs) (suc i) d within = ap (λ l. x ∷ l) (around xs i d (omega (arith, within)))

moved_seam : (n : ℕ) (above rest : Stack) (e : List ℕ) → length above ≡ n → moved n (above ++ e ∷ rest) ≡ Ok (e ∷ above ++ rest)
moved_seam n above rest e is =
    let within : n < length (above ++ e ∷ rest) = omega (arith, is, length-append above (e ∷ rest)) in
    let found : slice_get (above ++ e ∷ rest) n ≡ Some e =
    slice_get-get_or (above ++ e ∷ rest) n e within ∙ ap (λ k. Some (get_or (above ++ e ∷ rest) k e)) (sym is)
    ∙ ap Some (get_or-append_seam above e rest e) in
    let past : length (above ++ e ∷ []) ≡ n + 1 = omega (arith, is, length-append above (e ∷ [])) in
    let left : drop (n + 1) (above ++ e ∷ rest) ≡ rest =
    ap (λ (l : Stack). drop (n + 1) l) (sym (append_assoc above (e ∷ []) rest)) ∙ drop_at (above ++ e ∷ []) rest (n + 1) past in
    ap (λ o. element_or_underflow o >>= λ x. Ok (x ∷ take n (above ++ e ∷ rest) ++ drop (n + 1) (above ++ e ∷ rest))) found
    ∙ ap (λ (l : Stack). Ok (e ∷ l ++ drop (n + 1) (above ++ e ∷ rest))) (take_at above (e ∷ rest) n is)
    ∙ ap (λ (l : Stack). Ok (e ∷ above ++ l)) left

pub moved_up : (below i : ℕ) (xs : List (ArrayVec ℕ)) (x : ArrayVec ℕ) → i + 1 + below ≡ length xs → x ≡ get_or xs i x
    → moved below (turned xs) ≡ Ok (x.items ∷ turned (take i xs ++ drop (suc i) xs))
moved_up below i xs x place value =
    let p = take i xs in
    let q = drop (suc i) xs in
    let whole : xs ≡ p ++ x ∷ q = around xs i x (omega (arith, place)) ∙ ap (λ (y : ArrayVec ℕ). p ++ y ∷ q) (sym value) in
    let stack : turned xs ≡ turned q ++ x.items ∷ turned p =
    ap turned whole ∙ turned_apart p (x ∷ q) ∙ ap (λ (s : Stack). s ++ turned p) (turned_apart (x ∷ []) q)
    ∙ append_assoc (turned q) (x.items ∷ []) (turned p) in
    let above : length (turned q) ≡ below = omega (arith, length_turned q, length-drop (suc i) xs, place) in
    ap (moved below) stack
    ∙ moved_seam below (turned q) (turned p) x.items above
    ∙ ap (λ (s : Stack). Ok (x.items ∷ s)) (sym (turned_apart p q))
