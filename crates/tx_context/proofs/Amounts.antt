-- What follows from the limits where an item is taken: counts and amounts that fit an element, and bytecodes that aren't long.
use Rattle.std.proofs.Common.{◌≡◌, ℕ, ◌≤◌, ◌<◌, Bool, true, false, List, [], ◌∷◌, length, get_or, Ok, subst, arith}
use Rattle.std.specs.Prelude.{ℤ, pos, negsuc, slice_get, zero, suc}
use Rattle.std.specs.List.{list_any, list_all}
use Rattle.std.proofs.lemmas.Bool.{or_parts, and_parts}
use Rattle.std.proofs.lemmas.Bool.Decides.{nat_tests}
use Rattle.tx_context.specs.Transaction.{InputParts, OutputParts, Transaction, Locking}
use Rattle.tx_context.specs.Limits.{IsWithinLimits, IsFrame, IsContext, is_great_value, is_long, bytecodes_of}
use Rattle.tx_context.specs.Lookup.{item_at, item_or_cause}
use Rattle.tx_context.specs.declared.frame.TheConstants.{MOST_INPUTS, MOST_OUTPUTS, LONGEST_BYTECODE}
use Rattle.tx_context.proofs.Within.{facts_of}

none_at : {A : Type 0} (p : A → Bool) (xs : List A) (k : ℕ) (x : A) → list_any p xs ≡ false →
    item_or_cause (slice_get xs k) ≡ Ok x → p x ≡ false
none_at p [] k x h e = let no : ⊥ = cc in absurd no
none_at p (y ∷ ys) zero x h e = let same : y ≡ x = cc in subst (λ z. p z ≡ false) same (or_parts _ _ h).0
none_at p (y ∷ ys) (suc k) x h e = none_at p ys k x (or_parts _ _ h).1 e

-- where a test fails of all, it fails of the item at a number
pub none_at_number : {A : Type 0} (p : A → Bool) (xs : List A) (n : ℤ) (x : A) → list_any p xs ≡ false →
    item_at n xs ≡ Ok x → p x ≡ false
none_at_number p xs (pos k) x h e = none_at p xs k x h e
none_at_number p xs (negsuc k) x h e = let no : ⊥ = cc in absurd no

all_at : {A : Type 0} (p : A → Bool) (xs : List A) (k : ℕ) (x : A) → list_all p xs ≡ true →
    item_or_cause (slice_get xs k) ≡ Ok x → p x ≡ true
all_at p [] k x h e = let no : ⊥ = cc in absurd no
all_at p (y ∷ ys) zero x h e = let same : y ≡ x = cc in subst (λ z. p z ≡ true) same (and_parts _ _ h).0
all_at p (y ∷ ys) (suc k) x h e = all_at p ys k x (and_parts _ _ h).1 e

-- where a test holds of all, it holds of the item at a number
pub all_at_number : {A : Type 0} (p : A → Bool) (xs : List A) (n : ℤ) (x : A) → list_all p xs ≡ true →
    item_at n xs ≡ Ok x → p x ≡ true
all_at_number p xs (pos k) x h e = all_at p xs k x h e
all_at_number p xs (negsuc k) x h e = let no : ⊥ = cc in absurd no

pub input_amount : (t : Transaction (List ℕ)) (n : ℤ) (x : InputParts (List ℕ)) → IsContext t → item_at n t.inputs ≡ Ok x →
    is_great_value x.value ≡ false
input_amount t n x h e =
    none_at_number (λ (i : InputParts (List ℕ)). is_great_value i.value) t.inputs n x (facts_of _ t h).input_values e

pub output_amount : (t : Transaction (List ℕ)) (n : ℤ) (x : OutputParts (List ℕ)) → IsContext t → item_at n t.outputs ≡ Ok x →
    is_great_value x.value ≡ false
output_amount t n x h e =
    none_at_number (λ (o : OutputParts (List ℕ)). is_great_value o.value) t.outputs n x (facts_of _ t h).output_values e

pub few_inputs : (t : Transaction (List ℕ)) → IsContext t → length t.inputs ≤ MOST_INPUTS
few_inputs t h = (facts_of _ t h).input_count

pub few_outputs : (t : Transaction (List ℕ)) → IsContext t → length t.outputs ≤ MOST_OUTPUTS
few_outputs t h = (facts_of _ t h).output_count

pub active_within : {B : Type 0} (given : B → List (List ℕ)) (t : Transaction B) → IsWithinLimits given t → t.active < length t.inputs
active_within given t h = (facts_of given t h).active

pub active_in_context : (t : Transaction (List ℕ)) → IsContext t → t.active < length t.inputs
active_in_context t h = active_within _ t h

pub active_in_frame : (t : Transaction Locking) → IsFrame t → t.active < length t.inputs
active_in_frame t h = active_within _ t h

record Short (i : InputParts (List ℕ)) : Type 0 where
  pub locking : length i.locking ≤ LONGEST_BYTECODE
  pub unlocking : length i.unlocking ≤ LONGEST_BYTECODE

not_any_long : (xs : List (InputParts (List ℕ))) (k : ℕ) (d : InputParts (List ℕ)) →
    list_any (λ i. list_any is_long (bytecodes_of (λ bytes. bytes ∷ []) i)) xs ≡ false → k < length xs → Short (get_or xs k d)
not_any_long [] k d h within = absurd (omega (arith, within))
not_any_long (x ∷ xs) zero d h within =
    let first : list_any is_long (x.locking ∷ x.unlocking ∷ []) ≡ false = (or_parts _ _ h).0 in
    let locking : (is_long x.locking ≡ false) × (list_any is_long (x.unlocking ∷ []) ≡ false) = or_parts _ _ first in
    let unlocking : (is_long x.unlocking ≡ false) × (false ≡ false) = or_parts _ _ locking.1 in
    record { locking = grind (arith, nat_tests, locking.0); unlocking = grind (arith, nat_tests, unlocking.0) }
not_any_long (x ∷ xs) (suc k) d h within = not_any_long xs k d (or_parts _ _ h).1 (omega (arith, within))

-- the bytecodes of the input that is spent aren't long
pub short_locking : (t : Transaction (List ℕ)) (d : InputParts (List ℕ)) → IsContext t → length (get_or t.inputs t.active d).locking ≤ LONGEST_BYTECODE
short_locking t d h = (not_any_long t.inputs t.active d (facts_of _ t h).input_bytecodes (facts_of _ t h).active).locking

pub short_unlocking : (t : Transaction (List ℕ)) (d : InputParts (List ℕ)) → IsContext t → length (get_or t.inputs t.active d).unlocking ≤ LONGEST_BYTECODE
short_unlocking t d h = (not_any_long t.inputs t.active d (facts_of _ t h).input_bytecodes (facts_of _ t h).active).unlocking
