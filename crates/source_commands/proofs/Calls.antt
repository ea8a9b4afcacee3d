-- The scripts of a call are those of its elements.
use Rattle.std.proofs.Common.{◌≡◌, ℕ, ◌≤◌, zero, suc, Bool, true, false, cond, List, [], ◌∷◌, length, map, Some, Result, Ok, Err, refl, sym, ap, subst}
use Rattle.std.specs.Prelude.{slice_get, nat_le}
use Rattle.std.proofs.lemmas.Bool.{leb-true}
use Rattle.cash_base.specs.Failing.{◌>>=◌}
use Rattle.spend_json.specs.Given.{ValueParts, ChoiceParts, by_call, by_pushes, SpendParts}
use Rattle.artifact_json.specs.Artifact.{Artifact}
use Rattle.unlocker.specs.declared.BuildFault.{BuildFault}
use Rattle.unlocker.specs.declared.BuildFault.TheVariants.{RedeemTooLong}
use Rattle.unlocker.specs.Building.{capped, size_check}
use Rattle.unlocker.specs.Scripts.{redeem_script, spending_script}
use Rattle.unlocker.specs.Spends.{opened_by, called_by, elements_for, opened, built, handed, call_with, built_call, Opened, Called, Built, Handed}

-- the scripts of so many functions for the elements of a call
abbrev pub scripts_with : Artifact → Handed → ℕ → Built
scripts_with program call functions =
    built (redeem_script program.code call.ctor) (spending_script functions call.chosen call.args (redeem_script program.code call.ctor))

pub record AreOwn (program : Artifact) (call : Handed) : Type 0 where
  pub scripts : call.scripts ≡ scripts_with program call (length program.abi)
  pub small : length (redeem_script program.code call.ctor) ≤ 520

record IsFront (program : Artifact) (front : Opened) : Type 0 where
  redeem : front.redeem ≡ redeem_script program.code front.ctor
  small : length (redeem_script program.code front.ctor) ≤ 520

front_is : (program : Artifact) (values : List ValueParts) (front : Opened) → opened_by program values ≡ Ok front → IsFront program front
front_is program values front is = by_ctor (elements_for program.ctor values) is
  where
    by_size : (ctor : List (List ℕ)) (t : Bool) → nat_le (length (redeem_script program.code ctor)) 520 ≡ t
        → (cond t (Ok (redeem_script program.code ctor)) (Err (RedeemTooLong (capped (length (redeem_script program.code ctor))))) >>= λ redeem. Ok (opened ctor redeem)) ≡ Ok front
        → IsFront program front
    by_size ctor true short made =
        let same : opened ctor (redeem_script program.code ctor) ≡ front = cc in
        subst (λ (o : Opened). IsFront program o) same
        (record { redeem = refl; small = leb-true (length (redeem_script program.code ctor)) 520 short })
    by_size ctor false short made = absurd cc

    by_ctor : (r : Result (List (List ℕ)) BuildFault)
        → (r >>= λ ctor. size_check (redeem_script program.code ctor) >>= λ redeem. Ok (opened ctor redeem)) ≡ Ok front
        → IsFront program front
    by_ctor (Ok ctor) made = by_size ctor (nat_le (length (redeem_script program.code ctor)) 520) refl made
    by_ctor (Err fault) made = absurd cc

own_with : (program : Artifact) (front : Opened) (asked : Called) → IsFront program front → AreOwn program (handed (length program.abi) front asked)
own_with program front asked h = record {
  scripts = ap (λ (r : List ℕ). built r (spending_script (length program.abi) asked.chosen asked.args r)) h.redeem;
  small = h.small;
}

pub own_scripts : (program : Artifact) (spend : SpendParts) (call : Handed) → built_call program spend ≡ Ok call → AreOwn program call
own_scripts program spend call is = by_choice spend.choice is
  where
    by_asked : (front : Opened) → IsFront program front → (asked : Result Called BuildFault)
        → (asked >>= λ c. Ok (handed (length program.abi) front c)) ≡ Ok call → AreOwn program call
    by_asked front h (Ok asked) made =
        let same : handed (length program.abi) front asked ≡ call = cc in
        subst (λ (c : Handed). AreOwn program c) same (own_with program front asked h)
    by_asked front h (Err fault) made = absurd cc

    by_front : (front : Result Opened BuildFault) → opened_by program spend.ctor ≡ front → (asked : Result Called BuildFault)
        → (front >>= λ f. asked >>= λ c. Ok (handed (length program.abi) f c)) ≡ Ok call → AreOwn program call
    by_front (Ok front) found asked made = by_asked front (front_is program spend.ctor front found) asked made
    by_front (Err fault) found asked made = absurd cc

    by_choice : (choice : ChoiceParts) → call_with program spend.ctor choice ≡ Ok call → AreOwn program call
    by_choice (by_call name values) made = by_front (opened_by program spend.ctor) refl (called_by program name values) made
    by_choice (by_pushes elements) made = absurd cc

-- an item of a list that was made of another is made of the item there
pub found_in_map : {A B : Type 0} (f : A → B) (xs : List A) (k : ℕ) (y : B) → slice_get (map f xs) k ≡ Some y
    → (x : A) × (slice_get xs k ≡ Some x) × (y ≡ f x)
found_in_map f [] k y is = absurd cc
found_in_map f (x ∷ xs) zero y is =
    let same : f x ≡ y = cc in
    (x, refl, sym same)
found_in_map f (x ∷ xs) (suc k) y is = found_in_map f xs k y is
