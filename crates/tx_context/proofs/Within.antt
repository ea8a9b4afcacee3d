-- What follows from the limits of a transaction, one by one, and the way back.
use Rattle.std.proofs.Common.{◌≡◌, ℕ, ◌+◌, ◌≤◌, ◌<◌, Bool, true, false, ◌||◌, List, [], ◌∷◌, ◌++◌, length, map, Option, Some, None, Result, Ok, Err, refl, sym, ap, ◌∙◌, arith}
use Rattle.std.proofs.lemmas.Bool.{or_parts}
use Rattle.std.proofs.lemmas.Bool.Decides.{nat_tests}
use Rattle.std.proofs.lemmas.List.Folds.{list_any-append}
use Rattle.std.specs.Prelude.{nat_lt, nat_le, ◌==◌}
use Rattle.std.specs.List.{list_any, position_from}
use Rattle.cash_base.specs.Failing.{◌>>◌, refused_if, refused_at}
use Rattle.tx_context.specs.Transaction.{InputParts, OutputParts, Transaction}
use Rattle.tx_context.specs.Limits.{IsWithinLimits, checked, is_great_value, is_long, bytecodes_of}
use Rattle.tx_context.specs.declared.frame.TheConstants.{GREATEST_VERSION, MOST_INPUTS, MOST_OUTPUTS}

pub record Facts {B : Type 0} (given : B → List (List ℕ)) (t : Transaction B) : Type 0 where
  pub version : t.version ≤ GREATEST_VERSION
  pub some : 0 < length t.inputs
  pub input_count : length t.inputs ≤ MOST_INPUTS
  pub output_count : length t.outputs ≤ MOST_OUTPUTS
  pub input_values : list_any (λ i. is_great_value i.value) t.inputs ≡ false
  pub output_values : list_any (λ o. is_great_value o.value) t.outputs ≡ false
  pub input_bytecodes : list_any (λ i. list_any is_long (bytecodes_of given i)) t.inputs ≡ false
  pub output_bytecodes : list_any (λ o. list_any is_long (given o.locking)) t.outputs ≡ false
  pub active : t.active < length t.inputs

-- ---- tests in turn

both_pass : {A C E : Type 0} (p : Result A E) (q : Result C E) (x : C) → (p >> q) ≡ Ok x → ((y : A) × (p ≡ Ok y)) × (q ≡ Ok x)
both_pass (Ok y) q x h = ((y, refl), h)
both_pass (Err e) q x h = absurd cc

passed : {E : Type 0} (test : Bool) (fault : E) → ((y : Unit {0}) × (refused_if test fault ≡ Ok y)) → test ≡ false
passed true fault h = let no : Err fault ≡ Ok h.0 = h.1 in absurd cc
passed false fault h = refl

passed_at : {E : Type 0} (place : Option ℕ) (fault : ℕ → E) → ((y : Unit {0}) × (refused_at place fault ≡ Ok y)) → place ≡ None
passed_at (Some index) fault h = let no : Err (fault index) ≡ Ok h.0 = h.1 in absurd cc
passed_at None fault h = refl

-- ---- places

none_from_place : {A : Type 0} (p : A → Bool) (n : ℕ) (xs : List A) → position_from p n xs ≡ None → list_any p xs ≡ false
none_from_place p n [] h = refl
none_from_place p n (x ∷ xs) h = grind (arith, none_from_place p (n + 1) xs)

place_from_none : {A : Type 0} (p : A → Bool) (n : ℕ) (xs : List A) → list_any p xs ≡ false → position_from p n xs ≡ None
place_from_none p n [] h = refl
place_from_none p n (x ∷ xs) h = grind (arith, place_from_none p (n + 1) xs)

list_any-map : {X A : Type 0} (p : A → Bool) (f : X → A) (xs : List X) → list_any p (map f xs) ≡ list_any (λ x. p (f x)) xs
list_any-map p f [] = refl
list_any-map p f (x ∷ xs) = ap (λ b. p (f x) || b) (list_any-map p f xs)

-- no input and no output, where there is no place in the list of both
none_held : {I O A : Type 0} (p : A → Bool) (f : I → A) (g : O → A) (inputs : List I) (outputs : List O) → position_from p 0 (map f inputs ++ map g outputs) ≡ None
    → (list_any (λ i. p (f i)) inputs ≡ false) × (list_any (λ o. p (g o)) outputs ≡ false)
none_held p f g inputs outputs h =
    let both = or_parts _ _ (sym (list_any-append p (map f inputs) (map g outputs)) ∙ none_from_place p 0 (map f inputs ++ map g outputs) h) in
    (sym (list_any-map p f inputs) ∙ both.0, sym (list_any-map p g outputs) ∙ both.1)

neither : (a b : Bool) → a ≡ false → b ≡ false → a || b ≡ false
neither a b p q = grind arith

held_none : {I O A : Type 0} (p : A → Bool) (f : I → A) (g : O → A) (inputs : List I) (outputs : List O) → list_any (λ i. p (f i)) inputs ≡ false
    → list_any (λ o. p (g o)) outputs ≡ false → position_from p 0 (map f inputs ++ map g outputs) ≡ None
held_none p f g inputs outputs h k =
    place_from_none p 0 (map f inputs ++ map g outputs) (list_any-append p (map f inputs) (map g outputs)
    ∙ neither _ _ (list_any-map p f inputs ∙ h) (list_any-map p g outputs ∙ k))

-- ---- the limits

pub facts_of : {B : Type 0} (given : B → List (List ℕ)) (t : Transaction B) → IsWithinLimits given t → Facts given t
facts_of {B} given t h =
    let counts_on = both_pass _ _ t h.limits in
    let values_on = both_pass _ _ t counts_on.1 in
    let bytecodes_on = both_pass _ _ t values_on.1 in
    let active_on = both_pass _ _ t bytecodes_on.1 in
    let version_on = both_pass _ _ counts_on.0.0 counts_on.0.1 in
    let some_on = both_pass _ _ counts_on.0.0 version_on.1 in
    let inputs_on = both_pass _ _ counts_on.0.0 some_on.1 in
    let version : nat_lt GREATEST_VERSION t.version ≡ false = passed _ _ version_on.0 in
    let some : (length t.inputs == 0) ≡ false = passed _ _ some_on.0 in
    let inputs : nat_lt MOST_INPUTS (length t.inputs) ≡ false = passed _ _ inputs_on.0 in
    let outputs : nat_lt MOST_OUTPUTS (length t.outputs) ≡ false = passed _ _ (counts_on.0.0, inputs_on.1) in
    let active : nat_le (length t.inputs) t.active ≡ false = passed _ _ active_on.0 in
    let values = none_held is_great_value (λ (i : InputParts B). i.value) (λ (o : OutputParts B). o.value) t.inputs t.outputs (passed_at _ _ values_on.0) in
    let bytecodes = none_held (list_any is_long) (bytecodes_of given) (λ (o : OutputParts B). given o.locking) t.inputs t.outputs (passed_at _ _ bytecodes_on.0) in
    record {
      version = grind (arith, nat_tests, version);
      some = grind (arith, nat_tests, some);
      input_count = grind (arith, nat_tests, inputs);
      output_count = grind (arith, nat_tests, outputs);
      input_values = values.0;
      output_values = values.1;
      input_bytecodes = bytecodes.0;
      output_bytecodes = bytecodes.1;
      active = grind (arith, nat_tests, active);
    }

-- ---- and back

go_on : {A C E : Type 0} (p : Result A E) (q : Result C E) (y : A) (x : C) → p ≡ Ok y → q ≡ Ok x → (p >> q) ≡ Ok x
go_on (Ok z) q y x h k = k
go_on (Err e) q y x h k = absurd cc

let_by : {E : Type 0} (test : Bool) (fault : E) → test ≡ false → refused_if test fault ≡ Ok tt
let_by true fault h = absurd cc
let_by false fault h = refl

let_by_at : {E : Type 0} (place : Option ℕ) (fault : ℕ → E) → place ≡ None → refused_at place fault ≡ Ok tt
let_by_at (Some index) fault h = absurd cc
let_by_at None fault h = refl

pub checked_of : {B : Type 0} (given : B → List (List ℕ)) (t : Transaction B) → Facts given t → checked given t ≡ Ok t
checked_of {B} given t h =
    let version : nat_lt GREATEST_VERSION t.version ≡ false = grind (arith, nat_tests, h.version) in
    let some : (length t.inputs == 0) ≡ false = grind (arith, nat_tests, h.some) in
    let inputs : nat_lt MOST_INPUTS (length t.inputs) ≡ false = grind (arith, nat_tests, h.input_count) in
    let outputs : nat_lt MOST_OUTPUTS (length t.outputs) ≡ false = grind (arith, nat_tests, h.output_count) in
    let active : nat_le (length t.inputs) t.active ≡ false = grind (arith, nat_tests, h.active) in
    go_on _ _ tt t
    (go_on _ _ tt tt (let_by _ _ version) (go_on _ _ tt tt (let_by _ _ some) (go_on _ _ tt tt (let_by _ _ inputs) (let_by _ _ outputs))))
    (go_on _ _ tt t (let_by_at _ _ (held_none is_great_value (λ (i : InputParts B). i.value) (λ (o : OutputParts B). o.value) t.inputs t.outputs h.input_values h.output_values))
    (go_on _ _ tt t (let_by_at _ _ (held_none (list_any is_long) (bytecodes_of given) (λ (o : OutputParts B). given o.locking) t.inputs t.outputs h.input_bytecodes h.output_bytecodes))
    (go_on _ _ tt t (let_by _ _ active) refl)))
