-- The types of the names in scope, and their values, as names are added.
use Rattle.std.proofs.Common.{◌≡◌, ◌≢◌, ◌∙◌, ℕ, ◌+◌, ◌<◌, ◌≤◌, Bool, true, false, cond, eqb, List, [], ◌∷◌, ◌++◌, Option, Some, None, refl, sym, ap, subst, arith, inl, inr, append_assoc, pos}
use Rattle.std.specs.Prelude.{unwrap_or, is_some}
use Rattle.std.specs.Str.{bytes_eq}
use Rattle.std.proofs.lemmas.Bool.{cond-true, cond-false, eq-eqb, ne_eqb, cases_eq, cases_lt}
use Rattle.cash_base.specs.declared.place.Slot.{Slot}
use Rattle.cash_tree.specs.declared.Ty.{Ty}
use Rattle.cash_tree.specs.declared.Ty.TheVariants as ty
use Rattle.cash_tree.specs.declared.Ty.TheOpen.{Ty-F}
use Rattle.cash_tree.specs.declared.Ty.TheViews.{out-Ty}
use Rattle.name_scopes.specs.declared.scope.Variable.{Variable}
use Rattle.name_scopes.specs.Names.{Names, Entry, find, look, slot, variable, declared, after}
use Rattle.type_tables.specs.declared.rules.Binding.{Binding}
use Rattle.type_tables.specs.Tables.{is_single, is_single_layer, layer_fits, fits, type_at, Env as Types}
use Rattle.type_check.specs.Shapes.{with_name}
use Rattle.source_meaning.specs.Meaning.{Env, with_value, outside}
use Rattle.type_soundness.proofs.Holds.{TyLayer, LayerHolds, Holds, nothing-IsElement}
use Rattle.type_soundness.proofs.Expressions.{NamesHold}

-- ---- types of names

abbrev binding : Slot → Ty → Binding
binding name t = record { slot = name; ty = t }

pub type_same : (a b : Slot) → a.0 ≡ b.0 → (types : Types) → type_at a types ≡ type_at b types
type_same a b is [] = refl
type_same a b is (x ∷ types) =
    ap (λ n. cond (eqb x.slot.0 n) x.ty (type_at a types)) is ∙ ap (λ t. cond (eqb x.slot.0 b.0) x.ty t) (type_same a b is types)

-- one name more leaves the types of the others
other_type : (name : Slot) (t : Ty) (at : Slot) → name.0 ≢ at.0 → (types : Types) → type_at at (types ++ binding name t ∷ []) ≡ type_at at types
other_type name t at differs [] = cond-false (eqb name.0 at.0) t ty.Int (ne_eqb name.0 at.0 differs)
other_type name t at differs (x ∷ types) = ap (λ u. cond (eqb x.slot.0 at.0) x.ty u) (other_type name t at differs types)

-- The names in scope have slots below the next one. Each type is that of an element. A slot that isn't given yet has no type.
pub record Scope (names : Names) (types : Types) : Type 0 where
  pub below : (q : List ℕ) (v : Variable) → look q names ≡ Some v → v.slot.0 < names.next
  pub single : (at : Slot) → is_single (type_at at types) ≡ true
  pub unbound : (at : Slot) → names.next ≤ at.0 → (more : Types) → type_at at (types ++ more) ≡ type_at at more

-- What comes after more names: slots only rise, and those that were given keep their types.
pub record Grows (n : ℕ) (types : Types) (later : Names) (after : Types) : Type 0 where
  pub more : n ≤ later.next
  pub kept : (at : Slot) → at.0 < n → type_at at after ≡ type_at at types
  pub scope : Scope later after

by_test : (count : ℕ) (t : Bool) (first v : Variable) (rest : Option Variable) → first.slot.0 < count → (rest ≡ Some v → v.slot.0 < count)
    → cond t (Some first) rest ≡ Some v → v.slot.0 < count
by_test count true first v rest here more same = let one : first ≡ v = cc in subst (λ (v : Variable). v.slot.0 < count) one here
by_test count false first v rest here more same = more same

found_by : (count : ℕ) (q name : List ℕ) (constant : Bool) (e : Entry) (known : List Entry) (v : Variable) (t : Bool)
    → (((v : Variable) → find q known ≡ Some v → v.slot.0 < count) → find q (known ++ (name, variable count constant) ∷ []) ≡ Some v → v.slot.0 < count + 1)
    → ((v : Variable) → cond t (Some e.1) (find q known) ≡ Some v → v.slot.0 < count)
    → cond t (Some e.1) (find q (known ++ (name, variable count constant) ∷ [])) ≡ Some v → v.slot.0 < count + 1
found_by count q name constant e known v true rest h is = let within = h v is in omega (arith, within)
found_by count q name constant e known v false rest h is = rest h is

-- in a list of names with one more at its end
pub found_below : (count : ℕ) (q name : List ℕ) (constant : Bool) (known : List Entry) → ((v : Variable) → find q known ≡ Some v → v.slot.0 < count)
    → (v : Variable) → find q (known ++ (name, variable count constant) ∷ []) ≡ Some v → v.slot.0 < count + 1
found_below count q name constant [] h v is =
    let here : count < count + 1 = omega arith in
    by_test (count + 1) (bytes_eq q name) (variable count constant) v None here (λ no. absurd cc) is
found_below count q name constant (e ∷ known) h v is =
    let by_name : (t : Bool) → ((v : Variable) → cond t (Some e.1) (find q known) ≡ Some v → v.slot.0 < count)
    → cond t (Some e.1) (find q (known ++ (name, variable count constant) ∷ [])) ≡ Some v → v.slot.0 < count + 1 =
    λ t. found_by count q name constant e known v t (λ g. found_below count q name constant known g v) in
    by_name (bytes_eq q e.0) h is

-- the name that comes next has its own type
pub own_type : (names : Names) (types : Types) (t : Ty) → Scope names types → type_at (slot names.next) (with_name (slot names.next) t types) ≡ t
own_type names types t h =
    let n = names.next in
    h.unbound (slot n) (omega arith) (binding (slot n) t ∷ []) ∙ cond-true (eqb n n) t ty.Int (eq-eqb n n refl)

pub declares : (names : Names) (types : Types) (name : List ℕ) (constant : Bool) (t : Ty) → Scope names types → is_single t ≡ true
    → Grows names.next types (declared name constant names) (with_name (slot names.next) t types)
declares names types name constant t h one =
    let n = names.next in
    let here : type_at (slot n) (types ++ binding (slot n) t ∷ []) ≡ t = own_type names types t h in
    record {
      more = omega arith;
      kept = λ at less. other_type (slot n) t at (λ is. omega (arith, is, less)) types;
      scope = record {
        below = λ q v is. found_below n q name constant names.known (h.below q) v is;
        single = λ at. elim (cases_eq at.0 n) [
          | inl same ↦ ap is_single (type_same at (slot n) same (types ++ binding (slot n) t ∷ []) ∙ here) ∙ one
          | inr differs ↦ ap is_single (other_type (slot n) t at (λ is. differs (sym is)) types) ∙ h.single at
        ];
        unbound = λ at within more.
            let differs : n ≢ at.0 = λ is. omega (arith, is, within) in
            ap (type_at at) (append_assoc types (binding (slot n) t ∷ []) more)
            ∙ h.unbound at (omega (arith, within)) (binding (slot n) t ∷ more)
            ∙ cond-false (eqb n at.0) t (type_at at more) (ne_eqb n at.0 differs);
      };
    }

-- ---- values of names

pub record Agrees (n : ℕ) (types : Types) (values : Env) : Type 0 where
  pub holds : NamesHold types values
  pub none : (at : Slot) → n ≤ at.0 → values at ≡ None

nothing_in : (layer : TyLayer) → is_single_layer layer ≡ true → LayerHolds layer []
nothing_in Ty-F.Int is = (pos 0, refl)
nothing_in Ty-F.Bool is = inl refl
nothing_in Ty-F.Text is = tt
nothing_in Ty-F.Bytes is = tt
nothing_in (Ty-F.BytesN n) is = tt
nothing_in Ty-F.Pubkey is = tt
nothing_in Ty-F.Sig is = tt
nothing_in Ty-F.Datasig is = tt
nothing_in (Ty-F.Array item) is = let no : ⊥ = cc in absurd no
nothing_in (Ty-F.Pair left right) is = let no : ⊥ = cc in absurd no

pub nothing_holds : (t : Ty) → is_single t ≡ true → Holds (out-Ty t) []
nothing_holds t is = record { fits = nothing_in (out-Ty t) is; element = nothing-IsElement }

absent : (t : Ty) (o : Option (List ℕ)) → is_single t ≡ true → o ≡ None → Holds (out-Ty t) (unwrap_or o [])
absent t o one is = subst (λ o. Holds (out-Ty t) (unwrap_or o [])) (sym is) (nothing_holds t one)

retyped : (t u : Ty) (e : List ℕ) → t ≡ u → Holds (out-Ty t) e → Holds (out-Ty u) e
retyped t u e is h = subst (λ (t : Ty). Holds (out-Ty t) e) is h

given_value : (name at : Slot) (e : List ℕ) (values : Env) → at.0 ≡ name.0 → with_value name e values at ≡ Some e
given_value name at e values is = cond-true (eqb at.0 name.0) (Some e) (values at) (eq-eqb at.0 name.0 is)

other_value : (name at : Slot) (e : List ℕ) (values : Env) → at.0 ≢ name.0 → with_value name e values at ≡ values at
other_value name at e values differs = cond-false (eqb at.0 name.0) (Some e) (values at) (ne_eqb at.0 name.0 differs)

-- a name is given a value of its type
pub set_value : (n : ℕ) (types : Types) (values : Env) (name : Slot) (e : List ℕ) → Agrees n types values → name.0 < n → Holds (out-Ty (type_at name types)) e
    → Agrees n types (with_value name e values)
set_value n types values name e h within value = record {
  holds = λ at. elim (cases_eq at.0 name.0) [
    | inl same ↦ subst (λ o. Holds (out-Ty (type_at at types)) (unwrap_or o [])) (sym (given_value name at e values same))
        (retyped (type_at name types) (type_at at types) e (sym (type_same at name same types)) value)
    | inr differs ↦ subst (λ o. Holds (out-Ty (type_at at types)) (unwrap_or o [])) (sym (other_value name at e values differs)) (h.holds at)
  ];
  none = λ at past. other_value name at e values (λ is. omega (arith, is, past, within)) ∙ h.none at past;
}

-- the same values among more names
pub widened : (n m : ℕ) (types later : Types) (values : Env) → Agrees n types values → n ≤ m → ((at : Slot) → at.0 < n → type_at at later ≡ type_at at types)
    → ((at : Slot) → is_single (type_at at later) ≡ true) → Agrees m later values
widened n m types later values h more kept single = record {
  holds = λ at. elim (cases_lt at.0 n) [
    | inl less ↦ retyped (type_at at types) (type_at at later) _ (sym (kept at less)) (h.holds at)
    | inr past ↦ absent (type_at at later) (values at) (single at) (h.none at past)
  ];
  none = λ at past. h.none at (omega (arith, past, more));
}

outside_by : (t : Ty) (known : Option (List ℕ)) (run : Option (List ℕ)) → is_single t ≡ true → Holds (out-Ty t) (unwrap_or run [])
    → Holds (out-Ty t) (unwrap_or (cond (is_some known) run None) [])
outside_by t (Some e) run one h = h
outside_by t None run one h = nothing_holds t one

gone : (known run : Option (List ℕ)) → known ≡ None → cond (is_some known) run None ≡ None
gone known run is = ap (λ o. cond (is_some o) run None) is

-- after a block, whose names end with it
pub left_block : (n m : ℕ) (types later : Types) (values run : Env) → Agrees n types values → n ≤ m → ((at : Slot) → is_single (type_at at later) ≡ true)
    → ((at : Slot) → at.0 < n → Holds (out-Ty (type_at at later)) (unwrap_or (run at) [])) → Agrees m later (outside values run)
left_block n m types later values run h more single holds = record {
  holds = λ at. elim (cases_lt at.0 n) [
    | inl less ↦ outside_by (type_at at later) (values at) (run at) (single at) (holds at less)
    | inr past ↦ absent (type_at at later) (outside values run at) (single at) (gone (values at) (run at) (h.none at past))
  ];
  none = λ at past. gone (values at) (run at) (h.none at (omega (arith, past, more)));
}

-- ---- what stands for a type is the type of an element

single_by : (wanted found : TyLayer) → layer_fits wanted found ≡ true → is_single_layer wanted ≡ true
single_by Ty-F.Int found is = refl
single_by Ty-F.Bool found is = refl
single_by Ty-F.Text found is = refl
single_by Ty-F.Bytes found is = refl
single_by (Ty-F.BytesN n) found is = refl
single_by Ty-F.Pubkey found is = refl
single_by Ty-F.Sig found is = refl
single_by Ty-F.Datasig found is = refl
single_by (Ty-F.Array item) found is = let no : ⊥ = cc in absurd no
single_by (Ty-F.Pair left right) found is = let no : ⊥ = cc in absurd no

pub single_of : (wanted found : Ty) → fits wanted found ≡ true → is_single wanted ≡ true
single_of wanted found is = single_by (out-Ty wanted) (out-Ty found) is
