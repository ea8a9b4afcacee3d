-- The element of a value that isn't raw is a value of the type.
use Rattle.std.proofs.Common.{◌≡◌, ℕ, ℤ, ◌<◌, ◌^◌, Bool, true, false, cond, List, [], ◌∷◌, Some, Result, Ok, Err, refl, sym, ap, ◌∙◌, inl, inr}
use Rattle.std.specs.Prelude.{unsigned_abs}
use Rattle.std.proofs.lemmas.Bool.{ltb-true}
use Rattle.cash_base.specs.Number.{number_of, minimal_bytes}
use Rattle.element_ops.specs.Operand.{is_in_range}
use Rattle.cash_tree.specs.declared.Ty.{Ty}
use Rattle.cash_tree.specs.declared.Ty.TheOpen.{Ty-F}
use Rattle.cash_tree.specs.declared.Ty.TheViews.{out-Ty}
use Rattle.source_meaning.specs.Fits.{LayerFits, Fits}
use Rattle.spend_json.specs.Given.{ValueParts, int_value, bool_value, text_value, raw_value}
use Rattle.unlocker.specs.declared.BuildFault.TheVariants.{IntRange}
use Rattle.unlocker.specs.Values.{number_for, truth_for, text_for, element_for, IsTyped}

abbrev ReadsBack : Type 0
ReadsBack = (n : ℤ) → unsigned_abs n < 2 ^ 63 → number_of (minimal_bytes n) ≡ Some n

number_fits : ReadsBack → (layer : Ty-F Ty) (n : ℤ) (e : List ℕ) → number_for layer n ≡ Ok e → LayerFits layer e
number_fits back Ty-F.Int n e is = by_range (is_in_range n) refl is
  where
    by_range : (t : Bool) → is_in_range n ≡ t → cond t (Ok (minimal_bytes n)) (Err IntRange) ≡ Ok e → LayerFits Ty-F.Int e
    by_range true small built =
        let same : minimal_bytes n ≡ e = cc in
        (n, ap number_of (sym same) ∙ back n (ltb-true (unsigned_abs n) (2 ^ 63) small))
    by_range false small built = absurd cc
number_fits back Ty-F.Bool n e is = absurd cc
number_fits back Ty-F.Text n e is = absurd cc
number_fits back Ty-F.Bytes n e is = absurd cc
number_fits back (Ty-F.BytesN size) n e is = absurd cc
number_fits back Ty-F.Pubkey n e is = absurd cc
number_fits back Ty-F.Sig n e is = absurd cc
number_fits back Ty-F.Datasig n e is = absurd cc
number_fits back (Ty-F.Array item) n e is = absurd cc
number_fits back (Ty-F.Pair left right) n e is = absurd cc

truth_fits : (layer : Ty-F Ty) (truth : Bool) (e : List ℕ) → truth_for layer truth ≡ Ok e → LayerFits layer e
truth_fits Ty-F.Bool true e is =
    let same : 1 ∷ [] ≡ e = cc in
    inr (sym same)
truth_fits Ty-F.Bool false e is =
    let same : [] ≡ e = cc in
    inl (sym same)
truth_fits Ty-F.Int truth e is = absurd cc
truth_fits Ty-F.Text truth e is = absurd cc
truth_fits Ty-F.Bytes truth e is = absurd cc
truth_fits (Ty-F.BytesN size) truth e is = absurd cc
truth_fits Ty-F.Pubkey truth e is = absurd cc
truth_fits Ty-F.Sig truth e is = absurd cc
truth_fits Ty-F.Datasig truth e is = absurd cc
truth_fits (Ty-F.Array item) truth e is = absurd cc
truth_fits (Ty-F.Pair left right) truth e is = absurd cc

text_fits : (layer : Ty-F Ty) (text e : List ℕ) → text_for layer text ≡ Ok e → LayerFits layer e
text_fits Ty-F.Int text e is = absurd cc
text_fits Ty-F.Bool text e is = absurd cc
text_fits Ty-F.Text text e is = tt
text_fits Ty-F.Bytes text e is = tt
text_fits (Ty-F.BytesN size) text e is = tt
text_fits Ty-F.Pubkey text e is = tt
text_fits Ty-F.Sig text e is = tt
text_fits Ty-F.Datasig text e is = tt
text_fits (Ty-F.Array item) text e is = tt
text_fits (Ty-F.Pair left right) text e is = tt

pub element_fits : ReadsBack → (t : Ty) (value : ValueParts) (e : List ℕ) → IsTyped value → element_for t value ≡ Ok e → Fits t e
element_fits back t (int_value n) e typed is = number_fits back (out-Ty t) n e is
element_fits back t (bool_value truth) e typed is = truth_fits (out-Ty t) truth e is
element_fits back t (text_value text) e typed is = text_fits (out-Ty t) text e is
element_fits back t (raw_value element) e typed is = elim typed [ ]
