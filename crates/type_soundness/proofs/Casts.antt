-- What casts give, by the types.
use Rattle.std.proofs.Common.{◌≡◌, ℕ, Bool, true, false, cond, leb, pos, List, Some, None, Result, Ok, Err, refl, subst}
use Rattle.cash_base.specs.declared.fault.Cause.{Cause}
use Rattle.cash_base.specs.declared.place.Span.{Span}
use Rattle.cash_base.specs.Failing.{◌>>=◌}
use Rattle.cash_base.specs.Element.{IsElement}
use Rattle.element_ops.specs.declared.op.Op1.TheVariants as op1
use Rattle.element_ops.specs.declared.op.Op2.TheVariants as op2
use Rattle.element_ops.specs.Operand.{number_element}
use Rattle.element_ops.specs.Operation.{result1, result2}
use Rattle.cash_tree.specs.declared.Ty.{Ty}
use Rattle.cash_tree.specs.declared.Ty.TheVariants as ty
use Rattle.cash_tree.specs.declared.Ty.TheOpen.{Ty-F}
use Rattle.cash_tree.specs.declared.Ty.TheViews.{out-Ty}
use Rattle.type_tables.specs.declared.rules.CastEffect.{CastEffect}
use Rattle.type_tables.specs.declared.rules.CastEffect.TheVariants as effects
use Rattle.type_tables.specs.Tables.{fits, suits, explicit_effect, cast_effect, cast_by, cast_type, sized_layer, sized_effect, sized_cast_type}
use Rattle.form_tables.specs.Forms.{cast_result}
use Rattle.type_check.proofs.Typed.{ok_bind}
use Rattle.type_soundness.proofs.Calm.{IsNumber, calm1, shortened_calm, pad_calm}
use Rattle.type_soundness.proofs.Holds.{Laws, TyLayer, is_loose, Holds, Fine, obeyed, number_is, truth_is, loose, truth_number, number_fine}
use Rattle.type_soundness.proofs.Types.{IsLoose, suited, stands_for, casts}

then_fine : {A B : Type 0} (P : A → Type 0) (Q : B → Type 0) (r : Result A Cause) (f : A → Result B Cause) → Fine P r → ((x : A) → P x → Fine Q (f x)) → Fine Q (r >>= f)
then_fine P Q (Ok x) f h more = more x h
then_fine P Q (Err cause) f h more = h

pub padded_fine : (laws : Laws) (layer : TyLayer) (x size : List ℕ) → is_loose layer ≡ true → IsElement x → IsElement size → IsNumber size → Fine (Holds layer) (result2 op2.Pad x size)
padded_fine laws layer x size is hx hs number =
    obeyed _ _ layer (result2 op2.Pad x size) (laws.two op2.Pad x size hx hs) (pad_calm x size number) (λ e k. loose layer e is)

pads : (laws : Laws) (n : ℕ) (layer : TyLayer) (x : List ℕ) → is_loose layer ≡ true → IsElement x → Fine (Holds layer) (cast_result (Some (effects.Pad n)) x)
pads laws n layer x is h =
    then_fine (Holds Ty-F.Int) (Holds layer) (number_element (pos n)) (λ size. result2 op2.Pad x size) (number_fine (pos n))
    (λ size k. padded_fine laws layer x size is h k.element k.fits)

numbers : (laws : Laws) (x : List ℕ) → IsElement x → Fine (Holds Ty-F.Int) (cast_result (Some effects.ToNumber) x)
numbers laws x h = obeyed _ _ Ty-F.Int (result1 op1.ToNumber x) (laws.one op1.ToNumber x h) (shortened_calm x) number_is

few_bytes : (laws : Laws) (short : Bool) (x : List ℕ) → IsElement x → Fine (Holds Ty-F.Int) (cast_result (cond short (Some effects.ToNumber) None) x)
few_bytes laws true x h = numbers laws x h
few_bytes laws false x h = refl

nonzero : (laws : Laws) (x : List ℕ) → Holds Ty-F.Int x → Fine (Holds Ty-F.Bool) (cast_result (Some effects.NonZero) x)
nonzero laws x h = obeyed _ _ Ty-F.Bool (result1 op1.NonZero x) (laws.one op1.NonZero x h.element) (calm1 op1.NonZero x h.fits) truth_is

keeps : (layer : TyLayer) (x : List ℕ) → is_loose layer ≡ true → IsElement x → Fine (Holds layer) (cast_result (Some effects.Keep) x)
keeps layer x is h = record { fits = loose layer x is; element = h }

explicit_fine : (laws : Laws) (to from : TyLayer) (x : List ℕ) → Holds from x → Fine (Holds to) (cast_result (explicit_effect to from) x)
explicit_fine laws Ty-F.Int Ty-F.Int x h = refl
explicit_fine laws Ty-F.Int Ty-F.Bool x h = record { fits = truth_number x h.fits; element = h.element }
explicit_fine laws Ty-F.Int Ty-F.Text x h = refl
explicit_fine laws Ty-F.Int Ty-F.Bytes x h = numbers laws x h.element
explicit_fine laws Ty-F.Int (Ty-F.BytesN m) x h = few_bytes laws (leb m 8) x h.element
explicit_fine laws Ty-F.Int Ty-F.Pubkey x h = refl
explicit_fine laws Ty-F.Int Ty-F.Sig x h = refl
explicit_fine laws Ty-F.Int Ty-F.Datasig x h = refl
explicit_fine laws Ty-F.Int (Ty-F.Array item) x h = refl
explicit_fine laws Ty-F.Int (Ty-F.Pair left right) x h = refl
explicit_fine laws Ty-F.Bool Ty-F.Int x h = nonzero laws x h
explicit_fine laws Ty-F.Bool Ty-F.Bool x h = refl
explicit_fine laws Ty-F.Bool Ty-F.Text x h = refl
explicit_fine laws Ty-F.Bool Ty-F.Bytes x h = refl
explicit_fine laws Ty-F.Bool (Ty-F.BytesN m) x h = refl
explicit_fine laws Ty-F.Bool Ty-F.Pubkey x h = refl
explicit_fine laws Ty-F.Bool Ty-F.Sig x h = refl
explicit_fine laws Ty-F.Bool Ty-F.Datasig x h = refl
explicit_fine laws Ty-F.Bool (Ty-F.Array item) x h = refl
explicit_fine laws Ty-F.Bool (Ty-F.Pair left right) x h = refl
explicit_fine laws Ty-F.Text Ty-F.Int x h = refl
explicit_fine laws Ty-F.Text Ty-F.Bool x h = refl
explicit_fine laws Ty-F.Text Ty-F.Text x h = refl
explicit_fine laws Ty-F.Text Ty-F.Bytes x h = keeps Ty-F.Text x refl h.element
explicit_fine laws Ty-F.Text (Ty-F.BytesN m) x h = keeps Ty-F.Text x refl h.element
explicit_fine laws Ty-F.Text Ty-F.Pubkey x h = refl
explicit_fine laws Ty-F.Text Ty-F.Sig x h = refl
explicit_fine laws Ty-F.Text Ty-F.Datasig x h = refl
explicit_fine laws Ty-F.Text (Ty-F.Array item) x h = refl
explicit_fine laws Ty-F.Text (Ty-F.Pair left right) x h = refl
explicit_fine laws Ty-F.Bytes Ty-F.Int x h = keeps Ty-F.Bytes x refl h.element
explicit_fine laws Ty-F.Bytes Ty-F.Bool x h = refl
explicit_fine laws Ty-F.Bytes Ty-F.Text x h = keeps Ty-F.Bytes x refl h.element
explicit_fine laws Ty-F.Bytes Ty-F.Bytes x h = refl
explicit_fine laws Ty-F.Bytes (Ty-F.BytesN m) x h = refl
explicit_fine laws Ty-F.Bytes Ty-F.Pubkey x h = refl
explicit_fine laws Ty-F.Bytes Ty-F.Sig x h = refl
explicit_fine laws Ty-F.Bytes Ty-F.Datasig x h = refl
explicit_fine laws Ty-F.Bytes (Ty-F.Array item) x h = refl
explicit_fine laws Ty-F.Bytes (Ty-F.Pair left right) x h = refl
explicit_fine laws (Ty-F.BytesN n) Ty-F.Int x h = pads laws n (Ty-F.BytesN n) x refl h.element
explicit_fine laws (Ty-F.BytesN n) Ty-F.Bool x h = refl
explicit_fine laws (Ty-F.BytesN n) Ty-F.Text x h = refl
explicit_fine laws (Ty-F.BytesN n) Ty-F.Bytes x h = keeps (Ty-F.BytesN n) x refl h.element
explicit_fine laws (Ty-F.BytesN n) (Ty-F.BytesN m) x h = refl
explicit_fine laws (Ty-F.BytesN n) Ty-F.Pubkey x h = refl
explicit_fine laws (Ty-F.BytesN n) Ty-F.Sig x h = refl
explicit_fine laws (Ty-F.BytesN n) Ty-F.Datasig x h = refl
explicit_fine laws (Ty-F.BytesN n) (Ty-F.Array item) x h = refl
explicit_fine laws (Ty-F.BytesN n) (Ty-F.Pair left right) x h = refl
explicit_fine laws Ty-F.Pubkey Ty-F.Int x h = refl
explicit_fine laws Ty-F.Pubkey Ty-F.Bool x h = refl
explicit_fine laws Ty-F.Pubkey Ty-F.Text x h = refl
explicit_fine laws Ty-F.Pubkey Ty-F.Bytes x h = keeps Ty-F.Pubkey x refl h.element
explicit_fine laws Ty-F.Pubkey (Ty-F.BytesN m) x h = keeps Ty-F.Pubkey x refl h.element
explicit_fine laws Ty-F.Pubkey Ty-F.Pubkey x h = refl
explicit_fine laws Ty-F.Pubkey Ty-F.Sig x h = refl
explicit_fine laws Ty-F.Pubkey Ty-F.Datasig x h = refl
explicit_fine laws Ty-F.Pubkey (Ty-F.Array item) x h = refl
explicit_fine laws Ty-F.Pubkey (Ty-F.Pair left right) x h = refl
explicit_fine laws Ty-F.Sig Ty-F.Int x h = refl
explicit_fine laws Ty-F.Sig Ty-F.Bool x h = refl
explicit_fine laws Ty-F.Sig Ty-F.Text x h = refl
explicit_fine laws Ty-F.Sig Ty-F.Bytes x h = keeps Ty-F.Sig x refl h.element
explicit_fine laws Ty-F.Sig (Ty-F.BytesN m) x h = keeps Ty-F.Sig x refl h.element
explicit_fine laws Ty-F.Sig Ty-F.Pubkey x h = refl
explicit_fine laws Ty-F.Sig Ty-F.Sig x h = refl
explicit_fine laws Ty-F.Sig Ty-F.Datasig x h = refl
explicit_fine laws Ty-F.Sig (Ty-F.Array item) x h = refl
explicit_fine laws Ty-F.Sig (Ty-F.Pair left right) x h = refl
explicit_fine laws Ty-F.Datasig Ty-F.Int x h = refl
explicit_fine laws Ty-F.Datasig Ty-F.Bool x h = refl
explicit_fine laws Ty-F.Datasig Ty-F.Text x h = refl
explicit_fine laws Ty-F.Datasig Ty-F.Bytes x h = keeps Ty-F.Datasig x refl h.element
explicit_fine laws Ty-F.Datasig (Ty-F.BytesN m) x h = keeps Ty-F.Datasig x refl h.element
explicit_fine laws Ty-F.Datasig Ty-F.Pubkey x h = refl
explicit_fine laws Ty-F.Datasig Ty-F.Sig x h = refl
explicit_fine laws Ty-F.Datasig Ty-F.Datasig x h = refl
explicit_fine laws Ty-F.Datasig (Ty-F.Array item) x h = refl
explicit_fine laws Ty-F.Datasig (Ty-F.Pair left right) x h = refl
explicit_fine laws (Ty-F.Array to) from x h = refl
explicit_fine laws (Ty-F.Pair first second) from x h = refl

cast_by_test : (laws : Laws) (to from : Ty) (t : Bool) (x : List ℕ) → fits to from ≡ t → Holds (out-Ty from) x
    → Fine (Holds (out-Ty to)) (cast_result (cond t (Some effects.Keep) (explicit_effect (out-Ty to) (out-Ty from))) x)
cast_by_test laws to from true x is h = record { fits = stands_for to from x is h.fits; element = h.element }
cast_by_test laws to from false x is h = explicit_fine laws (out-Ty to) (out-Ty from) x h

pub cast_fine : (laws : Laws) (span : Span) (to from t : Ty) (x : List ℕ) → cast_type span to from ≡ Ok t → Holds (out-Ty from) x
    → Fine (Holds (out-Ty t)) (cast_result (cast_effect to from) x)
unfolding cast_type cast_effect
cast_fine laws span to from t x e h =
    let c = casts span to t (cast_effect to from) e in
    subst (λ w. Fine (Holds (out-Ty w)) (cast_result (cast_effect to from) x)) c.2 (cast_by_test laws to from (fits to from) x refl h)

sized_loose : (to from : TyLayer) (effect : CastEffect) → sized_layer to from ≡ Some effect → is_loose to ≡ true
sized_loose Ty-F.Int from effect e = let no : ⊥ = cc in absurd no
sized_loose Ty-F.Bool from effect e = let no : ⊥ = cc in absurd no
sized_loose Ty-F.Text from effect e = refl
sized_loose Ty-F.Bytes from effect e = refl
sized_loose (Ty-F.BytesN n) from effect e = refl
sized_loose Ty-F.Pubkey from effect e = refl
sized_loose Ty-F.Sig from effect e = refl
sized_loose Ty-F.Datasig from effect e = refl
sized_loose (Ty-F.Array item) from effect e = refl
sized_loose (Ty-F.Pair left right) from effect e = let no : ⊥ = cc in absurd no

pub record Sized (size t : Ty) : Type 0 where
  pub size_is : fits ty.Int size ≡ true
  pub loose_is : IsLoose t

pub sized_typed : (span : Span) (to from size t : Ty) → sized_cast_type span to from size ≡ Ok t → Sized size t
unfolding sized_cast_type sized_effect
sized_typed span to from size t e =
    let p = ok_bind (suits span ty.Int size) (λ u. cast_by span to (sized_effect to from)) t e in
    let c = casts span to t (sized_effect to from) p.2 in
    record { size_is = suited span ty.Int size p.0 p.1; loose_is = subst IsLoose c.2 (sized_loose (out-Ty to) (out-Ty from) c.0 c.1) }
