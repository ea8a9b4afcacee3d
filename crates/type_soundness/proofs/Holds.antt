-- What holds of a value of a type, of what may fail, and of operations.
use Rattle.std.proofs.Common.{◌≡◌, ℕ, ℤ, Bool, true, false, cond, List, [], ◌∷◌, ◌++◌, length, leb, ◌+◌, ◌^◌, ◌<◌, pos, Result, Ok, Err, refl, sym, subst, arith, inl, inr, ◌⊎◌, lit<, length-append}
use Rattle.std.specs.Prelude.{nat_lt, unsigned_abs}
use Rattle.std.proofs.lemmas.Bool.{leb-true, ltb-true}
use Rattle.std.proofs.lemmas.Bool.Decides.{nat_tests}
use Rattle.cash_base.specs.declared.fault.Cause.{Cause}
use Rattle.cash_base.specs.declared.fault.Cause.TheVariants.{NumberRange, Oversize}
use Rattle.cash_base.specs.declared.element.TheConstants.{MAX_ELEMENT_LEN}
use Rattle.cash_base.specs.declared.place.Span.{Span}
use Rattle.cash_base.specs.Element.{IsElement}
use Rattle.cash_base.specs.Failing.{◌>>=◌}
use Rattle.cash_base.specs.Number.{IsBytes, minimal_bytes}
use Rattle.cash_base.proofs.Laws.{number_of-minimal_bytes}
use Rattle.cash_base.proofs.Widths.{minimal_bytes-IsElement}
use Rattle.element_ops.specs.declared.op.Op1.{Op1}
use Rattle.element_ops.specs.declared.op.Op2.{Op2}
use Rattle.element_ops.specs.declared.op.Op3.{Op3}
use Rattle.element_ops.specs.Operand.{number_element, truth_element, is_in_range}
use Rattle.element_ops.specs.Operation.{Outcome, joined}
use Rattle.element_ops.specs.Causes.{Kind, Kind.number as a_number, Kind.truth as a_truth, IsOfKind, Obeys, Obeys1, Obeys2, Obeys3, ObeysSplit}
use Rattle.tx_context.specs.Lookup.{sized}
use Rattle.cash_tree.specs.declared.Ty.{Ty}
use Rattle.cash_tree.specs.declared.Ty.TheOpen.{Ty-F}
use Rattle.cash_tree.specs.declared.Ty.TheViews.{out-Ty}
use Rattle.source_meaning.specs.declared.outcome.Failure.{Failure}
use Rattle.source_meaning.specs.Meaning.{Given, Value, left_of, right_of, at_span, applied, element}
use Rattle.type_soundness.proofs.Calm.{is_no_number, Calm, IsNumber}

-- what holds of every operation
pub record Laws : Type 0 where
  pub one : (op : Op1) (a : List ℕ) → Obeys1 op a
  pub two : (op : Op2) (a b : List ℕ) → Obeys2 op a b
  pub three : (op : Op3) (a b c : List ℕ) → Obeys3 op a b c
  pub split : (a b : List ℕ) → IsElement a → ObeysSplit a b

-- ---- types

abbrev pub TyLayer : Type 0
TyLayer = Ty-F Ty

-- any element is a value of it
abbrev pub is_loose : TyLayer → Bool
is_loose Ty-F.Int = false
is_loose Ty-F.Bool = false
is_loose (Ty-F.Pair left right) = false
is_loose _ = true

-- of a pair any elements are the parts
abbrev pub LayerHolds : TyLayer → List ℕ → Type 0
LayerHolds Ty-F.Int e = IsNumber e
LayerHolds Ty-F.Bool e = (e ≡ []) ⊎ (e ≡ 1 ∷ [])
LayerHolds (Ty-F.Pair left right) e = (is_loose (out-Ty left) ≡ true) × (is_loose (out-Ty right) ≡ true)
LayerHolds _ e = Unit {0}

pub record Holds (layer : TyLayer) (e : List ℕ) : Type 0 where
  pub fits : LayerHolds layer e
  pub element : IsElement e

pub record HoldsGiven (layer : TyLayer) (given : Given) : Type 0 where
  pub left : Holds layer (left_of given)
  pub right : IsElement (right_of given)

pub loose : (layer : TyLayer) (e : List ℕ) → is_loose layer ≡ true → LayerHolds layer e
loose Ty-F.Int e is = let no : ⊥ = cc in absurd no
loose Ty-F.Bool e is = let no : ⊥ = cc in absurd no
loose Ty-F.Text e is = tt
loose Ty-F.Bytes e is = tt
loose (Ty-F.BytesN n) e is = tt
loose Ty-F.Pubkey e is = tt
loose Ty-F.Sig e is = tt
loose Ty-F.Datasig e is = tt
loose (Ty-F.Array item) e is = tt
loose (Ty-F.Pair left right) e is = let no : ⊥ = cc in absurd no

-- ---- what may fail

-- what there is has this, and no failure is that an operand is no number
abbrev pub Fine : {A : Type 0} → (A → Type 0) → Result A Cause → Type 0
Fine P (Ok x) = P x
Fine P (Err cause) = is_no_number cause ≡ false

abbrev pub Good : {A : Type 0} → (A → Type 0) → Result A Failure → Type 0
Good P (Ok x) = P x
Good P (Err failure) = is_no_number failure.cause ≡ false

abbrev pub GoodValue : TyLayer → Value → Type 0
GoodValue layer value = Good (HoldsGiven layer) value

pub bind : {A B : Type 0} (P : A → Type 0) (Q : B → Type 0) (r : Result A Failure) (f : A → Result B Failure) → Good P r
    → ((x : A) → P x → Good Q (f x)) → Good Q (r >>= f)
bind P Q (Ok x) f h more = more x h
bind P Q (Err failure) f h more = h

pub placed : {A : Type 0} (P : A → Type 0) (span : Span) (r : Result A Cause) → Fine P r → Good P (at_span span r)
placed P span (Ok x) h = h
placed P span (Err cause) h = h

pub element_good : (layer : TyLayer) (value : Value) → GoodValue layer value → Good (Holds layer) (element value)
element_good layer (Ok given) h = h.left
element_good layer (Err failure) h = h

pub applied_good : (layer : TyLayer) (span : Span) (o : Outcome) → Fine (Holds layer) o → GoodValue layer (applied span o)
applied_good layer span (Ok e) h = record { left = h; right = h.element }
applied_good layer span (Err cause) h = h

-- of a value at least this
pub loosened : (layer : TyLayer) (value : Value) → GoodValue layer value → GoodValue Ty-F.Bytes value
loosened layer (Ok given) h = record { left = record { fits = tt; element = h.left.element }; right = h.right }
loosened layer (Err failure) h = h

-- ---- operations

pub obeyed : (causes : List Cause) (kind : Kind) (layer : TyLayer) (o : Outcome) → Obeys causes kind o → Calm o
    → ((e : List ℕ) → IsOfKind kind e → LayerHolds layer e) → Fine (Holds layer) o
obeyed causes kind layer (Ok e) h calm holds = record { fits = holds e h.kind_is; element = h.element }
obeyed causes kind layer (Err cause) h calm holds = calm

pub number_is : (e : List ℕ) → IsOfKind a_number e → LayerHolds Ty-F.Int e
number_is e h = h

pub truth_is : (e : List ℕ) → IsOfKind a_truth e → LayerHolds Ty-F.Bool e
truth_is e (inl h) = inr h
truth_is e (inr h) = inl h

-- ---- elements

pub nothing-IsElement : IsElement []
nothing-IsElement = record { size = omega arith; bytes = tt }

pub one-IsElement : IsElement (1 ∷ [])
one-IsElement = record { size = omega arith; bytes = (lit< tt, tt) }

pub truth_fine : (b : Bool) → Fine (Holds Ty-F.Bool) (truth_element b)
truth_fine true = record { fits = inr refl; element = one-IsElement }
truth_fine false = record { fits = inl refl; element = nothing-IsElement }

-- a truth value is a number too
pub truth_number : (e : List ℕ) → LayerHolds Ty-F.Bool e → IsNumber e
truth_number e (inl h) = subst IsNumber (sym h) (pos 0, refl)
truth_number e (inr h) = subst IsNumber (sym h) (pos 1, refl)

pub written : (n : ℤ) → unsigned_abs n < 2 ^ 63 → Holds Ty-F.Int (minimal_bytes n)
written n within = record { fits = (n, number_of-minimal_bytes n within); element = minimal_bytes-IsElement n }

pub number_fine : (n : ℤ) → Fine (Holds Ty-F.Int) (number_element n)
number_fine n = by_range (is_in_range n) refl
  where
    by_range : (t : Bool) → is_in_range n ≡ t → Fine (Holds Ty-F.Int) (cond t (Ok (minimal_bytes n)) (Err NumberRange))
    by_range true is = written n (ltb-true (unsigned_abs n) (2 ^ 63) is)
    by_range false is = refl

pub sized_fine : (bytes : List ℕ) → IsBytes bytes → Fine IsElement (sized bytes)
sized_fine bytes all = by_size (nat_lt MAX_ELEMENT_LEN (length bytes)) refl
  where
    by_size : (t : Bool) → nat_lt MAX_ELEMENT_LEN (length bytes) ≡ t → Fine IsElement (cond t (Err Oversize) (Ok bytes))
    by_size true is = refl
    by_size false is = record { size = grind (arith, nat_tests, is); bytes = all }

-- any element is a value of a loose type
pub loosely : (layer : TyLayer) (o : Outcome) → is_loose layer ≡ true → Fine IsElement o → Fine (Holds layer) o
loosely layer (Ok e) is h = record { fits = loose layer e is; element = h }
loosely layer (Err cause) is h = h

pub bytes_appended : (a b : List ℕ) → IsBytes a → IsBytes b → IsBytes (a ++ b)
bytes_appended [] b ha hb = hb
bytes_appended (x ∷ a) b ha hb = (ha.0, bytes_appended a b ha.1 hb)

pub joined_fine : (a b : List ℕ) → IsBytes a → IsBytes b → Fine IsElement (joined a b)
joined_fine a b ha hb = by_length (leb (length a + length b) 520) refl
  where
    by_length : (t : Bool) → leb (length a + length b) 520 ≡ t → Fine IsElement (cond t (Ok (a ++ b)) (Err Oversize))
    by_length true is =
        let short = leb-true (length a + length b) 520 is in
        record { size = omega (arith, short, length-append a b); bytes = bytes_appended a b ha hb }
    by_length false is = refl
