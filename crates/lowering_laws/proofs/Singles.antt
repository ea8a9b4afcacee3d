-- Which types the rules give and take: arrays and pairs have no operations.
use Rattle.std.proofs.Common.{◌≡◌, ◌∙◌, ap, sym, subst, refl, ℕ, ◌+◌, cond, Bool, true, false, pos, Some, None, Option, Ok, Err}
use Rattle.std.specs.Prelude.{◌&&◌, ◌||◌, if◌then◌else◌, nat_le}
use Rattle.cash_base.specs.declared.place.Span.{Span}
use Rattle.cash_base.specs.Failing.{◌>>=◌}
use Rattle.cash_tree.specs.declared.Ty.{Ty}
use Rattle.cash_tree.specs.declared.Ty.TheVariants as ty
use Rattle.cash_tree.specs.declared.Ty.TheOpen.{Ty-F}
use Rattle.cash_tree.specs.declared.Ty.TheViews.{out-Ty}
use Rattle.cash_tree.specs.declared.UnaryOp.{UnaryOp}
use Rattle.cash_tree.specs.declared.UnaryOp.TheVariants as unary_ops
use Rattle.cash_tree.specs.declared.BinaryOp.{BinaryOp}
use Rattle.type_tables.specs.declared.rules.OperatorRule.{OperatorRule}
use Rattle.type_tables.specs.declared.rules.OperatorRule.TheVariants as operator_rules
use Rattle.type_tables.specs.declared.rules.CastEffect.{CastEffect}
use Rattle.type_tables.specs.declared.rules.CastEffect.TheVariants as effects
use Rattle.type_tables.specs.Tables.{is_single_layer, is_single, layer_fits, fits, suits, allowed, is_bytes, is_bytes_layer, is_sequence, is_sequence_layer, unary_operand, unary_type, both_sides, joined_layers, joined, bytes_sum, sum_type, addend, meet, wider, equality_type, bitwise_type, type_by, rule_of, binary_type, explicit_effect, cast_effect, sized_layer, sized_effect}
use Rattle.slot_expressions.specs.Ready.{is_cast}
use Rattle.type_check.proofs.Typed.{ok_bind, ok_same}
use Rattle.type_soundness.proofs.Holds.{TyLayer}
use Rattle.type_soundness.proofs.Types.{out_int, out_bool, out_text, out_bytes, out_bytes_n, is_allowed, suited, Sides, sides}
use Rattle.type_soundness.proofs.Scopes.{single_of}
use Rattle.lowering_laws.specs.Laws.{layer_has_length}

abbrev pub is_array_layer : TyLayer → Bool
is_array_layer (Ty-F.Array item) = true
is_array_layer _ = false

abbrev pub is_array : Ty → Bool
is_array t = is_array_layer (out-Ty t)

abbrev pub is_pair_layer : TyLayer → Bool
is_pair_layer (Ty-F.Pair left right) = true
is_pair_layer _ = false

abbrev pub is_pair : Ty → Bool
is_pair t = is_pair_layer (out-Ty t)

-- both parts of a pair are single
abbrev pub Halves : TyLayer → Type 0
Halves (Ty-F.Pair left right) = (is_single left ≡ true) × (is_single right ≡ true)
Halves _ = Unit {0}

no_array_layer : (layer : TyLayer) → is_single_layer layer ≡ true → is_array_layer layer ≡ false
no_array_layer (Ty-F.Array item) is = absurd cc
no_array_layer Ty-F.Int is = refl
no_array_layer Ty-F.Bool is = refl
no_array_layer Ty-F.Text is = refl
no_array_layer Ty-F.Bytes is = refl
no_array_layer (Ty-F.BytesN n) is = refl
no_array_layer Ty-F.Pubkey is = refl
no_array_layer Ty-F.Sig is = refl
no_array_layer Ty-F.Datasig is = refl
no_array_layer (Ty-F.Pair left right) is = refl

no_pair_layer : (layer : TyLayer) → is_single_layer layer ≡ true → is_pair_layer layer ≡ false
no_pair_layer (Ty-F.Pair left right) is = absurd cc
no_pair_layer Ty-F.Int is = refl
no_pair_layer Ty-F.Bool is = refl
no_pair_layer Ty-F.Text is = refl
no_pair_layer Ty-F.Bytes is = refl
no_pair_layer (Ty-F.BytesN n) is = refl
no_pair_layer Ty-F.Pubkey is = refl
no_pair_layer Ty-F.Sig is = refl
no_pair_layer Ty-F.Datasig is = refl
no_pair_layer (Ty-F.Array item) is = refl

halves_layer : (layer : TyLayer) → is_single_layer layer ≡ true → Halves layer
halves_layer (Ty-F.Pair left right) is = absurd cc
halves_layer Ty-F.Int is = tt
halves_layer Ty-F.Bool is = tt
halves_layer Ty-F.Text is = tt
halves_layer Ty-F.Bytes is = tt
halves_layer (Ty-F.BytesN n) is = tt
halves_layer Ty-F.Pubkey is = tt
halves_layer Ty-F.Sig is = tt
halves_layer Ty-F.Datasig is = tt
halves_layer (Ty-F.Array item) is = tt

pub no_array : (t : Ty) → is_single t ≡ true → is_array t ≡ false
no_array t is = no_array_layer (out-Ty t) is

pub no_pair : (t : Ty) → is_single t ≡ true → is_pair t ≡ false
no_pair t is = no_pair_layer (out-Ty t) is

pub halves : (t : Ty) → is_single t ≡ true → Halves (out-Ty t)
halves t is = halves_layer (out-Ty t) is

-- ---- what fits is single

bytes_single : (layer : TyLayer) → is_bytes_layer layer ≡ true → is_single_layer layer ≡ true
bytes_single Ty-F.Bytes is = refl
bytes_single (Ty-F.BytesN n) is = refl
bytes_single Ty-F.Pubkey is = refl
bytes_single Ty-F.Sig is = refl
bytes_single Ty-F.Datasig is = refl
bytes_single _ is = absurd cc

sequence_single : (layer : TyLayer) → is_sequence_layer layer ≡ true → is_single_layer layer ≡ true
sequence_single Ty-F.Text is = refl
sequence_single Ty-F.Bytes is = refl
sequence_single (Ty-F.BytesN n) is = refl
sequence_single Ty-F.Pubkey is = refl
sequence_single Ty-F.Sig is = refl
sequence_single Ty-F.Datasig is = refl
sequence_single _ is = absurd cc

fits_array : (wanted : TyLayer) (item : Ty) → layer_fits wanted (Ty-F.Array item) ≡ true → ⊥
fits_array Ty-F.Int item is = absurd cc
fits_array Ty-F.Bool item is = absurd cc
fits_array Ty-F.Text item is = absurd cc
fits_array Ty-F.Bytes item is = absurd cc
fits_array (Ty-F.BytesN n) item is = absurd cc
fits_array Ty-F.Pubkey item is = absurd cc
fits_array Ty-F.Sig item is = absurd cc
fits_array Ty-F.Datasig item is = absurd cc
fits_array (Ty-F.Array other) item is = absurd cc
fits_array (Ty-F.Pair left right) item is = absurd cc

fits_pair : (wanted : TyLayer) (l r : Ty) → layer_fits wanted (Ty-F.Pair l r) ≡ true → ⊥
fits_pair Ty-F.Int l r is = absurd cc
fits_pair Ty-F.Bool l r is = absurd cc
fits_pair Ty-F.Text l r is = absurd cc
fits_pair Ty-F.Bytes l r is = absurd cc
fits_pair (Ty-F.BytesN n) l r is = absurd cc
fits_pair Ty-F.Pubkey l r is = absurd cc
fits_pair Ty-F.Sig l r is = absurd cc
fits_pair Ty-F.Datasig l r is = absurd cc
fits_pair (Ty-F.Array item) l r is = absurd cc
fits_pair (Ty-F.Pair left right) l r is = absurd cc

single_layer : (wanted found : TyLayer) → layer_fits wanted found ≡ true → is_single_layer found ≡ true
single_layer wanted Ty-F.Int is = refl
single_layer wanted Ty-F.Bool is = refl
single_layer wanted Ty-F.Text is = refl
single_layer wanted Ty-F.Bytes is = refl
single_layer wanted (Ty-F.BytesN n) is = refl
single_layer wanted Ty-F.Pubkey is = refl
single_layer wanted Ty-F.Sig is = refl
single_layer wanted Ty-F.Datasig is = refl
single_layer wanted (Ty-F.Array item) is = absurd (fits_array wanted item is)
single_layer wanted (Ty-F.Pair left right) is = absurd (fits_pair wanted left right is)

pub fits_single : (wanted found : Ty) → fits wanted found ≡ true → is_single found ≡ true
fits_single wanted found is = single_layer (out-Ty wanted) (out-Ty found) is

pub suits_single : (span : Span) (wanted found : Ty) (u : Unit {0}) → suits span wanted found ≡ Ok u → is_single found ≡ true
suits_single span wanted found u is = fits_single wanted found (suited span wanted found u is)

pub of_bytes : (t : Ty) → is_bytes t ≡ true → is_single t ≡ true
of_bytes t is = bytes_single (out-Ty t) is

pub of_sequence : (t : Ty) → is_sequence t ≡ true → is_single t ≡ true
of_sequence t is = sequence_single (out-Ty t) is

pub single_int : is_single ty.Int ≡ true
single_int = ap is_single_layer out_int

pub single_bool : is_single ty.Bool ≡ true
single_bool = ap is_single_layer out_bool

pub single_text : is_single ty.Text ≡ true
single_text = ap is_single_layer out_text

pub single_bytes : is_single ty.Bytes ≡ true
single_bytes = ap is_single_layer out_bytes

pub single_bytes_n : (n : ℕ) → is_single (ty.BytesN n) ≡ true
single_bytes_n n = ap is_single_layer (out_bytes_n n)

-- ---- operators

pub record Given1 (a t : Ty) : Type 0 where
  pub left : is_single a ≡ true
  pub answer : is_single t ≡ true

pub record Given2 (a b t : Ty) : Type 0 where
  pub left : is_single a ≡ true
  pub right : is_single b ≡ true
  pub answer : is_single t ≡ true

operand_single : (op : UnaryOp) → is_single (unary_operand op) ≡ true
operand_single unary_ops.Not = single_bool
operand_single unary_ops.Negate = single_int

pub unary_single : (span : Span) (op : UnaryOp) (a t : Ty) → unary_type span op a ≡ Ok t → Given1 a t
unfolding unary_type
unary_single span op a t e =
    let p = ok_bind (suits span (unary_operand op) a) (λ u. Ok (unary_operand op)) t e in record {
      left = suits_single span (unary_operand op) a p.0 p.1;
      answer = subst (λ w. is_single w ≡ true) (ok_same (unary_operand op) t p.2) (operand_single op);
    }

by_sides : (span : Span) (wanted given a b t : Ty) → is_single given ≡ true → both_sides span wanted given a b ≡ Ok t → Given2 a b t
by_sides span wanted given a b t is e =
    let p = sides span wanted given a b t e in
    record { left = fits_single wanted a p.left; right = fits_single wanted b p.right; answer = subst (λ w. is_single w ≡ true) p.answer is }

by_length : (n : ℕ) (small : Bool) → is_single (if small then ty.BytesN n else ty.Bytes) ≡ true
by_length n true = single_bytes_n n
by_length n false = single_bytes

joined_single : (a b : TyLayer) → is_single (joined_layers a b) ≡ true
joined_single (Ty-F.BytesN n) (Ty-F.BytesN m) = by_length (n + m) (nat_le (n + m) 520)
joined_single (Ty-F.BytesN n) Ty-F.Int = single_bytes
joined_single (Ty-F.BytesN n) Ty-F.Bool = single_bytes
joined_single (Ty-F.BytesN n) Ty-F.Text = single_bytes
joined_single (Ty-F.BytesN n) Ty-F.Bytes = single_bytes
joined_single (Ty-F.BytesN n) Ty-F.Pubkey = single_bytes
joined_single (Ty-F.BytesN n) Ty-F.Sig = single_bytes
joined_single (Ty-F.BytesN n) Ty-F.Datasig = single_bytes
joined_single (Ty-F.BytesN n) (Ty-F.Array item) = single_bytes
joined_single (Ty-F.BytesN n) (Ty-F.Pair l r) = single_bytes
joined_single Ty-F.Int b = single_bytes
joined_single Ty-F.Bool b = single_bytes
joined_single Ty-F.Text b = single_bytes
joined_single Ty-F.Bytes b = single_bytes
joined_single Ty-F.Pubkey b = single_bytes
joined_single Ty-F.Sig b = single_bytes
joined_single Ty-F.Datasig b = single_bytes
joined_single (Ty-F.Array item) b = single_bytes
joined_single (Ty-F.Pair l r) b = single_bytes

addend_single : (text : Bool) → is_single (if text then ty.Text else ty.Int) ≡ true
addend_single true = single_text
addend_single false = single_int

by_sum : (span : Span) (a b t : Ty) (bytes : Bool) → is_bytes a ≡ bytes → (if bytes then bytes_sum span a b else both_sides span (addend a) (addend a) a b) ≡ Ok t → Given2 a b t
by_sum span a b t true is e =
    let p = ok_bind (allowed span (is_bytes b) a b) (λ u. Ok (joined a b)) t e in record {
      left = of_bytes a is;
      right = of_bytes b (is_allowed span (is_bytes b) a b p.0 p.1);
      answer = subst (λ w. is_single w ≡ true) (ok_same (joined a b) t p.2) (joined_single (out-Ty a) (out-Ty b));
    }
by_sum span a b t false is e = by_sides span (addend a) (addend a) a b t (addend_single (fits ty.Text a)) e

met_single : (a b : Ty) (first : Bool) → fits a b ≡ first → (first || fits b a) ≡ true → is_single b ≡ true
met_single a b true is e = fits_single a b is
met_single a b false is e = single_of b a e

by_equality : (span : Span) (a b t : Ty) → equality_type span a b ≡ Ok t → Given2 a b t
by_equality span a b t e =
    let p = ok_bind (allowed span (is_single a) ty.Int a) (λ u. allowed span (meet a b) a b >>= λ v. Ok ty.Bool) t e in
    let q = ok_bind (allowed span (meet a b) a b) (λ v. Ok ty.Bool) t p.2 in record {
      left = is_allowed span (is_single a) ty.Int a p.0 p.1;
      right = met_single a b (fits a b) refl (is_allowed span (meet a b) a b q.0 q.1);
      answer = subst (λ w. is_single w ≡ true) (ok_same ty.Bool t q.2) single_bool;
    }

wider_single : (a b : Ty) (first : Bool) → is_single a ≡ true → is_single b ≡ true → is_single (if first then a else b) ≡ true
wider_single a b true is also = is
wider_single a b false is also = also

by_bitwise : (span : Span) (a b t : Ty) → bitwise_type span a b ≡ Ok t → Given2 a b t
by_bitwise span a b t e =
    let p = ok_bind (allowed span (is_bytes a) ty.Bytes a) (λ u. allowed span (meet a b) a b >>= λ v. Ok (wider a b)) t e in
    let q = ok_bind (allowed span (meet a b) a b) (λ v. Ok (wider a b)) t p.2 in
    let left : is_single a ≡ true = of_bytes a (is_allowed span (is_bytes a) ty.Bytes a p.0 p.1) in
    let right : is_single b ≡ true = met_single a b (fits a b) refl (is_allowed span (meet a b) a b q.0 q.1) in record {
      left = left;
      right = right;
      answer = subst (λ w. is_single w ≡ true) (ok_same (wider a b) t q.2) (wider_single a b (fits a b) left right);
    }

by_rule : (rule : OperatorRule) (span : Span) (a b t : Ty) → type_by rule span a b ≡ Ok t → Given2 a b t
by_rule operator_rules.Arithmetic span a b t e = by_sides span ty.Int ty.Int a b t single_int e
by_rule operator_rules.Order span a b t e = by_sides span ty.Int ty.Bool a b t single_bool e
by_rule operator_rules.Logic span a b t e = by_sides span ty.Bool ty.Bool a b t single_bool e
by_rule operator_rules.Sum span a b t e = by_sum span a b t (is_bytes a) refl e
by_rule operator_rules.Equality span a b t e = by_equality span a b t e
by_rule operator_rules.Bitwise span a b t e = by_bitwise span a b t e

pub binary_single : (span : Span) (op : BinaryOp) (a b t : Ty) → binary_type span op a b ≡ Ok t → Given2 a b t
unfolding binary_type
binary_single span op a b t e = by_rule (rule_of op) span a b t e

-- ---- casts

-- a cast without a size from what isn't an array, whose padding has a length that is a number
pub record Casts (from : TyLayer) (effect : CastEffect) : Type 0 where
  pub single : is_array_layer from ≡ false
  pub is : is_cast (Some effect) ≡ true

casts_of : {from : TyLayer} {effect : CastEffect} (sure : CastEffect) → is_array_layer from ≡ false → is_cast (Some sure) ≡ true → Some sure ≡ Some effect → Casts from effect
casts_of {from} {effect} sure single is same = record { single = single; is = sym (ap is_cast same) ∙ is }

small_cast : {n : ℕ} {effect : CastEffect} (small : Bool) → (if small then Some effects.ToNumber else None) ≡ Some effect → Casts (Ty-F.BytesN n) effect
small_cast true same = casts_of effects.ToNumber refl refl same
small_cast false same = absurd cc

explicit_casts : (to from : TyLayer) (effect : CastEffect) → layer_has_length to ≡ true → explicit_effect to from ≡ Some effect → Casts from effect
explicit_casts Ty-F.Bool Ty-F.Int effect fit is = casts_of effects.NonZero refl refl is
explicit_casts Ty-F.Int Ty-F.Bool effect fit is = casts_of effects.Keep refl refl is
explicit_casts (Ty-F.BytesN n) Ty-F.Int effect fit is = casts_of (effects.Pad n) refl fit is
explicit_casts Ty-F.Bytes Ty-F.Int effect fit is = casts_of effects.Keep refl refl is
explicit_casts Ty-F.Int Ty-F.Bytes effect fit is = casts_of effects.ToNumber refl refl is
explicit_casts Ty-F.Int (Ty-F.BytesN n) effect fit is = small_cast (nat_le n 8) is
explicit_casts (Ty-F.BytesN n) Ty-F.Bytes effect fit is = casts_of effects.Keep refl refl is
explicit_casts Ty-F.Text Ty-F.Bytes effect fit is = casts_of effects.Keep refl refl is
explicit_casts Ty-F.Text (Ty-F.BytesN n) effect fit is = casts_of effects.Keep refl refl is
explicit_casts Ty-F.Bytes Ty-F.Text effect fit is = casts_of effects.Keep refl refl is
explicit_casts Ty-F.Pubkey Ty-F.Bytes effect fit is = casts_of effects.Keep refl refl is
explicit_casts Ty-F.Pubkey (Ty-F.BytesN n) effect fit is = casts_of effects.Keep refl refl is
explicit_casts Ty-F.Sig Ty-F.Bytes effect fit is = casts_of effects.Keep refl refl is
explicit_casts Ty-F.Sig (Ty-F.BytesN n) effect fit is = casts_of effects.Keep refl refl is
explicit_casts Ty-F.Datasig Ty-F.Bytes effect fit is = casts_of effects.Keep refl refl is
explicit_casts Ty-F.Datasig (Ty-F.BytesN n) effect fit is = casts_of effects.Keep refl refl is
explicit_casts _ _ effect fit is = absurd cc

by_fit : (to from : Ty) (effect : CastEffect) (fit : Bool) → fits to from ≡ fit → layer_has_length (out-Ty to) ≡ true
    → (if fit then Some effects.Keep else explicit_effect (out-Ty to) (out-Ty from)) ≡ Some effect → Casts (out-Ty from) effect
by_fit to from effect true is long same = casts_of effects.Keep (no_array from (fits_single to from is)) refl same
by_fit to from effect false is long same = explicit_casts (out-Ty to) (out-Ty from) effect long same

pub cast_single : (to from : Ty) (effect : CastEffect) → layer_has_length (out-Ty to) ≡ true → cast_effect to from ≡ Some effect → Casts (out-Ty from) effect
unfolding cast_effect
cast_single to from effect long is = by_fit to from effect (fits to from) refl long is

sized_from : (to from : TyLayer) (effect : CastEffect) → sized_layer to from ≡ Some effect → is_array_layer from ≡ false
sized_from Ty-F.Bytes Ty-F.Int effect is = refl
sized_from _ _ effect is = absurd cc

pub sized_single : (to from : Ty) (effect : CastEffect) → sized_effect to from ≡ Some effect → is_array from ≡ false
unfolding sized_effect
sized_single to from effect is = sized_from (out-Ty to) (out-Ty from) effect is
