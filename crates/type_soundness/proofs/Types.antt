-- What the rules of types say of the types of a node and of its parts.
use Rattle.std.proofs.Common.{◌≡◌, ◌∙◌, ℕ, ℤ, Bool, true, false, cond, ◌||◌, ◌&&◌, leb, eqb, ◌+◌, ◌-◌, List, Option, Some, None, Ok, Err, refl, ap, subst}
use Rattle.std.specs.Prelude.{nat_lt}
use Rattle.cash_base.specs.declared.place.Span.{Span}
use Rattle.cash_base.specs.Failing.{◌>>=◌}
use Rattle.cash_tree.specs.declared.Ty.{Ty}
use Rattle.cash_tree.specs.declared.Ty.TheVariants as ty
use Rattle.cash_tree.specs.declared.Ty.TheOpen.{Ty-F}
use Rattle.cash_tree.specs.declared.Ty.TheViews.{out-Ty, roll-Ty, out-roll-Ty}
use Rattle.type_tables.specs.declared.fault.TypeFault.TheVariants as faults
use Rattle.type_tables.specs.declared.rules.CastEffect.{CastEffect}
use Rattle.type_tables.specs.Tables.{layer_fits, fits, allowed, suits, is_bytes, is_bytes_layer, is_sequence, in_range, number_type, date_type, hex_type, text_type, both_sides, joined, joined_layers, length_type, reverse_type, reversed, reversed_layer, split_type, split_parts, split_layer, cut_parts, index_type, index_layer, wider, cast_by}
use Rattle.form_tables.specs.Forms.{is_int_layer}
use Rattle.type_check.proofs.Typed.{ok_bind, ok_same}
use Rattle.type_soundness.proofs.Holds.{TyLayer, is_loose, LayerHolds}

-- ---- layers of known types

pub out_int : out-Ty ty.Int ≡ Ty-F.Int
unfolding roll-Ty denote.Hole.Carrier.roll
out_int = out-roll-Ty Ty-F.Int

pub out_bool : out-Ty ty.Bool ≡ Ty-F.Bool
unfolding roll-Ty denote.Hole.Carrier.roll
out_bool = out-roll-Ty Ty-F.Bool

pub out_text : out-Ty ty.Text ≡ Ty-F.Text
unfolding roll-Ty denote.Hole.Carrier.roll
out_text = out-roll-Ty Ty-F.Text

pub out_bytes : out-Ty ty.Bytes ≡ Ty-F.Bytes
unfolding roll-Ty denote.Hole.Carrier.roll
out_bytes = out-roll-Ty Ty-F.Bytes

pub out_bytes_n : (n : ℕ) → out-Ty (ty.BytesN n) ≡ Ty-F.BytesN n
unfolding roll-Ty denote.Hole.Carrier.roll
out_bytes_n n = out-roll-Ty (Ty-F.BytesN n)

pub out_array : (item : Ty) → out-Ty (ty.Array item) ≡ Ty-F.Array item
unfolding roll-Ty denote.Hole.Carrier.roll
out_array item = out-roll-Ty (Ty-F.Array item)

pub out_pair : (left right : Ty) → out-Ty (ty.Pair left right) ≡ Ty-F.Pair left right
unfolding roll-Ty denote.Hole.Carrier.roll
out_pair left right = out-roll-Ty (Ty-F.Pair left right)

abbrev pub IsLoose : Ty → Type 0
IsLoose t = is_loose (out-Ty t) ≡ true

loose_as : (t : Ty) (layer : TyLayer) → out-Ty t ≡ layer → is_loose layer ≡ true → IsLoose t
loose_as t layer is h = ap is_loose is ∙ h

pub loose_text : IsLoose ty.Text
loose_text = loose_as ty.Text Ty-F.Text out_text refl

pub loose_bytes : IsLoose ty.Bytes
loose_bytes = loose_as ty.Bytes Ty-F.Bytes out_bytes refl

pub loose_bytes_n : (n : ℕ) → IsLoose (ty.BytesN n)
loose_bytes_n n = loose_as (ty.BytesN n) (Ty-F.BytesN n) (out_bytes_n n) refl

pub loose_array : (item : Ty) → IsLoose (ty.Array item)
loose_array item = loose_as (ty.Array item) (Ty-F.Array item) (out_array item) refl

-- ---- what is wanted

pub is_allowed : (span : Span) (b : Bool) (wanted found : Ty) (u : Unit {0}) → allowed span b wanted found ≡ Ok u → b ≡ true
is_allowed span true wanted found u e = refl
is_allowed span false wanted found u e = let no : ⊥ = cc in absurd no

pub suited : (span : Span) (wanted found : Ty) (u : Unit {0}) → suits span wanted found ≡ Ok u → fits wanted found ≡ true
unfolding suits
suited span wanted found u e = is_allowed span (fits wanted found) wanted found u e

only_int : (layer : TyLayer) → layer_fits Ty-F.Int layer ≡ true → layer ≡ Ty-F.Int
only_int Ty-F.Int e = refl
only_int Ty-F.Bool e = let no : ⊥ = cc in absurd no
only_int Ty-F.Text e = let no : ⊥ = cc in absurd no
only_int Ty-F.Bytes e = let no : ⊥ = cc in absurd no
only_int (Ty-F.BytesN n) e = let no : ⊥ = cc in absurd no
only_int Ty-F.Pubkey e = let no : ⊥ = cc in absurd no
only_int Ty-F.Sig e = let no : ⊥ = cc in absurd no
only_int Ty-F.Datasig e = let no : ⊥ = cc in absurd no
only_int (Ty-F.Array item) e = let no : ⊥ = cc in absurd no
only_int (Ty-F.Pair left right) e = let no : ⊥ = cc in absurd no

only_bool : (layer : TyLayer) → layer_fits Ty-F.Bool layer ≡ true → layer ≡ Ty-F.Bool
only_bool Ty-F.Int e = let no : ⊥ = cc in absurd no
only_bool Ty-F.Bool e = refl
only_bool Ty-F.Text e = let no : ⊥ = cc in absurd no
only_bool Ty-F.Bytes e = let no : ⊥ = cc in absurd no
only_bool (Ty-F.BytesN n) e = let no : ⊥ = cc in absurd no
only_bool Ty-F.Pubkey e = let no : ⊥ = cc in absurd no
only_bool Ty-F.Sig e = let no : ⊥ = cc in absurd no
only_bool Ty-F.Datasig e = let no : ⊥ = cc in absurd no
only_bool (Ty-F.Array item) e = let no : ⊥ = cc in absurd no
only_bool (Ty-F.Pair left right) e = let no : ⊥ = cc in absurd no

pub an_int : (found : Ty) → fits ty.Int found ≡ true → out-Ty found ≡ Ty-F.Int
an_int found e = only_int (out-Ty found) (subst (λ layer. layer_fits layer (out-Ty found) ≡ true) out_int e)

pub a_bool : (found : Ty) → fits ty.Bool found ≡ true → out-Ty found ≡ Ty-F.Bool
a_bool found e = only_bool (out-Ty found) (subst (λ layer. layer_fits layer (out-Ty found) ≡ true) out_bool e)

-- where one fits another, values of the second are values of the first
fits_so : (wanted found : TyLayer) (e : List ℕ) → layer_fits wanted found ≡ true → LayerHolds found e → LayerHolds wanted e
fits_so Ty-F.Int found e is h = subst (λ layer. LayerHolds layer e) (only_int found is) h
fits_so Ty-F.Bool found e is h = subst (λ layer. LayerHolds layer e) (only_bool found is) h
fits_so Ty-F.Text found e is h = tt
fits_so Ty-F.Bytes found e is h = tt
fits_so (Ty-F.BytesN n) found e is h = tt
fits_so Ty-F.Pubkey found e is h = tt
fits_so Ty-F.Sig found e is h = tt
fits_so Ty-F.Datasig found e is h = tt
fits_so (Ty-F.Array item) found e is h = tt
fits_so (Ty-F.Pair left right) found e is h = let no : ⊥ = cc in absurd no

pub stands_for : (wanted found : Ty) (e : List ℕ) → fits wanted found ≡ true → LayerHolds (out-Ty found) e → LayerHolds (out-Ty wanted) e
stands_for wanted found e is h = fits_so (out-Ty wanted) (out-Ty found) e is h

-- ---- literals

ranged : (span : Span) (b : Bool) (w t : Ty) → in_range span b w ≡ Ok t → w ≡ t
ranged span true w t e = ok_same w t e
ranged span false w t e = let no : ⊥ = cc in absurd no

pub number_typed : (span : Span) (digits unit : ℕ) (t : Ty) → number_type span digits unit ≡ Ok t → ty.Int ≡ t
unfolding number_type
number_typed span digits unit t e = ranged span _ ty.Int t e

pub date_typed : (span : Span) (seconds : ℤ) (t : Ty) → date_type span seconds ≡ Ok t → ty.Int ≡ t
unfolding date_type
date_typed span seconds t e = ranged span _ ty.Int t e

hex_by : (span : Span) (b c : Bool) (n : ℕ) (t : Ty) → cond b (Ok ty.Bytes) (in_range span c (ty.BytesN n)) ≡ Ok t → IsLoose t
hex_by span true c n t e = subst IsLoose (ok_same ty.Bytes t e) loose_bytes
hex_by span false c n t e = subst IsLoose (ranged span c (ty.BytesN n) t e) (loose_bytes_n n)

pub hex_typed : (span : Span) (n : ℕ) (t : Ty) → hex_type span n ≡ Ok t → IsLoose t
unfolding hex_type
hex_typed span n t e = hex_by span (eqb n 0) (leb n 520) n t e

pub text_typed : (span : Span) (n : ℕ) (t : Ty) → text_type span n ≡ Ok t → IsLoose t
unfolding text_type
text_typed span n t e = subst IsLoose (ranged span _ ty.Text t e) loose_text

-- ---- operators

-- both sides have the wanted type, and the answer is the given one
pub record Sides (wanted given a b t : Ty) : Type 0 where
  pub left : fits wanted a ≡ true
  pub right : fits wanted b ≡ true
  pub answer : given ≡ t

pub sides : (span : Span) (wanted given a b t : Ty) → both_sides span wanted given a b ≡ Ok t → Sides wanted given a b t
sides span wanted given a b t e =
    let p = ok_bind (suits span wanted a) (λ u. suits span wanted b >>= λ v. Ok given) t e in
    let q = ok_bind (suits span wanted b) (λ v. Ok given) t p.2 in
    record { left = suited span wanted a p.0 p.1; right = suited span wanted b q.0 q.1; answer = ok_same given t q.2 }

pub int_is : (layer : TyLayer) → is_int_layer layer ≡ true → layer ≡ Ty-F.Int
int_is Ty-F.Int e = refl
int_is Ty-F.Bool e = let no : ⊥ = cc in absurd no
int_is Ty-F.Text e = let no : ⊥ = cc in absurd no
int_is Ty-F.Bytes e = let no : ⊥ = cc in absurd no
int_is (Ty-F.BytesN n) e = let no : ⊥ = cc in absurd no
int_is Ty-F.Pubkey e = let no : ⊥ = cc in absurd no
int_is Ty-F.Sig e = let no : ⊥ = cc in absurd no
int_is Ty-F.Datasig e = let no : ⊥ = cc in absurd no
int_is (Ty-F.Array item) e = let no : ⊥ = cc in absurd no
int_is (Ty-F.Pair left right) e = let no : ⊥ = cc in absurd no

-- what meets an int is an int
pub met_int : (layer : TyLayer) → (layer_fits Ty-F.Int layer || layer_fits layer Ty-F.Int) ≡ true → layer ≡ Ty-F.Int
met_int Ty-F.Int e = refl
met_int Ty-F.Bool e = let no : ⊥ = cc in absurd no
met_int Ty-F.Text e = let no : ⊥ = cc in absurd no
met_int Ty-F.Bytes e = let no : ⊥ = cc in absurd no
met_int (Ty-F.BytesN n) e = let no : ⊥ = cc in absurd no
met_int Ty-F.Pubkey e = let no : ⊥ = cc in absurd no
met_int Ty-F.Sig e = let no : ⊥ = cc in absurd no
met_int Ty-F.Datasig e = let no : ⊥ = cc in absurd no
met_int (Ty-F.Array item) e = let no : ⊥ = cc in absurd no
met_int (Ty-F.Pair left right) e = let no : ⊥ = cc in absurd no

-- a type of bytes is loose, and so is what it fits
pub loose_bytes_layer : (layer : TyLayer) → is_bytes_layer layer ≡ true → is_loose layer ≡ true
loose_bytes_layer Ty-F.Int e = let no : ⊥ = cc in absurd no
loose_bytes_layer Ty-F.Bool e = let no : ⊥ = cc in absurd no
loose_bytes_layer Ty-F.Text e = refl
loose_bytes_layer Ty-F.Bytes e = refl
loose_bytes_layer (Ty-F.BytesN n) e = refl
loose_bytes_layer Ty-F.Pubkey e = refl
loose_bytes_layer Ty-F.Sig e = refl
loose_bytes_layer Ty-F.Datasig e = refl
loose_bytes_layer (Ty-F.Array item) e = refl
loose_bytes_layer (Ty-F.Pair left right) e = let no : ⊥ = cc in absurd no

fits_loose : (wanted found : TyLayer) → layer_fits wanted found ≡ true → is_bytes_layer found ≡ true → is_loose wanted ≡ true
fits_loose Ty-F.Int found e h = let is : found ≡ Ty-F.Int = only_int found e in let no : is_bytes_layer Ty-F.Int ≡ true = subst (λ layer. is_bytes_layer layer ≡ true) is h in absurd cc
fits_loose Ty-F.Bool found e h = let is : found ≡ Ty-F.Bool = only_bool found e in let no : is_bytes_layer Ty-F.Bool ≡ true = subst (λ layer. is_bytes_layer layer ≡ true) is h in absurd cc
fits_loose Ty-F.Text found e h = refl
fits_loose Ty-F.Bytes found e h = refl
fits_loose (Ty-F.BytesN n) found e h = refl
fits_loose Ty-F.Pubkey found e h = refl
fits_loose Ty-F.Sig found e h = refl
fits_loose Ty-F.Datasig found e h = refl
fits_loose (Ty-F.Array item) found e h = refl
fits_loose (Ty-F.Pair left right) found e h = let no : ⊥ = cc in absurd no

wider_by : (a b : Ty) (t : Bool) → fits a b ≡ t → (fits a b || fits b a) ≡ true → is_bytes a ≡ true → IsLoose (cond t a b)
wider_by a b true is met bytes = loose_bytes_layer (out-Ty a) bytes
wider_by a b false is met bytes = fits_loose (out-Ty b) (out-Ty a) (subst (λ c. (c || fits b a) ≡ true) is met) bytes

pub loose_wider : (a b : Ty) → (fits a b || fits b a) ≡ true → is_bytes a ≡ true → IsLoose (wider a b)
loose_wider a b met bytes = wider_by a b (fits a b) refl met bytes

joined_by : (t : Bool) (n : ℕ) → IsLoose (cond t (ty.BytesN n) ty.Bytes)
joined_by true n = loose_bytes_n n
joined_by false n = loose_bytes

loose_joined_layers : (a b : TyLayer) → IsLoose (joined_layers a b)
loose_joined_layers (Ty-F.BytesN n) (Ty-F.BytesN m) = joined_by (leb (n + m) 520) (n + m)
loose_joined_layers (Ty-F.BytesN n) Ty-F.Int = loose_bytes
loose_joined_layers (Ty-F.BytesN n) Ty-F.Bool = loose_bytes
loose_joined_layers (Ty-F.BytesN n) Ty-F.Text = loose_bytes
loose_joined_layers (Ty-F.BytesN n) Ty-F.Bytes = loose_bytes
loose_joined_layers (Ty-F.BytesN n) Ty-F.Pubkey = loose_bytes
loose_joined_layers (Ty-F.BytesN n) Ty-F.Sig = loose_bytes
loose_joined_layers (Ty-F.BytesN n) Ty-F.Datasig = loose_bytes
loose_joined_layers (Ty-F.BytesN n) (Ty-F.Array item) = loose_bytes
loose_joined_layers (Ty-F.BytesN n) (Ty-F.Pair left right) = loose_bytes
loose_joined_layers Ty-F.Int b = loose_bytes
loose_joined_layers Ty-F.Bool b = loose_bytes
loose_joined_layers Ty-F.Text b = loose_bytes
loose_joined_layers Ty-F.Bytes b = loose_bytes
loose_joined_layers Ty-F.Pubkey b = loose_bytes
loose_joined_layers Ty-F.Sig b = loose_bytes
loose_joined_layers Ty-F.Datasig b = loose_bytes
loose_joined_layers (Ty-F.Array item) b = loose_bytes
loose_joined_layers (Ty-F.Pair left right) b = loose_bytes

pub loose_joined : (a b : Ty) → IsLoose (joined a b)
loose_joined a b = loose_joined_layers (out-Ty a) (out-Ty b)

-- ---- parts of texts and bytes

pub length_typed : (span : Span) (a t : Ty) → length_type span a ≡ Ok t → ty.Int ≡ t
unfolding length_type
length_typed span a t e =
    let p = ok_bind (allowed span (is_sequence a) ty.Bytes a) (λ u. Ok ty.Int) t e in ok_same ty.Int t p.2

loose_reversed : (layer : TyLayer) → IsLoose (reversed_layer layer)
loose_reversed Ty-F.Int = loose_bytes
loose_reversed Ty-F.Bool = loose_bytes
loose_reversed Ty-F.Text = loose_text
loose_reversed Ty-F.Bytes = loose_bytes
loose_reversed (Ty-F.BytesN n) = loose_bytes_n n
loose_reversed Ty-F.Pubkey = loose_bytes
loose_reversed Ty-F.Sig = loose_bytes
loose_reversed Ty-F.Datasig = loose_bytes
loose_reversed (Ty-F.Array item) = loose_bytes
loose_reversed (Ty-F.Pair left right) = loose_bytes

pub reverse_typed : (span : Span) (a t : Ty) → reverse_type span a ≡ Ok t → IsLoose t
unfolding reverse_type
reverse_typed span a t e =
    let p = ok_bind (allowed span (is_sequence a) ty.Bytes a) (λ u. Ok (reversed a)) t e in
    subst IsLoose (ok_same (reversed a) t p.2) (loose_reversed (out-Ty a))

abbrev AreLoose : Ty × Ty → Type 0
AreLoose parts = IsLoose parts.0 × IsLoose parts.1

parts_by : (c : Bool) (n m : ℕ) → AreLoose (cond c (ty.BytesN n, ty.BytesN m) (ty.Bytes, ty.Bytes))
parts_by true n m = (loose_bytes_n n, loose_bytes_n m)
parts_by false n m = (loose_bytes, loose_bytes)

loose_cut : (n : ℕ) (literal : Option ℕ) → AreLoose (cut_parts n literal)
loose_cut n None = (loose_bytes, loose_bytes)
loose_cut n (Some k) = parts_by (nat_lt 0 k && nat_lt k n) k (n - k)

loose_parts : (layer : TyLayer) (literal : Option ℕ) → AreLoose (split_layer layer literal)
loose_parts Ty-F.Int literal = (loose_bytes, loose_bytes)
loose_parts Ty-F.Bool literal = (loose_bytes, loose_bytes)
loose_parts Ty-F.Text literal = (loose_text, loose_text)
loose_parts Ty-F.Bytes literal = (loose_bytes, loose_bytes)
loose_parts (Ty-F.BytesN n) literal = loose_cut n literal
loose_parts Ty-F.Pubkey literal = (loose_bytes, loose_bytes)
loose_parts Ty-F.Sig literal = (loose_bytes, loose_bytes)
loose_parts Ty-F.Datasig literal = (loose_bytes, loose_bytes)
loose_parts (Ty-F.Array item) literal = (loose_bytes, loose_bytes)
loose_parts (Ty-F.Pair left right) literal = (loose_bytes, loose_bytes)

-- the index is an int, and the answer a pair of types of which any elements are values
pub record Splits (index t : Ty) : Type 0 where
  pub index_is : out-Ty index ≡ Ty-F.Int
  pub left : Ty
  pub right : Ty
  pub pair : out-Ty t ≡ Ty-F.Pair left right
  pub left_loose : IsLoose left
  pub right_loose : IsLoose right

pub split_typed : (span : Span) (a index t : Ty) (literal : Option ℕ) → split_type span a index literal ≡ Ok t → Splits index t
unfolding split_type
split_typed span a index t literal e =
    let parts = split_parts a literal in
    let whole : Ty = ty.Pair parts.0 parts.1 in
    let p = ok_bind (allowed span (is_sequence a) ty.Bytes a) (λ u. suits span ty.Int index >>= λ v. Ok whole) t e in
    let q = ok_bind (suits span ty.Int index) (λ v. Ok whole) t p.2 in
    let both = loose_parts (out-Ty a) literal in
    record {
      index_is = an_int index (suited span ty.Int index q.0 q.1);
      left = parts.0;
      right = parts.1;
      pair = subst (λ t. out-Ty t ≡ Ty-F.Pair parts.0 parts.1) (ok_same whole t q.2) (out_pair parts.0 parts.1);
      left_loose = both.0;
      right_loose = both.1;
    }

part_by : (span : Span) (c d : Bool) (left right t : Ty) → IsLoose left → IsLoose right
    → cond c (Ok left) (cond d (Ok right) (Err (faults.BadTupleIndex span))) ≡ Ok t → IsLoose t
part_by span true d left right t l r e = subst IsLoose (ok_same left t e) l
part_by span false true left right t l r e = subst IsLoose (ok_same right t e) r
part_by span false false left right t l r e = let no : ⊥ = cc in absurd no

index_by : (span : Span) (number : ℕ) (a t : Ty) (layer : TyLayer) (e : List ℕ) → LayerHolds layer e → index_layer span number a layer ≡ Ok t → IsLoose t
index_by span number a t (Ty-F.Pair left right) e h is = part_by span (eqb number 0) (eqb number 1) left right t h.0 h.1 is
index_by span number a t Ty-F.Int e h is = let no : ⊥ = cc in absurd no
index_by span number a t Ty-F.Bool e h is = let no : ⊥ = cc in absurd no
index_by span number a t Ty-F.Text e h is = let no : ⊥ = cc in absurd no
index_by span number a t Ty-F.Bytes e h is = let no : ⊥ = cc in absurd no
index_by span number a t (Ty-F.BytesN n) e h is = let no : ⊥ = cc in absurd no
index_by span number a t Ty-F.Pubkey e h is = let no : ⊥ = cc in absurd no
index_by span number a t Ty-F.Sig e h is = let no : ⊥ = cc in absurd no
index_by span number a t Ty-F.Datasig e h is = let no : ⊥ = cc in absurd no
index_by span number a t (Ty-F.Array item) e h is = let no : ⊥ = cc in absurd no

-- a part of a value that is a pair
pub index_typed : (span : Span) (number : ℕ) (a t : Ty) (e : List ℕ) → LayerHolds (out-Ty a) e → index_type span number a ≡ Ok t → IsLoose t
unfolding index_type
index_typed span number a t e h is = index_by span number a t (out-Ty a) e h is

-- ---- casts

pub casts : (span : Span) (to t : Ty) (effect : Option CastEffect) → cast_by span to effect ≡ Ok t → (chosen : CastEffect) × (effect ≡ Some chosen) × (to ≡ t)
casts span to t (Some effect) e = (effect, refl, ok_same to t e)
casts span to t None e = let no : ⊥ = cc in absurd no
