-- Expressions that have types are ready, node by node.
use Rattle.std.proofs.Common.{◌≡◌, ◌∙◌, ap, sym, subst, refl, ℕ, ℤ, pos, ◌+◌, ◌*◌, ◌==◌, Bool, true, false, List, [], ◌∷◌, ◌++◌, length, map, Some, None, Option, Ok, Err, arith}
use Rattle.std.specs.Prelude.{◌&&◌, ◌-◌, ◌^◌, unsigned_abs, nat_lt, nat_le, if◌then◌else◌}
use Rattle.std.specs.List.{list_all, AllByRecursion}
use Rattle.std.proofs.lemmas.List.{append-nil, length-map}
use Rattle.std.proofs.lemmas.Bool.{and_parts, eqb-true}
use Rattle.std.proofs.lemmas.Bool.Decides.{nat_tests}
use Rattle.cash_base.specs.declared.place.Span.{Span}
use Rattle.cash_base.specs.declared.place.Slot.{Slot}
use Rattle.cash_base.specs.declared.look.Look0.{Look0}
use Rattle.cash_base.specs.declared.look.Look0.TheVariants as looks
use Rattle.cash_base.specs.declared.look.LookAt.{LookAt}
use Rattle.cash_base.specs.declared.look.LookAt.TheVariants as looks_at
use Rattle.cash_base.specs.Failing.{◌>>=◌}
use Rattle.cash_tree.specs.declared.Ty.{Ty}
use Rattle.cash_tree.specs.declared.Ty.TheVariants as ty
use Rattle.cash_tree.specs.declared.Ty.TheOpen.{Ty-F}
use Rattle.cash_tree.specs.declared.Ty.TheViews.{out-Ty}
use Rattle.cash_tree.specs.declared.Callee.{Callee}
use Rattle.cash_tree.specs.declared.ExprKind.TheOpen.{ExprKind-F}
use Rattle.cash_tree.specs.Nodes.{joined}
use Rattle.cash_names.specs.Definitions.{expression_uses}
use Rattle.type_tables.specs.declared.rules.Item.{Item}
use Rattle.type_tables.specs.declared.rules.CastEffect.{CastEffect}
use Rattle.type_tables.specs.declared.fault.TypeFault.TheVariants as faults
use Rattle.type_tables.specs.Tables.{Answer, TypedExpr, Env as Types, in_range, number_type, date_type, hex_type, text_type, is_single, is_sequence, suits, allowed, length_type, reverse_type, reversed, reversed_layer, split_type, split_parts, split_layer, cut_parts, part_at, index_layer, index_type, cast_effect, cast_by, cast_type, sized_effect, sized_cast_type, item_type, all_suit, array_type, nothing, signature, looked_at, look0_type, look_at_type, type_at}
use Rattle.type_check.specs.Shapes.{Place, NamedExpr, typed, types}
use Rattle.type_check.specs.Typing.{HasType}
use Rattle.type_check.proofs.Typed.{ok_bind, ok_same}
use Rattle.source_meaning.specs.Runnable.{all_of}
use Rattle.type_soundness.proofs.Holds.{TyLayer}
use Rattle.type_soundness.proofs.Types.{out_array, out_pair, is_allowed, suited, number_typed, date_typed, length_typed, casts}
use Rattle.type_soundness.proofs.View.{Layer, kind_of_layer, rule_of}
use Rattle.slot_expressions.specs.Ready.{Known-names, Node, is_cast, is_ready, ready_node, readies}
use Rattle.lowering_laws.specs.Laws.{type_has_length, is_of_language, nodes_fit, AreSingleNames, ExpressionsAreReady}
use Rattle.lowering_laws.proofs.Induction.{AllAt, OfParts, Follows, of_each}
use Rattle.lowering_laws.proofs.Layers.{readied, ready_is, items_are, uses_are, fits_are, count_is, split_is}
use Rattle.lowering_laws.proofs.Singles.{is_array, is_array_layer, is_pair, Halves, no_array, no_pair, fits_single, suits_single, of_sequence, single_int, single_bool, single_text, single_bytes, single_bytes_n, unary_single, binary_single, cast_single, sized_single}
use Rattle.lowering_laws.proofs.Facts.{Asked, Fine, single_fine, one_asked, two_asked, all_asked}
use Rattle.lowering_laws.proofs.Calls.{call_is_ready, call_single}

pub both : (a b : Bool) → a ≡ true → b ≡ true → (a && b) ≡ true
both a b is also = ap (λ c. c && b) is ∙ also

pub contrary : (b : Bool) → b ≡ false → b ≡ true → ⊥
contrary b no_is is = let never : false ≡ true = sym no_is ∙ is in absurd cc

pub single_as : (w t : Ty) → w ≡ t → is_single w ≡ true → is_single t ≡ true
single_as w t same is = subst (λ t. is_single t ≡ true) same is

-- ---- literals

ranged : (span : Span) (b : Bool) (w t : Ty) → in_range span b w ≡ Ok t → (b ≡ true) × (w ≡ t)
ranged span true w t e = (refl, ok_same w t e)
ranged span false w t e = absurd cc

pub number_range : (span : Span) (digits unit : ℕ) (t : Ty) → number_type span digits unit ≡ Ok t → (nat_lt (digits * unit) (2 ^ 63) ≡ true) × (ty.Int ≡ t)
unfolding number_type
number_range span digits unit t e = ranged span (nat_lt (digits * unit) (2 ^ 63)) ty.Int t e

pub date_range : (span : Span) (seconds : ℤ) (t : Ty) → date_type span seconds ≡ Ok t → (nat_lt (unsigned_abs seconds) (2 ^ 63) ≡ true) × (ty.Int ≡ t)
unfolding date_type
date_range span seconds t e = ranged span (nat_lt (unsigned_abs seconds) (2 ^ 63)) ty.Int t e

hex_by : (span : Span) (n : ℕ) (t : Ty) (none_there : Bool) → (n == 0) ≡ none_there → (if none_there then Ok ty.Bytes else in_range span (nat_le n 520) (ty.BytesN n)) ≡ Ok t → (nat_le n 520 ≡ true) × (is_single t ≡ true)
hex_by span n t true is e = (grind (arith, nat_tests, is), single_as ty.Bytes t (ok_same ty.Bytes t e) single_bytes)
hex_by span n t false is e = let r = ranged span (nat_le n 520) (ty.BytesN n) t e in (r.0, single_as (ty.BytesN n) t r.1 (single_bytes_n n))

pub hex_range : (span : Span) (n : ℕ) (t : Ty) → hex_type span n ≡ Ok t → (nat_le n 520 ≡ true) × (is_single t ≡ true)
unfolding hex_type
hex_range span n t e = hex_by span n t (n == 0) refl e

pub text_range : (span : Span) (n : ℕ) (t : Ty) → text_type span n ≡ Ok t → (nat_le n 520 ≡ true) × (ty.Text ≡ t)
unfolding text_type
text_range span n t e = ranged span (nat_le n 520) ty.Text t e

-- ---- parts

sequence_given : (span : Span) (a t w : Ty) → ◌≡◌ {A = Answer Ty} (allowed span (is_sequence a) ty.Bytes a >>= λ u. Ok w) (Ok t) → (is_single a ≡ true) × (w ≡ t)
sequence_given span a t w e =
    let p = ok_bind (allowed span (is_sequence a) ty.Bytes a) (λ u. Ok w) t e in (of_sequence a (is_allowed span (is_sequence a) ty.Bytes a p.0 p.1), ok_same w t p.2)

pub length_given : (span : Span) (a t : Ty) → length_type span a ≡ Ok t → (is_single a ≡ true) × (ty.Int ≡ t)
unfolding length_type
length_given span a t e = sequence_given span a t ty.Int e

reversed_single : (layer : TyLayer) → is_single (reversed_layer layer) ≡ true
reversed_single Ty-F.Text = single_text
reversed_single (Ty-F.BytesN n) = single_bytes_n n
reversed_single Ty-F.Int = single_bytes
reversed_single Ty-F.Bool = single_bytes
reversed_single Ty-F.Bytes = single_bytes
reversed_single Ty-F.Pubkey = single_bytes
reversed_single Ty-F.Sig = single_bytes
reversed_single Ty-F.Datasig = single_bytes
reversed_single (Ty-F.Array item) = single_bytes
reversed_single (Ty-F.Pair left right) = single_bytes

pub reverse_given : (span : Span) (a t : Ty) → reverse_type span a ≡ Ok t → (is_single a ≡ true) × (is_single t ≡ true)
unfolding reverse_type
reverse_given span a t e = let p = sequence_given span a t (reversed a) e in (p.0, single_as (reversed a) t p.1 (reversed_single (out-Ty a)))

-- both parts of a split are single
abbrev BothSingle : Ty × Ty → Type 0
BothSingle parts = (is_single parts.0 ≡ true) × (is_single parts.1 ≡ true)

cut_by : (n k : ℕ) (inside : Bool) → BothSingle (if inside then (ty.BytesN k, ty.BytesN (n - k)) else (ty.Bytes, ty.Bytes))
cut_by n k true = (single_bytes_n k, single_bytes_n (n - k))
cut_by n k false = (single_bytes, single_bytes)

cut_single : (n : ℕ) (literal : Option ℕ) → BothSingle (cut_parts n literal)
cut_single n None = (single_bytes, single_bytes)
cut_single n (Some k) = cut_by n k (nat_lt 0 k && nat_lt k n)

parts_single : (layer : TyLayer) (literal : Option ℕ) → BothSingle (split_layer layer literal)
parts_single Ty-F.Text literal = (single_text, single_text)
parts_single (Ty-F.BytesN n) literal = cut_single n literal
parts_single Ty-F.Int literal = (single_bytes, single_bytes)
parts_single Ty-F.Bool literal = (single_bytes, single_bytes)
parts_single Ty-F.Bytes literal = (single_bytes, single_bytes)
parts_single Ty-F.Pubkey literal = (single_bytes, single_bytes)
parts_single Ty-F.Sig literal = (single_bytes, single_bytes)
parts_single Ty-F.Datasig literal = (single_bytes, single_bytes)
parts_single (Ty-F.Array item) literal = (single_bytes, single_bytes)
parts_single (Ty-F.Pair left right) literal = (single_bytes, single_bytes)

pub record Splits (a index t : Ty) : Type 0 where
  pub whole : is_single a ≡ true
  pub at : is_single index ≡ true
  pub left : Ty
  pub right : Ty
  pub is : ty.Pair left right ≡ t
  pub halves : (is_single left ≡ true) × (is_single right ≡ true)

pub split_given : (span : Span) (a index t : Ty) (literal : Option ℕ) → split_type span a index literal ≡ Ok t → Splits a index t
unfolding split_type
split_given span a index t literal e =
    let parts = split_parts a literal in
    let whole : Ty = ty.Pair parts.0 parts.1 in
    let p = ok_bind (allowed span (is_sequence a) ty.Bytes a) (λ u. suits span ty.Int index >>= λ v. Ok whole) t e in
    let q = ok_bind (suits span ty.Int index) (λ v. Ok whole) t p.2 in record {
      whole = of_sequence a (is_allowed span (is_sequence a) ty.Bytes a p.0 p.1);
      at = suits_single span ty.Int index q.0 q.1;
      left = parts.0;
      right = parts.1;
      is = ok_same whole t q.2;
      halves = parts_single (out-Ty a) literal;
    }

part_given : (span : Span) (first second : Bool) (left right t : Ty) → is_single left ≡ true → is_single right ≡ true
    → ◌≡◌ {A = Answer Ty} (if first then Ok left else (if second then Ok right else Err (faults.BadTupleIndex span))) (Ok t) → is_single t ≡ true
part_given span true second left right t l r e = single_as left t (ok_same left t e) l
part_given span false true left right t l r e = single_as right t (ok_same right t e) r
part_given span false false left right t l r e = absurd cc

-- an index stands on a pair
index_by : (span : Span) (number : ℕ) (a t : Ty) (layer : TyLayer) → out-Ty a ≡ layer → Halves layer → index_layer span number a layer ≡ Ok t → (is_array a ≡ false) × (is_single t ≡ true)
index_by span number a t (Ty-F.Pair left right) at h e = (ap is_array_layer at, part_given span (number == 0) (number == 1) left right t h.0 h.1 e)
index_by span number a t Ty-F.Int at h e = absurd cc
index_by span number a t Ty-F.Bool at h e = absurd cc
index_by span number a t Ty-F.Text at h e = absurd cc
index_by span number a t Ty-F.Bytes at h e = absurd cc
index_by span number a t (Ty-F.BytesN n) at h e = absurd cc
index_by span number a t Ty-F.Pubkey at h e = absurd cc
index_by span number a t Ty-F.Sig at h e = absurd cc
index_by span number a t Ty-F.Datasig at h e = absurd cc
index_by span number a t (Ty-F.Array item) at h e = absurd cc

pub index_given : (span : Span) (number : ℕ) (a t : Ty) → Halves (out-Ty a) → index_type span number a ≡ Ok t → (is_array a ≡ false) × (is_single t ≡ true)
unfolding index_type
index_given span number a t h e = index_by span number a t (out-Ty a) refl h e

-- ---- casts

pub record CastTo (to from t : Ty) : Type 0 where
  pub answer : to ≡ t
  pub effect : CastEffect
  pub is : cast_effect to from ≡ Some effect

pub cast_given : (span : Span) (to from t : Ty) → cast_type span to from ≡ Ok t → CastTo to from t
unfolding cast_type
cast_given span to from t e = let p = casts span to t (cast_effect to from) e in record { answer = p.2; effect = p.0; is = p.1 }

pub record SizedTo (to from by t : Ty) : Type 0 where
  pub answer : to ≡ t
  pub effect : CastEffect
  pub is : sized_effect to from ≡ Some effect
  pub size : is_single by ≡ true

pub sized_given : (span : Span) (to from size t : Ty) → sized_cast_type span to from size ≡ Ok t → SizedTo to from size t
unfolding sized_cast_type
sized_given span to from size t e =
    let p = ok_bind (suits span ty.Int size) (λ u. cast_by span to (sized_effect to from)) t e in
    let q = casts span to t (sized_effect to from) p.2 in record { answer = q.2; effect = q.0; is = q.1; size = suits_single span ty.Int size p.0 p.1 }
