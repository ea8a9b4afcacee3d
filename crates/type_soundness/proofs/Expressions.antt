-- What each kind of expression gives is a value of its type.
use Rattle.std.proofs.Common.{◌≡◌, ◌∙◌, ℕ, ◌*◌, Bool, true, false, cond, eqb, pos, List, [], ◌∷◌, ◌++◌, length, map, Some, None, Result, Ok, Err, refl, sym, ap, subst}
use Rattle.std.specs.Prelude.{unwrap_or, IfOk}
use Rattle.std.specs.List.{list_all, AllByRecursion}
use Rattle.std.proofs.lemmas.Bool.{and_parts}
use Rattle.cash_base.specs.declared.fault.Cause.{Cause}
use Rattle.cash_base.specs.declared.place.Span.{Span}
use Rattle.cash_base.specs.declared.place.Slot.{Slot}
use Rattle.cash_base.specs.Element.{IsElement}
use Rattle.element_ops.specs.declared.op.Op1.TheVariants as op1
use Rattle.element_ops.specs.declared.op.Op2.TheVariants as op2
use Rattle.element_ops.specs.Operand.{number_element, truth_element}
use Rattle.element_ops.specs.Operation.{result1, result2, split_parts}
use Rattle.tx_context.specs.World.{World, IsWorld}
use Rattle.tx_context.specs.Lookup.{sized, context_value, indexed_value}
use Rattle.tx_context.proofs.Bytes.{IsBytes-from_test}
use Rattle.cash_tree.specs.declared.Ty.{Ty}
use Rattle.cash_tree.specs.declared.Ty.TheVariants as ty
use Rattle.cash_tree.specs.declared.Ty.TheOpen.{Ty-F}
use Rattle.cash_tree.specs.declared.Ty.TheViews.{out-Ty}
use Rattle.cash_tree.specs.declared.ExprKind.TheOpen.{ExprKind-F, Expr-F}
use Rattle.cash_tree.specs.declared.ExprKind.TheFolds.{fold-roll-Expr, fold-roll-ExprKind, map-ExprKind}
use Rattle.cash_base.specs.declared.look.LookAt.{LookAt}
use Rattle.type_tables.specs.Tables.{TypedExpr, fits, type_at, suits, cast_effect, look0_type, looked_at, look_at_type, Env as Types}
use Rattle.form_tables.specs.Forms.{unary_op, is_int, binary_form, binary_result, cast_result}
use Rattle.source_meaning.specs.Meaning.{Env, Given, Two, Node, Kind, left_of, right_of, at_span, element, part_at, kind_step, node_step, node_of, kind_of, value_of}
use Rattle.type_check.specs.Shapes.{Place, TypedKind, NamedExpr, typed}
use Rattle.type_check.specs.Typing.{HasType}
use Rattle.type_check.proofs.Typed.{ok_bind, ok_same}
use Rattle.type_soundness.specs.Literals.{parts, spells_bytes, holds_bytes}
use Rattle.type_soundness.proofs.Calm.{IsNumber, Calm, split_calm}
use Rattle.type_soundness.proofs.Holds.{Laws, TyLayer, LayerHolds, Holds, HoldsGiven, GoodValue, Fine, bind, placed, applied_good, loosened, obeyed, number_is, loose, loosely, number_fine, truth_fine, sized_fine}
use Rattle.type_soundness.proofs.Types.{number_typed, date_typed, hex_typed, text_typed, length_typed, reverse_typed, Splits, split_typed, index_typed, suited}
use Rattle.type_soundness.proofs.Looks.{context_fine, indexed_fine}
use Rattle.type_soundness.proofs.Operators.{int_fine, bool_fine, int_of, number_in, unary_fine, binary_fine}
use Rattle.type_soundness.proofs.Calls.{Sound, then_one, call_good}
use Rattle.type_soundness.proofs.Casts.{padded_fine, cast_fine, sized_typed}
use Rattle.type_soundness.proofs.View.{Layer, kind_of_layer, rule_of, kind_spelled, expr_spelled, Follows, of_each}

-- each name has a value of its type
abbrev pub NamesHold : Types → Env → Type 0
NamesHold types values = (slot : Slot) → Holds (out-Ty (type_at slot types)) (unwrap_or (values slot) [])

record GoodKind (t : Ty) (span : Span) (kind : Kind) : Type 0 where
  pub value : GoodValue (out-Ty t) (kind.value span)
  pub items : AllByRecursion (GoodValue Ty-F.Bytes) kind.items

-- ---- splits and their parts

abbrev BothElements : List ℕ × List ℕ → Type 0
BothElements p = IsElement p.0 × IsElement p.1

both_by : (whole : List ℕ) (r : Result (List ℕ × List ℕ) Cause) → IfOk r (λ p. IsElement p.0 × IsElement p.1 × (p.0 ++ p.1 ≡ whole)) → Calm r → Fine BothElements r
both_by whole (Ok p) h calm = (h.0, h.1)
both_by whole (Err cause) h calm = calm

split_fine : (laws : Laws) (x y : List ℕ) → IsElement x → IsNumber y → Fine BothElements (split_parts x y)
split_fine laws x y h number = both_by x (split_parts x y) (laws.split x y h).parts (split_calm x y number)

pair_holds : (index t : Ty) (p : List ℕ × List ℕ) → Splits index t → BothElements p → HoldsGiven (out-Ty t) (Two p.0 p.1)
pair_holds index t p s h =
    let fits : LayerHolds (out-Ty t) p.0 = subst (λ layer. LayerHolds layer p.0) (sym s.pair) (s.left_loose, s.right_loose) in
    record { left = record { fits = fits; element = h.0 }; right = h.1 }

part_by : (first : Bool) (layer : TyLayer) (given : Given) → HoldsGiven layer given → IsElement (cond first (left_of given) (right_of given))
part_by true layer given h = h.left.element
part_by false layer given h = h.right

-- ---- arrays

items_good : (world : World) (values : Env) (xs : List TypedExpr) → AllByRecursion (Sound world values) xs
    → AllByRecursion (GoodValue Ty-F.Bytes) (map (λ (n : Node). n.value) (map (node_of world values) xs))
items_good world values [] all = tt
items_good world values (x ∷ xs) all = (loosened (out-Ty x.ty) (value_of world values x) all.0.value, items_good world values xs all.1)

-- ---- look-ups

looks : (span : Span) (look : LookAt) (index t : Ty) → look_at_type span look index ≡ Ok t → (fits ty.Int index ≡ true) × (looked_at look ≡ t)
unfolding look_at_type
looks span look index t e =
    let p = ok_bind (suits span ty.Int index) (λ u. Ok (looked_at look)) t e in
    (suited span ty.Int index p.0 p.1, ok_same (looked_at look) t p.2)

-- ---- all kinds

kind_good : (laws : Laws) (world : World) → IsWorld world → (values : Env) (types : Types) → NamesHold types values → (layer : Layer) (span : Span) (place : Place) (t : Ty)
    → spells_bytes layer ≡ true → AllByRecursion (Sound world values) (parts layer) → rule_of layer span place types ≡ Ok t
    → GoodKind t span (kind_step world values (map-ExprKind Slot Ty TypedKind TypedExpr Kind Node (kind_of world values) (node_of world values) layer))
kind_good laws world w values types names (ExprKind-F.Int digits unit) span place t bytes all is =
    record { value = applied_good (out-Ty t) span (number_element (pos (digits * unit))) (int_fine t (number_element (pos (digits * unit))) (number_typed span digits unit t is) (number_fine (pos (digits * unit)))); items = tt }
kind_good laws world w values types names (ExprKind-F.Bool b) span place t bytes all is =
    record { value = applied_good (out-Ty t) span (truth_element b) (bool_fine t (truth_element b) (ok_same ty.Bool t is) (truth_fine b)); items = tt }
kind_good laws world w values types names (ExprKind-F.Hex spelled) span place t bytes all is =
    record { value = applied_good (out-Ty t) span (sized spelled) (loosely (out-Ty t) (sized spelled) (hex_typed span (length spelled) t is) (sized_fine spelled (IsBytes-from_test spelled bytes))); items = tt }
kind_good laws world w values types names (ExprKind-F.Text spelled) span place t bytes all is =
    record { value = applied_good (out-Ty t) span (sized spelled) (loosely (out-Ty t) (sized spelled) (text_typed span (length spelled) t is) (sized_fine spelled (IsBytes-from_test spelled bytes))); items = tt }
kind_good laws world w values types names (ExprKind-F.Date seconds) span place t bytes all is =
    record { value = applied_good (out-Ty t) span (number_element seconds) (int_fine t (number_element seconds) (date_typed span seconds t is) (number_fine seconds)); items = tt }
kind_good laws world w values types names (ExprKind-F.Name slot) span place t bytes all is =
    let h = subst (λ (t : Ty). Holds (out-Ty t) (unwrap_or (values slot) [])) (ok_same (type_at slot types) t is) (names slot) in
    record { value = record { left = h; right = h.element }; items = tt }
kind_good laws world w values types names (ExprKind-F.Unary op a) span place t bytes all is =
    record { value = then_one (out-Ty a.ty) (out-Ty t) (value_of world values a) _ all.0.value (λ x h. applied_good (out-Ty t) span (result1 (unary_op op) x) (unary_fine laws span op a.ty t x is h)); items = tt }
kind_good laws world w values types names (ExprKind-F.Binary op a b) span place t bytes all is =
    let numbers = is_int (node_of world values a).ty in
    record {
      value = then_one (out-Ty a.ty) (out-Ty t) (value_of world values a) _ all.0.value (λ x h.
          then_one (out-Ty b.ty) (out-Ty t) (value_of world values b) _ all.1.0.value (λ y k.
          applied_good (out-Ty t) span (binary_result (binary_form numbers op) x y)
          (binary_fine laws span op numbers a.ty b.ty t x y (ap is_int (sym all.0.ty)) is h k)));
      items = tt;
    }
kind_good laws world w values types names (ExprKind-F.Length a) span place t bytes all is =
    record {
      value = then_one (out-Ty a.ty) (out-Ty t) (value_of world values a) _ all.0.value (λ x h.
          applied_good (out-Ty t) span (result1 op1.Size x)
          (int_fine t (result1 op1.Size x) (length_typed span a.ty t is) (obeyed _ _ Ty-F.Int (result1 op1.Size x) (laws.one op1.Size x h.element) tt number_is)));
      items = tt;
    }
kind_good laws world w values types names (ExprKind-F.Reverse a) span place t bytes all is =
    let any = reverse_typed span a.ty t is in
    record {
      value = then_one (out-Ty a.ty) (out-Ty t) (value_of world values a) _ all.0.value (λ x h.
          applied_good (out-Ty t) span (result1 op1.Reverse x)
          (obeyed _ _ (out-Ty t) (result1 op1.Reverse x) (laws.one op1.Reverse x h.element) tt (λ e k. loose (out-Ty t) e any)));
      items = tt;
    }
kind_good laws world w values types names (ExprKind-F.Split a b) span place t bytes all is =
    let s = split_typed span a.ty b.ty t _ is in
    record {
      value = then_one (out-Ty a.ty) (out-Ty t) (value_of world values a) _ all.0.value (λ x h.
          then_one (out-Ty b.ty) (out-Ty t) (value_of world values b) _ all.1.0.value (λ y k.
          bind BothElements (HoldsGiven (out-Ty t)) (at_span span (split_parts x y)) _
          (placed BothElements span (split_parts x y) (split_fine laws x y h.element (number_in (out-Ty b.ty) y s.index_is k)))
          (λ p q. pair_holds b.ty t p s q)));
      items = tt;
    }
kind_good laws world w values types names (ExprKind-F.Index a number) span place t bytes all is =
    record {
      value = bind (HoldsGiven (out-Ty a.ty)) (HoldsGiven (out-Ty t)) (value_of world values a) _ all.0.value (λ given h.
          let part = part_by (eqb number 0) (out-Ty a.ty) given h in
          record { left = record { fits = loose (out-Ty t) (part_at number given) (index_typed span number a.ty t (left_of given) h.left.fits is); element = part }; right = part });
      items = tt;
    }
kind_good laws world w values types names (ExprKind-F.Cast to a None) span place t bytes all is =
    let same : cast_effect to a.ty ≡ cast_effect to (node_of world values a).ty = ap (λ from. cast_effect to from) (sym all.0.ty) in
    record {
      value = then_one (out-Ty a.ty) (out-Ty t) (value_of world values a) _ all.0.value (λ x h.
          applied_good (out-Ty t) span (cast_result (cast_effect to (node_of world values a).ty) x)
          (subst (λ effect. Fine (Holds (out-Ty t)) (cast_result effect x)) same (cast_fine laws span to a.ty t x is h)));
      items = tt;
    }
kind_good laws world w values types names (ExprKind-F.Cast to a (Some b)) span place t bytes all is =
    let s = sized_typed span to a.ty b.ty t is in
    record {
      value = then_one (out-Ty a.ty) (out-Ty t) (value_of world values a) _ all.0.value (λ x h.
          then_one (out-Ty b.ty) (out-Ty t) (value_of world values b) _ all.1.0.value (λ y k.
          applied_good (out-Ty t) span (result2 op2.Pad x y) (padded_fine laws (out-Ty t) x y s.loose_is h.element k.element (int_of b.ty y s.size_is k))));
      items = tt;
    }
kind_good laws world w values types names (ExprKind-F.Call callee args) span place t bytes all is =
    record { value = call_good laws world values span callee args t all is; items = tt }
kind_good laws world w values types names (ExprKind-F.New callee args) span place t bytes all is =
    record { value = call_good laws world values span callee args t all is; items = tt }
kind_good laws world w values types names (ExprKind-F.Array xs) span place t bytes all is =
    record { value = refl; items = items_good world values xs all }
kind_good laws world w values types names (ExprKind-F.Look0 look) span place t bytes all is =
    record {
      value = applied_good (out-Ty t) span (context_value world.context look world.redeem)
          (subst (λ (t : Ty). Fine (Holds (out-Ty t)) (context_value world.context look world.redeem)) (ok_same (look0_type look) t is) (context_fine world.context w.context look world.redeem w.redeem));
      items = tt;
    }
kind_good laws world w values types names (ExprKind-F.LookAt look a) span place t bytes all is =
    let p = looks span look a.ty t is in
    record {
      value = then_one (out-Ty a.ty) (out-Ty t) (value_of world values a) _ all.0.value (λ x h.
          applied_good (out-Ty t) span (indexed_value world.context look x)
          (subst (λ (t : Ty). Fine (Holds (out-Ty t)) (indexed_value world.context look x)) p.1 (indexed_fine world.context w.context look x (int_of a.ty x p.0 h))));
      items = tt;
    }

-- ---- expressions

record GoodNode (t : Ty) (n : Node) : Type 0 where
  ty : n.ty ≡ t
  value : GoodValue (out-Ty t) n.value
  items : AllByRecursion (GoodValue Ty-F.Bytes) n.items

whole_good : (laws : Laws) (world : World) → IsWorld world → (values : Env) (types : Types) → NamesHold types values → (layer : Layer) (span : Span) (place : Place) (t : Ty)
    → spells_bytes layer ≡ true → AllByRecursion (Sound world values) (parts layer) → rule_of layer span place types ≡ Ok t
    → GoodNode t (node_of world values (typed (kind_of_layer layer) t span))
unfolding node_of kind_of
whole_good laws world w values types names layer span place t bytes all is =
    let m = kind_of_layer layer in
    let whole : Expr-F Slot Ty TypedKind TypedExpr = record { kind = m; ty = t; span = span } in
    let good = kind_good laws world w values types names layer span place t bytes all is in
    let kind : GoodKind t span (kind_of world values m) =
    subst (GoodKind t span) (sym (fold-roll-ExprKind Slot Ty Kind Node (kind_step world values) node_step layer)) good in
    subst (GoodNode t) (sym (fold-roll-Expr Slot Ty Kind Node (kind_step world values) node_step whole))
    (record { ty = refl; value = kind.value; items = kind.items })

abbrev SoundIf : World → Env → TypedExpr → Type 0
SoundIf world values x = holds_bytes x ≡ true → Sound world values x

all_sound : (world : World) (values : Env) (xs : List TypedExpr) → AllByRecursion (SoundIf world values) xs → list_all (λ b. b) (map holds_bytes xs) ≡ true
    → AllByRecursion (Sound world values) xs
all_sound world values [] all is = tt
all_sound world values (x ∷ xs) all is =
    let both = and_parts (holds_bytes x) (list_all (λ b. b) (map holds_bytes xs)) is in
    (all.0 both.0, all_sound world values xs all.1 both.1)

follows : (laws : Laws) (world : World) → IsWorld world → (values : Env) (types : Types) → NamesHold types values → Follows (SoundIf world values) types
follows laws world w values types names layer span place t all is = λ bytes.
    let both = and_parts (spells_bytes layer) (list_all (λ b. b) (map holds_bytes (parts layer)))
    (sym (kind_spelled layer) ∙ sym (expr_spelled (kind_of_layer layer) t span) ∙ bytes) in
    let good = whole_good laws world w values types names layer span place t both.0 (all_sound world values (parts layer) all both.1) is in
    record { ty = good.ty; value = good.value; items = good.items }

-- What an expression gives is a value of its type, where its names have such, and no failure is that an operand is no number.
pub expression_sound : (laws : Laws) (world : World) → IsWorld world → (values : Env) (types : Types) → NamesHold types values → (place : Place) (e : NamedExpr) (x : TypedExpr)
    → HasType types place e x → holds_bytes x ≡ true → Sound world values x
expression_sound laws world w values types names place e x h bytes =
    of_each (SoundIf world values) types (follows laws world w values types names) place e x h bytes
