-- Each typed expression is as it should be, by its layer.
use Rattle.std.proofs.Common.{◌≡◌, ◌∙◌, ap, sym, subst, refl, ℕ, ◌+◌, Bool, true, false, List, [], ◌∷◌, ◌++◌, length, map, Some, None, Option, Ok, Err}
use Rattle.std.specs.Prelude.{◌&&◌, if◌then◌else◌}
use Rattle.std.specs.List.{list_all, AllByRecursion}
use Rattle.std.proofs.lemmas.List.{append-nil, length-map}
use Rattle.std.proofs.lemmas.Bool.{and_parts}
use Rattle.cash_base.specs.declared.place.Span.{Span}
use Rattle.cash_base.specs.declared.place.Slot.{Slot}
use Rattle.cash_base.specs.declared.look.Look0.{Look0}
use Rattle.cash_base.specs.declared.look.Look0.TheVariants as looks
use Rattle.cash_base.specs.declared.look.LookAt.{LookAt}
use Rattle.cash_base.specs.declared.look.LookAt.TheVariants as looks_at
use Rattle.cash_base.specs.Failing.{◌>>=◌}
use Rattle.cash_tree.specs.declared.Ty.{Ty}
use Rattle.cash_tree.specs.declared.Ty.TheVariants as ty
use Rattle.cash_tree.specs.declared.Ty.TheOpen.{Ty-F}
use Rattle.cash_tree.specs.declared.Ty.TheViews.{out-Ty}
use Rattle.cash_tree.specs.declared.Callee.{Callee}
use Rattle.cash_tree.specs.declared.ExprKind.{ExprKind}
use Rattle.cash_tree.specs.declared.ExprKind.TheOpen.{ExprKind-F, Expr-F}
use Rattle.cash_tree.specs.declared.ExprKind.TheFolds.{fold-roll-Expr}
use Rattle.cash_names.specs.Definitions.{expression_uses}
use Rattle.type_tables.specs.declared.rules.Item.{Item}
use Rattle.type_tables.specs.declared.rules.CastEffect.{CastEffect}
use Rattle.type_tables.specs.declared.rules.CastEffect.TheVariants as effects
use Rattle.type_tables.specs.Tables.{TypedExpr, Env as Types, fits, is_single_layer, is_single, suits, explicit_effect, cast_effect, sized_layer, sized_effect, item_type, all_suit, array_type, nothing, signature, looked_at, look0_type, look_at_type, type_at, call_type}
use Rattle.type_check.specs.Shapes.{Place, NamedExpr, typed, types}
use Rattle.type_check.specs.Typing.{HasType}
use Rattle.type_check.proofs.Typed.{ok_bind, ok_same}
use Rattle.source_meaning.specs.Runnable.{all_of}
use Rattle.type_soundness.proofs.Holds.{TyLayer}
use Rattle.type_soundness.proofs.Types.{out_array, out_pair, suited}
use Rattle.type_soundness.proofs.Scopes.{single_of}
use Rattle.type_soundness.proofs.View.{Layer, kind_of_layer}
use Rattle.slot_expressions.specs.Ready.{Known-names, Node, Kind, is_cast, is_ready, ready_node, kind_step, node_step}
use Rattle.lowering_laws.specs.Laws.{type_has_length, is_of_language, nodes_fit, AreSingleNames, ExpressionsAreReady}
use Rattle.lowering_laws.proofs.Induction.{AllAt, Follows, of_each}
use Rattle.lowering_laws.proofs.Layers.{ready_is, items_are, uses_are, fits_are, count_is, split_is}
use Rattle.lowering_laws.proofs.Singles.{is_array, is_array_layer, is_pair, is_pair_layer, Halves, Casts, no_array, no_pair, fits_single, suits_single, single_int, single_bool, single_text, single_bytes, single_bytes_n, unary_single, binary_single, cast_single, sized_single}
use Rattle.lowering_laws.proofs.Facts.{Asked, Fine, single_fine, one_asked, two_asked, all_asked}
use Rattle.lowering_laws.proofs.Calls.{call_is_ready, call_single}
use Rattle.lowering_laws.proofs.Values.{both, contrary, single_as, number_range, date_range, hex_range, text_range, length_given, reverse_given, Splits, split_given, index_given, CastTo, cast_given, SizedTo, sized_given}

abbrev node : Layer → Ty → Span → TypedExpr
node layer t span = typed (kind_of_layer layer) t span

-- ---- splits

split_fine : (known : Known-names) (place : Place) (a b : TypedExpr) (span : Span) (t : Ty) → Fine known None a → Fine known None b → Splits a.ty b.ty t → Fine known place (node (ExprKind-F.Split a b) t span)
split_fine known place a b span t ha hb p =
    let l : Layer = ExprKind-F.Split a b in
    let out : out-Ty t ≡ Ty-F.Pair p.left p.right = subst (λ w. out-Ty w ≡ Ty-F.Pair p.left p.right) p.is (out_pair p.left p.right) in record {
      value = λ other asked.
          let parts = two_asked a b (uses_are l t span) (fits_are l t span) asked in
          ready_is known l t span ∙ both (is_ready known a) (is_ready known b) (ha.value (no_array a.ty p.whole) parts.0) (hb.value (no_array b.ty p.at) parts.1);
      items = λ item at array asked. absurd (contrary (is_array t) (ap is_array_layer out) array);
      count = ap length (items_are known l t span) ∙ sym (count_is l);
      pair = λ is. split_is l t span;
      parts = subst Halves (sym out) p.halves;
    }

-- ---- casts

explicit_to : (to from : TyLayer) (effect : CastEffect) → explicit_effect to from ≡ Some effect → is_single_layer to ≡ true
explicit_to Ty-F.Int from effect is = refl
explicit_to Ty-F.Bool from effect is = refl
explicit_to Ty-F.Text from effect is = refl
explicit_to Ty-F.Bytes from effect is = refl
explicit_to (Ty-F.BytesN n) from effect is = refl
explicit_to Ty-F.Pubkey from effect is = refl
explicit_to Ty-F.Sig from effect is = refl
explicit_to Ty-F.Datasig from effect is = refl
explicit_to (Ty-F.Array item) from effect is = absurd cc
explicit_to (Ty-F.Pair left right) from effect is = absurd cc

cast_to : (to from : Ty) (effect : CastEffect) → cast_effect to from ≡ Some effect → is_single to ≡ true
unfolding cast_effect
cast_to to from effect is = by_fit (fits to from) refl is
  where
    by_fit : (fit : Bool) → fits to from ≡ fit → (if fit then Some effects.Keep else explicit_effect (out-Ty to) (out-Ty from)) ≡ Some effect → is_single to ≡ true
    by_fit true fit_is same = single_of to from fit_is
    by_fit false fit_is same = explicit_to (out-Ty to) (out-Ty from) effect same

sized_layer_to : (to from : TyLayer) (effect : CastEffect) → sized_layer to from ≡ Some effect → is_single_layer to ≡ true
sized_layer_to Ty-F.Bytes from effect is = refl
sized_layer_to Ty-F.Int from effect is = absurd cc
sized_layer_to Ty-F.Bool from effect is = absurd cc
sized_layer_to Ty-F.Text from effect is = absurd cc
sized_layer_to (Ty-F.BytesN n) from effect is = absurd cc
sized_layer_to Ty-F.Pubkey from effect is = absurd cc
sized_layer_to Ty-F.Sig from effect is = absurd cc
sized_layer_to Ty-F.Datasig from effect is = absurd cc
sized_layer_to (Ty-F.Array item) from effect is = absurd cc
sized_layer_to (Ty-F.Pair left right) from effect is = absurd cc

sized_to : (to from : Ty) (effect : CastEffect) → sized_effect to from ≡ Some effect → is_single to ≡ true
unfolding sized_effect
sized_to to from effect is = sized_layer_to (out-Ty to) (out-Ty from) effect is

typed_node : (known : Known-names) (a : TypedExpr) → (ready_node known a).ty ≡ a.ty
unfolding ready_node
typed_node known a =
    let layer : Expr-F Slot Ty (ExprKind Slot Ty) TypedExpr = record { kind = a.kind; ty = a.ty; span = a.span } in
    ap (λ (n : Node). n.ty) (fold-roll-Expr Slot Ty Kind Node (kind_step known) node_step layer)

cast_fine : (known : Known-names) (place : Place) (to : Ty) (a : TypedExpr) (span : Span) (t : Ty) → Fine known None a → CastTo to a.ty t → Fine known place (node (ExprKind-F.Cast to a None) t span)
cast_fine known place to a span t h p =
    let l : Layer = ExprKind-F.Cast to a None in
    single_fine known place l span t (single_as to t p.answer (cast_to to a.ty p.effect p.is))
    (λ asked.
    let fit = and_parts (type_has_length to) (nodes_fit a && true) (sym (fits_are l t span) ∙ asked.fits) in
    let own : Asked known a = record {
      names = sym (ap (list_all known) (uses_are l t span ∙ append-nil (expression_uses a))) ∙ asked.names;
      fits = (and_parts (nodes_fit a) true fit.1).0;
    } in
    let c = cast_single to a.ty p.effect fit.0 p.is in
    both (is_ready known a) (is_cast (cast_effect to (ready_node known a).ty)) (h.value c.single own)
    (ap (λ w. is_cast (cast_effect to w)) (typed_node known a) ∙ ap is_cast p.is ∙ c.is)) refl refl

sized_fine : (known : Known-names) (place : Place) (to : Ty) (a b : TypedExpr) (span : Span) (t : Ty) → Fine known None a → Fine known None b → SizedTo to a.ty b.ty t
    → Fine known place (node (ExprKind-F.Cast to a (Some b)) t span)
sized_fine known place to a b span t ha hb p =
    let l : Layer = ExprKind-F.Cast to a (Some b) in
    single_fine known place l span t (single_as to t p.answer (sized_to to a.ty p.effect p.is))
    (λ asked.
    let fit = and_parts (type_has_length to) (nodes_fit a && (nodes_fit b && true)) (sym (fits_are l t span) ∙ asked.fits) in
    let parts = two_asked {x = node l t span} a b (uses_are l t span) (fits_are l t span ∙ ap (λ c. c && (nodes_fit a && (nodes_fit b && true))) fit.0) asked in
    both (is_ready known a) (is_ready known b) (ha.value (sized_single to a.ty p.effect p.is) parts.0) (hb.value (no_array b.ty p.size) parts.1)) refl refl

-- ---- calls

call_fine : (known : Known-names) (place : Place) (callee : Callee) (args : List TypedExpr) (span : Span) (t : Ty) → AllAt (Fine known) (signature callee) 0 args → call_type span callee args ≡ Ok t
    → Fine known place (node (ExprKind-F.Call callee args) t span)
call_fine known place callee args span t h e =
    let l : Layer = ExprKind-F.Call callee args in
    single_fine known place l span t (call_single span callee args t e)
    (λ asked.
    let fit = and_parts (is_of_language callee) (list_all (λ b. b) (map nodes_fit args)) (sym (fits_are l t span) ∙ asked.fits) in
    call_is_ready known span callee args t fit.0 e h (all_asked known args (sym (ap (list_all known) (uses_are l t span)) ∙ asked.names) fit.1)) refl refl

new_fine : (known : Known-names) (place : Place) (callee : Callee) (args : List TypedExpr) (span : Span) (t : Ty) → AllAt (Fine known) (signature callee) 0 args → call_type span callee args ≡ Ok t
    → Fine known place (node (ExprKind-F.New callee args) t span)
new_fine known place callee args span t h e =
    let l : Layer = ExprKind-F.New callee args in
    single_fine known place l span t (call_single span callee args t e)
    (λ asked.
    let fit = and_parts (is_of_language callee) (list_all (λ b. b) (map nodes_fit args)) (sym (fits_are l t span) ∙ asked.fits) in
    call_is_ready known span callee args t fit.0 e h (all_asked known args (sym (ap (list_all known) (uses_are l t span)) ∙ asked.names) fit.1)) refl refl

-- ---- arrays

items_ready : (known : Known-names) (span : Span) (wanted : Ty) (at : ℕ) (xs : List TypedExpr) (u : Unit {0}) → AllAt (Fine known) nothing at xs → AllByRecursion (Asked known) xs → all_suit span wanted (types xs) ≡ Ok u
    → all_of (map (λ (n : Node). n.ready) (map (ready_node known) xs)) ≡ true
items_ready known span wanted at [] u h asked e = refl
items_ready known span wanted at (x ∷ xs) u h asked e =
    let p = ok_bind (suits span wanted x.ty) (λ v. all_suit span wanted (types xs)) u e in
    both (is_ready known x) (all_of (map (λ (n : Node). n.ready) (map (ready_node known) xs)))
    (h.0.value (no_array x.ty (suits_single span wanted x.ty p.0 p.1)) asked.0) (items_ready known span wanted (at + 1) xs p.0 h.1 asked.1 p.2)

record IsArray (span : Span) (place : Place) (xs : List TypedExpr) (t : Ty) : Type 0 where
  item : Ty
  is : ty.Array item ≡ t
  suit : (wanted : Item) → place ≡ Some wanted → (u : Unit {0}) × (all_suit span (item_type wanted) (types xs) ≡ Ok u)

array_given : (span : Span) (place : Place) (xs : List TypedExpr) (t : Ty) → array_type span place (types xs) ≡ Ok t → IsArray span place xs t
unfolding array_type
array_given span place [] t e = absurd cc
array_given span None (x ∷ xs) t e = record { item = x.ty; is = ok_same (ty.Array x.ty) t e; suit = λ wanted is. absurd (let never : None ≡ Some wanted = is in cc) }
array_given span (Some item) (x ∷ xs) t e =
    let p = ok_bind (all_suit span (item_type item) (types (x ∷ xs))) (λ u. Ok (ty.Array (item_type item))) t e in record {
      item = item_type item;
      is = ok_same (ty.Array (item_type item)) t p.2;
      suit = λ wanted is. let same : item ≡ wanted = cc in subst (λ i. (u : Unit {0}) × (all_suit span (item_type i) (types (x ∷ xs)) ≡ Ok u)) same (p.0, p.1);
    }

array_fine : (known : Known-names) (place : Place) (xs : List TypedExpr) (span : Span) (t : Ty) → AllAt (Fine known) nothing 0 xs → IsArray span place xs t → Fine known place (node (ExprKind-F.Array xs) t span)
array_fine known place xs span t h p =
    let l : Layer = ExprKind-F.Array xs in
    let out : out-Ty t ≡ Ty-F.Array p.item = subst (λ w. out-Ty w ≡ Ty-F.Array p.item) p.is (out_array p.item) in record {
      value = λ other asked. absurd (contrary (is_array t) other (ap is_array_layer out));
      items = λ item at array asked.
          let s = p.suit item at in
          let fit : list_all (λ b. b) (map nodes_fit xs) ≡ true = sym (fits_are l t span) ∙ asked.fits in
          ap all_of (items_are known l t span)
          ∙ items_ready known span (item_type item) 0 xs s.0 h (all_asked known xs (sym (ap (list_all known) (uses_are l t span)) ∙ asked.names) fit) s.1;
      count = ap length (items_are known l t span) ∙ length-map (map (ready_node known) xs) (λ (n : Node). n.ready) ∙ length-map xs (ready_node known) ∙ sym (count_is l ∙ length-map xs _);
      pair = λ is. absurd (contrary (is_pair t) (ap is_pair_layer out) is);
      parts = subst Halves (sym out) tt;
    }

-- ---- look-ups

look0_single : (look : Look0) → is_single (look0_type look) ≡ true
unfolding look0_type
look0_single looks.Version = single_int
look0_single looks.Locktime = single_int
look0_single looks.InputCount = single_int
look0_single looks.OutputCount = single_int
look0_single looks.ActiveIndex = single_int
look0_single looks.ActiveBytecode = single_bytes

looked_single : (look : LookAt) → is_single (looked_at look) ≡ true
looked_single looks_at.UtxoValue = single_int
looked_single looks_at.UtxoBytecode = single_bytes
looked_single looks_at.OutpointHash = single_bytes_n 32
looked_single looks_at.OutpointIndex = single_int
looked_single looks_at.InputBytecode = single_bytes
looked_single looks_at.InputSequence = single_int
looked_single looks_at.OutputValue = single_int
looked_single looks_at.OutputBytecode = single_bytes

look_at_given : (span : Span) (look : LookAt) (a t : Ty) → look_at_type span look a ≡ Ok t → (is_single a ≡ true) × (is_single t ≡ true)
unfolding look_at_type
look_at_given span look a t e =
    let p = ok_bind (suits span ty.Int a) (λ u. Ok (looked_at look)) t e in
    (suits_single span ty.Int a p.0 p.1, single_as (looked_at look) t (ok_same (looked_at look) t p.2) (looked_single look))

-- ---- all of them

fine_follows : (known : Known-names) (names : Types) → AreSingleNames names → Follows (Fine known) names
fine_follows known names single (ExprKind-F.Int digits unit) span place t h e =
    let r = number_range span digits unit t e in
    single_fine known place (ExprKind-F.Int digits unit) span t (single_as ty.Int t r.1 single_int) (λ asked. r.0) refl refl
fine_follows known names single (ExprKind-F.Bool b) span place t h e =
    single_fine known place (ExprKind-F.Bool b) span t (single_as ty.Bool t (ok_same ty.Bool t e) single_bool) (λ asked. refl) refl refl
fine_follows known names single (ExprKind-F.Hex bytes) span place t h e =
    let r = hex_range span (length bytes) t e in single_fine known place (ExprKind-F.Hex bytes) span t r.1 (λ asked. r.0) refl refl
fine_follows known names single (ExprKind-F.Text bytes) span place t h e =
    let r = text_range span (length bytes) t e in
    single_fine known place (ExprKind-F.Text bytes) span t (single_as ty.Text t r.1 single_text) (λ asked. r.0) refl refl
fine_follows known names single (ExprKind-F.Date seconds) span place t h e =
    let r = date_range span seconds t e in
    single_fine known place (ExprKind-F.Date seconds) span t (single_as ty.Int t r.1 single_int) (λ asked. r.0) refl refl
fine_follows known names single (ExprKind-F.Name slot) span place t h e =
    let l : Layer = ExprKind-F.Name slot in
    single_fine known place l span t (single_as (type_at slot names) t (ok_same (type_at slot names) t e) (single slot))
    (λ asked. (and_parts (known slot) true (sym (ap (list_all known) (uses_are l t span)) ∙ asked.names)).0) refl refl
fine_follows known names single (ExprKind-F.Unary op a) span place t h e =
    let l : Layer = ExprKind-F.Unary op a in
    let g = unary_single span op a.ty t e in
    single_fine known place l span t g.answer (λ asked. h.value (no_array a.ty g.left) (one_asked {x = node l t span} a (uses_are l t span) (fits_are l t span) asked)) refl refl
fine_follows known names single (ExprKind-F.Binary op a b) span place t h e =
    let l : Layer = ExprKind-F.Binary op a b in
    let g = binary_single span op a.ty b.ty t e in
    single_fine known place l span t g.answer
    (λ asked.
    let parts = two_asked {x = node l t span} a b (uses_are l t span) (fits_are l t span) asked in
    both (is_ready known a) (is_ready known b) (h.0.value (no_array a.ty g.left) parts.0) (h.1.value (no_array b.ty g.right) parts.1)) refl refl
fine_follows known names single (ExprKind-F.Length a) span place t h e =
    let l : Layer = ExprKind-F.Length a in
    let g = length_given span a.ty t e in
    single_fine known place l span t (single_as ty.Int t g.1 single_int) (λ asked. h.value (no_array a.ty g.0) (one_asked {x = node l t span} a (uses_are l t span) (fits_are l t span) asked)) refl refl
fine_follows known names single (ExprKind-F.Reverse a) span place t h e =
    let l : Layer = ExprKind-F.Reverse a in
    let g = reverse_given span a.ty t e in
    single_fine known place l span t g.1 (λ asked. h.value (no_array a.ty g.0) (one_asked {x = node l t span} a (uses_are l t span) (fits_are l t span) asked)) refl refl
fine_follows known names single (ExprKind-F.Split a b) span place t h e = split_fine known place a b span t h.0 h.1 (split_given span a.ty b.ty t _ e)
fine_follows known names single (ExprKind-F.Index a number) span place t h e =
    let l : Layer = ExprKind-F.Index a number in
    let g = index_given span number a.ty t h.parts e in
    single_fine known place l span t g.1 (λ asked. h.value g.0 (one_asked {x = node l t span} a (uses_are l t span) (fits_are l t span) asked)) refl refl
fine_follows known names single (ExprKind-F.Cast to a None) span place t h e = cast_fine known place to a span t h (cast_given span to a.ty t e)
fine_follows known names single (ExprKind-F.Cast to a (Some b)) span place t h e = sized_fine known place to a b span t h.0 h.1 (sized_given span to a.ty b.ty t e)
fine_follows known names single (ExprKind-F.Call callee args) span place t h e = call_fine known place callee args span t h e
fine_follows known names single (ExprKind-F.New callee args) span place t h e = new_fine known place callee args span t h e
fine_follows known names single (ExprKind-F.Array xs) span place t h e = array_fine known place xs span t h (array_given span place xs t e)
fine_follows known names single (ExprKind-F.Look0 look) span place t h e =
    single_fine known place (ExprKind-F.Look0 look) span t (single_as (look0_type look) t (ok_same (look0_type look) t e) (look0_single look)) (λ asked. refl) refl refl
fine_follows known names single (ExprKind-F.LookAt look a) span place t h e =
    let l : Layer = ExprKind-F.LookAt look a in
    let g = look_at_given span look a.ty t e in
    single_fine known place l span t g.1 (λ asked. h.value (no_array a.ty g.0) (one_asked {x = node l t span} a (uses_are l t span) (fits_are l t span) asked)) refl refl

pub fine : (known : Known-names) (names : Types) → AreSingleNames names → (place : Place) (e : NamedExpr) (x : TypedExpr) → HasType names place e x → Fine known place x
fine known names single place e x h = of_each (Fine known) names (fine_follows known names single) place e x h

pub expressions_are_ready : ExpressionsAreReady
expressions_are_ready names e x known h single one uses fit =
    (fine known names single None e x h).value (no_array x.ty one) (record { names = uses; fits = fit })
