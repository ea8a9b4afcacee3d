-- The slots that each kind of expression reads, by its line in the definition.
use Rattle.std.proofs.Common.{◌≡◌, ℕ, ℤ, Bool, List, [], ◌∷◌, ◌++◌, map, ap, sym, ◌∙◌, refl}
use Rattle.std.specs.Prelude.{Some, None, Option}
use Rattle.std.proofs.lemmas.Simd.{map-map}
use Rattle.cash_base.specs.declared.place.Slot.{Slot}
use Rattle.cash_base.specs.declared.look.Look0.{Look0}
use Rattle.cash_base.specs.declared.look.LookAt.{LookAt}
use Rattle.cash_tree.specs.declared.Ty.{Ty}
use Rattle.cash_tree.specs.declared.UnaryOp.{UnaryOp}
use Rattle.cash_tree.specs.declared.BinaryOp.{BinaryOp}
use Rattle.cash_tree.specs.declared.Callee.{Callee}
use Rattle.cash_tree.specs.declared.ExprKind.{ExprKind}
use Rattle.cash_tree.specs.declared.ExprKind.TheVariants as exprs
use Rattle.cash_tree.specs.declared.ExprKind.TheOpen.{ExprKind-F, Expr-F}
use Rattle.cash_tree.specs.declared.ExprKind.TheViews.{out-ExprKind, roll-ExprKind, roll-out-ExprKind}
use Rattle.cash_tree.specs.declared.ExprKind.TheFolds.{fold-roll-Expr, fold-roll-ExprKind}
use Rattle.cash_tree.specs.Nodes.{joined}
use Rattle.type_tables.specs.Tables.{TypedExpr}
use Rattle.slot_expressions.specs.Reads.{Named, call_names, kind_step, node_step, named, named_kind, names_in, names_at, item_names, item_names_at}

abbrev Layer : Type 0
Layer = ExprKind-F Slot Ty (ExprKind Slot Ty) TypedExpr

abbrev Whole : Type 0
Whole = Expr-F Slot Ty (ExprKind Slot Ty) TypedExpr

pub whole_named : (e : TypedExpr) → names_in e ≡ names_at e.kind
unfolding named named_kind names_at
whole_named e =
    let layer : Whole = record { kind = e.kind; ty = e.ty; span = e.span } in
    ap (λ (n : Named). n.own) (fold-roll-Expr Slot Ty Named Named kind_step node_step layer)

whole_items : (e : TypedExpr) → item_names e ≡ item_names_at e.kind
unfolding named named_kind item_names_at
whole_items e =
    let layer : Whole = record { kind = e.kind; ty = e.ty; span = e.span } in
    ap (λ (n : Named). n.items) (fold-roll-Expr Slot Ty Named Named kind_step node_step layer)

-- ---- what is read

pub int_named : (digits unit : ℕ) → names_at (exprs.Int digits unit) ≡ []
unfolding named named_kind names_at roll-ExprKind denote.Hole.Carrier.roll
int_named digits unit =
    let layer : Layer = ExprKind-F.Int digits unit in ap (λ (n : Named). n.own) (fold-roll-ExprKind Slot Ty Named Named kind_step node_step layer)

pub bool_named : (b : Bool) → names_at (exprs.Bool b) ≡ []
unfolding named named_kind names_at roll-ExprKind denote.Hole.Carrier.roll
bool_named b =
    let layer : Layer = ExprKind-F.Bool b in ap (λ (n : Named). n.own) (fold-roll-ExprKind Slot Ty Named Named kind_step node_step layer)

pub hex_named : (bytes : List ℕ) → names_at (exprs.Hex bytes) ≡ []
unfolding named named_kind names_at roll-ExprKind denote.Hole.Carrier.roll
hex_named bytes =
    let layer : Layer = ExprKind-F.Hex bytes in ap (λ (n : Named). n.own) (fold-roll-ExprKind Slot Ty Named Named kind_step node_step layer)

pub text_named : (bytes : List ℕ) → names_at (exprs.Text bytes) ≡ []
unfolding named named_kind names_at roll-ExprKind denote.Hole.Carrier.roll
text_named bytes =
    let layer : Layer = ExprKind-F.Text bytes in ap (λ (n : Named). n.own) (fold-roll-ExprKind Slot Ty Named Named kind_step node_step layer)

pub date_named : (seconds : ℤ) → names_at (exprs.Date seconds) ≡ []
unfolding named named_kind names_at roll-ExprKind denote.Hole.Carrier.roll
date_named seconds =
    let layer : Layer = ExprKind-F.Date seconds in ap (λ (n : Named). n.own) (fold-roll-ExprKind Slot Ty Named Named kind_step node_step layer)

pub name_named : (slot : Slot) → names_at (exprs.Name slot) ≡ slot ∷ []
unfolding named named_kind names_at roll-ExprKind denote.Hole.Carrier.roll
name_named slot =
    let layer : Layer = ExprKind-F.Name slot in ap (λ (n : Named). n.own) (fold-roll-ExprKind Slot Ty Named Named kind_step node_step layer)

pub unary_named : (op : UnaryOp) (a : TypedExpr) → names_at (exprs.Unary op a) ≡ names_in a
unfolding named named_kind names_at roll-ExprKind denote.Hole.Carrier.roll
unary_named op a =
    let layer : Layer = ExprKind-F.Unary op a in ap (λ (n : Named). n.own) (fold-roll-ExprKind Slot Ty Named Named kind_step node_step layer)

pub binary_named : (op : BinaryOp) (a b : TypedExpr) → names_at (exprs.Binary op a b) ≡ names_in a ++ names_in b
unfolding named named_kind names_at roll-ExprKind denote.Hole.Carrier.roll
binary_named op a b =
    let layer : Layer = ExprKind-F.Binary op a b in ap (λ (n : Named). n.own) (fold-roll-ExprKind Slot Ty Named Named kind_step node_step layer)

pub length_named : (a : TypedExpr) → names_at (exprs.Length a) ≡ names_in a
unfolding named named_kind names_at roll-ExprKind denote.Hole.Carrier.roll
length_named a =
    let layer : Layer = ExprKind-F.Length a in ap (λ (n : Named). n.own) (fold-roll-ExprKind Slot Ty Named Named kind_step node_step layer)

pub reverse_named : (a : TypedExpr) → names_at (exprs.Reverse a) ≡ names_in a
unfolding named named_kind names_at roll-ExprKind denote.Hole.Carrier.roll
reverse_named a =
    let layer : Layer = ExprKind-F.Reverse a in ap (λ (n : Named). n.own) (fold-roll-ExprKind Slot Ty Named Named kind_step node_step layer)

pub split_named : (a b : TypedExpr) → names_at (exprs.Split a b) ≡ names_in a ++ names_in b
unfolding named named_kind names_at roll-ExprKind denote.Hole.Carrier.roll
split_named a b =
    let layer : Layer = ExprKind-F.Split a b in ap (λ (n : Named). n.own) (fold-roll-ExprKind Slot Ty Named Named kind_step node_step layer)

pub index_named : (a : TypedExpr) (number : ℕ) → names_at (exprs.Index a number) ≡ names_in a
unfolding named named_kind names_at roll-ExprKind denote.Hole.Carrier.roll
index_named a number =
    let layer : Layer = ExprKind-F.Index a number in ap (λ (n : Named). n.own) (fold-roll-ExprKind Slot Ty Named Named kind_step node_step layer)

pub cast_named : (to : Ty) (a : TypedExpr) → names_at (exprs.Cast to a None) ≡ names_in a
unfolding named named_kind names_at roll-ExprKind denote.Hole.Carrier.roll
cast_named to a =
    let layer : Layer = ExprKind-F.Cast to a None in ap (λ (n : Named). n.own) (fold-roll-ExprKind Slot Ty Named Named kind_step node_step layer)

pub sized_cast_named : (to : Ty) (a b : TypedExpr) → names_at (exprs.Cast to a (Some b)) ≡ names_in a ++ names_in b
unfolding named named_kind names_at roll-ExprKind denote.Hole.Carrier.roll
sized_cast_named to a b =
    let layer : Layer = ExprKind-F.Cast to a (Some b) in ap (λ (n : Named). n.own) (fold-roll-ExprKind Slot Ty Named Named kind_step node_step layer)

pub call_named : (callee : Callee) (args : List TypedExpr) → names_at (exprs.Call callee args) ≡ call_names callee (map named args)
unfolding named named_kind names_at roll-ExprKind denote.Hole.Carrier.roll
call_named callee args =
    let layer : Layer = ExprKind-F.Call callee args in ap (λ (n : Named). n.own) (fold-roll-ExprKind Slot Ty Named Named kind_step node_step layer)

pub new_named : (callee : Callee) (args : List TypedExpr) → names_at (exprs.New callee args) ≡ call_names callee (map named args)
unfolding named named_kind names_at roll-ExprKind denote.Hole.Carrier.roll
new_named callee args =
    let layer : Layer = ExprKind-F.New callee args in ap (λ (n : Named). n.own) (fold-roll-ExprKind Slot Ty Named Named kind_step node_step layer)

pub look0_named : (what : Look0) → names_at (exprs.Look0 what) ≡ []
unfolding named named_kind names_at roll-ExprKind denote.Hole.Carrier.roll
look0_named what =
    let layer : Layer = ExprKind-F.Look0 what in ap (λ (n : Named). n.own) (fold-roll-ExprKind Slot Ty Named Named kind_step node_step layer)

pub look_at_named : (what : LookAt) (a : TypedExpr) → names_at (exprs.LookAt what a) ≡ names_in a
unfolding named named_kind names_at roll-ExprKind denote.Hole.Carrier.roll
look_at_named what a =
    let layer : Layer = ExprKind-F.LookAt what a in ap (λ (n : Named). n.own) (fold-roll-ExprKind Slot Ty Named Named kind_step node_step layer)

-- ---- arrays

array_items : (items : List TypedExpr) → item_names_at (exprs.Array items) ≡ joined (map names_in items)
unfolding named named_kind item_names_at roll-ExprKind denote.Hole.Carrier.roll
array_items items =
    let layer : Layer = ExprKind-F.Array items in ap (λ (n : Named). n.items) (fold-roll-ExprKind Slot Ty Named Named kind_step node_step layer)
    ∙ ap joined (map-map (λ (n : Named). n.own) named items)

pub array_named : (e : TypedExpr) (items : List TypedExpr) → e.kind ≡ exprs.Array items → item_names e ≡ joined (map names_in items)
array_named e items is = whole_items e ∙ ap item_names_at is ∙ array_items items

-- a layer that is no array
no_array_layer : (layer : Layer) → ((items : List TypedExpr) → roll-ExprKind Slot Ty layer ≡ exprs.Array items → ⊥) → item_names_at (roll-ExprKind Slot Ty layer) ≡ []
unfolding named named_kind item_names_at roll-ExprKind denote.Hole.Carrier.roll
no_array_layer (ExprKind-F.Array items) other = absurd (other items refl)
no_array_layer (ExprKind-F.Int digits unit) other = let layer : Layer = ExprKind-F.Int digits unit in ap (λ (n : Named). n.items) (fold-roll-ExprKind Slot Ty Named Named kind_step node_step layer)
no_array_layer (ExprKind-F.Bool b) other = let layer : Layer = ExprKind-F.Bool b in ap (λ (n : Named). n.items) (fold-roll-ExprKind Slot Ty Named Named kind_step node_step layer)
no_array_layer (ExprKind-F.Hex bytes) other = let layer : Layer = ExprKind-F.Hex bytes in ap (λ (n : Named). n.items) (fold-roll-ExprKind Slot Ty Named Named kind_step node_step layer)
no_array_layer (ExprKind-F.Text bytes) other = let layer : Layer = ExprKind-F.Text bytes in ap (λ (n : Named). n.items) (fold-roll-ExprKind Slot Ty Named Named kind_step node_step layer)
no_array_layer (ExprKind-F.Date seconds) other = let layer : Layer = ExprKind-F.Date seconds in ap (λ (n : Named). n.items) (fold-roll-ExprKind Slot Ty Named Named kind_step node_step layer)
no_array_layer (ExprKind-F.Name slot) other = let layer : Layer = ExprKind-F.Name slot in ap (λ (n : Named). n.items) (fold-roll-ExprKind Slot Ty Named Named kind_step node_step layer)
no_array_layer (ExprKind-F.Unary op a) other = let layer : Layer = ExprKind-F.Unary op a in ap (λ (n : Named). n.items) (fold-roll-ExprKind Slot Ty Named Named kind_step node_step layer)
no_array_layer (ExprKind-F.Binary op a b) other = let layer : Layer = ExprKind-F.Binary op a b in ap (λ (n : Named). n.items) (fold-roll-ExprKind Slot Ty Named Named kind_step node_step layer)
no_array_layer (ExprKind-F.Length a) other = let layer : Layer = ExprKind-F.Length a in ap (λ (n : Named). n.items) (fold-roll-ExprKind Slot Ty Named Named kind_step node_step layer)
no_array_layer (ExprKind-F.Reverse a) other = let layer : Layer = ExprKind-F.Reverse a in ap (λ (n : Named). n.items) (fold-roll-ExprKind Slot Ty Named Named kind_step node_step layer)
no_array_layer (ExprKind-F.Split a b) other = let layer : Layer = ExprKind-F.Split a b in ap (λ (n : Named). n.items) (fold-roll-ExprKind Slot Ty Named Named kind_step node_step layer)
no_array_layer (ExprKind-F.Index a number) other = let layer : Layer = ExprKind-F.Index a number in ap (λ (n : Named). n.items) (fold-roll-ExprKind Slot Ty Named Named kind_step node_step layer)
no_array_layer (ExprKind-F.Cast to a None) other = let layer : Layer = ExprKind-F.Cast to a None in ap (λ (n : Named). n.items) (fold-roll-ExprKind Slot Ty Named Named kind_step node_step layer)
no_array_layer (ExprKind-F.Cast to a (Some b)) other = let layer : Layer = ExprKind-F.Cast to a (Some b) in ap (λ (n : Named). n.items) (fold-roll-ExprKind Slot Ty Named Named kind_step node_step layer)
no_array_layer (ExprKind-F.Call callee args) other = let layer : Layer = ExprKind-F.Call callee args in ap (λ (n : Named). n.items) (fold-roll-ExprKind Slot Ty Named Named kind_step node_step layer)
no_array_layer (ExprKind-F.New callee args) other = let layer : Layer = ExprKind-F.New callee args in ap (λ (n : Named). n.items) (fold-roll-ExprKind Slot Ty Named Named kind_step node_step layer)
no_array_layer (ExprKind-F.Look0 what) other = let layer : Layer = ExprKind-F.Look0 what in ap (λ (n : Named). n.items) (fold-roll-ExprKind Slot Ty Named Named kind_step node_step layer)
no_array_layer (ExprKind-F.LookAt what a) other = let layer : Layer = ExprKind-F.LookAt what a in ap (λ (n : Named). n.items) (fold-roll-ExprKind Slot Ty Named Named kind_step node_step layer)

-- what is no array has no items
pub no_array_named : (e : TypedExpr) → ((items : List TypedExpr) → e.kind ≡ exprs.Array items → ⊥) → item_names e ≡ []
no_array_named e other =
    let is = roll-out-ExprKind Slot Ty e.kind in
    whole_items e ∙ ap item_names_at (sym is) ∙ no_array_layer (out-ExprKind Slot Ty e.kind) (λ items same. other items (sym is ∙ same))
