-- When each kind of expression is ready, by its line in the definition.
use Rattle.std.proofs.Common.{◌≡◌, ℕ, ℤ, Bool, true, false, ◌*◌, List, [], map, pos, ap, sym, ◌∙◌, refl}
use Rattle.std.specs.Prelude.{Some, None, ◌&&◌}
use Rattle.std.proofs.lemmas.Simd.{map-map}
use Rattle.cash_base.specs.declared.place.Slot.{Slot}
use Rattle.cash_base.specs.declared.look.Look0.{Look0}
use Rattle.cash_base.specs.declared.look.LookAt.{LookAt}
use Rattle.element_ops.specs.Operand.{is_in_range}
use Rattle.cash_tree.specs.declared.Ty.{Ty}
use Rattle.cash_tree.specs.declared.UnaryOp.{UnaryOp}
use Rattle.cash_tree.specs.declared.BinaryOp.{BinaryOp}
use Rattle.cash_tree.specs.declared.Callee.{Callee}
use Rattle.cash_tree.specs.declared.ExprKind.{ExprKind}
use Rattle.cash_tree.specs.declared.ExprKind.TheVariants as exprs
use Rattle.cash_tree.specs.declared.ExprKind.TheOpen.{ExprKind-F, Expr-F}
use Rattle.cash_tree.specs.declared.ExprKind.TheViews.{out-ExprKind, roll-ExprKind, roll-out-ExprKind}
use Rattle.cash_tree.specs.declared.ExprKind.TheFolds.{fold-roll-Expr, fold-roll-ExprKind}
use Rattle.type_tables.specs.Tables.{TypedExpr, cast_effect}
use Rattle.slot_expressions.specs.Ready.{Known-names, Node, Kind, is_element, is_cast, call_ready, kind_step, node_step, ready_node, ready_kind, is_ready, is_ready_kind, ready_items, ready_items_kind}

abbrev Layer : Type 0
Layer = ExprKind-F Slot Ty (ExprKind Slot Ty) TypedExpr

pub whole_ready : (known : Known-names) (e : TypedExpr) → is_ready known e ≡ is_ready_kind known e.kind
unfolding ready_node ready_kind is_ready_kind
whole_ready known e =
    let layer : Expr-F Slot Ty (ExprKind Slot Ty) TypedExpr = record { kind = e.kind; ty = e.ty; span = e.span } in
    ap (λ (n : Node). n.ready) (fold-roll-Expr Slot Ty Kind Node (kind_step known) node_step layer)

typed : (known : Known-names) (e : TypedExpr) → (ready_node known e).ty ≡ e.ty
unfolding ready_node
typed known e =
    let layer : Expr-F Slot Ty (ExprKind Slot Ty) TypedExpr = record { kind = e.kind; ty = e.ty; span = e.span } in
    ap (λ (n : Node). n.ty) (fold-roll-Expr Slot Ty Kind Node (kind_step known) node_step layer)

pub whole_items : (known : Known-names) (e : TypedExpr) → ready_items known e ≡ ready_items_kind known e.kind
unfolding ready_node ready_kind ready_items_kind
whole_items known e =
    let layer : Expr-F Slot Ty (ExprKind Slot Ty) TypedExpr = record { kind = e.kind; ty = e.ty; span = e.span } in
    ap (λ (n : Node). n.items) (fold-roll-Expr Slot Ty Kind Node (kind_step known) node_step layer)

pub int_is_ready : (known : Known-names) (digits unit : ℕ) → is_ready_kind known (exprs.Int digits unit) ≡ (is_in_range (pos (digits * unit)))
unfolding ready_node ready_kind is_ready_kind roll-ExprKind denote.Hole.Carrier.roll
int_is_ready known digits unit =
    let layer : Layer = ExprKind-F.Int digits unit in ap (λ (k : Kind). k.ready) (fold-roll-ExprKind Slot Ty Kind Node (kind_step known) node_step layer)

pub bool_is_ready : (known : Known-names) (b : Bool) → is_ready_kind known (exprs.Bool b) ≡ (true)
unfolding ready_node ready_kind is_ready_kind roll-ExprKind denote.Hole.Carrier.roll
bool_is_ready known b =
    let layer : Layer = ExprKind-F.Bool b in ap (λ (k : Kind). k.ready) (fold-roll-ExprKind Slot Ty Kind Node (kind_step known) node_step layer)

pub hex_is_ready : (known : Known-names) (bytes : List ℕ) → is_ready_kind known (exprs.Hex bytes) ≡ (is_element bytes)
unfolding ready_node ready_kind is_ready_kind roll-ExprKind denote.Hole.Carrier.roll
hex_is_ready known bytes =
    let layer : Layer = ExprKind-F.Hex bytes in ap (λ (k : Kind). k.ready) (fold-roll-ExprKind Slot Ty Kind Node (kind_step known) node_step layer)

pub text_is_ready : (known : Known-names) (bytes : List ℕ) → is_ready_kind known (exprs.Text bytes) ≡ (is_element bytes)
unfolding ready_node ready_kind is_ready_kind roll-ExprKind denote.Hole.Carrier.roll
text_is_ready known bytes =
    let layer : Layer = ExprKind-F.Text bytes in ap (λ (k : Kind). k.ready) (fold-roll-ExprKind Slot Ty Kind Node (kind_step known) node_step layer)

pub date_is_ready : (known : Known-names) (seconds : ℤ) → is_ready_kind known (exprs.Date seconds) ≡ (is_in_range seconds)
unfolding ready_node ready_kind is_ready_kind roll-ExprKind denote.Hole.Carrier.roll
date_is_ready known seconds =
    let layer : Layer = ExprKind-F.Date seconds in ap (λ (k : Kind). k.ready) (fold-roll-ExprKind Slot Ty Kind Node (kind_step known) node_step layer)

pub name_is_ready : (known : Known-names) (slot : Slot) → is_ready_kind known (exprs.Name slot) ≡ (known slot)
unfolding ready_node ready_kind is_ready_kind roll-ExprKind denote.Hole.Carrier.roll
name_is_ready known slot =
    let layer : Layer = ExprKind-F.Name slot in ap (λ (k : Kind). k.ready) (fold-roll-ExprKind Slot Ty Kind Node (kind_step known) node_step layer)

pub unary_is_ready : (known : Known-names) (op : UnaryOp) (a : TypedExpr) → is_ready_kind known (exprs.Unary op a) ≡ (is_ready known a)
unfolding ready_node ready_kind is_ready_kind roll-ExprKind denote.Hole.Carrier.roll
unary_is_ready known op a =
    let layer : Layer = ExprKind-F.Unary op a in ap (λ (k : Kind). k.ready) (fold-roll-ExprKind Slot Ty Kind Node (kind_step known) node_step layer)

pub binary_is_ready : (known : Known-names) (op : BinaryOp) (a b : TypedExpr) → is_ready_kind known (exprs.Binary op a b) ≡ (is_ready known a && is_ready known b)
unfolding ready_node ready_kind is_ready_kind roll-ExprKind denote.Hole.Carrier.roll
binary_is_ready known op a b =
    let layer : Layer = ExprKind-F.Binary op a b in ap (λ (k : Kind). k.ready) (fold-roll-ExprKind Slot Ty Kind Node (kind_step known) node_step layer)

pub length_is_ready : (known : Known-names) (a : TypedExpr) → is_ready_kind known (exprs.Length a) ≡ (is_ready known a)
unfolding ready_node ready_kind is_ready_kind roll-ExprKind denote.Hole.Carrier.roll
length_is_ready known a =
    let layer : Layer = ExprKind-F.Length a in ap (λ (k : Kind). k.ready) (fold-roll-ExprKind Slot Ty Kind Node (kind_step known) node_step layer)

pub reverse_is_ready : (known : Known-names) (a : TypedExpr) → is_ready_kind known (exprs.Reverse a) ≡ (is_ready known a)
unfolding ready_node ready_kind is_ready_kind roll-ExprKind denote.Hole.Carrier.roll
reverse_is_ready known a =
    let layer : Layer = ExprKind-F.Reverse a in ap (λ (k : Kind). k.ready) (fold-roll-ExprKind Slot Ty Kind Node (kind_step known) node_step layer)

pub split_is_ready : (known : Known-names) (a b : TypedExpr) → is_ready_kind known (exprs.Split a b) ≡ (is_ready known a && is_ready known b)
unfolding ready_node ready_kind is_ready_kind roll-ExprKind denote.Hole.Carrier.roll
split_is_ready known a b =
    let layer : Layer = ExprKind-F.Split a b in ap (λ (k : Kind). k.ready) (fold-roll-ExprKind Slot Ty Kind Node (kind_step known) node_step layer)

pub index_is_ready : (known : Known-names) (a : TypedExpr) (number : ℕ) → is_ready_kind known (exprs.Index a number) ≡ (is_ready known a)
unfolding ready_node ready_kind is_ready_kind roll-ExprKind denote.Hole.Carrier.roll
index_is_ready known a number =
    let layer : Layer = ExprKind-F.Index a number in ap (λ (k : Kind). k.ready) (fold-roll-ExprKind Slot Ty Kind Node (kind_step known) node_step layer)

pub cast_is_ready : (known : Known-names) (to : Ty) (a : TypedExpr) → is_ready_kind known (exprs.Cast to a None) ≡ (is_ready known a && is_cast (cast_effect to a.ty))
unfolding ready_node ready_kind is_ready_kind roll-ExprKind denote.Hole.Carrier.roll
cast_is_ready known to a =
    let layer : Layer = ExprKind-F.Cast to a None in ap (λ (k : Kind). k.ready) (fold-roll-ExprKind Slot Ty Kind Node (kind_step known) node_step layer)
    ∙ ap (λ t. is_ready known a && is_cast (cast_effect to t)) (typed known a)

pub sized_cast_is_ready : (known : Known-names) (to : Ty) (a b : TypedExpr) → is_ready_kind known (exprs.Cast to a (Some b)) ≡ (is_ready known a && is_ready known b)
unfolding ready_node ready_kind is_ready_kind roll-ExprKind denote.Hole.Carrier.roll
sized_cast_is_ready known to a b =
    let layer : Layer = ExprKind-F.Cast to a (Some b) in ap (λ (k : Kind). k.ready) (fold-roll-ExprKind Slot Ty Kind Node (kind_step known) node_step layer)

pub call_is_ready : (known : Known-names) (callee : Callee) (args : List TypedExpr) → is_ready_kind known (exprs.Call callee args) ≡ (call_ready callee (map (ready_node known) args))
unfolding ready_node ready_kind is_ready_kind roll-ExprKind denote.Hole.Carrier.roll
call_is_ready known callee args =
    let layer : Layer = ExprKind-F.Call callee args in ap (λ (k : Kind). k.ready) (fold-roll-ExprKind Slot Ty Kind Node (kind_step known) node_step layer)

pub new_is_ready : (known : Known-names) (callee : Callee) (args : List TypedExpr) → is_ready_kind known (exprs.New callee args) ≡ (call_ready callee (map (ready_node known) args))
unfolding ready_node ready_kind is_ready_kind roll-ExprKind denote.Hole.Carrier.roll
new_is_ready known callee args =
    let layer : Layer = ExprKind-F.New callee args in ap (λ (k : Kind). k.ready) (fold-roll-ExprKind Slot Ty Kind Node (kind_step known) node_step layer)

pub array_is_ready : (known : Known-names) (items : List TypedExpr) → is_ready_kind known (exprs.Array items) ≡ (false)
unfolding ready_node ready_kind is_ready_kind roll-ExprKind denote.Hole.Carrier.roll
array_is_ready known items =
    let layer : Layer = ExprKind-F.Array items in ap (λ (k : Kind). k.ready) (fold-roll-ExprKind Slot Ty Kind Node (kind_step known) node_step layer)

pub look0_is_ready : (known : Known-names) (what : Look0) → is_ready_kind known (exprs.Look0 what) ≡ (true)
unfolding ready_node ready_kind is_ready_kind roll-ExprKind denote.Hole.Carrier.roll
look0_is_ready known what =
    let layer : Layer = ExprKind-F.Look0 what in ap (λ (k : Kind). k.ready) (fold-roll-ExprKind Slot Ty Kind Node (kind_step known) node_step layer)

pub look_at_is_ready : (known : Known-names) (what : LookAt) (a : TypedExpr) → is_ready_kind known (exprs.LookAt what a) ≡ (is_ready known a)
unfolding ready_node ready_kind is_ready_kind roll-ExprKind denote.Hole.Carrier.roll
look_at_is_ready known what a =
    let layer : Layer = ExprKind-F.LookAt what a in ap (λ (k : Kind). k.ready) (fold-roll-ExprKind Slot Ty Kind Node (kind_step known) node_step layer)

-- ---- the items of an array

pub int_items : (known : Known-names) (digits unit : ℕ) → ready_items_kind known (exprs.Int digits unit) ≡ []
unfolding ready_node ready_kind ready_items_kind roll-ExprKind denote.Hole.Carrier.roll
int_items known digits unit =
    let layer : Layer = ExprKind-F.Int digits unit in ap (λ (k : Kind). k.items) (fold-roll-ExprKind Slot Ty Kind Node (kind_step known) node_step layer)

pub bool_items : (known : Known-names) (b : Bool) → ready_items_kind known (exprs.Bool b) ≡ []
unfolding ready_node ready_kind ready_items_kind roll-ExprKind denote.Hole.Carrier.roll
bool_items known b =
    let layer : Layer = ExprKind-F.Bool b in ap (λ (k : Kind). k.items) (fold-roll-ExprKind Slot Ty Kind Node (kind_step known) node_step layer)

pub hex_items : (known : Known-names) (bytes : List ℕ) → ready_items_kind known (exprs.Hex bytes) ≡ []
unfolding ready_node ready_kind ready_items_kind roll-ExprKind denote.Hole.Carrier.roll
hex_items known bytes =
    let layer : Layer = ExprKind-F.Hex bytes in ap (λ (k : Kind). k.items) (fold-roll-ExprKind Slot Ty Kind Node (kind_step known) node_step layer)

pub text_items : (known : Known-names) (bytes : List ℕ) → ready_items_kind known (exprs.Text bytes) ≡ []
unfolding ready_node ready_kind ready_items_kind roll-ExprKind denote.Hole.Carrier.roll
text_items known bytes =
    let layer : Layer = ExprKind-F.Text bytes in ap (λ (k : Kind). k.items) (fold-roll-ExprKind Slot Ty Kind Node (kind_step known) node_step layer)

pub date_items : (known : Known-names) (seconds : ℤ) → ready_items_kind known (exprs.Date seconds) ≡ []
unfolding ready_node ready_kind ready_items_kind roll-ExprKind denote.Hole.Carrier.roll
date_items known seconds =
    let layer : Layer = ExprKind-F.Date seconds in ap (λ (k : Kind). k.items) (fold-roll-ExprKind Slot Ty Kind Node (kind_step known) node_step layer)

pub name_items : (known : Known-names) (slot : Slot) → ready_items_kind known (exprs.Name slot) ≡ []
unfolding ready_node ready_kind ready_items_kind roll-ExprKind denote.Hole.Carrier.roll
name_items known slot =
    let layer : Layer = ExprKind-F.Name slot in ap (λ (k : Kind). k.items) (fold-roll-ExprKind Slot Ty Kind Node (kind_step known) node_step layer)

pub unary_items : (known : Known-names) (op : UnaryOp) (a : TypedExpr) → ready_items_kind known (exprs.Unary op a) ≡ []
unfolding ready_node ready_kind ready_items_kind roll-ExprKind denote.Hole.Carrier.roll
unary_items known op a =
    let layer : Layer = ExprKind-F.Unary op a in ap (λ (k : Kind). k.items) (fold-roll-ExprKind Slot Ty Kind Node (kind_step known) node_step layer)

pub binary_items : (known : Known-names) (op : BinaryOp) (a b : TypedExpr) → ready_items_kind known (exprs.Binary op a b) ≡ []
unfolding ready_node ready_kind ready_items_kind roll-ExprKind denote.Hole.Carrier.roll
binary_items known op a b =
    let layer : Layer = ExprKind-F.Binary op a b in ap (λ (k : Kind). k.items) (fold-roll-ExprKind Slot Ty Kind Node (kind_step known) node_step layer)

pub length_items : (known : Known-names) (a : TypedExpr) → ready_items_kind known (exprs.Length a) ≡ []
unfolding ready_node ready_kind ready_items_kind roll-ExprKind denote.Hole.Carrier.roll
length_items known a =
    let layer : Layer = ExprKind-F.Length a in ap (λ (k : Kind). k.items) (fold-roll-ExprKind Slot Ty Kind Node (kind_step known) node_step layer)

pub reverse_items : (known : Known-names) (a : TypedExpr) → ready_items_kind known (exprs.Reverse a) ≡ []
unfolding ready_node ready_kind ready_items_kind roll-ExprKind denote.Hole.Carrier.roll
reverse_items known a =
    let layer : Layer = ExprKind-F.Reverse a in ap (λ (k : Kind). k.items) (fold-roll-ExprKind Slot Ty Kind Node (kind_step known) node_step layer)

pub split_items : (known : Known-names) (a b : TypedExpr) → ready_items_kind known (exprs.Split a b) ≡ []
unfolding ready_node ready_kind ready_items_kind roll-ExprKind denote.Hole.Carrier.roll
split_items known a b =
    let layer : Layer = ExprKind-F.Split a b in ap (λ (k : Kind). k.items) (fold-roll-ExprKind Slot Ty Kind Node (kind_step known) node_step layer)

pub index_items : (known : Known-names) (a : TypedExpr) (number : ℕ) → ready_items_kind known (exprs.Index a number) ≡ []
unfolding ready_node ready_kind ready_items_kind roll-ExprKind denote.Hole.Carrier.roll
index_items known a number =
    let layer : Layer = ExprKind-F.Index a number in ap (λ (k : Kind). k.items) (fold-roll-ExprKind Slot Ty Kind Node (kind_step known) node_step layer)

pub cast_items : (known : Known-names) (to : Ty) (a : TypedExpr) → ready_items_kind known (exprs.Cast to a None) ≡ []
unfolding ready_node ready_kind ready_items_kind roll-ExprKind denote.Hole.Carrier.roll
cast_items known to a =
    let layer : Layer = ExprKind-F.Cast to a None in ap (λ (k : Kind). k.items) (fold-roll-ExprKind Slot Ty Kind Node (kind_step known) node_step layer)

pub sized_cast_items : (known : Known-names) (to : Ty) (a b : TypedExpr) → ready_items_kind known (exprs.Cast to a (Some b)) ≡ []
unfolding ready_node ready_kind ready_items_kind roll-ExprKind denote.Hole.Carrier.roll
sized_cast_items known to a b =
    let layer : Layer = ExprKind-F.Cast to a (Some b) in ap (λ (k : Kind). k.items) (fold-roll-ExprKind Slot Ty Kind Node (kind_step known) node_step layer)

pub call_items : (known : Known-names) (callee : Callee) (args : List TypedExpr) → ready_items_kind known (exprs.Call callee args) ≡ []
unfolding ready_node ready_kind ready_items_kind roll-ExprKind denote.Hole.Carrier.roll
call_items known callee args =
    let layer : Layer = ExprKind-F.Call callee args in ap (λ (k : Kind). k.items) (fold-roll-ExprKind Slot Ty Kind Node (kind_step known) node_step layer)

pub new_items : (known : Known-names) (callee : Callee) (args : List TypedExpr) → ready_items_kind known (exprs.New callee args) ≡ []
unfolding ready_node ready_kind ready_items_kind roll-ExprKind denote.Hole.Carrier.roll
new_items known callee args =
    let layer : Layer = ExprKind-F.New callee args in ap (λ (k : Kind). k.items) (fold-roll-ExprKind Slot Ty Kind Node (kind_step known) node_step layer)

pub array_items : (known : Known-names) (items : List TypedExpr) → ready_items_kind known (exprs.Array items) ≡ map (is_ready known) items
unfolding ready_node ready_kind ready_items_kind roll-ExprKind denote.Hole.Carrier.roll
array_items known items =
    let layer : Layer = ExprKind-F.Array items in ap (λ (k : Kind). k.items) (fold-roll-ExprKind Slot Ty Kind Node (kind_step known) node_step layer)
    ∙ map-map (λ (n : Node). n.ready) (ready_node known) items

pub look0_items : (known : Known-names) (what : Look0) → ready_items_kind known (exprs.Look0 what) ≡ []
unfolding ready_node ready_kind ready_items_kind roll-ExprKind denote.Hole.Carrier.roll
look0_items known what =
    let layer : Layer = ExprKind-F.Look0 what in ap (λ (k : Kind). k.items) (fold-roll-ExprKind Slot Ty Kind Node (kind_step known) node_step layer)

pub look_at_items : (known : Known-names) (what : LookAt) (a : TypedExpr) → ready_items_kind known (exprs.LookAt what a) ≡ []
unfolding ready_node ready_kind ready_items_kind roll-ExprKind denote.Hole.Carrier.roll
look_at_items known what a =
    let layer : Layer = ExprKind-F.LookAt what a in ap (λ (k : Kind). k.items) (fold-roll-ExprKind Slot Ty Kind Node (kind_step known) node_step layer)

no_array_layer : (known : Known-names) (layer : Layer) → ((items : List TypedExpr) → roll-ExprKind Slot Ty layer ≡ exprs.Array items → ⊥) → ready_items_kind known (roll-ExprKind Slot Ty layer) ≡ []
unfolding roll-ExprKind denote.Hole.Carrier.roll
no_array_layer known (ExprKind-F.Int digits unit) other = int_items known digits unit
no_array_layer known (ExprKind-F.Bool b) other = bool_items known b
no_array_layer known (ExprKind-F.Hex bytes) other = hex_items known bytes
no_array_layer known (ExprKind-F.Text bytes) other = text_items known bytes
no_array_layer known (ExprKind-F.Date seconds) other = date_items known seconds
no_array_layer known (ExprKind-F.Name slot) other = name_items known slot
no_array_layer known (ExprKind-F.Unary op a) other = unary_items known op a
no_array_layer known (ExprKind-F.Binary op a b) other = binary_items known op a b
no_array_layer known (ExprKind-F.Length a) other = length_items known a
no_array_layer known (ExprKind-F.Reverse a) other = reverse_items known a
no_array_layer known (ExprKind-F.Split a b) other = split_items known a b
no_array_layer known (ExprKind-F.Index a number) other = index_items known a number
no_array_layer known (ExprKind-F.Cast to a None) other = cast_items known to a
no_array_layer known (ExprKind-F.Cast to a (Some b)) other = sized_cast_items known to a b
no_array_layer known (ExprKind-F.Call callee args) other = call_items known callee args
no_array_layer known (ExprKind-F.New callee args) other = new_items known callee args
no_array_layer known (ExprKind-F.Array items) other = absurd (other items refl)
no_array_layer known (ExprKind-F.Look0 what) other = look0_items known what
no_array_layer known (ExprKind-F.LookAt what a) other = look_at_items known what a

-- what is no array has no items
pub no_array_items : (known : Known-names) (kind : ExprKind Slot Ty) → ((items : List TypedExpr) → kind ≡ exprs.Array items → ⊥) → ready_items_kind known kind ≡ []
no_array_items known kind other =
    let is = roll-out-ExprKind Slot Ty kind in
    ap (ready_items_kind known) (sym is) ∙ no_array_layer known (out-ExprKind Slot Ty kind) (λ items same. other items (sym is ∙ same))
