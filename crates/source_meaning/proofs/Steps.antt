-- What each kind of expression gives, by its line in the definition.
use Rattle.std.proofs.Common.{◌≡◌, ◌≤◌, subst, arith, ℕ, ℤ, Bool, ◌+◌, ◌*◌, List, [], ◌∷◌, length, map, pos, ap, sym, ◌∙◌, refl}
use Rattle.std.specs.Prelude.{Option, Some, None, Ok, unwrap_or}
use Rattle.std.proofs.lemmas.Simd.{map-map}
use Rattle.std.proofs.lemmas.List.{length-map}
use Rattle.cash_base.specs.declared.fault.Cause.TheVariants.{CheckFailed}
use Rattle.cash_base.specs.declared.place.Span.{Span}
use Rattle.cash_base.specs.declared.place.Slot.{Slot}
use Rattle.cash_base.specs.declared.look.Look0.{Look0}
use Rattle.cash_base.specs.declared.look.LookAt.{LookAt}
use Rattle.cash_base.specs.Failing.{◌>>=◌}
use Rattle.element_ops.specs.declared.op.Op1.TheVariants.{Size, Reverse}
use Rattle.element_ops.specs.declared.op.Op2.TheVariants.{Pad}
use Rattle.element_ops.specs.Operand.{number_element, truth_element}
use Rattle.element_ops.specs.Operation.{result1, result2, split_parts}
use Rattle.tx_context.specs.World.{World}
use Rattle.tx_context.specs.Lookup.{sized, context_value, indexed_value}
use Rattle.cash_tree.specs.declared.Ty.{Ty}
use Rattle.cash_tree.specs.declared.UnaryOp.{UnaryOp}
use Rattle.cash_tree.specs.declared.BinaryOp.{BinaryOp}
use Rattle.cash_tree.specs.declared.Callee.{Callee}
use Rattle.cash_tree.specs.declared.ExprKind.{ExprKind}
use Rattle.cash_tree.specs.declared.ExprKind.TheVariants as exprs
use Rattle.cash_tree.specs.declared.ExprKind.TheOpen.{ExprKind-F, Expr-F}
use Rattle.cash_tree.specs.declared.ExprKind.TheViews.{out-ExprKind, roll-ExprKind, roll-out-ExprKind}
use Rattle.cash_tree.specs.declared.ExprKind.TheFolds.{fold-roll-Expr, fold-roll-ExprKind}
use Rattle.cash_tree.specs.Nodes.{total, or_none, kind_nodes, node_nodes}
use Rattle.type_tables.specs.Tables.{TypedExpr, cast_effect}
use Rattle.form_tables.specs.Forms.{unary_op, is_int, binary_form, binary_result, cast_result}
use Rattle.meaning_room.specs.Meaning.{Env, One, Two, Node, Kind, fails, at_span, applied, element, part_at, call_value, kind_step, node_step, node_of, kind_of, kind_gives, kind_lists, items_of, value_of}
use Rattle.source_meaning.specs.Runnable.{node_count, kind_count}

abbrev Layer : Type 0
Layer = ExprKind-F Slot Ty (ExprKind Slot Ty) TypedExpr

-- ---- what is given

pub whole_given : (world : World) (env : Env) (e : TypedExpr) → value_of world env e ≡ kind_gives world env e.kind e.span
unfolding node_of kind_gives kind_of
whole_given world env e =
    let layer : Expr-F Slot Ty (ExprKind Slot Ty) TypedExpr = record { kind = e.kind; ty = e.ty; span = e.span } in
    ap (λ (n : Node). n.value) (fold-roll-Expr Slot Ty Kind Node (kind_step world env) node_step layer)

typed : (world : World) (env : Env) (e : TypedExpr) → (node_of world env e).ty ≡ e.ty
unfolding node_of
typed world env e =
    let layer : Expr-F Slot Ty (ExprKind Slot Ty) TypedExpr = record { kind = e.kind; ty = e.ty; span = e.span } in
    ap (λ (n : Node). n.ty) (fold-roll-Expr Slot Ty Kind Node (kind_step world env) node_step layer)

pub int_gives : (world : World) (env : Env) (digits unit : ℕ) (span : Span)
    → kind_gives world env (exprs.Int digits unit) span ≡ (applied span (number_element (pos (digits * unit))))
unfolding kind_gives kind_of node_of roll-ExprKind denote.Hole.Carrier.roll
int_gives world env digits unit span =
    let layer : Layer = ExprKind-F.Int digits unit in ap (λ (k : Kind). k.value span) (fold-roll-ExprKind Slot Ty Kind Node (kind_step world env) node_step layer)

pub bool_gives : (world : World) (env : Env) (b : Bool) (span : Span)
    → kind_gives world env (exprs.Bool b) span ≡ (applied span (truth_element b))
unfolding kind_gives kind_of node_of roll-ExprKind denote.Hole.Carrier.roll
bool_gives world env b span =
    let layer : Layer = ExprKind-F.Bool b in ap (λ (k : Kind). k.value span) (fold-roll-ExprKind Slot Ty Kind Node (kind_step world env) node_step layer)

pub hex_gives : (world : World) (env : Env) (bytes : List ℕ) (span : Span)
    → kind_gives world env (exprs.Hex bytes) span ≡ (applied span (sized bytes))
unfolding kind_gives kind_of node_of roll-ExprKind denote.Hole.Carrier.roll
hex_gives world env bytes span =
    let layer : Layer = ExprKind-F.Hex bytes in ap (λ (k : Kind). k.value span) (fold-roll-ExprKind Slot Ty Kind Node (kind_step world env) node_step layer)

pub text_gives : (world : World) (env : Env) (bytes : List ℕ) (span : Span)
    → kind_gives world env (exprs.Text bytes) span ≡ (applied span (sized bytes))
unfolding kind_gives kind_of node_of roll-ExprKind denote.Hole.Carrier.roll
text_gives world env bytes span =
    let layer : Layer = ExprKind-F.Text bytes in ap (λ (k : Kind). k.value span) (fold-roll-ExprKind Slot Ty Kind Node (kind_step world env) node_step layer)

pub date_gives : (world : World) (env : Env) (seconds : ℤ) (span : Span)
    → kind_gives world env (exprs.Date seconds) span ≡ (applied span (number_element seconds))
unfolding kind_gives kind_of node_of roll-ExprKind denote.Hole.Carrier.roll
date_gives world env seconds span =
    let layer : Layer = ExprKind-F.Date seconds in ap (λ (k : Kind). k.value span) (fold-roll-ExprKind Slot Ty Kind Node (kind_step world env) node_step layer)

pub name_gives : (world : World) (env : Env) (slot : Slot) (span : Span)
    → kind_gives world env (exprs.Name slot) span ≡ (Ok (One (unwrap_or (env slot) [])))
unfolding kind_gives kind_of node_of roll-ExprKind denote.Hole.Carrier.roll
name_gives world env slot span =
    let layer : Layer = ExprKind-F.Name slot in ap (λ (k : Kind). k.value span) (fold-roll-ExprKind Slot Ty Kind Node (kind_step world env) node_step layer)

pub unary_gives : (world : World) (env : Env) (op : UnaryOp) (a : TypedExpr) (span : Span)
    → kind_gives world env (exprs.Unary op a) span ≡ (element (value_of world env a) >>= λ x. applied span (result1 (unary_op op) x))
unfolding kind_gives kind_of node_of roll-ExprKind denote.Hole.Carrier.roll
unary_gives world env op a span =
    let layer : Layer = ExprKind-F.Unary op a in ap (λ (k : Kind). k.value span) (fold-roll-ExprKind Slot Ty Kind Node (kind_step world env) node_step layer)

pub binary_gives : (world : World) (env : Env) (op : BinaryOp) (a b : TypedExpr) (span : Span)
    → kind_gives world env (exprs.Binary op a b) span ≡ (element (value_of world env a) >>= λ x. element (value_of world env b) >>= λ y. applied span (binary_result (binary_form (is_int a.ty) op) x y))
unfolding kind_gives kind_of node_of roll-ExprKind denote.Hole.Carrier.roll
binary_gives world env op a b span =
    let layer : Layer = ExprKind-F.Binary op a b in ap (λ (k : Kind). k.value span) (fold-roll-ExprKind Slot Ty Kind Node (kind_step world env) node_step layer)
    ∙ ap (λ t. element (value_of world env a) >>= λ x. element (value_of world env b) >>= λ y. applied span (binary_result (binary_form (is_int t) op) x y)) (typed world env a)

pub length_gives : (world : World) (env : Env) (a : TypedExpr) (span : Span)
    → kind_gives world env (exprs.Length a) span ≡ (element (value_of world env a) >>= λ x. applied span (result1 Size x))
unfolding kind_gives kind_of node_of roll-ExprKind denote.Hole.Carrier.roll
length_gives world env a span =
    let layer : Layer = ExprKind-F.Length a in ap (λ (k : Kind). k.value span) (fold-roll-ExprKind Slot Ty Kind Node (kind_step world env) node_step layer)

pub reverse_gives : (world : World) (env : Env) (a : TypedExpr) (span : Span)
    → kind_gives world env (exprs.Reverse a) span ≡ (element (value_of world env a) >>= λ x. applied span (result1 Reverse x))
unfolding kind_gives kind_of node_of roll-ExprKind denote.Hole.Carrier.roll
reverse_gives world env a span =
    let layer : Layer = ExprKind-F.Reverse a in ap (λ (k : Kind). k.value span) (fold-roll-ExprKind Slot Ty Kind Node (kind_step world env) node_step layer)

pub split_gives : (world : World) (env : Env) (a b : TypedExpr) (span : Span)
    → kind_gives world env (exprs.Split a b) span ≡ (element (value_of world env a) >>= λ x. element (value_of world env b) >>= λ y. at_span span (split_parts x y) >>= λ parts. Ok (Two parts.0 parts.1))
unfolding kind_gives kind_of node_of roll-ExprKind denote.Hole.Carrier.roll
split_gives world env a b span =
    let layer : Layer = ExprKind-F.Split a b in ap (λ (k : Kind). k.value span) (fold-roll-ExprKind Slot Ty Kind Node (kind_step world env) node_step layer)

pub index_gives : (world : World) (env : Env) (a : TypedExpr) (number : ℕ) (span : Span)
    → kind_gives world env (exprs.Index a number) span ≡ (value_of world env a >>= λ given. Ok (One (part_at number given)))
unfolding kind_gives kind_of node_of roll-ExprKind denote.Hole.Carrier.roll
index_gives world env a number span =
    let layer : Layer = ExprKind-F.Index a number in ap (λ (k : Kind). k.value span) (fold-roll-ExprKind Slot Ty Kind Node (kind_step world env) node_step layer)

pub cast_gives : (world : World) (env : Env) (to : Ty) (a : TypedExpr) (span : Span)
    → kind_gives world env (exprs.Cast to a None) span ≡ (element (value_of world env a) >>= λ x. applied span (cast_result (cast_effect to a.ty) x))
unfolding kind_gives kind_of node_of roll-ExprKind denote.Hole.Carrier.roll
cast_gives world env to a span =
    let layer : Layer = ExprKind-F.Cast to a None in ap (λ (k : Kind). k.value span) (fold-roll-ExprKind Slot Ty Kind Node (kind_step world env) node_step layer)
    ∙ ap (λ t. element (value_of world env a) >>= λ x. applied span (cast_result (cast_effect to t) x)) (typed world env a)

pub sized_cast_gives : (world : World) (env : Env) (to : Ty) (a b : TypedExpr) (span : Span)
    → kind_gives world env (exprs.Cast to a (Some b)) span ≡ (element (value_of world env a) >>= λ x. element (value_of world env b) >>= λ y. applied span (result2 Pad x y))
unfolding kind_gives kind_of node_of roll-ExprKind denote.Hole.Carrier.roll
sized_cast_gives world env to a b span =
    let layer : Layer = ExprKind-F.Cast to a (Some b) in ap (λ (k : Kind). k.value span) (fold-roll-ExprKind Slot Ty Kind Node (kind_step world env) node_step layer)

pub call_gives : (world : World) (env : Env) (callee : Callee) (args : List TypedExpr) (span : Span)
    → kind_gives world env (exprs.Call callee args) span ≡ (call_value world span callee (map (node_of world env) args))
unfolding kind_gives kind_of node_of roll-ExprKind denote.Hole.Carrier.roll
call_gives world env callee args span =
    let layer : Layer = ExprKind-F.Call callee args in ap (λ (k : Kind). k.value span) (fold-roll-ExprKind Slot Ty Kind Node (kind_step world env) node_step layer)

pub new_gives : (world : World) (env : Env) (callee : Callee) (args : List TypedExpr) (span : Span)
    → kind_gives world env (exprs.New callee args) span ≡ (call_value world span callee (map (node_of world env) args))
unfolding kind_gives kind_of node_of roll-ExprKind denote.Hole.Carrier.roll
new_gives world env callee args span =
    let layer : Layer = ExprKind-F.New callee args in ap (λ (k : Kind). k.value span) (fold-roll-ExprKind Slot Ty Kind Node (kind_step world env) node_step layer)

pub array_gives : (world : World) (env : Env) (items : List TypedExpr) (span : Span)
    → kind_gives world env (exprs.Array items) span ≡ (fails span CheckFailed)
unfolding kind_gives kind_of node_of roll-ExprKind denote.Hole.Carrier.roll
array_gives world env items span =
    let layer : Layer = ExprKind-F.Array items in ap (λ (k : Kind). k.value span) (fold-roll-ExprKind Slot Ty Kind Node (kind_step world env) node_step layer)

pub look0_gives : (world : World) (env : Env) (what : Look0) (span : Span)
    → kind_gives world env (exprs.Look0 what) span ≡ (applied span (context_value world.context what world.redeem))
unfolding kind_gives kind_of node_of roll-ExprKind denote.Hole.Carrier.roll
look0_gives world env what span =
    let layer : Layer = ExprKind-F.Look0 what in ap (λ (k : Kind). k.value span) (fold-roll-ExprKind Slot Ty Kind Node (kind_step world env) node_step layer)

pub look_at_gives : (world : World) (env : Env) (what : LookAt) (a : TypedExpr) (span : Span)
    → kind_gives world env (exprs.LookAt what a) span ≡ (element (value_of world env a) >>= λ x. applied span (indexed_value world.context what x))
unfolding kind_gives kind_of node_of roll-ExprKind denote.Hole.Carrier.roll
look_at_gives world env what a span =
    let layer : Layer = ExprKind-F.LookAt what a in ap (λ (k : Kind). k.value span) (fold-roll-ExprKind Slot Ty Kind Node (kind_step world env) node_step layer)

-- ---- how many nodes

pub whole_counted : (e : TypedExpr) → node_count e ≡ kind_count e.kind
unfolding node_count kind_count
whole_counted e =
    let layer : Expr-F Slot Ty (ExprKind Slot Ty) TypedExpr = record { kind = e.kind; ty = e.ty; span = e.span } in
    fold-roll-Expr Slot Ty ℕ ℕ kind_nodes node_nodes layer

pub int_counted : (digits unit : ℕ) → kind_count (exprs.Int digits unit) ≡ 1
unfolding node_count kind_count roll-ExprKind denote.Hole.Carrier.roll
int_counted digits unit =
    let layer : Layer = ExprKind-F.Int digits unit in fold-roll-ExprKind Slot Ty ℕ ℕ kind_nodes node_nodes layer

pub bool_counted : (b : Bool) → kind_count (exprs.Bool b) ≡ 1
unfolding node_count kind_count roll-ExprKind denote.Hole.Carrier.roll
bool_counted b =
    let layer : Layer = ExprKind-F.Bool b in fold-roll-ExprKind Slot Ty ℕ ℕ kind_nodes node_nodes layer

pub hex_counted : (bytes : List ℕ) → kind_count (exprs.Hex bytes) ≡ 1
unfolding node_count kind_count roll-ExprKind denote.Hole.Carrier.roll
hex_counted bytes =
    let layer : Layer = ExprKind-F.Hex bytes in fold-roll-ExprKind Slot Ty ℕ ℕ kind_nodes node_nodes layer

pub text_counted : (bytes : List ℕ) → kind_count (exprs.Text bytes) ≡ 1
unfolding node_count kind_count roll-ExprKind denote.Hole.Carrier.roll
text_counted bytes =
    let layer : Layer = ExprKind-F.Text bytes in fold-roll-ExprKind Slot Ty ℕ ℕ kind_nodes node_nodes layer

pub date_counted : (seconds : ℤ) → kind_count (exprs.Date seconds) ≡ 1
unfolding node_count kind_count roll-ExprKind denote.Hole.Carrier.roll
date_counted seconds =
    let layer : Layer = ExprKind-F.Date seconds in fold-roll-ExprKind Slot Ty ℕ ℕ kind_nodes node_nodes layer

pub name_counted : (slot : Slot) → kind_count (exprs.Name slot) ≡ 1
unfolding node_count kind_count roll-ExprKind denote.Hole.Carrier.roll
name_counted slot =
    let layer : Layer = ExprKind-F.Name slot in fold-roll-ExprKind Slot Ty ℕ ℕ kind_nodes node_nodes layer

pub unary_counted : (op : UnaryOp) (a : TypedExpr) → kind_count (exprs.Unary op a) ≡ node_count a + 1
unfolding node_count kind_count roll-ExprKind denote.Hole.Carrier.roll
unary_counted op a =
    let layer : Layer = ExprKind-F.Unary op a in fold-roll-ExprKind Slot Ty ℕ ℕ kind_nodes node_nodes layer

pub binary_counted : (op : BinaryOp) (a b : TypedExpr) → kind_count (exprs.Binary op a b) ≡ node_count a + node_count b + 1
unfolding node_count kind_count roll-ExprKind denote.Hole.Carrier.roll
binary_counted op a b =
    let layer : Layer = ExprKind-F.Binary op a b in fold-roll-ExprKind Slot Ty ℕ ℕ kind_nodes node_nodes layer

pub length_counted : (a : TypedExpr) → kind_count (exprs.Length a) ≡ node_count a + 1
unfolding node_count kind_count roll-ExprKind denote.Hole.Carrier.roll
length_counted a =
    let layer : Layer = ExprKind-F.Length a in fold-roll-ExprKind Slot Ty ℕ ℕ kind_nodes node_nodes layer

pub reverse_counted : (a : TypedExpr) → kind_count (exprs.Reverse a) ≡ node_count a + 1
unfolding node_count kind_count roll-ExprKind denote.Hole.Carrier.roll
reverse_counted a =
    let layer : Layer = ExprKind-F.Reverse a in fold-roll-ExprKind Slot Ty ℕ ℕ kind_nodes node_nodes layer

pub split_counted : (a b : TypedExpr) → kind_count (exprs.Split a b) ≡ node_count a + node_count b + 1
unfolding node_count kind_count roll-ExprKind denote.Hole.Carrier.roll
split_counted a b =
    let layer : Layer = ExprKind-F.Split a b in fold-roll-ExprKind Slot Ty ℕ ℕ kind_nodes node_nodes layer

pub index_counted : (a : TypedExpr) (number : ℕ) → kind_count (exprs.Index a number) ≡ node_count a + 1
unfolding node_count kind_count roll-ExprKind denote.Hole.Carrier.roll
index_counted a number =
    let layer : Layer = ExprKind-F.Index a number in fold-roll-ExprKind Slot Ty ℕ ℕ kind_nodes node_nodes layer

pub cast_counted : (to : Ty) (a : TypedExpr) → kind_count (exprs.Cast to a None) ≡ node_count a + 0 + 1
unfolding node_count kind_count roll-ExprKind denote.Hole.Carrier.roll
cast_counted to a =
    let layer : Layer = ExprKind-F.Cast to a None in fold-roll-ExprKind Slot Ty ℕ ℕ kind_nodes node_nodes layer

pub sized_cast_counted : (to : Ty) (a b : TypedExpr) → kind_count (exprs.Cast to a (Some b)) ≡ node_count a + node_count b + 1
unfolding node_count kind_count roll-ExprKind denote.Hole.Carrier.roll
sized_cast_counted to a b =
    let layer : Layer = ExprKind-F.Cast to a (Some b) in fold-roll-ExprKind Slot Ty ℕ ℕ kind_nodes node_nodes layer

-- those of a size, which may be missing
pub size_count : Option TypedExpr → ℕ
size_count None = 0
size_count (Some b) = node_count b

pub any_cast_counted : (to : Ty) (a : TypedExpr) (size : Option TypedExpr) → kind_count (exprs.Cast to a size) ≡ node_count a + size_count size + 1
unfolding size_count
any_cast_counted to a None = cast_counted to a
any_cast_counted to a (Some b) = sized_cast_counted to a b

pub call_counted : (callee : Callee) (args : List TypedExpr) → kind_count (exprs.Call callee args) ≡ total (map node_count args) + 1
unfolding node_count kind_count roll-ExprKind denote.Hole.Carrier.roll
call_counted callee args =
    let layer : Layer = ExprKind-F.Call callee args in fold-roll-ExprKind Slot Ty ℕ ℕ kind_nodes node_nodes layer

pub new_counted : (callee : Callee) (args : List TypedExpr) → kind_count (exprs.New callee args) ≡ total (map node_count args) + 1
unfolding node_count kind_count roll-ExprKind denote.Hole.Carrier.roll
new_counted callee args =
    let layer : Layer = ExprKind-F.New callee args in fold-roll-ExprKind Slot Ty ℕ ℕ kind_nodes node_nodes layer

pub array_counted : (items : List TypedExpr) → kind_count (exprs.Array items) ≡ total (map node_count items) + 1
unfolding node_count kind_count roll-ExprKind denote.Hole.Carrier.roll
array_counted items =
    let layer : Layer = ExprKind-F.Array items in fold-roll-ExprKind Slot Ty ℕ ℕ kind_nodes node_nodes layer

pub look0_counted : (what : Look0) → kind_count (exprs.Look0 what) ≡ 1
unfolding node_count kind_count roll-ExprKind denote.Hole.Carrier.roll
look0_counted what =
    let layer : Layer = ExprKind-F.Look0 what in fold-roll-ExprKind Slot Ty ℕ ℕ kind_nodes node_nodes layer

pub look_at_counted : (what : LookAt) (a : TypedExpr) → kind_count (exprs.LookAt what a) ≡ node_count a + 1
unfolding node_count kind_count roll-ExprKind denote.Hole.Carrier.roll
look_at_counted what a =
    let layer : Layer = ExprKind-F.LookAt what a in fold-roll-ExprKind Slot Ty ℕ ℕ kind_nodes node_nodes layer

-- an expression has a node
one_more : (n : ℕ) → 1 ≤ n + 1
one_more n = omega arith

layer_counted : (layer : ExprKind-F Slot Ty ℕ ℕ) → 1 ≤ kind_nodes layer
layer_counted (ExprKind-F.Unary op a) = one_more a
layer_counted (ExprKind-F.Binary op a b) = one_more (a + b)
layer_counted (ExprKind-F.Length a) = one_more a
layer_counted (ExprKind-F.Reverse a) = one_more a
layer_counted (ExprKind-F.Split a b) = one_more (a + b)
layer_counted (ExprKind-F.Index a number) = one_more a
layer_counted (ExprKind-F.Cast to a size) = one_more (a + or_none size)
layer_counted (ExprKind-F.Call callee args) = one_more (total args)
layer_counted (ExprKind-F.New callee args) = one_more (total args)
layer_counted (ExprKind-F.Array items) = one_more (total items)
layer_counted (ExprKind-F.LookAt look a) = one_more a
layer_counted (ExprKind-F.Int digits unit) = omega arith
layer_counted (ExprKind-F.Bool b) = omega arith
layer_counted (ExprKind-F.Hex bytes) = omega arith
layer_counted (ExprKind-F.Text bytes) = omega arith
layer_counted (ExprKind-F.Date seconds) = omega arith
layer_counted (ExprKind-F.Name slot) = omega arith
layer_counted (ExprKind-F.Look0 what) = omega arith

pub some_node : (e : TypedExpr) → 1 ≤ node_count e
unfolding kind_count
some_node e =
    let count = whole_counted e ∙ ap kind_count (sym (roll-out-ExprKind Slot Ty e.kind))
    ∙ fold-roll-ExprKind Slot Ty ℕ ℕ kind_nodes node_nodes (out-ExprKind Slot Ty e.kind) in
    subst (λ n. 1 ≤ n) (sym count) (layer_counted _)

-- so a list of them has as many at least
pub few_items : (items : List TypedExpr) → length items ≤ total (map node_count items)
few_items [] = omega arith
few_items (e ∷ es) = let here = some_node e in let rest = few_items es in omega arith

-- ---- the items of arrays

pub whole_listed : (world : World) (env : Env) (e : TypedExpr) → items_of world env e ≡ kind_lists world env e.kind
unfolding node_of kind_lists kind_of
whole_listed world env e =
    let layer : Expr-F Slot Ty (ExprKind Slot Ty) TypedExpr = record { kind = e.kind; ty = e.ty; span = e.span } in
    ap (λ (n : Node). n.items) (fold-roll-Expr Slot Ty Kind Node (kind_step world env) node_step layer)

pub int_listed : (world : World) (env : Env) (digits unit : ℕ) → kind_lists world env (exprs.Int digits unit) ≡ []
unfolding kind_lists kind_of node_of roll-ExprKind denote.Hole.Carrier.roll
int_listed world env digits unit =
    let layer : Layer = ExprKind-F.Int digits unit in ap (λ (k : Kind). k.items) (fold-roll-ExprKind Slot Ty Kind Node (kind_step world env) node_step layer)

pub bool_listed : (world : World) (env : Env) (b : Bool) → kind_lists world env (exprs.Bool b) ≡ []
unfolding kind_lists kind_of node_of roll-ExprKind denote.Hole.Carrier.roll
bool_listed world env b =
    let layer : Layer = ExprKind-F.Bool b in ap (λ (k : Kind). k.items) (fold-roll-ExprKind Slot Ty Kind Node (kind_step world env) node_step layer)

pub hex_listed : (world : World) (env : Env) (bytes : List ℕ) → kind_lists world env (exprs.Hex bytes) ≡ []
unfolding kind_lists kind_of node_of roll-ExprKind denote.Hole.Carrier.roll
hex_listed world env bytes =
    let layer : Layer = ExprKind-F.Hex bytes in ap (λ (k : Kind). k.items) (fold-roll-ExprKind Slot Ty Kind Node (kind_step world env) node_step layer)

pub text_listed : (world : World) (env : Env) (bytes : List ℕ) → kind_lists world env (exprs.Text bytes) ≡ []
unfolding kind_lists kind_of node_of roll-ExprKind denote.Hole.Carrier.roll
text_listed world env bytes =
    let layer : Layer = ExprKind-F.Text bytes in ap (λ (k : Kind). k.items) (fold-roll-ExprKind Slot Ty Kind Node (kind_step world env) node_step layer)

pub date_listed : (world : World) (env : Env) (seconds : ℤ) → kind_lists world env (exprs.Date seconds) ≡ []
unfolding kind_lists kind_of node_of roll-ExprKind denote.Hole.Carrier.roll
date_listed world env seconds =
    let layer : Layer = ExprKind-F.Date seconds in ap (λ (k : Kind). k.items) (fold-roll-ExprKind Slot Ty Kind Node (kind_step world env) node_step layer)

pub name_listed : (world : World) (env : Env) (slot : Slot) → kind_lists world env (exprs.Name slot) ≡ []
unfolding kind_lists kind_of node_of roll-ExprKind denote.Hole.Carrier.roll
name_listed world env slot =
    let layer : Layer = ExprKind-F.Name slot in ap (λ (k : Kind). k.items) (fold-roll-ExprKind Slot Ty Kind Node (kind_step world env) node_step layer)

pub unary_listed : (world : World) (env : Env) (op : UnaryOp) (a : TypedExpr) → kind_lists world env (exprs.Unary op a) ≡ []
unfolding kind_lists kind_of node_of roll-ExprKind denote.Hole.Carrier.roll
unary_listed world env op a =
    let layer : Layer = ExprKind-F.Unary op a in ap (λ (k : Kind). k.items) (fold-roll-ExprKind Slot Ty Kind Node (kind_step world env) node_step layer)

pub binary_listed : (world : World) (env : Env) (op : BinaryOp) (a b : TypedExpr) → kind_lists world env (exprs.Binary op a b) ≡ []
unfolding kind_lists kind_of node_of roll-ExprKind denote.Hole.Carrier.roll
binary_listed world env op a b =
    let layer : Layer = ExprKind-F.Binary op a b in ap (λ (k : Kind). k.items) (fold-roll-ExprKind Slot Ty Kind Node (kind_step world env) node_step layer)

pub length_listed : (world : World) (env : Env) (a : TypedExpr) → kind_lists world env (exprs.Length a) ≡ []
unfolding kind_lists kind_of node_of roll-ExprKind denote.Hole.Carrier.roll
length_listed world env a =
    let layer : Layer = ExprKind-F.Length a in ap (λ (k : Kind). k.items) (fold-roll-ExprKind Slot Ty Kind Node (kind_step world env) node_step layer)

pub reverse_listed : (world : World) (env : Env) (a : TypedExpr) → kind_lists world env (exprs.Reverse a) ≡ []
unfolding kind_lists kind_of node_of roll-ExprKind denote.Hole.Carrier.roll
reverse_listed world env a =
    let layer : Layer = ExprKind-F.Reverse a in ap (λ (k : Kind). k.items) (fold-roll-ExprKind Slot Ty Kind Node (kind_step world env) node_step layer)

pub split_listed : (world : World) (env : Env) (a b : TypedExpr) → kind_lists world env (exprs.Split a b) ≡ []
unfolding kind_lists kind_of node_of roll-ExprKind denote.Hole.Carrier.roll
split_listed world env a b =
    let layer : Layer = ExprKind-F.Split a b in ap (λ (k : Kind). k.items) (fold-roll-ExprKind Slot Ty Kind Node (kind_step world env) node_step layer)

pub index_listed : (world : World) (env : Env) (a : TypedExpr) (number : ℕ) → kind_lists world env (exprs.Index a number) ≡ []
unfolding kind_lists kind_of node_of roll-ExprKind denote.Hole.Carrier.roll
index_listed world env a number =
    let layer : Layer = ExprKind-F.Index a number in ap (λ (k : Kind). k.items) (fold-roll-ExprKind Slot Ty Kind Node (kind_step world env) node_step layer)

pub cast_listed : (world : World) (env : Env) (to : Ty) (a : TypedExpr) → kind_lists world env (exprs.Cast to a None) ≡ []
unfolding kind_lists kind_of node_of roll-ExprKind denote.Hole.Carrier.roll
cast_listed world env to a =
    let layer : Layer = ExprKind-F.Cast to a None in ap (λ (k : Kind). k.items) (fold-roll-ExprKind Slot Ty Kind Node (kind_step world env) node_step layer)

pub sized_cast_listed : (world : World) (env : Env) (to : Ty) (a b : TypedExpr) → kind_lists world env (exprs.Cast to a (Some b)) ≡ []
unfolding kind_lists kind_of node_of roll-ExprKind denote.Hole.Carrier.roll
sized_cast_listed world env to a b =
    let layer : Layer = ExprKind-F.Cast to a (Some b) in ap (λ (k : Kind). k.items) (fold-roll-ExprKind Slot Ty Kind Node (kind_step world env) node_step layer)

pub call_listed : (world : World) (env : Env) (callee : Callee) (args : List TypedExpr) → kind_lists world env (exprs.Call callee args) ≡ []
unfolding kind_lists kind_of node_of roll-ExprKind denote.Hole.Carrier.roll
call_listed world env callee args =
    let layer : Layer = ExprKind-F.Call callee args in ap (λ (k : Kind). k.items) (fold-roll-ExprKind Slot Ty Kind Node (kind_step world env) node_step layer)

pub new_listed : (world : World) (env : Env) (callee : Callee) (args : List TypedExpr) → kind_lists world env (exprs.New callee args) ≡ []
unfolding kind_lists kind_of node_of roll-ExprKind denote.Hole.Carrier.roll
new_listed world env callee args =
    let layer : Layer = ExprKind-F.New callee args in ap (λ (k : Kind). k.items) (fold-roll-ExprKind Slot Ty Kind Node (kind_step world env) node_step layer)

pub array_listed : (world : World) (env : Env) (items : List TypedExpr) → kind_lists world env (exprs.Array items) ≡ map (value_of world env) items
unfolding kind_lists kind_of node_of roll-ExprKind denote.Hole.Carrier.roll
array_listed world env items =
    let layer : Layer = ExprKind-F.Array items in ap (λ (k : Kind). k.items) (fold-roll-ExprKind Slot Ty Kind Node (kind_step world env) node_step layer) ∙ map-map (λ (n : Node). n.value) (node_of world env) items

pub look0_listed : (world : World) (env : Env) (what : Look0) → kind_lists world env (exprs.Look0 what) ≡ []
unfolding kind_lists kind_of node_of roll-ExprKind denote.Hole.Carrier.roll
look0_listed world env what =
    let layer : Layer = ExprKind-F.Look0 what in ap (λ (k : Kind). k.items) (fold-roll-ExprKind Slot Ty Kind Node (kind_step world env) node_step layer)

pub look_at_listed : (world : World) (env : Env) (what : LookAt) (a : TypedExpr) → kind_lists world env (exprs.LookAt what a) ≡ []
unfolding kind_lists kind_of node_of roll-ExprKind denote.Hole.Carrier.roll
look_at_listed world env what a =
    let layer : Layer = ExprKind-F.LookAt what a in ap (λ (k : Kind). k.items) (fold-roll-ExprKind Slot Ty Kind Node (kind_step world env) node_step layer)

no_array_layer : (world : World) (env : Env) (layer : Layer) → ((items : List TypedExpr) → roll-ExprKind Slot Ty layer ≡ exprs.Array items → ⊥) → kind_lists world env (roll-ExprKind Slot Ty layer) ≡ []
unfolding roll-ExprKind denote.Hole.Carrier.roll
no_array_layer world env (ExprKind-F.Int digits unit) other = int_listed world env digits unit
no_array_layer world env (ExprKind-F.Bool b) other = bool_listed world env b
no_array_layer world env (ExprKind-F.Hex bytes) other = hex_listed world env bytes
no_array_layer world env (ExprKind-F.Text bytes) other = text_listed world env bytes
no_array_layer world env (ExprKind-F.Date seconds) other = date_listed world env seconds
no_array_layer world env (ExprKind-F.Name slot) other = name_listed world env slot
no_array_layer world env (ExprKind-F.Unary op a) other = unary_listed world env op a
no_array_layer world env (ExprKind-F.Binary op a b) other = binary_listed world env op a b
no_array_layer world env (ExprKind-F.Length a) other = length_listed world env a
no_array_layer world env (ExprKind-F.Reverse a) other = reverse_listed world env a
no_array_layer world env (ExprKind-F.Split a b) other = split_listed world env a b
no_array_layer world env (ExprKind-F.Index a number) other = index_listed world env a number
no_array_layer world env (ExprKind-F.Cast to a None) other = cast_listed world env to a
no_array_layer world env (ExprKind-F.Cast to a (Some b)) other = sized_cast_listed world env to a b
no_array_layer world env (ExprKind-F.Call callee args) other = call_listed world env callee args
no_array_layer world env (ExprKind-F.New callee args) other = new_listed world env callee args
no_array_layer world env (ExprKind-F.Array items) other = absurd (other items refl)
no_array_layer world env (ExprKind-F.Look0 what) other = look0_listed world env what
no_array_layer world env (ExprKind-F.LookAt what a) other = look_at_listed world env what a

-- what is no array has no items
pub no_array_listed : (world : World) (env : Env) (kind : ExprKind Slot Ty) → ((items : List TypedExpr) → kind ≡ exprs.Array items → ⊥) → kind_lists world env kind ≡ []
no_array_listed world env kind other =
    let is = roll-out-ExprKind Slot Ty kind in
    ap (kind_lists world env) (sym is) ∙ no_array_layer world env (out-ExprKind Slot Ty kind) (λ items same. other items (sym is ∙ same))

-- an array has as many items as values
pub array_count : (world : World) (env : Env) (items : List TypedExpr) → length (kind_lists world env (exprs.Array items)) ≡ length items
array_count world env items = ap length (array_listed world env items) ∙ length-map items (value_of world env)
