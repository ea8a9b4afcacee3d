-- The price of each kind of expression, by its line in the definition.
use Rattle.std.proofs.Common.{◌≡◌, ℕ, ℤ, Bool, ◌*◌, List, [], map, pos, ap, sym, ◌∙◌, refl}
use Rattle.std.specs.Prelude.{Some, None, Option}
use Rattle.std.proofs.lemmas.Simd.{map-map}
use Rattle.cash_base.specs.declared.place.Slot.{Slot}
use Rattle.cash_base.specs.declared.look.Look0.{Look0}
use Rattle.cash_base.specs.declared.look.LookAt.{LookAt}
use Rattle.cash_base.specs.Number.{minimal_bytes}
use Rattle.cash_tree.specs.declared.Ty.{Ty}
use Rattle.cash_tree.specs.declared.UnaryOp.{UnaryOp}
use Rattle.cash_tree.specs.declared.BinaryOp.{BinaryOp}
use Rattle.cash_tree.specs.declared.Callee.{Callee}
use Rattle.cash_tree.specs.declared.ExprKind.{ExprKind}
use Rattle.cash_tree.specs.declared.ExprKind.TheVariants as exprs
use Rattle.cash_tree.specs.declared.ExprKind.TheOpen.{ExprKind-F, Expr-F}
use Rattle.cash_tree.specs.declared.ExprKind.TheViews.{out-ExprKind, roll-ExprKind, roll-out-ExprKind}
use Rattle.cash_tree.specs.declared.ExprKind.TheFolds.{fold-roll-Expr, fold-roll-ExprKind}
use Rattle.type_tables.specs.Tables.{TypedExpr, cast_effect}
use Rattle.form_tables.specs.Forms.{is_int, binary_form}
use Rattle.slot_expressions.specs.Room.{Price, price, ◌⊕◌, one, two, sum, push_of, Node, Kind, binary_price, cast_price, call_price, cast_spelled as spelled_by, as_chunk, kind_step, node_step, priced, priced_kind, price_of, price_at, spelled, spelled_at, chunks_of, chunks_at}

abbrev Layer : Type 0
Layer = ExprKind-F Slot Ty (ExprKind Slot Ty) TypedExpr

abbrev none_spelled : Option (List ℕ)
none_spelled = None

abbrev no_prices : List Price
no_prices = []

abbrev Whole : Type 0
Whole = Expr-F Slot Ty (ExprKind Slot Ty) TypedExpr

pub whole_priced : (e : TypedExpr) → price_of e ≡ price_at e.kind
unfolding priced priced_kind price_at
whole_priced e =
    let layer : Whole = record { kind = e.kind; ty = e.ty; span = e.span } in
    ap (λ (n : Node). n.own) (fold-roll-Expr Slot Ty Kind Node kind_step node_step layer)

typed : (e : TypedExpr) → (priced e).ty ≡ e.ty
unfolding priced
typed e =
    let layer : Whole = record { kind = e.kind; ty = e.ty; span = e.span } in
    ap (λ (n : Node). n.ty) (fold-roll-Expr Slot Ty Kind Node kind_step node_step layer)

pub whole_spelled : (e : TypedExpr) → spelled e ≡ spelled_at e.kind
unfolding priced priced_kind spelled_at
whole_spelled e =
    let layer : Whole = record { kind = e.kind; ty = e.ty; span = e.span } in
    ap (λ (n : Node). n.spelled) (fold-roll-Expr Slot Ty Kind Node kind_step node_step layer)

pub whole_chunks : (e : TypedExpr) → chunks_of e ≡ chunks_at e.kind
unfolding priced priced_kind chunks_at
whole_chunks e =
    let layer : Whole = record { kind = e.kind; ty = e.ty; span = e.span } in
    ap (λ (n : Node). n.chunks) (fold-roll-Expr Slot Ty Kind Node kind_step node_step layer)

-- ---- prices

pub int_priced : (digits unit : ℕ) → price_at (exprs.Int digits unit) ≡ (push_of (minimal_bytes (pos (digits * unit))))
unfolding priced priced_kind price_at roll-ExprKind denote.Hole.Carrier.roll
int_priced digits unit =
    let layer : Layer = ExprKind-F.Int digits unit in ap (λ (k : Kind). k.own) (fold-roll-ExprKind Slot Ty Kind Node kind_step node_step layer)

pub bool_priced : (b : Bool) → price_at (exprs.Bool b) ≡ (price 1 0)
unfolding priced priced_kind price_at roll-ExprKind denote.Hole.Carrier.roll
bool_priced b =
    let layer : Layer = ExprKind-F.Bool b in ap (λ (k : Kind). k.own) (fold-roll-ExprKind Slot Ty Kind Node kind_step node_step layer)

pub hex_priced : (bytes : List ℕ) → price_at (exprs.Hex bytes) ≡ (push_of bytes)
unfolding priced priced_kind price_at roll-ExprKind denote.Hole.Carrier.roll
hex_priced bytes =
    let layer : Layer = ExprKind-F.Hex bytes in ap (λ (k : Kind). k.own) (fold-roll-ExprKind Slot Ty Kind Node kind_step node_step layer)

pub text_priced : (bytes : List ℕ) → price_at (exprs.Text bytes) ≡ (push_of bytes)
unfolding priced priced_kind price_at roll-ExprKind denote.Hole.Carrier.roll
text_priced bytes =
    let layer : Layer = ExprKind-F.Text bytes in ap (λ (k : Kind). k.own) (fold-roll-ExprKind Slot Ty Kind Node kind_step node_step layer)

pub date_priced : (seconds : ℤ) → price_at (exprs.Date seconds) ≡ (push_of (minimal_bytes seconds))
unfolding priced priced_kind price_at roll-ExprKind denote.Hole.Carrier.roll
date_priced seconds =
    let layer : Layer = ExprKind-F.Date seconds in ap (λ (k : Kind). k.own) (fold-roll-ExprKind Slot Ty Kind Node kind_step node_step layer)

pub name_priced : (slot : Slot) → price_at (exprs.Name slot) ≡ (price 4 1)
unfolding priced priced_kind price_at roll-ExprKind denote.Hole.Carrier.roll
name_priced slot =
    let layer : Layer = ExprKind-F.Name slot in ap (λ (k : Kind). k.own) (fold-roll-ExprKind Slot Ty Kind Node kind_step node_step layer)

pub unary_priced : (op : UnaryOp) (a : TypedExpr) → price_at (exprs.Unary op a) ≡ (one ⊕ price_of a)
unfolding priced priced_kind price_at roll-ExprKind denote.Hole.Carrier.roll
unary_priced op a =
    let layer : Layer = ExprKind-F.Unary op a in ap (λ (k : Kind). k.own) (fold-roll-ExprKind Slot Ty Kind Node kind_step node_step layer)

pub binary_priced : (op : BinaryOp) (a b : TypedExpr) → price_at (exprs.Binary op a b) ≡ (binary_price (binary_form (is_int a.ty) op) ⊕ price_of a ⊕ price_of b)
unfolding priced priced_kind price_at roll-ExprKind denote.Hole.Carrier.roll
binary_priced op a b =
    let layer : Layer = ExprKind-F.Binary op a b in ap (λ (k : Kind). k.own) (fold-roll-ExprKind Slot Ty Kind Node kind_step node_step layer)
    ∙ ap (λ t. binary_price (binary_form (is_int t) op) ⊕ price_of a ⊕ price_of b) (typed a)

pub length_priced : (a : TypedExpr) → price_at (exprs.Length a) ≡ (two ⊕ price_of a)
unfolding priced priced_kind price_at roll-ExprKind denote.Hole.Carrier.roll
length_priced a =
    let layer : Layer = ExprKind-F.Length a in ap (λ (k : Kind). k.own) (fold-roll-ExprKind Slot Ty Kind Node kind_step node_step layer)

pub reverse_priced : (a : TypedExpr) → price_at (exprs.Reverse a) ≡ (one ⊕ price_of a)
unfolding priced priced_kind price_at roll-ExprKind denote.Hole.Carrier.roll
reverse_priced a =
    let layer : Layer = ExprKind-F.Reverse a in ap (λ (k : Kind). k.own) (fold-roll-ExprKind Slot Ty Kind Node kind_step node_step layer)

pub split_priced : (a b : TypedExpr) → price_at (exprs.Split a b) ≡ (two ⊕ price_of a ⊕ price_of b)
unfolding priced priced_kind price_at roll-ExprKind denote.Hole.Carrier.roll
split_priced a b =
    let layer : Layer = ExprKind-F.Split a b in ap (λ (k : Kind). k.own) (fold-roll-ExprKind Slot Ty Kind Node kind_step node_step layer)

pub index_priced : (a : TypedExpr) (number : ℕ) → price_at (exprs.Index a number) ≡ (price_of a)
unfolding priced priced_kind price_at roll-ExprKind denote.Hole.Carrier.roll
index_priced a number =
    let layer : Layer = ExprKind-F.Index a number in ap (λ (k : Kind). k.own) (fold-roll-ExprKind Slot Ty Kind Node kind_step node_step layer)

pub cast_priced : (to : Ty) (a : TypedExpr) → price_at (exprs.Cast to a None) ≡ (cast_price (cast_effect to a.ty) ⊕ price_of a)
unfolding priced priced_kind price_at roll-ExprKind denote.Hole.Carrier.roll
cast_priced to a =
    let layer : Layer = ExprKind-F.Cast to a None in ap (λ (k : Kind). k.own) (fold-roll-ExprKind Slot Ty Kind Node kind_step node_step layer)
    ∙ ap (λ t. cast_price (cast_effect to t) ⊕ price_of a) (typed a)

pub sized_cast_priced : (to : Ty) (a b : TypedExpr) → price_at (exprs.Cast to a (Some b)) ≡ (one ⊕ price_of a ⊕ price_of b)
unfolding priced priced_kind price_at roll-ExprKind denote.Hole.Carrier.roll
sized_cast_priced to a b =
    let layer : Layer = ExprKind-F.Cast to a (Some b) in ap (λ (k : Kind). k.own) (fold-roll-ExprKind Slot Ty Kind Node kind_step node_step layer)

pub call_priced : (callee : Callee) (args : List TypedExpr) → price_at (exprs.Call callee args) ≡ (call_price callee (map priced args))
unfolding priced priced_kind price_at roll-ExprKind denote.Hole.Carrier.roll
call_priced callee args =
    let layer : Layer = ExprKind-F.Call callee args in ap (λ (k : Kind). k.own) (fold-roll-ExprKind Slot Ty Kind Node kind_step node_step layer)

pub new_priced : (callee : Callee) (args : List TypedExpr) → price_at (exprs.New callee args) ≡ (call_price callee (map priced args))
unfolding priced priced_kind price_at roll-ExprKind denote.Hole.Carrier.roll
new_priced callee args =
    let layer : Layer = ExprKind-F.New callee args in ap (λ (k : Kind). k.own) (fold-roll-ExprKind Slot Ty Kind Node kind_step node_step layer)

pub array_priced : (items : List TypedExpr) → price_at (exprs.Array items) ≡ (sum (map price_of items))
unfolding priced priced_kind price_at roll-ExprKind denote.Hole.Carrier.roll
array_priced items =
    let layer : Layer = ExprKind-F.Array items in ap (λ (k : Kind). k.own) (fold-roll-ExprKind Slot Ty Kind Node kind_step node_step layer)
    ∙ ap sum (map-map (λ (n : Node). n.own) priced items)

pub look0_priced : (what : Look0) → price_at (exprs.Look0 what) ≡ (one)
unfolding priced priced_kind price_at roll-ExprKind denote.Hole.Carrier.roll
look0_priced what =
    let layer : Layer = ExprKind-F.Look0 what in ap (λ (k : Kind). k.own) (fold-roll-ExprKind Slot Ty Kind Node kind_step node_step layer)

pub look_at_priced : (what : LookAt) (a : TypedExpr) → price_at (exprs.LookAt what a) ≡ (one ⊕ price_of a)
unfolding priced priced_kind price_at roll-ExprKind denote.Hole.Carrier.roll
look_at_priced what a =
    let layer : Layer = ExprKind-F.LookAt what a in ap (λ (k : Kind). k.own) (fold-roll-ExprKind Slot Ty Kind Node kind_step node_step layer)

-- ---- literals

int_spelled : (digits unit : ℕ) → spelled_at (exprs.Int digits unit) ≡ none_spelled
unfolding priced priced_kind spelled_at roll-ExprKind denote.Hole.Carrier.roll
int_spelled digits unit =
    let layer : Layer = ExprKind-F.Int digits unit in ap (λ (k : Kind). k.spelled) (fold-roll-ExprKind Slot Ty Kind Node kind_step node_step layer)

bool_spelled : (b : Bool) → spelled_at (exprs.Bool b) ≡ none_spelled
unfolding priced priced_kind spelled_at roll-ExprKind denote.Hole.Carrier.roll
bool_spelled b =
    let layer : Layer = ExprKind-F.Bool b in ap (λ (k : Kind). k.spelled) (fold-roll-ExprKind Slot Ty Kind Node kind_step node_step layer)

pub hex_spelled : (bytes : List ℕ) → spelled_at (exprs.Hex bytes) ≡ (Some bytes)
unfolding priced priced_kind spelled_at roll-ExprKind denote.Hole.Carrier.roll
hex_spelled bytes =
    let layer : Layer = ExprKind-F.Hex bytes in ap (λ (k : Kind). k.spelled) (fold-roll-ExprKind Slot Ty Kind Node kind_step node_step layer)

pub text_spelled : (bytes : List ℕ) → spelled_at (exprs.Text bytes) ≡ (Some bytes)
unfolding priced priced_kind spelled_at roll-ExprKind denote.Hole.Carrier.roll
text_spelled bytes =
    let layer : Layer = ExprKind-F.Text bytes in ap (λ (k : Kind). k.spelled) (fold-roll-ExprKind Slot Ty Kind Node kind_step node_step layer)

date_spelled : (seconds : ℤ) → spelled_at (exprs.Date seconds) ≡ none_spelled
unfolding priced priced_kind spelled_at roll-ExprKind denote.Hole.Carrier.roll
date_spelled seconds =
    let layer : Layer = ExprKind-F.Date seconds in ap (λ (k : Kind). k.spelled) (fold-roll-ExprKind Slot Ty Kind Node kind_step node_step layer)

name_spelled : (slot : Slot) → spelled_at (exprs.Name slot) ≡ none_spelled
unfolding priced priced_kind spelled_at roll-ExprKind denote.Hole.Carrier.roll
name_spelled slot =
    let layer : Layer = ExprKind-F.Name slot in ap (λ (k : Kind). k.spelled) (fold-roll-ExprKind Slot Ty Kind Node kind_step node_step layer)

unary_spelled : (op : UnaryOp) (a : TypedExpr) → spelled_at (exprs.Unary op a) ≡ none_spelled
unfolding priced priced_kind spelled_at roll-ExprKind denote.Hole.Carrier.roll
unary_spelled op a =
    let layer : Layer = ExprKind-F.Unary op a in ap (λ (k : Kind). k.spelled) (fold-roll-ExprKind Slot Ty Kind Node kind_step node_step layer)

binary_spelled : (op : BinaryOp) (a b : TypedExpr) → spelled_at (exprs.Binary op a b) ≡ none_spelled
unfolding priced priced_kind spelled_at roll-ExprKind denote.Hole.Carrier.roll
binary_spelled op a b =
    let layer : Layer = ExprKind-F.Binary op a b in ap (λ (k : Kind). k.spelled) (fold-roll-ExprKind Slot Ty Kind Node kind_step node_step layer)

length_spelled : (a : TypedExpr) → spelled_at (exprs.Length a) ≡ none_spelled
unfolding priced priced_kind spelled_at roll-ExprKind denote.Hole.Carrier.roll
length_spelled a =
    let layer : Layer = ExprKind-F.Length a in ap (λ (k : Kind). k.spelled) (fold-roll-ExprKind Slot Ty Kind Node kind_step node_step layer)

reverse_spelled : (a : TypedExpr) → spelled_at (exprs.Reverse a) ≡ none_spelled
unfolding priced priced_kind spelled_at roll-ExprKind denote.Hole.Carrier.roll
reverse_spelled a =
    let layer : Layer = ExprKind-F.Reverse a in ap (λ (k : Kind). k.spelled) (fold-roll-ExprKind Slot Ty Kind Node kind_step node_step layer)

split_spelled : (a b : TypedExpr) → spelled_at (exprs.Split a b) ≡ none_spelled
unfolding priced priced_kind spelled_at roll-ExprKind denote.Hole.Carrier.roll
split_spelled a b =
    let layer : Layer = ExprKind-F.Split a b in ap (λ (k : Kind). k.spelled) (fold-roll-ExprKind Slot Ty Kind Node kind_step node_step layer)

index_spelled : (a : TypedExpr) (number : ℕ) → spelled_at (exprs.Index a number) ≡ none_spelled
unfolding priced priced_kind spelled_at roll-ExprKind denote.Hole.Carrier.roll
index_spelled a number =
    let layer : Layer = ExprKind-F.Index a number in ap (λ (k : Kind). k.spelled) (fold-roll-ExprKind Slot Ty Kind Node kind_step node_step layer)

pub cast_spelled : (to : Ty) (a : TypedExpr) → spelled_at (exprs.Cast to a None) ≡ (spelled_by (cast_effect to a.ty) (spelled a))
unfolding priced priced_kind spelled_at roll-ExprKind denote.Hole.Carrier.roll
cast_spelled to a =
    let layer : Layer = ExprKind-F.Cast to a None in ap (λ (k : Kind). k.spelled) (fold-roll-ExprKind Slot Ty Kind Node kind_step node_step layer)
    ∙ ap (λ t. spelled_by (cast_effect to t) (spelled a)) (typed a)

pub sized_cast_spelled : (to : Ty) (a b : TypedExpr) → spelled_at (exprs.Cast to a (Some b)) ≡ none_spelled
unfolding priced priced_kind spelled_at roll-ExprKind denote.Hole.Carrier.roll
sized_cast_spelled to a b =
    let layer : Layer = ExprKind-F.Cast to a (Some b) in ap (λ (k : Kind). k.spelled) (fold-roll-ExprKind Slot Ty Kind Node kind_step node_step layer)

call_spelled : (callee : Callee) (args : List TypedExpr) → spelled_at (exprs.Call callee args) ≡ none_spelled
unfolding priced priced_kind spelled_at roll-ExprKind denote.Hole.Carrier.roll
call_spelled callee args =
    let layer : Layer = ExprKind-F.Call callee args in ap (λ (k : Kind). k.spelled) (fold-roll-ExprKind Slot Ty Kind Node kind_step node_step layer)

new_spelled : (callee : Callee) (args : List TypedExpr) → spelled_at (exprs.New callee args) ≡ none_spelled
unfolding priced priced_kind spelled_at roll-ExprKind denote.Hole.Carrier.roll
new_spelled callee args =
    let layer : Layer = ExprKind-F.New callee args in ap (λ (k : Kind). k.spelled) (fold-roll-ExprKind Slot Ty Kind Node kind_step node_step layer)

array_spelled : (items : List TypedExpr) → spelled_at (exprs.Array items) ≡ none_spelled
unfolding priced priced_kind spelled_at roll-ExprKind denote.Hole.Carrier.roll
array_spelled items =
    let layer : Layer = ExprKind-F.Array items in ap (λ (k : Kind). k.spelled) (fold-roll-ExprKind Slot Ty Kind Node kind_step node_step layer)

look0_spelled : (what : Look0) → spelled_at (exprs.Look0 what) ≡ none_spelled
unfolding priced priced_kind spelled_at roll-ExprKind denote.Hole.Carrier.roll
look0_spelled what =
    let layer : Layer = ExprKind-F.Look0 what in ap (λ (k : Kind). k.spelled) (fold-roll-ExprKind Slot Ty Kind Node kind_step node_step layer)

look_at_spelled : (what : LookAt) (a : TypedExpr) → spelled_at (exprs.LookAt what a) ≡ none_spelled
unfolding priced priced_kind spelled_at roll-ExprKind denote.Hole.Carrier.roll
look_at_spelled what a =
    let layer : Layer = ExprKind-F.LookAt what a in ap (λ (k : Kind). k.spelled) (fold-roll-ExprKind Slot Ty Kind Node kind_step node_step layer)

plain_layer : (layer : Layer) → ((bytes : List ℕ) → roll-ExprKind Slot Ty layer ≡ exprs.Hex bytes → ⊥) → ((bytes : List ℕ) → roll-ExprKind Slot Ty layer ≡ exprs.Text bytes → ⊥)
    → ((to : Ty) (value : TypedExpr) (size : Option TypedExpr) → roll-ExprKind Slot Ty layer ≡ exprs.Cast to value size → ⊥) → spelled_at (roll-ExprKind Slot Ty layer) ≡ None
unfolding roll-ExprKind denote.Hole.Carrier.roll
plain_layer (ExprKind-F.Int digits unit) no_hex no_text no_cast = int_spelled digits unit
plain_layer (ExprKind-F.Bool b) no_hex no_text no_cast = bool_spelled b
plain_layer (ExprKind-F.Hex bytes) no_hex no_text no_cast = absurd (no_hex bytes refl)
plain_layer (ExprKind-F.Text bytes) no_hex no_text no_cast = absurd (no_text bytes refl)
plain_layer (ExprKind-F.Date seconds) no_hex no_text no_cast = date_spelled seconds
plain_layer (ExprKind-F.Name slot) no_hex no_text no_cast = name_spelled slot
plain_layer (ExprKind-F.Unary op a) no_hex no_text no_cast = unary_spelled op a
plain_layer (ExprKind-F.Binary op a b) no_hex no_text no_cast = binary_spelled op a b
plain_layer (ExprKind-F.Length a) no_hex no_text no_cast = length_spelled a
plain_layer (ExprKind-F.Reverse a) no_hex no_text no_cast = reverse_spelled a
plain_layer (ExprKind-F.Split a b) no_hex no_text no_cast = split_spelled a b
plain_layer (ExprKind-F.Index a number) no_hex no_text no_cast = index_spelled a number
plain_layer (ExprKind-F.Cast to a None) no_hex no_text no_cast = absurd (no_cast to a None refl)
plain_layer (ExprKind-F.Cast to a (Some b)) no_hex no_text no_cast = absurd (no_cast to a (Some b) refl)
plain_layer (ExprKind-F.Call callee args) no_hex no_text no_cast = call_spelled callee args
plain_layer (ExprKind-F.New callee args) no_hex no_text no_cast = new_spelled callee args
plain_layer (ExprKind-F.Array items) no_hex no_text no_cast = array_spelled items
plain_layer (ExprKind-F.Look0 what) no_hex no_text no_cast = look0_spelled what
plain_layer (ExprKind-F.LookAt what a) no_hex no_text no_cast = look_at_spelled what a

-- what is no literal and no cast is spelled by no literal
pub plain_spelled : (kind : ExprKind Slot Ty) → ((bytes : List ℕ) → kind ≡ exprs.Hex bytes → ⊥) → ((bytes : List ℕ) → kind ≡ exprs.Text bytes → ⊥)
    → ((to : Ty) (value : TypedExpr) (size : Option TypedExpr) → kind ≡ exprs.Cast to value size → ⊥) → spelled_at kind ≡ None
plain_spelled kind no_hex no_text no_cast =
    let is = roll-out-ExprKind Slot Ty kind in
    ap spelled_at (sym is) ∙ plain_layer (out-ExprKind Slot Ty kind) (λ bytes same. no_hex bytes (sym is ∙ same)) (λ bytes same. no_text bytes (sym is ∙ same)) (λ to value size same. no_cast to value size (sym is ∙ same))

-- ---- the items of an array

int_chunks : (digits unit : ℕ) → chunks_at (exprs.Int digits unit) ≡ no_prices
unfolding priced priced_kind chunks_at roll-ExprKind denote.Hole.Carrier.roll
int_chunks digits unit =
    let layer : Layer = ExprKind-F.Int digits unit in ap (λ (k : Kind). k.chunks) (fold-roll-ExprKind Slot Ty Kind Node kind_step node_step layer)

bool_chunks : (b : Bool) → chunks_at (exprs.Bool b) ≡ no_prices
unfolding priced priced_kind chunks_at roll-ExprKind denote.Hole.Carrier.roll
bool_chunks b =
    let layer : Layer = ExprKind-F.Bool b in ap (λ (k : Kind). k.chunks) (fold-roll-ExprKind Slot Ty Kind Node kind_step node_step layer)

hex_chunks : (bytes : List ℕ) → chunks_at (exprs.Hex bytes) ≡ no_prices
unfolding priced priced_kind chunks_at roll-ExprKind denote.Hole.Carrier.roll
hex_chunks bytes =
    let layer : Layer = ExprKind-F.Hex bytes in ap (λ (k : Kind). k.chunks) (fold-roll-ExprKind Slot Ty Kind Node kind_step node_step layer)

text_chunks : (bytes : List ℕ) → chunks_at (exprs.Text bytes) ≡ no_prices
unfolding priced priced_kind chunks_at roll-ExprKind denote.Hole.Carrier.roll
text_chunks bytes =
    let layer : Layer = ExprKind-F.Text bytes in ap (λ (k : Kind). k.chunks) (fold-roll-ExprKind Slot Ty Kind Node kind_step node_step layer)

date_chunks : (seconds : ℤ) → chunks_at (exprs.Date seconds) ≡ no_prices
unfolding priced priced_kind chunks_at roll-ExprKind denote.Hole.Carrier.roll
date_chunks seconds =
    let layer : Layer = ExprKind-F.Date seconds in ap (λ (k : Kind). k.chunks) (fold-roll-ExprKind Slot Ty Kind Node kind_step node_step layer)

name_chunks : (slot : Slot) → chunks_at (exprs.Name slot) ≡ no_prices
unfolding priced priced_kind chunks_at roll-ExprKind denote.Hole.Carrier.roll
name_chunks slot =
    let layer : Layer = ExprKind-F.Name slot in ap (λ (k : Kind). k.chunks) (fold-roll-ExprKind Slot Ty Kind Node kind_step node_step layer)

unary_chunks : (op : UnaryOp) (a : TypedExpr) → chunks_at (exprs.Unary op a) ≡ no_prices
unfolding priced priced_kind chunks_at roll-ExprKind denote.Hole.Carrier.roll
unary_chunks op a =
    let layer : Layer = ExprKind-F.Unary op a in ap (λ (k : Kind). k.chunks) (fold-roll-ExprKind Slot Ty Kind Node kind_step node_step layer)

binary_chunks : (op : BinaryOp) (a b : TypedExpr) → chunks_at (exprs.Binary op a b) ≡ no_prices
unfolding priced priced_kind chunks_at roll-ExprKind denote.Hole.Carrier.roll
binary_chunks op a b =
    let layer : Layer = ExprKind-F.Binary op a b in ap (λ (k : Kind). k.chunks) (fold-roll-ExprKind Slot Ty Kind Node kind_step node_step layer)

length_chunks : (a : TypedExpr) → chunks_at (exprs.Length a) ≡ no_prices
unfolding priced priced_kind chunks_at roll-ExprKind denote.Hole.Carrier.roll
length_chunks a =
    let layer : Layer = ExprKind-F.Length a in ap (λ (k : Kind). k.chunks) (fold-roll-ExprKind Slot Ty Kind Node kind_step node_step layer)

reverse_chunks : (a : TypedExpr) → chunks_at (exprs.Reverse a) ≡ no_prices
unfolding priced priced_kind chunks_at roll-ExprKind denote.Hole.Carrier.roll
reverse_chunks a =
    let layer : Layer = ExprKind-F.Reverse a in ap (λ (k : Kind). k.chunks) (fold-roll-ExprKind Slot Ty Kind Node kind_step node_step layer)

split_chunks : (a b : TypedExpr) → chunks_at (exprs.Split a b) ≡ no_prices
unfolding priced priced_kind chunks_at roll-ExprKind denote.Hole.Carrier.roll
split_chunks a b =
    let layer : Layer = ExprKind-F.Split a b in ap (λ (k : Kind). k.chunks) (fold-roll-ExprKind Slot Ty Kind Node kind_step node_step layer)

index_chunks : (a : TypedExpr) (number : ℕ) → chunks_at (exprs.Index a number) ≡ no_prices
unfolding priced priced_kind chunks_at roll-ExprKind denote.Hole.Carrier.roll
index_chunks a number =
    let layer : Layer = ExprKind-F.Index a number in ap (λ (k : Kind). k.chunks) (fold-roll-ExprKind Slot Ty Kind Node kind_step node_step layer)

cast_chunks : (to : Ty) (a : TypedExpr) → chunks_at (exprs.Cast to a None) ≡ no_prices
unfolding priced priced_kind chunks_at roll-ExprKind denote.Hole.Carrier.roll
cast_chunks to a =
    let layer : Layer = ExprKind-F.Cast to a None in ap (λ (k : Kind). k.chunks) (fold-roll-ExprKind Slot Ty Kind Node kind_step node_step layer)

sized_cast_chunks : (to : Ty) (a b : TypedExpr) → chunks_at (exprs.Cast to a (Some b)) ≡ no_prices
unfolding priced priced_kind chunks_at roll-ExprKind denote.Hole.Carrier.roll
sized_cast_chunks to a b =
    let layer : Layer = ExprKind-F.Cast to a (Some b) in ap (λ (k : Kind). k.chunks) (fold-roll-ExprKind Slot Ty Kind Node kind_step node_step layer)

call_chunks : (callee : Callee) (args : List TypedExpr) → chunks_at (exprs.Call callee args) ≡ no_prices
unfolding priced priced_kind chunks_at roll-ExprKind denote.Hole.Carrier.roll
call_chunks callee args =
    let layer : Layer = ExprKind-F.Call callee args in ap (λ (k : Kind). k.chunks) (fold-roll-ExprKind Slot Ty Kind Node kind_step node_step layer)

new_chunks : (callee : Callee) (args : List TypedExpr) → chunks_at (exprs.New callee args) ≡ no_prices
unfolding priced priced_kind chunks_at roll-ExprKind denote.Hole.Carrier.roll
new_chunks callee args =
    let layer : Layer = ExprKind-F.New callee args in ap (λ (k : Kind). k.chunks) (fold-roll-ExprKind Slot Ty Kind Node kind_step node_step layer)

pub array_chunks : (items : List TypedExpr) → chunks_at (exprs.Array items) ≡ (map (λ (e : TypedExpr). as_chunk (priced e)) items)
unfolding priced priced_kind chunks_at roll-ExprKind denote.Hole.Carrier.roll
array_chunks items =
    let layer : Layer = ExprKind-F.Array items in ap (λ (k : Kind). k.chunks) (fold-roll-ExprKind Slot Ty Kind Node kind_step node_step layer)
    ∙ map-map as_chunk priced items

look0_chunks : (what : Look0) → chunks_at (exprs.Look0 what) ≡ no_prices
unfolding priced priced_kind chunks_at roll-ExprKind denote.Hole.Carrier.roll
look0_chunks what =
    let layer : Layer = ExprKind-F.Look0 what in ap (λ (k : Kind). k.chunks) (fold-roll-ExprKind Slot Ty Kind Node kind_step node_step layer)

look_at_chunks : (what : LookAt) (a : TypedExpr) → chunks_at (exprs.LookAt what a) ≡ no_prices
unfolding priced priced_kind chunks_at roll-ExprKind denote.Hole.Carrier.roll
look_at_chunks what a =
    let layer : Layer = ExprKind-F.LookAt what a in ap (λ (k : Kind). k.chunks) (fold-roll-ExprKind Slot Ty Kind Node kind_step node_step layer)

no_array_layer : (layer : Layer) → ((items : List TypedExpr) → roll-ExprKind Slot Ty layer ≡ exprs.Array items → ⊥) → chunks_at (roll-ExprKind Slot Ty layer) ≡ []
unfolding roll-ExprKind denote.Hole.Carrier.roll
no_array_layer (ExprKind-F.Int digits unit) other = int_chunks digits unit
no_array_layer (ExprKind-F.Bool b) other = bool_chunks b
no_array_layer (ExprKind-F.Hex bytes) other = hex_chunks bytes
no_array_layer (ExprKind-F.Text bytes) other = text_chunks bytes
no_array_layer (ExprKind-F.Date seconds) other = date_chunks seconds
no_array_layer (ExprKind-F.Name slot) other = name_chunks slot
no_array_layer (ExprKind-F.Unary op a) other = unary_chunks op a
no_array_layer (ExprKind-F.Binary op a b) other = binary_chunks op a b
no_array_layer (ExprKind-F.Length a) other = length_chunks a
no_array_layer (ExprKind-F.Reverse a) other = reverse_chunks a
no_array_layer (ExprKind-F.Split a b) other = split_chunks a b
no_array_layer (ExprKind-F.Index a number) other = index_chunks a number
no_array_layer (ExprKind-F.Cast to a None) other = cast_chunks to a
no_array_layer (ExprKind-F.Cast to a (Some b)) other = sized_cast_chunks to a b
no_array_layer (ExprKind-F.Call callee args) other = call_chunks callee args
no_array_layer (ExprKind-F.New callee args) other = new_chunks callee args
no_array_layer (ExprKind-F.Array items) other = absurd (other items refl)
no_array_layer (ExprKind-F.Look0 what) other = look0_chunks what
no_array_layer (ExprKind-F.LookAt what a) other = look_at_chunks what a

-- what is no array has no items
pub no_array_chunks : (kind : ExprKind Slot Ty) → ((items : List TypedExpr) → kind ≡ exprs.Array items → ⊥) → chunks_at kind ≡ []
no_array_chunks kind other =
    let is = roll-out-ExprKind Slot Ty kind in
    ap chunks_at (sym is) ∙ no_array_layer (out-ExprKind Slot Ty kind) (λ items same. other items (sym is ∙ same))
