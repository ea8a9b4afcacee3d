-- How many bytes and counted opcodes the code of an expression may have, summed node by node over its typed tree.
use Rattle.std.specs.Prelude.{ℕ, ◌+◌, ◌*◌, nat_le, if◌then◌else◌, List, [], ◌∷◌, length, map, pos, Option, Some, None}
use Rattle.cash_base.specs.declared.place.Slot.{Slot}
use Rattle.cash_base.specs.Number.{minimal_bytes}
use Rattle.element_ops.specs.declared.op.Op1.{Op1}
use Rattle.element_ops.specs.declared.op.Op1.TheVariants.{Size}
use Rattle.script_codec.specs.Spelling.{minimal_push}
use Rattle.cash_tree.specs.declared.Ty.{Ty}
use Rattle.cash_tree.specs.declared.Callee.{Callee}
use Rattle.cash_tree.specs.declared.Callee.TheVariants.{Known, Unknown}
use Rattle.cash_tree.specs.declared.Expr.{Expr}
use Rattle.cash_tree.specs.declared.ExprKind.{ExprKind}
use Rattle.cash_tree.specs.declared.ExprKind.TheOpen.{ExprKind-F, Expr-F}
use Rattle.cash_tree.specs.declared.ExprKind.TheFolds.{fold-Expr, fold-ExprKind}
use Rattle.type_tables.specs.declared.rules.CastEffect.{CastEffect}
use Rattle.type_tables.specs.declared.rules.CastEffect.TheVariants as effects
use Rattle.type_tables.specs.Tables.{cast_effect}
use Rattle.form_tables.specs.declared.forms.BinaryForm.{BinaryForm}
use Rattle.form_tables.specs.declared.forms.BinaryForm.TheVariants as binary
use Rattle.form_tables.specs.declared.forms.CallForm.{CallForm}
use Rattle.form_tables.specs.declared.forms.CallForm.TheVariants as forms
use Rattle.form_tables.specs.declared.forms.Lock.TheVariants as locks
use Rattle.form_tables.specs.Forms.{is_int, binary_form, call_form, pushed_chunk}

-- bytes, and counted opcodes
pub record Price : Type 0 where
  pub bytes : ℕ
  pub ops : ℕ

abbrev pub price : ℕ → ℕ → Price
price bytes ops = record { bytes = bytes; ops = ops }

infixl 20 ◌⊕◌
abbrev pub ◌⊕◌ : Price → Price → Price
a ⊕ b = price (a.bytes + b.bytes) (a.ops + b.ops)

abbrev pub nothing : Price
nothing = price 0 0

-- an opcode
abbrev pub one : Price
one = price 1 1

abbrev pub two : Price
two = price 2 2

abbrev pub sum : List Price → Price
sum [] = nothing
sum (p ∷ ps) = p ⊕ sum ps

-- the minimal push of an element, which counts as no opcode
abbrev pub push_of : List ℕ → Price
push_of e = price (length (minimal_push e)) 0

-- ---- nodes

-- What the node around needs of one: its type, the price of its element, the bytes that the source spells where it is a
-- literal, also under casts that leave it as it is, and of an array the prices of its items as chunks of a script of data.
pub record Node : Type 0 where
  pub ty : Ty
  pub own : Price
  pub spelled : Option (List ℕ)
  pub chunks : List Price

pub record Kind : Type 0 where
  pub own : Price
  pub spelled : Option (List ℕ)
  pub chunks : List Price

abbrev pub owns : List Node → Price
owns nodes = sum (map (λ (n : Node). n.own) nodes)

-- the size of an element stays on top of it, and the element goes
abbrev pub op1_price : Op1 → Price
op1_price Size = two
op1_price _ = one

-- an operation, and a Not behind it where it has one
abbrev pub binary_price : BinaryForm → Price
binary_price (binary.Is op) = one
binary_price (binary.IsNot op) = two

-- most casts have no operation, and a padding pushes its length
abbrev pub cast_price : Option CastEffect → Price
cast_price (Some effects.NonZero) = one
cast_price (Some effects.ToNumber) = one
cast_price (Some (effects.Pad n)) = push_of (minimal_bytes (pos n)) ⊕ one
cast_price _ = nothing

-- a check of several signatures counts each of its keys
abbrev pub form_price : CallForm → List Node → Price
form_price (forms.One op) args = op1_price op ⊕ owns args
form_price forms.CheckMulti (sigs ∷ keys ∷ []) = price 6 (1 + length keys.chunks) ⊕ sigs.own ⊕ keys.own
form_price (forms.Locks locks.KeyHash) args = price 9 2 ⊕ owns args
form_price (forms.Locks locks.ScriptHash) args = price 7 2 ⊕ owns args
form_price forms.HoldsData (items ∷ []) = price 2 0 ⊕ sum items.chunks
form_price _ args = one ⊕ owns args

abbrev pub call_price : Callee → List Node → Price
call_price (Known f) args = form_price (call_form f) args
call_price (Unknown name) args = nothing

-- A truth value is pushed in a byte. A split is one opcode, and the choice of a part another, so an index pays for nothing.
abbrev pub kind_price : ExprKind-F Slot Ty Kind Node → Price
kind_price (ExprKind-F.Int digits unit) = push_of (minimal_bytes (pos (digits * unit)))
kind_price (ExprKind-F.Bool b) = price 1 0
kind_price (ExprKind-F.Hex bytes) = push_of bytes
kind_price (ExprKind-F.Text bytes) = push_of bytes
kind_price (ExprKind-F.Date seconds) = push_of (minimal_bytes seconds)
kind_price (ExprKind-F.Name slot) = price 4 1
kind_price (ExprKind-F.Unary op a) = one ⊕ a.own
kind_price (ExprKind-F.Binary op a b) = binary_price (binary_form (is_int a.ty) op) ⊕ a.own ⊕ b.own
kind_price (ExprKind-F.Length a) = two ⊕ a.own
kind_price (ExprKind-F.Reverse a) = one ⊕ a.own
kind_price (ExprKind-F.Split a b) = two ⊕ a.own ⊕ b.own
kind_price (ExprKind-F.Index a number) = a.own
kind_price (ExprKind-F.Cast to a None) = cast_price (cast_effect to a.ty) ⊕ a.own
kind_price (ExprKind-F.Cast to a (Some b)) = one ⊕ a.own ⊕ b.own
kind_price (ExprKind-F.Call callee args) = call_price callee args
kind_price (ExprKind-F.New callee args) = call_price callee args
kind_price (ExprKind-F.Array items) = owns items
kind_price (ExprKind-F.Look0 what) = one
kind_price (ExprKind-F.LookAt what a) = one ⊕ a.own

-- ---- chunks

-- the most bytes that an element holds beside their prefix
abbrev pub most_chunk : ℕ
most_chunk = 517

-- a literal is pushed with its prefix, and appended; any other chunk finds its prefix when the code runs
abbrev pub other_chunk : Price → Price
other_chunk own = price 40 26 ⊕ own

abbrev pub chunk_price : Option (List ℕ) → Price → Price
chunk_price None own = other_chunk own
chunk_price (Some bytes) own = if nat_le (length bytes) most_chunk then push_of (pushed_chunk bytes) ⊕ one else other_chunk own

abbrev pub as_chunk : Node → Price
as_chunk n = chunk_price n.spelled n.own

abbrev pub cast_spelled : Option CastEffect → Option (List ℕ) → Option (List ℕ)
cast_spelled (Some effects.Keep) spelled = spelled
cast_spelled _ spelled = None

abbrev pub kind_spelled : ExprKind-F Slot Ty Kind Node → Option (List ℕ)
kind_spelled (ExprKind-F.Hex bytes) = Some bytes
kind_spelled (ExprKind-F.Text bytes) = Some bytes
kind_spelled (ExprKind-F.Cast to a None) = cast_spelled (cast_effect to a.ty) a.spelled
kind_spelled _ = None

abbrev pub kind_chunks : ExprKind-F Slot Ty Kind Node → List Price
kind_chunks (ExprKind-F.Array items) = map as_chunk items
kind_chunks _ = []

-- ---- expressions

abbrev pub kind_step : ExprKind-F Slot Ty Kind Node → Kind
kind_step kind = record { own = kind_price kind; spelled = kind_spelled kind; chunks = kind_chunks kind }

abbrev pub node_step : Expr-F Slot Ty Kind Node → Node
node_step e = record { ty = e.ty; own = e.kind.own; spelled = e.kind.spelled; chunks = e.kind.chunks }

unfoldable pub priced : Expr Slot Ty → Node
priced e = fold-Expr Slot Ty Kind Node kind_step node_step e

unfoldable pub priced_kind : ExprKind Slot Ty → Kind
priced_kind kind = fold-ExprKind Slot Ty Kind Node kind_step node_step kind

-- the price of an expression, and of one of this kind
abbrev pub price_of : Expr Slot Ty → Price
price_of e = (priced e).own

unfoldable pub price_at : ExprKind Slot Ty → Price
price_at kind = (priced_kind kind).own

-- ... of its literal as a chunk
abbrev pub spelled : Expr Slot Ty → Option (List ℕ)
spelled e = (priced e).spelled

unfoldable pub spelled_at : ExprKind Slot Ty → Option (List ℕ)
spelled_at kind = (priced_kind kind).spelled

-- ... and of the items of an array
abbrev pub chunks_of : Expr Slot Ty → List Price
chunks_of e = (priced e).chunks

unfoldable pub chunks_at : ExprKind Slot Ty → List Price
chunks_at kind = (priced_kind kind).chunks
