-- Which expressions are lowered: the names that they read are known, their literals are elements, and their forms have the
-- parts that the types want.
use Rattle.std.specs.Prelude.{◌≡◌, ◌≤◌, ℕ, ◌*◌, nat_le, Bool, true, false, ◌&&◌, List, [], ◌∷◌, length, map, pos, Option, Some, None}
use Rattle.cash_base.specs.declared.place.Slot.{Slot}
use Rattle.element_ops.specs.Operand.{is_in_range}
use Rattle.cash_tree.specs.declared.Ty.{Ty}
use Rattle.cash_tree.specs.declared.Callee.{Callee}
use Rattle.cash_tree.specs.declared.Callee.TheVariants.{Known, Unknown}
use Rattle.cash_tree.specs.declared.Expr.{Expr}
use Rattle.cash_tree.specs.declared.ExprKind.{ExprKind}
use Rattle.cash_tree.specs.declared.ExprKind.TheOpen.{ExprKind-F, Expr-F}
use Rattle.cash_tree.specs.declared.ExprKind.TheFolds.{fold-Expr, fold-ExprKind}
use Rattle.type_tables.specs.declared.rules.CastEffect.{CastEffect}
use Rattle.type_tables.specs.declared.rules.CastEffect.TheVariants as effects
use Rattle.type_tables.specs.Tables.{cast_effect}
use Rattle.form_tables.specs.declared.forms.CallForm.{CallForm}
use Rattle.form_tables.specs.declared.forms.CallForm.TheVariants as forms
use Rattle.form_tables.specs.Forms.{call_form}
use Rattle.source_meaning.specs.Runnable.{all_of}

-- which names are known
abbrev pub Known-names : Type 0
Known-names = Slot → Bool

-- so that only the rest is asked
abbrev pub any_name : Known-names
any_name slot = true

-- an expression as the one above it sees it: its type, whether it is ready, and whether the items of an array are
pub record Node : Type 0 where
  pub ty : Ty
  pub ready : Bool
  pub items : List Bool

pub record Kind : Type 0 where
  pub ready : Bool
  pub items : List Bool

abbrev pub most_bytes : ℕ
most_bytes = 520

abbrev pub is_element : List ℕ → Bool
is_element bytes = nat_le (length bytes) most_bytes

-- the effects of a cast without a size
abbrev pub is_cast : Option CastEffect → Bool
is_cast (Some effects.Keep) = true
is_cast (Some effects.NonZero) = true
is_cast (Some (effects.Pad n)) = is_in_range (pos n)
is_cast (Some effects.ToNumber) = true
is_cast _ = false

-- at most 20 keys, and no more signatures than keys
abbrev pub counts_fit : ℕ → ℕ → Bool
counts_fit sigs keys = nat_le keys 20 && nat_le sigs keys

-- the arguments are as many as the form takes, and arrays where it takes arrays
abbrev pub form_ready : CallForm → List Node → Bool
form_ready (forms.One op) (a ∷ []) = a.ready
form_ready (forms.Two op) (a ∷ b ∷ []) = a.ready && b.ready
form_ready (forms.Three op) (a ∷ b ∷ c ∷ []) = a.ready && (b.ready && c.ready)
form_ready forms.CheckSig (a ∷ b ∷ []) = a.ready && b.ready
form_ready forms.CheckData (a ∷ b ∷ c ∷ []) = a.ready && (b.ready && c.ready)
form_ready forms.CheckMulti (a ∷ b ∷ []) = counts_fit (length a.items) (length b.items) && (all_of a.items && all_of b.items)
form_ready (forms.Locks lock) (a ∷ []) = a.ready
form_ready forms.HoldsData (a ∷ []) = all_of a.items
form_ready _ args = false

abbrev pub call_ready : Callee → List Node → Bool
call_ready (Known f) args = form_ready (call_form f) args
call_ready (Unknown name) args = false

-- an array stands only where a form takes one
abbrev pub kind_ready : Known-names → ExprKind-F Slot Ty Kind Node → Bool
kind_ready known (ExprKind-F.Int digits unit) = is_in_range (pos (digits * unit))
kind_ready known (ExprKind-F.Bool b) = true
kind_ready known (ExprKind-F.Hex bytes) = is_element bytes
kind_ready known (ExprKind-F.Text bytes) = is_element bytes
kind_ready known (ExprKind-F.Date seconds) = is_in_range seconds
kind_ready known (ExprKind-F.Name slot) = known slot
kind_ready known (ExprKind-F.Unary op a) = a.ready
kind_ready known (ExprKind-F.Binary op a b) = a.ready && b.ready
kind_ready known (ExprKind-F.Length a) = a.ready
kind_ready known (ExprKind-F.Reverse a) = a.ready
kind_ready known (ExprKind-F.Split a b) = a.ready && b.ready
kind_ready known (ExprKind-F.Index a number) = a.ready
kind_ready known (ExprKind-F.Cast to a None) = a.ready && is_cast (cast_effect to a.ty)
kind_ready known (ExprKind-F.Cast to a (Some b)) = a.ready && b.ready
kind_ready known (ExprKind-F.Call callee args) = call_ready callee args
kind_ready known (ExprKind-F.New callee args) = call_ready callee args
kind_ready known (ExprKind-F.Array items) = false
kind_ready known (ExprKind-F.Look0 what) = true
kind_ready known (ExprKind-F.LookAt what a) = a.ready

abbrev pub readies : List Node → List Bool
readies nodes = map (λ (n : Node). n.ready) nodes

abbrev pub kind_items : ExprKind-F Slot Ty Kind Node → List Bool
kind_items (ExprKind-F.Array items) = readies items
kind_items _ = []

abbrev pub kind_step : Known-names → ExprKind-F Slot Ty Kind Node → Kind
kind_step known kind = record { ready = kind_ready known kind; items = kind_items kind }

abbrev pub node_step : Expr-F Slot Ty Kind Node → Node
node_step e = record { ty = e.ty; ready = e.kind.ready; items = e.kind.items }

unfoldable pub ready_node : Known-names → Expr Slot Ty → Node
ready_node known e = fold-Expr Slot Ty Kind Node (kind_step known) node_step e

unfoldable pub ready_kind : Known-names → ExprKind Slot Ty → Kind
ready_kind known kind = fold-ExprKind Slot Ty Kind Node (kind_step known) node_step kind

-- whether an expression is ready, and one of this kind
abbrev pub is_ready : Known-names → Expr Slot Ty → Bool
is_ready known e = (ready_node known e).ready

unfoldable pub is_ready_kind : Known-names → ExprKind Slot Ty → Bool
is_ready_kind known kind = (ready_kind known kind).ready

-- ... and the items of an array; what is no array has none
abbrev pub ready_items : Known-names → Expr Slot Ty → List Bool
ready_items known e = (ready_node known e).items

unfoldable pub ready_items_kind : Known-names → ExprKind Slot Ty → List Bool
ready_items_kind known kind = (ready_kind known kind).items

-- ---- ready, with any names

pub record Ready (e : Expr Slot Ty) : Type 0 where
  pub is : is_ready any_name e ≡ true

pub record ReadyKind (kind : ExprKind Slot Ty) : Type 0 where
  pub is : is_ready_kind any_name kind ≡ true

pub record ReadyCall (callee : Callee) (args : List (Expr Slot Ty)) : Type 0 where
  pub is : call_ready callee (map (ready_node any_name) args) ≡ true

pub record ReadyForm (form : CallForm) (args : List (Expr Slot Ty)) : Type 0 where
  pub is : form_ready form (map (ready_node any_name) args) ≡ true

pub record ReadyAll (parts : List (Expr Slot Ty)) : Type 0 where
  pub is : all_of (map (is_ready any_name) parts) ≡ true

-- the items of an array
pub record ReadyItems (e : Expr Slot Ty) : Type 0 where
  pub is : all_of (ready_items any_name e) ≡ true

-- ... of which there are few
pub record ReadyFew (e : Expr Slot Ty) : Type 0 where
  pub items : ReadyItems e
  pub few : length (ready_items any_name e) ≤ 20

pub record ReadyFewOf (parts : List (Expr Slot Ty)) : Type 0 where
  pub all : ReadyAll parts
  pub few : length parts ≤ 20
