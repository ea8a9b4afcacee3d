-- The rules of the types, as tables. Where a rule refuses, its fault is the node's.
use Rattle.std.specs.Prelude.{ℕ, ◌+◌, ◌-◌, ◌*◌, ◌^◌, ◌==◌, nat_lt, nat_le, Bool, true, false, ◌&&◌, ◌||◌, List, [], ◌∷◌, length, slice_get, Option, Some, None, Result, Ok, Err, ℤ, pos, unsigned_abs, int_lt, if◌then◌else◌}
use Rattle.cash_base.specs.declared.place.Span.{Span}
use Rattle.cash_base.specs.declared.place.Slot.{Slot}
use Rattle.cash_base.specs.declared.look.Look0.{Look0}
use Rattle.cash_base.specs.declared.look.Look0.TheVariants as looks
use Rattle.cash_base.specs.declared.look.LookAt.{LookAt}
use Rattle.cash_base.specs.declared.look.LookAt.TheVariants as looks_at
use Rattle.cash_base.specs.Failing.{◌>>=◌}
use Rattle.cash_tree.specs.declared.Ty.{Ty}
use Rattle.cash_tree.specs.declared.Ty.TheVariants as ty
use Rattle.cash_tree.specs.declared.Ty.TheOpen.{Ty-F}
use Rattle.cash_tree.specs.declared.Ty.TheViews.{out-Ty}
use Rattle.cash_tree.specs.declared.UnaryOp.{UnaryOp}
use Rattle.cash_tree.specs.declared.UnaryOp.TheVariants as unary_ops
use Rattle.cash_tree.specs.declared.BinaryOp.{BinaryOp}
use Rattle.cash_tree.specs.declared.BinaryOp.TheVariants as ops
use Rattle.cash_tree.specs.declared.Builtin.{Builtin}
use Rattle.cash_tree.specs.declared.Builtin.TheVariants as builtins
use Rattle.cash_tree.specs.declared.Callee.{Callee}
use Rattle.cash_tree.specs.declared.Callee.TheVariants as callees
use Rattle.cash_tree.specs.declared.Expr.{Expr}
use Rattle.cash_tree.specs.declared.ExprKind.{ExprKind}
use Rattle.cash_tree.specs.declared.ExprKind.TheOpen.{ExprKind-F, Expr-F}
use Rattle.cash_tree.specs.declared.ExprKind.TheFolds.{fold-ExprKind}
use Rattle.cash_tree.specs.declared.ExprKind.TheViews.{out-ExprKind}
use Rattle.type_tables.specs.declared.fault.TypeFault.{TypeFault}
use Rattle.type_tables.specs.declared.fault.TypeFault.TheVariants as faults
use Rattle.type_tables.specs.declared.rules.OperatorRule.{OperatorRule}
use Rattle.type_tables.specs.declared.rules.OperatorRule.TheVariants as operator_rules
use Rattle.type_tables.specs.declared.rules.CastEffect.{CastEffect}
use Rattle.type_tables.specs.declared.rules.CastEffect.TheVariants as effects
use Rattle.type_tables.specs.declared.rules.Item.{Item}
use Rattle.type_tables.specs.declared.rules.Item.TheVariants as items
use Rattle.type_tables.specs.declared.rules.Want.{Want}
use Rattle.type_tables.specs.declared.rules.Want.TheVariants as wants
use Rattle.type_tables.specs.declared.rules.Signature.{Signature}
use Rattle.type_tables.specs.declared.rules.Binding.{Binding}

-- an expression whose names are slots, with its types
abbrev pub TypedExpr : Type 0
TypedExpr = Expr Slot Ty

abbrev pub Answer : Type 0 → Type 0
Answer A = Result A TypeFault

abbrev pub answer : {A : Type 0} → A → Answer A
answer x = Ok x

-- ---- types

-- one layer of a type
abbrev pub Layer : Type 0
Layer = Ty-F Ty

abbrev pub is_bytes_layer : Layer → Bool
is_bytes_layer Ty-F.Bytes = true
is_bytes_layer (Ty-F.BytesN n) = true
is_bytes_layer Ty-F.Pubkey = true
is_bytes_layer Ty-F.Sig = true
is_bytes_layer Ty-F.Datasig = true
is_bytes_layer _ = false

-- the types of bytes
abbrev pub is_bytes : Ty → Bool
is_bytes t = is_bytes_layer (out-Ty t)

abbrev pub is_single_layer : Layer → Bool
is_single_layer (Ty-F.Array item) = false
is_single_layer (Ty-F.Pair left right) = false
is_single_layer _ = true

-- neither an array nor a pair
abbrev pub is_single : Ty → Bool
is_single t = is_single_layer (out-Ty t)

abbrev pub layer_fits : Layer → Layer → Bool
layer_fits Ty-F.Int Ty-F.Int = true
layer_fits Ty-F.Bool Ty-F.Bool = true
layer_fits Ty-F.Text Ty-F.Text = true
layer_fits Ty-F.Bytes found = is_bytes_layer found
layer_fits (Ty-F.BytesN n) (Ty-F.BytesN m) = n == m
layer_fits (Ty-F.BytesN n) Ty-F.Pubkey = n == 33
layer_fits (Ty-F.BytesN n) Ty-F.Sig = n == 65
layer_fits (Ty-F.BytesN n) Ty-F.Datasig = n == 64
layer_fits Ty-F.Pubkey Ty-F.Pubkey = true
layer_fits Ty-F.Sig Ty-F.Sig = true
layer_fits Ty-F.Datasig Ty-F.Datasig = true
layer_fits _ _ = false

-- a part of the second type may stand where the first is wanted: the implicit casts, of which arrays and pairs have none
abbrev pub fits : Ty → Ty → Bool
fits wanted found = layer_fits (out-Ty wanted) (out-Ty found)

-- a part that isn't allowed is refused, with what is wanted in its place
abbrev pub allowed : Span → Bool → Ty → Ty → Answer (Unit {0})
allowed span true wanted found = Ok tt
allowed span false wanted found = Err (faults.Mismatch span wanted found)

unfoldable pub suits : Span → Ty → Ty → Answer (Unit {0})
suits span wanted found = allowed span (fits wanted found) wanted found

abbrev pub is_sequence_layer : Layer → Bool
is_sequence_layer Ty-F.Text = true
is_sequence_layer layer = is_bytes_layer layer

-- a text, or a type of bytes
abbrev pub is_sequence : Ty → Bool
is_sequence t = is_sequence_layer (out-Ty t)

-- ---- literals

-- a literal in its range has its type
abbrev pub in_range : Span → Bool → Ty → Answer Ty
in_range span true t = Ok t
in_range span false t = Err (faults.LiteralRange span)

unfoldable pub number_type : Span → ℕ → ℕ → Answer Ty
number_type span digits unit = in_range span (nat_lt (digits * unit) (2 ^ 63)) ty.Int

unfoldable pub date_type : Span → ℤ → Answer Ty
date_type span seconds = in_range span (nat_lt (unsigned_abs seconds) (2 ^ 63)) ty.Int

-- a hexadecimal literal of so many bytes; without bytes it has no length of its own
unfoldable pub hex_type : Span → ℕ → Answer Ty
hex_type span n = if n == 0 then Ok ty.Bytes else in_range span (nat_le n 520) (ty.BytesN n)

-- a text of so many bytes, escapes resolved
unfoldable pub text_type : Span → ℕ → Answer Ty
text_type span n = in_range span (nat_le n 520) ty.Text

-- ---- operators

abbrev pub unary_operand : UnaryOp → Ty
unary_operand unary_ops.Not = ty.Bool
unary_operand unary_ops.Negate = ty.Int

-- it gives the type that it wants
unfoldable pub unary_type : Span → UnaryOp → Ty → Answer Ty
unary_type span op t = do
  u ← suits span (unary_operand op) t
  Ok (unary_operand op)

abbrev pub rule_of : BinaryOp → OperatorRule
rule_of ops.Or = operator_rules.Logic
rule_of ops.And = operator_rules.Logic
rule_of ops.BitOr = operator_rules.Bitwise
rule_of ops.BitXor = operator_rules.Bitwise
rule_of ops.BitAnd = operator_rules.Bitwise
rule_of ops.Equal = operator_rules.Equality
rule_of ops.NotEqual = operator_rules.Equality
rule_of ops.Less = operator_rules.Order
rule_of ops.LessEqual = operator_rules.Order
rule_of ops.Greater = operator_rules.Order
rule_of ops.GreaterEqual = operator_rules.Order
rule_of ops.Add = operator_rules.Sum
rule_of ops.Sub = operator_rules.Arithmetic
rule_of ops.Mul = operator_rules.Arithmetic
rule_of ops.Div = operator_rules.Arithmetic
rule_of ops.Mod = operator_rules.Arithmetic

-- both sides are of the wanted type
abbrev pub both_sides : Span → Ty → Ty → Ty → Ty → Answer Ty
both_sides span wanted given a b = do
  u ← suits span wanted a
  v ← suits span wanted b
  Ok given

abbrev pub joined_layers : Layer → Layer → Ty
joined_layers (Ty-F.BytesN n) (Ty-F.BytesN m) = if nat_le (n + m) 520 then ty.BytesN (n + m) else ty.Bytes
joined_layers _ _ = ty.Bytes

-- bytes after bytes: where both lengths are known, so is their sum, up to 520
abbrev pub joined : Ty → Ty → Ty
joined a b = joined_layers (out-Ty a) (out-Ty b)

abbrev pub bytes_sum : Span → Ty → Ty → Answer Ty
bytes_sum span a b = do
  u ← allowed span (is_bytes b) a b
  Ok (joined a b)

-- what is wanted of both sides, where the left isn't of bytes
abbrev pub addend : Ty → Ty
addend a = if fits ty.Text a then ty.Text else ty.Int

abbrev pub sum_type : Span → Ty → Ty → Answer Ty
sum_type span a b = if is_bytes a then bytes_sum span a b else both_sides span (addend a) (addend a) a b

-- one side is cast to the other
abbrev pub meet : Ty → Ty → Bool
meet a b = fits a b || fits b a

abbrev pub equality_type : Span → Ty → Ty → Answer Ty
equality_type span a b = do
  u ← allowed span (is_single a) ty.Int a
  v ← allowed span (meet a b) a b
  Ok ty.Bool

-- the side that the other is cast to
abbrev pub wider : Ty → Ty → Ty
wider a b = if fits a b then a else b

abbrev pub bitwise_type : Span → Ty → Ty → Answer Ty
bitwise_type span a b = do
  u ← allowed span (is_bytes a) ty.Bytes a
  v ← allowed span (meet a b) a b
  Ok (wider a b)

abbrev pub type_by : OperatorRule → Span → Ty → Ty → Answer Ty
type_by operator_rules.Arithmetic span a b = both_sides span ty.Int ty.Int a b
type_by operator_rules.Order span a b = both_sides span ty.Int ty.Bool a b
type_by operator_rules.Logic span a b = both_sides span ty.Bool ty.Bool a b
type_by operator_rules.Sum span a b = sum_type span a b
type_by operator_rules.Equality span a b = equality_type span a b
type_by operator_rules.Bitwise span a b = bitwise_type span a b

-- the type of an operator between sides of these types
unfoldable pub binary_type : Span → BinaryOp → Ty → Ty → Answer Ty
binary_type span op a b = type_by (rule_of op) span a b

-- ---- parts of texts and bytes

unfoldable pub length_type : Span → Ty → Answer Ty
length_type span t = do
  u ← allowed span (is_sequence t) ty.Bytes t
  Ok ty.Int

abbrev pub reversed_layer : Layer → Ty
reversed_layer Ty-F.Text = ty.Text
reversed_layer (Ty-F.BytesN n) = ty.BytesN n
reversed_layer _ = ty.Bytes

abbrev pub reversed : Ty → Ty
reversed t = reversed_layer (out-Ty t)

unfoldable pub reverse_type : Span → Ty → Answer Ty
reverse_type span t = do
  u ← allowed span (is_sequence t) ty.Bytes t
  Ok (reversed t)

-- where a split of so many bytes at a literal cuts them
abbrev pub cut_parts : ℕ → Option ℕ → Ty × Ty
cut_parts n None = (ty.Bytes, ty.Bytes)
cut_parts n (Some k) = if nat_lt 0 k && nat_lt k n then (ty.BytesN k, ty.BytesN (n - k)) else (ty.Bytes, ty.Bytes)

abbrev pub split_layer : Layer → Option ℕ → Ty × Ty
split_layer Ty-F.Text literal = (ty.Text, ty.Text)
split_layer (Ty-F.BytesN n) literal = cut_parts n literal
split_layer _ literal = (ty.Bytes, ty.Bytes)

abbrev pub split_parts : Ty → Option ℕ → Ty × Ty
split_parts t literal = split_layer (out-Ty t) literal

abbrev pub pair : Ty → Ty → Ty
pair left right = ty.Pair left right

-- a split of the first type at an index of the second, which may be a literal
unfoldable pub split_type : Span → Ty → Ty → Option ℕ → Answer Ty
split_type span t at literal = do
  u ← allowed span (is_sequence t) ty.Bytes t
  v ← suits span ty.Int at
  Ok (pair (split_parts t literal).0 (split_parts t literal).1)

abbrev pub part_at : Span → ℕ → Ty → Ty → Answer Ty
part_at span number left right =
    if number == 0 then Ok left else if number == 1 then Ok right else Err (faults.BadTupleIndex span)

-- what isn't a pair is refused, with a pair of these types wanted
abbrev pub no_pair : {A : Type 0} → Span → Ty → Ty → Ty → Answer A
no_pair span left right t = Err (faults.Mismatch span (ty.Pair left right) t)

abbrev pub index_layer : Span → ℕ → Ty → Layer → Answer Ty
index_layer span number t (Ty-F.Pair left right) = part_at span number left right
index_layer span number t _ = no_pair span ty.Bytes ty.Bytes t

unfoldable pub index_type : Span → ℕ → Ty → Answer Ty
index_type span number t = index_layer span number t (out-Ty t)

abbrev pub both_suit : Span → Ty → Ty → Ty → Ty → Answer (Unit {0})
both_suit span left right l r = do
  u ← suits span left l
  suits span right r

abbrev pub pair_layer : Span → Ty → Ty → Ty → Layer → Answer (Unit {0})
pair_layer span left right t (Ty-F.Pair l r) = both_suit span left right l r
pair_layer span left right t _ = no_pair span left right t

-- a definition of two names of these types
unfoldable pub pair_suits : Span → Ty → Ty → Ty → Answer (Unit {0})
pair_suits span left right t = pair_layer span left right t (out-Ty t)

-- ---- casts

-- a cast to the first type from the second, where no implicit cast leads there
abbrev pub explicit_effect : Layer → Layer → Option CastEffect
explicit_effect Ty-F.Bool Ty-F.Int = Some effects.NonZero
explicit_effect Ty-F.Int Ty-F.Bool = Some effects.Keep
explicit_effect (Ty-F.BytesN n) Ty-F.Int = Some (effects.Pad n)
explicit_effect Ty-F.Bytes Ty-F.Int = Some effects.Keep
explicit_effect Ty-F.Int Ty-F.Bytes = Some effects.ToNumber
explicit_effect Ty-F.Int (Ty-F.BytesN n) = if nat_le n 8 then Some effects.ToNumber else None
explicit_effect (Ty-F.BytesN n) Ty-F.Bytes = Some effects.Keep
explicit_effect Ty-F.Text Ty-F.Bytes = Some effects.Keep
explicit_effect Ty-F.Text (Ty-F.BytesN n) = Some effects.Keep
explicit_effect Ty-F.Bytes Ty-F.Text = Some effects.Keep
explicit_effect Ty-F.Pubkey Ty-F.Bytes = Some effects.Keep
explicit_effect Ty-F.Pubkey (Ty-F.BytesN n) = Some effects.Keep
explicit_effect Ty-F.Sig Ty-F.Bytes = Some effects.Keep
explicit_effect Ty-F.Sig (Ty-F.BytesN n) = Some effects.Keep
explicit_effect Ty-F.Datasig Ty-F.Bytes = Some effects.Keep
explicit_effect Ty-F.Datasig (Ty-F.BytesN n) = Some effects.Keep
explicit_effect _ _ = None

abbrev pub explicit_effect_of : Ty → Ty → Option CastEffect
explicit_effect_of to from = explicit_effect (out-Ty to) (out-Ty from)

-- what a cast does, or there is none: an implicit cast does nothing
unfoldable pub cast_effect : Ty → Ty → Option CastEffect
cast_effect to from = if fits to from then Some effects.Keep else explicit_effect_of to from

abbrev pub sized_layer : Layer → Layer → Option CastEffect
sized_layer Ty-F.Bytes Ty-F.Int = Some effects.PadToSize
sized_layer _ _ = None

-- what a cast with a size does: only an int is cast so, to bytes
unfoldable pub sized_effect : Ty → Ty → Option CastEffect
sized_effect to from = sized_layer (out-Ty to) (out-Ty from)

abbrev pub cast_by : Span → Ty → Option CastEffect → Answer Ty
cast_by span to (Some effect) = Ok to
cast_by span to None = Err (faults.NoSuchCast span)

unfoldable pub cast_type : Span → Ty → Ty → Answer Ty
cast_type span to from = cast_by span to (cast_effect to from)

unfoldable pub sized_cast_type : Span → Ty → Ty → Ty → Answer Ty
sized_cast_type span to from size = do
  u ← suits span ty.Int size
  cast_by span to (sized_effect to from)

-- ---- arrays

abbrev pub item_type : Item → Ty
item_type items.Bytes = ty.Bytes
item_type items.Sig = ty.Sig
item_type items.Pubkey = ty.Pubkey

abbrev pub all_suit : Span → Ty → List Ty → Answer (Unit {0})
all_suit span wanted [] = Ok tt
all_suit span wanted (found ∷ rest) = do
  u ← suits span wanted found
  all_suit span wanted rest

abbrev pub array : Ty → Ty
array item = ty.Array item

-- An array of items of these types. As an argument that is to be an array its items are cast to the wanted item, and
-- in any other place its type is that of its first item.
unfoldable pub array_type : Span → Option Item → List Ty → Answer Ty
array_type span place [] = Err (faults.EmptyArray span)
array_type span None (first ∷ rest) = Ok (ty.Array first)
array_type span (Some item) (first ∷ rest) = do
  u ← all_suit span (item_type item) (first ∷ rest)
  Ok (ty.Array (item_type item))

-- ---- functions and instantiations

abbrev pub takes : Option Want → Option Want → Option Want → Signature
takes first second third = record { first = first; second = second; third = third }

-- it has no arguments
unfoldable pub nothing : Signature
nothing = takes None None None

-- what each wants of its arguments; one whose name is unknown wants none
abbrev pub signature_of : Builtin → Signature
signature_of builtins.Abs = takes (Some wants.Int) None None
signature_of builtins.Min = takes (Some wants.Int) (Some wants.Int) None
signature_of builtins.Max = takes (Some wants.Int) (Some wants.Int) None
signature_of builtins.Within = takes (Some wants.Int) (Some wants.Int) (Some wants.Int)
signature_of builtins.Ripemd160 = takes (Some wants.Single) None None
signature_of builtins.Sha1 = takes (Some wants.Single) None None
signature_of builtins.Sha256 = takes (Some wants.Single) None None
signature_of builtins.Hash160 = takes (Some wants.Single) None None
signature_of builtins.Hash256 = takes (Some wants.Single) None None
signature_of builtins.CheckSig = takes (Some wants.Sig) (Some wants.Pubkey) None
signature_of builtins.CheckDataSig = takes (Some wants.Datasig) (Some wants.Bytes) (Some wants.Pubkey)
signature_of builtins.CheckMultiSig = takes (Some (wants.Items items.Sig)) (Some (wants.Items items.Pubkey)) None
signature_of builtins.LockingBytecodeP2PKH = takes (Some wants.Hash) None None
signature_of builtins.LockingBytecodeP2SH = takes (Some wants.Hash) None None
signature_of builtins.LockingBytecodeNullData = takes (Some (wants.Items items.Bytes)) None None

unfoldable pub signature : Callee → Signature
signature (callees.Known builtin) = signature_of builtin
signature (callees.Unknown span) = nothing

abbrev pub given_by : Builtin → Ty
given_by builtins.Abs = ty.Int
given_by builtins.Min = ty.Int
given_by builtins.Max = ty.Int
given_by builtins.Within = ty.Bool
given_by builtins.Ripemd160 = ty.BytesN 20
given_by builtins.Sha1 = ty.BytesN 20
given_by builtins.Sha256 = ty.BytesN 32
given_by builtins.Hash160 = ty.BytesN 20
given_by builtins.Hash256 = ty.BytesN 32
given_by builtins.CheckSig = ty.Bool
given_by builtins.CheckDataSig = ty.Bool
given_by builtins.CheckMultiSig = ty.Bool
given_by builtins.LockingBytecodeP2PKH = ty.BytesN 25
given_by builtins.LockingBytecodeP2SH = ty.BytesN 23
given_by builtins.LockingBytecodeNullData = ty.Bytes

-- the type of a call
abbrev pub given : Callee → Ty
given (callees.Known builtin) = given_by builtin
given (callees.Unknown span) = ty.Int

-- the type that is told where an argument doesn't fit
abbrev pub want_type : Want → Ty
want_type wants.Int = ty.Int
want_type wants.Single = ty.Bytes
want_type wants.Sig = ty.Sig
want_type wants.Pubkey = ty.Pubkey
want_type wants.Datasig = ty.Datasig
want_type wants.Bytes = ty.Bytes
want_type wants.Hash = ty.BytesN 20
want_type (wants.Items item) = ty.Array (item_type item)

abbrev pub is_array_layer : Item → Layer → Bool
is_array_layer item (Ty-F.Array t) = fits (item_type item) t
is_array_layer item _ = false

abbrev pub is_array_of : Item → Ty → Bool
is_array_of item t = is_array_layer item (out-Ty t)

-- whether an argument of this type fits
abbrev pub accepts : Want → Ty → Bool
accepts wants.Single t = is_single t
accepts (wants.Items item) t = is_array_of item t
accepts want t = fits (want_type want) t

abbrev pub place_of : Option Want → Option Item
place_of (Some (wants.Items item)) = Some item
place_of _ = None

-- what the items of an array are cast to, where it is the argument of this number
unfoldable pub place_at : Signature → ℕ → Option Item
place_at s n =
    if n == 0 then place_of s.first else if n == 1 then place_of s.second else if n == 2 then place_of s.third else
    None

abbrev pub filled : Option Want → ℕ
filled None = 0
filled (Some want) = 1

abbrev pub count : Signature → ℕ
count s = filled s.first + filled s.second + filled s.third

-- a number of arguments or keys as a fault tells it, in 32 bits
abbrev pub told : ℕ → ℕ
told n = if nat_lt n (2 ^ 32) then n else 4294967295

abbrev pub counted : Span → Signature → ℕ → Answer (Unit {0})
counted span s n = if n == count s then Ok tt else Err (faults.WrongCount span (count s) (told n))

abbrev pub accepted : Span → Option Want → Option TypedExpr → Answer (Unit {0})
accepted span (Some want) (Some x) = allowed span (accepts want x.ty) (want_type want) x.ty
accepted span _ _ = Ok tt

-- the argument of this number, where there is one and something is wanted of it
abbrev pub accepted_at : Span → Option Want → List TypedExpr → ℕ → Answer (Unit {0})
accepted_at span want args at = accepted span want (slice_get args at)

abbrev pub arguments_suit : Span → Signature → List TypedExpr → Answer (Unit {0})
arguments_suit span s args = do
  u ← accepted_at span s.first args 0
  v ← accepted_at span s.second args 1
  accepted_at span s.third args 2

abbrev pub kind_items : ExprKind-F Slot Ty ℕ ℕ → ℕ
kind_items (ExprKind-F.Array items) = length items
kind_items _ = 0

abbrev pub node_items : Expr-F Slot Ty ℕ ℕ → ℕ
node_items e = 0

-- how many items an array has; what isn't an array has none
abbrev pub item_count : ExprKind Slot Ty → ℕ
item_count = fold-ExprKind Slot Ty ℕ ℕ kind_items node_items

abbrev pub items_of : Option TypedExpr → ℕ
items_of None = 0
items_of (Some x) = item_count x.kind

-- how many items the argument of this number has: one that isn't an array has none
abbrev pub items_at : List TypedExpr → ℕ → ℕ
items_at args at = items_of (slice_get args at)

-- whether it checks several signatures
abbrev pub is_multi : Callee → Bool
is_multi (callees.Known builtins.CheckMultiSig) = true
is_multi _ = false

-- a check of several signatures has at most 20 keys
abbrev pub keys_counted : Span → Callee → ℕ → Answer (Unit {0})
keys_counted span callee keys =
    if is_multi callee && nat_lt 20 keys then Err (faults.WrongCount span 20 (told keys)) else Ok tt

-- and no more signatures than keys
abbrev pub sigs_counted : Span → Callee → ℕ → ℕ → Answer (Unit {0})
sigs_counted span callee sigs keys =
    if is_multi callee && nat_lt keys sigs then Err (faults.MoreSigsThanKeys span) else Ok tt

-- the type of a call with these arguments
unfoldable pub call_type : Span → Callee → List TypedExpr → Answer Ty
call_type span callee args = do
  n ← counted span (signature callee) (length args)
  k ← keys_counted span callee (items_at args 1)
  a ← arguments_suit span (signature callee) args
  s ← sigs_counted span callee (items_at args 0) (items_at args 1)
  Ok (given callee)

-- ---- look-ups

unfoldable pub look0_type : Look0 → Ty
look0_type looks.Version = ty.Int
look0_type looks.Locktime = ty.Int
look0_type looks.InputCount = ty.Int
look0_type looks.OutputCount = ty.Int
look0_type looks.ActiveIndex = ty.Int
look0_type looks.ActiveBytecode = ty.Bytes

abbrev pub looked_at : LookAt → Ty
looked_at looks_at.UtxoValue = ty.Int
looked_at looks_at.UtxoBytecode = ty.Bytes
looked_at looks_at.OutpointHash = ty.BytesN 32
looked_at looks_at.OutpointIndex = ty.Int
looked_at looks_at.InputBytecode = ty.Bytes
looked_at looks_at.InputSequence = ty.Int
looked_at looks_at.OutputValue = ty.Int
looked_at looks_at.OutputBytecode = ty.Bytes

unfoldable pub look_at_type : Span → LookAt → Ty → Answer Ty
look_at_type span look index = do
  u ← suits span ty.Int index
  Ok (looked_at look)

-- ---- names

-- the types of the names before, in the order of their definitions
abbrev pub Env : Type 0
Env = List Binding

-- the type of the name of a slot; one that nothing defined reads as an int
abbrev pub type_at : Slot → Env → Ty
type_at slot [] = ty.Int
type_at slot (binding ∷ rest) = if binding.slot.0 == slot.0 then binding.ty else type_at slot rest

abbrev pub number_literal : ℕ → ℕ → Option ℕ
number_literal digits unit = if nat_lt (digits * unit) (2 ^ 63) then Some (digits * unit) else None

abbrev pub date_literal : ℤ → Option ℕ
date_literal seconds = if int_lt seconds (pos 0) then None else Some (unsigned_abs seconds)

abbrev pub kind_literal : ExprKind-F Slot Ty (ExprKind Slot Ty) TypedExpr → Option ℕ
kind_literal (ExprKind-F.Int digits unit) = number_literal digits unit
kind_literal (ExprKind-F.Date seconds) = date_literal seconds
kind_literal _ = None

-- the value of a literal number or date, which may cut bytes of a known length
unfoldable pub literal_of : TypedExpr → Option ℕ
literal_of x = kind_literal (out-ExprKind Slot Ty x.kind)
