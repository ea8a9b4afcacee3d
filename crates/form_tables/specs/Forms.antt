-- Which operations the forms of the language are. Elements stand here as their bytes. The source is the CashScript
-- documentation on operators, casts, functions and instantiations, and the Bitcoin Cash specification.
use Rattle.std.specs.Prelude.{ℕ, Bool, true, false, List, [], ◌∷◌, ◌++◌, length, pos, Option, Some, None, Result, Ok, Err}
use Rattle.cash_base.specs.declared.fault.Cause.{Cause}
use Rattle.cash_base.specs.declared.fault.Cause.TheVariants.{CheckFailed}
use Rattle.cash_base.specs.Failing.{◌>>=◌}
use Rattle.cash_base.specs.Push.{push_prefix}
use Rattle.element_ops.specs.declared.op.Op1.{Op1}
use Rattle.element_ops.specs.declared.op.Op1.TheVariants as op1
use Rattle.element_ops.specs.declared.op.Op2.TheVariants as op2
use Rattle.element_ops.specs.declared.op.Op3.TheVariants as op3
use Rattle.element_ops.specs.Operand.{number_element, truth_element}
use Rattle.element_ops.specs.Operation.{Outcome, result1, result2}
use Rattle.cash_tree.specs.declared.Ty.{Ty}
use Rattle.cash_tree.specs.declared.Ty.TheOpen.{Ty-F}
use Rattle.cash_tree.specs.declared.Ty.TheViews.{out-Ty}
use Rattle.cash_tree.specs.declared.UnaryOp.{UnaryOp}
use Rattle.cash_tree.specs.declared.UnaryOp.TheVariants as unary_ops
use Rattle.cash_tree.specs.declared.BinaryOp.{BinaryOp}
use Rattle.cash_tree.specs.declared.BinaryOp.TheVariants as ops
use Rattle.cash_tree.specs.declared.Builtin.{Builtin}
use Rattle.cash_tree.specs.declared.Builtin.TheVariants as builtins
use Rattle.type_tables.specs.declared.rules.CastEffect.{CastEffect}
use Rattle.type_tables.specs.declared.rules.CastEffect.TheVariants as effects
use Rattle.form_tables.specs.declared.forms.BinaryForm.{BinaryForm}
use Rattle.form_tables.specs.declared.forms.BinaryForm.TheVariants as binary
use Rattle.form_tables.specs.declared.forms.CallForm.{CallForm}
use Rattle.form_tables.specs.declared.forms.CallForm.TheVariants as calls
use Rattle.form_tables.specs.declared.forms.Lock.{Lock}
use Rattle.form_tables.specs.declared.forms.Lock.TheVariants as locks

-- ---- operators

abbrev pub unary_op : UnaryOp → Op1
unary_op unary_ops.Not = op1.Not
unary_op unary_ops.Negate = op1.Negate

abbrev pub is_int_layer : Ty-F Ty → Bool
is_int_layer Ty-F.Int = true
is_int_layer _ = false

-- the type of numbers
abbrev pub is_int : Ty → Bool
is_int t = is_int_layer (out-Ty t)

-- Numbers are compared and added as numbers, and everything else as bytes. `&&` and `||` have both sides, always.
abbrev pub binary_form : Bool → BinaryOp → BinaryForm
binary_form numbers ops.Or = binary.Is op2.BoolOr
binary_form numbers ops.And = binary.Is op2.BoolAnd
binary_form numbers ops.BitOr = binary.Is op2.Or
binary_form numbers ops.BitXor = binary.Is op2.Xor
binary_form numbers ops.BitAnd = binary.Is op2.And
binary_form true ops.Equal = binary.Is op2.NumEqual
binary_form false ops.Equal = binary.Is op2.Equal
binary_form true ops.NotEqual = binary.Is op2.NumNotEqual
binary_form false ops.NotEqual = binary.IsNot op2.Equal
binary_form numbers ops.Less = binary.Is op2.Less
binary_form numbers ops.LessEqual = binary.Is op2.LessEqual
binary_form numbers ops.Greater = binary.Is op2.Greater
binary_form numbers ops.GreaterEqual = binary.Is op2.GreaterEqual
binary_form true ops.Add = binary.Is op2.Add
binary_form false ops.Add = binary.Is op2.Cat
binary_form numbers ops.Sub = binary.Is op2.Sub
binary_form numbers ops.Mul = binary.Is op2.Mul
binary_form numbers ops.Div = binary.Is op2.Div
binary_form numbers ops.Mod = binary.Is op2.Mod

abbrev pub binary_result : BinaryForm → List ℕ → List ℕ → Outcome
binary_result (binary.Is op) a b = result2 op a b
binary_result (binary.IsNot op) a b = do
  e ← result2 op a b
  result1 op1.Not e

-- ---- casts

-- what the effect of a cast without a size does; where there is no such cast, which no typed contract has, it fails
abbrev pub cast_result : Option CastEffect → List ℕ → Outcome
cast_result (Some effects.Keep) a = Ok a
cast_result (Some effects.NonZero) a = result1 op1.NonZero a
cast_result (Some (effects.Pad n)) a = do
  size ← number_element (pos n)
  result2 op2.Pad a size
cast_result (Some effects.ToNumber) a = result1 op1.ToNumber a
cast_result _ a = Err CheckFailed

-- ---- functions and instantiations

abbrev pub call_form : Builtin → CallForm
call_form builtins.Abs = calls.One op1.Abs
call_form builtins.Min = calls.Two op2.Min
call_form builtins.Max = calls.Two op2.Max
call_form builtins.Within = calls.Three op3.Within
call_form builtins.Ripemd160 = calls.One op1.Ripemd160
call_form builtins.Sha1 = calls.One op1.Sha1
call_form builtins.Sha256 = calls.One op1.Sha256
call_form builtins.Hash160 = calls.One op1.Hash160
call_form builtins.Hash256 = calls.One op1.Hash256
call_form builtins.CheckSig = calls.CheckSig
call_form builtins.CheckDataSig = calls.CheckData
call_form builtins.CheckMultiSig = calls.CheckMulti
call_form builtins.LockingBytecodeP2PKH = calls.Locks locks.KeyHash
call_form builtins.LockingBytecodeP2SH = calls.Locks locks.ScriptHash
call_form builtins.LockingBytecodeNullData = calls.HoldsData

-- what the verdict of a check gives
abbrev pub verdict_result : Result Bool Cause → Outcome
verdict_result verdict = do
  truth ← verdict
  truth_element truth

-- a lock is these bytes, the hash, and the bytes after it
abbrev pub lock_front : Lock → List ℕ
lock_front locks.KeyHash = 0x76 ∷ 0xa9 ∷ 0x14 ∷ []
lock_front locks.ScriptHash = 0xa9 ∷ 0x14 ∷ []

abbrev pub lock_back : Lock → List ℕ
lock_back locks.KeyHash = 0x88 ∷ 0xac ∷ []
lock_back locks.ScriptHash = 0x87 ∷ []

-- a script of data begins so
abbrev pub data_front : List ℕ
data_front = 0x6a ∷ []

-- a chunk, and in front of it what stands before the bytes of a push
abbrev pub pushed_chunk : List ℕ → List ℕ
pushed_chunk chunk = push_prefix (length chunk) ++ chunk
