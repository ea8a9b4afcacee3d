-- The words and signs of the grammar, as tables of texts. The source of the rules is the CashScript 0.7 grammar. This project's
-- own are the values of units, `byte` as another spelling of `bytes1`, the limit of 520 bytes of a type, and `constant`.
use Rattle.std.specs.Prelude.{ℕ, ◌+◌, ◌*◌, ◌-◌, nat_eq, nat_le, Bool, ◌&&◌, List, [], ◌∷◌, drop, Option, Some, None, codes, if◌then◌else◌}
use Rattle.std.specs.List.{list_any, starts_with}
use Rattle.std.specs.Str.{bytes_eq}
use Rattle.std.specs.Char.{is_ascii_digit}
use Rattle.std.specs.Int.{is_in_range}
use Rattle.cash_base.specs.declared.look.Look0.{Look0}
use Rattle.cash_base.specs.declared.look.Look0.TheVariants as whole
use Rattle.cash_base.specs.declared.look.LookAt.{LookAt}
use Rattle.cash_base.specs.declared.look.LookAt.TheVariants as indexed
use Rattle.cash_tree.specs.declared.Ty.{Ty}
use Rattle.cash_tree.specs.declared.Ty.TheVariants as types
use Rattle.cash_tree.specs.declared.UnaryOp.{UnaryOp}
use Rattle.cash_tree.specs.declared.UnaryOp.TheVariants.{Not, Negate}
use Rattle.cash_tree.specs.declared.BinaryOp.{BinaryOp}
use Rattle.cash_tree.specs.declared.BinaryOp.TheVariants as binary
use Rattle.cash_tree.specs.declared.Builtin.{Builtin}
use Rattle.cash_tree.specs.declared.Builtin.TheVariants as builtins
use Rattle.cash_symbols.specs.declared.words.Property.{Property}
use Rattle.cash_symbols.specs.declared.words.Property.TheVariants as properties
use Rattle.cash_symbols.specs.declared.words.Side.{Side}
use Rattle.cash_symbols.specs.declared.words.Side.TheVariants as sides
use Rattle.cash_symbols.specs.declared.words.Suffix.{Suffix}
use Rattle.cash_symbols.specs.declared.words.Suffix.TheVariants as suffixes

-- a text is the same bytes as another
abbrev pub is_text : List ℕ → List ℕ → Bool
is_text text other = bytes_eq text other

-- A table has a text and its value in each row.
abbrev pub Table : Type 0 → Type 0
Table A = List (List ℕ × A)

-- the value of the first row with this text
abbrev pub row_value : {A : Type 0} → Table A → List ℕ → Option A
row_value [] text = None
row_value (row ∷ rows) text = if is_text text row.0 then Some row.1 else row_value rows text

-- ---- operators

-- the operators with two sides, each with its level, from the tightest, which is 1, to the loosest
abbrev pub operators : Table (ℕ × BinaryOp)
operators =
    (codes "*", (1, binary.Mul)) ∷ (codes "/", (1, binary.Div)) ∷ (codes "%", (1, binary.Mod)) ∷
    (codes "+", (2, binary.Add)) ∷ (codes "-", (2, binary.Sub)) ∷
    (codes "<", (3, binary.Less)) ∷ (codes "<=", (3, binary.LessEqual)) ∷
    (codes ">", (3, binary.Greater)) ∷ (codes ">=", (3, binary.GreaterEqual)) ∷
    (codes "==", (4, binary.Equal)) ∷ (codes "!=", (4, binary.NotEqual)) ∷
    (codes "&", (5, binary.BitAnd)) ∷ (codes "^", (6, binary.BitXor)) ∷ (codes "|", (7, binary.BitOr)) ∷
    (codes "&&", (8, binary.And)) ∷ (codes "||", (9, binary.Or)) ∷ []

-- the loosest level
abbrev pub loosest : ℕ
loosest = 9

unfoldable pub operator_of : List ℕ → Option (ℕ × BinaryOp)
operator_of text = row_value operators text

-- the operators with one side
unfoldable pub prefix_of : List ℕ → Option UnaryOp
prefix_of text = row_value ((codes "!", Not) ∷ (codes "-", Negate) ∷ []) text

-- ---- types

-- 1 to 9
abbrev pub is_first_digit : ℕ → Bool
is_first_digit byte = is_in_range 49 57 byte

-- the number of up to three digits, the first of which isn't 0, where it is at most 520
abbrev pub sized : ℕ → Option ℕ
sized n = if nat_le n 520 then Some n else None

abbrev pub size_of : List ℕ → Option ℕ
size_of [] = None
size_of (a ∷ []) = if is_first_digit a then Some (a - 48) else None
size_of (a ∷ b ∷ []) = if is_first_digit a && is_ascii_digit b then Some (10 * (a - 48) + (b - 48)) else None
size_of (a ∷ b ∷ c ∷ []) =
    if is_first_digit a && is_ascii_digit b && is_ascii_digit c
    then sized (100 * (a - 48) + 10 * (b - 48) + (c - 48)) else None
size_of (a ∷ b ∷ c ∷ d ∷ more) = None

abbrev pub bytes_of : Option ℕ → Option Ty
bytes_of None = None
bytes_of (Some n) = Some (types.BytesN n)

-- `bytesN` with N from 1 to 520, without a leading zero
abbrev pub sized_bytes : List ℕ → Option Ty
sized_bytes text = if starts_with nat_eq text (codes "bytes") then bytes_of (size_of (drop 5 text)) else None

-- the type that a word names; `byte` is another spelling of `bytes1`
unfoldable pub type_of : List ℕ → Option Ty
type_of text =
    if is_text text (codes "int") then Some types.Int
    else if is_text text (codes "bool") then Some types.Bool
    else if is_text text (codes "string") then Some types.Text
    else if is_text text (codes "pubkey") then Some types.Pubkey
    else if is_text text (codes "sig") then Some types.Sig
    else if is_text text (codes "datasig") then Some types.Datasig
    else if is_text text (codes "byte") then Some (types.BytesN 1)
    else if is_text text (codes "bytes") then Some types.Bytes
    else sized_bytes text

-- ---- reserved words

-- the reserved words that name no type
abbrev pub keywords : List (List ℕ)
keywords =
    codes "pragma" ∷ codes "cashscript" ∷ codes "contract" ∷ codes "function" ∷ codes "if" ∷ codes "else" ∷
    codes "require" ∷ codes "new" ∷ codes "true" ∷ codes "false" ∷ codes "constant" ∷ codes "tx" ∷ codes "this" ∷ []

unfoldable pub is_keyword : List ℕ → Bool
is_keyword text = list_any (is_text text) keywords

-- ---- names with a meaning where they stand

-- a unit after a number, by how many of the smallest there are in it: satoshis, or seconds
abbrev pub units : Table ℕ
units =
    (codes "satoshis", 1) ∷ (codes "sats", 1) ∷ (codes "finney", 10) ∷ (codes "bits", 100) ∷
    (codes "bitcoin", 100000000) ∷ (codes "seconds", 1) ∷ (codes "minutes", 60) ∷ (codes "hours", 3600) ∷
    (codes "days", 86400) ∷ (codes "weeks", 604800) ∷ []

unfoldable pub unit_of : List ℕ → Option ℕ
unit_of text = row_value units text

abbrev pub functions : Table Builtin
functions =
    (codes "abs", builtins.Abs) ∷ (codes "min", builtins.Min) ∷ (codes "max", builtins.Max) ∷
    (codes "within", builtins.Within) ∷ (codes "ripemd160", builtins.Ripemd160) ∷ (codes "sha1", builtins.Sha1) ∷
    (codes "sha256", builtins.Sha256) ∷ (codes "hash160", builtins.Hash160) ∷ (codes "hash256", builtins.Hash256) ∷
    (codes "checkSig", builtins.CheckSig) ∷ (codes "checkDataSig", builtins.CheckDataSig) ∷
    (codes "checkMultiSig", builtins.CheckMultiSig) ∷ []

-- a built-in function
unfoldable pub function_of : List ℕ → Option Builtin
function_of text = row_value functions text

abbrev pub instantiations : Table Builtin
instantiations =
    (codes "LockingBytecodeP2PKH", builtins.LockingBytecodeP2PKH) ∷
    (codes "LockingBytecodeP2SH", builtins.LockingBytecodeP2SH) ∷
    (codes "LockingBytecodeNullData", builtins.LockingBytecodeNullData) ∷ []

-- what may stand after `new`
unfoldable pub instantiation_of : List ℕ → Option Builtin
instantiation_of text = row_value instantiations text

-- what may stand after an expression and a dot
unfoldable pub suffix_of : List ℕ → Option Suffix
suffix_of text =
    row_value ((codes "length", suffixes.Length) ∷ (codes "reverse", suffixes.Reverse) ∷
    (codes "split", suffixes.Split) ∷ []) text

-- what may stand after `tx.`
unfoldable pub property_of : List ℕ → Option Property
property_of text =
    row_value ((codes "version", properties.Whole whole.Version) ∷ (codes "locktime", properties.Whole whole.Locktime) ∷
    (codes "inputs", properties.Listed sides.Inputs) ∷ (codes "outputs", properties.Listed sides.Outputs) ∷ []) text

-- what may stand after `this.`
unfoldable pub active_of : List ℕ → Option Look0
active_of text =
    row_value ((codes "activeInputIndex", whole.ActiveIndex) ∷ (codes "activeBytecode", whole.ActiveBytecode) ∷ []) text

abbrev pub count_of : Side → Look0
count_of sides.Inputs = whole.InputCount
count_of sides.Outputs = whole.OutputCount

abbrev pub input_members : Table LookAt
input_members =
    (codes "value", indexed.UtxoValue) ∷ (codes "lockingBytecode", indexed.UtxoBytecode) ∷
    (codes "outpointTransactionHash", indexed.OutpointHash) ∷ (codes "outpointIndex", indexed.OutpointIndex) ∷
    (codes "unlockingBytecode", indexed.InputBytecode) ∷ (codes "sequenceNumber", indexed.InputSequence) ∷ []

abbrev pub output_members : Table LookAt
output_members = (codes "value", indexed.OutputValue) ∷ (codes "lockingBytecode", indexed.OutputBytecode) ∷ []

-- what may stand after an input and a dot
unfoldable pub input_member_of : List ℕ → Option LookAt
input_member_of text = row_value input_members text

-- what may stand after an output and a dot
unfoldable pub output_member_of : List ℕ → Option LookAt
output_member_of text = row_value output_members text

abbrev pub member_of : Side → List ℕ → Option LookAt
member_of sides.Inputs text = input_member_of text
member_of sides.Outputs text = output_member_of text

-- ---- pragmas

abbrev pub constraint_signs : List (List ℕ)
constraint_signs = codes "^" ∷ codes "~" ∷ codes ">=" ∷ codes ">" ∷ codes "<" ∷ codes "<=" ∷ codes "=" ∷ []

-- what may stand in front of a version
unfoldable pub is_constraint_sign : List ℕ → Bool
is_constraint_sign text = list_any (is_text text) constraint_signs
