-- The table of the rules: what stands in a window, what stands in its place, and whose doing span this has.
use Rattle.std.specs.Prelude.{◌≡◌, ℕ, suc, List, [], ◌∷◌, ◌++◌, map}
use Rattle.cash_base.specs.declared.place.Span.{Span}
use Rattle.script_codec.specs.declared.instr.Instr.{Instr}
use Rattle.script_codec.specs.declared.instr.Instr.TheVariants.{Do}
use Rattle.script_codec.specs.declared.spans.Spanned.{Spanned}
use Rattle.script_codec.specs.Reading.{push}
use Rattle.rewrite_rules.specs.declared.rules.Commuting.{Commuting}
use Rattle.rewrite_rules.specs.declared.rules.ByOne.{ByOne}
use Rattle.rewrite_rules.specs.declared.rules.SecondHash.{SecondHash}
use Rattle.rewrite_rules.specs.declared.rules.TheConstants.{COMMUTING}
use Rattle.rewrite_rules.specs.Rows.{row}

-- What stands in a window, what stands in its place, and the number of the window's instruction, from 0, whose doing span this
-- has. It is the first of the window's opcodes that can fail, where the stack has the least elements that the rule needs, with
-- another cause than CheckFailed, or the window's last where none can.
pub record Rule : Type 0 where
  pub before : List Instr
  pub after : List Instr
  pub place : ℕ

abbrev pub rule : List Instr → List Instr → ℕ → Rule
rule before after place = record { before = before; after = after; place = place }

-- instructions of one checking span, each with a doing span of its own
abbrev pub rows_of : List Instr → (ℕ → Span) → Span → List Spanned
rows_of [] places checking = []
rows_of (instr ∷ instrs) places checking = row checking instr (places 0) ∷ rows_of instrs (λ k. places (suc k)) checking

abbrev pub window_of : Rule → (ℕ → Span) → Span → List Spanned
window_of r places checking = rows_of r.before places checking

-- The replacement has the checking span of the window.
abbrev pub replacement_of : Rule → (ℕ → Span) → Span → List Spanned
replacement_of r places checking = map (λ instr. row checking instr (places r.place)) r.after

-- the rows are a window of the rule
pub record Matches (r : Rule) (rows : List Spanned) : Type 0 where
  pub places : ℕ → Span
  pub checking : Span
  pub is : rows ≡ window_of r places checking

-- the rows are a window of the rule, and the code is what it puts in their place
pub record Rewrites (r : Rule) (rows code : List Spanned) : Type 0 where
  pub places : ℕ → Span
  pub checking : Span
  pub was : rows ≡ window_of r places checking
  pub now : code ≡ replacement_of r places checking

-- ---- instructions

abbrev pub does : ℕ → Instr
does byte = Do (record { 0 = byte })

abbrev pub zero_pushed : Instr
zero_pushed = push []

abbrev pub one_pushed : Instr
one_pushed = push (1 ∷ [])

abbrev pub two_pushed : Instr
two_pushed = push (2 ∷ [])

abbrev pub VERIFY : Instr
VERIFY = does 0x69

abbrev pub DROP2 : Instr
DROP2 = does 0x6d

abbrev pub DUP2 : Instr
DUP2 = does 0x6e

abbrev pub DROP : Instr
DROP = does 0x75

abbrev pub DUP : Instr
DUP = does 0x76

abbrev pub NIP : Instr
NIP = does 0x77

abbrev pub OVER : Instr
OVER = does 0x78

abbrev pub PICK : Instr
PICK = does 0x79

abbrev pub ROLL : Instr
ROLL = does 0x7a

abbrev pub ROT : Instr
ROT = does 0x7b

abbrev pub SWAP : Instr
SWAP = does 0x7c

abbrev pub TUCK : Instr
TUCK = does 0x7d

abbrev pub EQUAL : Instr
EQUAL = does 0x87

abbrev pub EQUALVERIFY : Instr
EQUALVERIFY = does 0x88

abbrev pub ADD1 : Instr
ADD1 = does 0x8b

abbrev pub SUB1 : Instr
SUB1 = does 0x8c

abbrev pub NOT : Instr
NOT = does 0x91

abbrev pub ADD : Instr
ADD = does 0x93

abbrev pub SUB : Instr
SUB = does 0x94

abbrev pub NUMEQUAL : Instr
NUMEQUAL = does 0x9c

abbrev pub NUMEQUALVERIFY : Instr
NUMEQUALVERIFY = does 0x9d

abbrev pub NUMNOTEQUAL : Instr
NUMNOTEQUAL = does 0x9e

abbrev pub RIPEMD160 : Instr
RIPEMD160 = does 0xa6

abbrev pub SHA256 : Instr
SHA256 = does 0xa8

abbrev pub HASH160 : Instr
HASH160 = does 0xa9

abbrev pub HASH256 : Instr
HASH256 = does 0xaa

abbrev pub CHECKSIG : Instr
CHECKSIG = does 0xac

abbrev pub CHECKSIGVERIFY : Instr
CHECKSIGVERIFY = does 0xad

abbrev pub CHECKMULTISIG : Instr
CHECKMULTISIG = does 0xae

abbrev pub CHECKMULTISIGVERIFY : Instr
CHECKMULTISIGVERIFY = does 0xaf

abbrev pub CHECKDATASIG : Instr
CHECKDATASIG = does 0xba

abbrev pub CHECKDATASIGVERIFY : Instr
CHECKDATASIGVERIFY = does 0xbb

-- the operations that give the same with their two operands swapped
abbrev pub commuting : Commuting → Instr
commuting Commuting.Add = ADD
commuting Commuting.Mul = does 0x95
commuting Commuting.And = does 0x84
commuting Commuting.Or = does 0x85
commuting Commuting.Xor = does 0x86
commuting Commuting.Equal = EQUAL
commuting Commuting.EqualVerify = EQUALVERIFY
commuting Commuting.NumEqual = NUMEQUAL
commuting Commuting.NumEqualVerify = NUMEQUALVERIFY
commuting Commuting.NumNotEqual = NUMNOTEQUAL
commuting Commuting.BoolAnd = does 0x9a
commuting Commuting.BoolOr = does 0x9b
commuting Commuting.Min = does 0xa3
commuting Commuting.Max = does 0xa4

-- ADD and SUB, and the same by one
abbrev pub with_one : ByOne → Instr
with_one ByOne.Add = ADD
with_one ByOne.Sub = SUB

abbrev pub by_one : ByOne → Instr
by_one ByOne.Add = ADD1
by_one ByOne.Sub = SUB1

-- RIPEMD160 and SHA256, and the same of a SHA-256
abbrev pub hashed_again : SecondHash → Instr
hashed_again SecondHash.Ripemd160 = RIPEMD160
hashed_again SecondHash.Sha256 = SHA256

abbrev pub hashed_twice : SecondHash → Instr
hashed_twice SecondHash.Ripemd160 = HASH160
hashed_twice SecondHash.Sha256 = HASH256

-- ---- the table

abbrev pub pick_top : Rule
pick_top = rule (zero_pushed ∷ PICK ∷ []) (DUP ∷ []) 1

abbrev pub pick_second : Rule
pick_second = rule (one_pushed ∷ PICK ∷ []) (OVER ∷ []) 1

abbrev pub roll_top : Rule
roll_top = rule (zero_pushed ∷ ROLL ∷ []) [] 1

abbrev pub roll_second : Rule
roll_second = rule (one_pushed ∷ ROLL ∷ []) (SWAP ∷ []) 1

abbrev pub roll_third : Rule
roll_third = rule (two_pushed ∷ ROLL ∷ []) (ROT ∷ []) 1

abbrev pub swap_twice : Rule
swap_twice = rule (SWAP ∷ SWAP ∷ []) [] 1

abbrev pub rot_three_times : Rule
rot_three_times = rule (ROT ∷ ROT ∷ ROT ∷ []) [] 2

abbrev pub dup_swap : Rule
dup_swap = rule (DUP ∷ SWAP ∷ []) (DUP ∷ []) 1

abbrev pub dup_drop : Rule
dup_drop = rule (DUP ∷ DROP ∷ []) [] 1

abbrev pub over_drop : Rule
over_drop = rule (OVER ∷ DROP ∷ []) [] 1

abbrev pub swap_drop : Rule
swap_drop = rule (SWAP ∷ DROP ∷ []) (NIP ∷ []) 1

abbrev pub swap_over : Rule
swap_over = rule (SWAP ∷ OVER ∷ []) (TUCK ∷ []) 1

abbrev pub drop_twice : Rule
drop_twice = rule (DROP ∷ DROP ∷ []) (DROP2 ∷ []) 1

abbrev pub over_twice : Rule
over_twice = rule (OVER ∷ OVER ∷ []) (DUP2 ∷ []) 1

abbrev pub swap_then : Commuting → Rule
swap_then op = rule (SWAP ∷ commuting op ∷ []) (commuting op ∷ []) 1

abbrev pub equal_verify : Rule
equal_verify = rule (EQUAL ∷ VERIFY ∷ []) (EQUALVERIFY ∷ []) 1

abbrev pub num_equal_verify : Rule
num_equal_verify = rule (NUMEQUAL ∷ VERIFY ∷ []) (NUMEQUALVERIFY ∷ []) 0

abbrev pub check_sig_verify : Rule
check_sig_verify = rule (CHECKSIG ∷ VERIFY ∷ []) (CHECKSIGVERIFY ∷ []) 0

abbrev pub check_data_sig_verify : Rule
check_data_sig_verify = rule (CHECKDATASIG ∷ VERIFY ∷ []) (CHECKDATASIGVERIFY ∷ []) 0

abbrev pub check_multi_sig_verify : Rule
check_multi_sig_verify = rule (CHECKMULTISIG ∷ VERIFY ∷ []) (CHECKMULTISIGVERIFY ∷ []) 0

abbrev pub num_equal_not : Rule
num_equal_not = rule (NUMEQUAL ∷ NOT ∷ []) (NUMNOTEQUAL ∷ []) 0

abbrev pub one_then : ByOne → Rule
one_then op = rule (one_pushed ∷ with_one op ∷ []) (by_one op ∷ []) 1

abbrev pub sha256_then : SecondHash → Rule
sha256_then op = rule (SHA256 ∷ hashed_again op ∷ []) (hashed_twice op ∷ []) 1

-- in four groups, each of which a function of its own looks through
abbrev pub copy_rules : List Rule
copy_rules = pick_top ∷ pick_second ∷ roll_top ∷ roll_second ∷ roll_third ∷ swap_twice ∷ rot_three_times ∷ []

abbrev pub move_rules : List Rule
move_rules = dup_swap ∷ dup_drop ∷ over_drop ∷ swap_drop ∷ swap_over ∷ drop_twice ∷ over_twice ∷ []

abbrev pub swap_rules : List Rule
swap_rules = map swap_then COMMUTING

abbrev pub fusing_rules : List Rule
fusing_rules =
    equal_verify ∷ num_equal_verify ∷ check_sig_verify ∷ check_data_sig_verify ∷ check_multi_sig_verify ∷ num_equal_not
    ∷ one_then ByOne.Add ∷ one_then ByOne.Sub ∷ sha256_then SecondHash.Ripemd160 ∷ sha256_then SecondHash.Sha256 ∷ []

abbrev pub all_rules : List Rule
all_rules = copy_rules ++ (move_rules ++ (swap_rules ++ fusing_rules))
