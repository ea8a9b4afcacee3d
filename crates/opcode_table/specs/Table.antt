-- The opcodes as data: what each does, in the order of their bytes.
use Rattle.std.specs.Prelude.{ℕ, ◌+◌, ◌-◌, ◌&&◌, Bool, true, false, nat_lt, nat_le, if◌then◌else◌, List, [], ◌∷◌, slice_get, Option, Some, None}
use Rattle.cash_base.specs.declared.fault.MachineCause.TheVariants.{BadOpcode, Disabled, Returned}
use Rattle.cash_base.specs.declared.look.Look0.TheVariants.{Version, Locktime, InputCount, OutputCount, ActiveIndex, ActiveBytecode}
use Rattle.cash_base.specs.declared.look.LookAt.TheVariants.{UtxoValue, UtxoBytecode, OutpointHash, OutpointIndex, InputBytecode, InputSequence, OutputValue, OutputBytecode}
use Rattle.element_ops.specs.declared.op.Op1.TheVariants.{Negate, Abs, Not, NonZero, AddOne, SubOne, Reverse, ToNumber, Ripemd160, Sha1, Sha256, Hash160, Hash256}
use Rattle.element_ops.specs.declared.op.Op2.TheVariants.{Add, Sub, Mul, Div, Mod, Min, Max, Less, Greater, LessEqual, GreaterEqual, NumEqual, NumNotEqual, BoolAnd, BoolOr, Equal, And, Or, Xor, Cat, Pad}
use Rattle.element_ops.specs.declared.op.Op3.TheVariants.{Within}
use Rattle.opcode_table.specs.declared.rows.Deed.{Deed}
use Rattle.opcode_table.specs.declared.rows.Deed.TheVariants.{Stays, Refuses, Puts, One, Two, Three, Measures, Splits, CopiesTrue, Counts, Copies, Moves, Verifies, Asks, AsksAt, Waits, Ages, Checks, ChecksData, ChecksMany}
use Rattle.opcode_table.specs.declared.rows.Row.{Row}
use Rattle.opcode_table.specs.declared.rows.Row.TheVariants.{Never, Opens, Flips, Closes, Lays, Fetches, Separates, Does, DoesAndVerifies}

-- The rows of the bytes 61 to cd (hexadecimal), in order. `Puts 2 3 (1, 0, 1)` takes two elements a b and puts b a b; the
-- numbers after the first three are no part of it.
unfoldable pub rows : List Row
rows =
    Does Stays  -- 61 NOP
    ∷ Does (Refuses BadOpcode)  -- 62 VER
    ∷ Opens true  -- 63 IF
    ∷ Opens false  -- 64 NOTIF
    ∷ Never BadOpcode  -- 65 VERIF
    ∷ Never BadOpcode  -- 66 VERNOTIF
    ∷ Flips  -- 67 ELSE
    ∷ Closes  -- 68 ENDIF
    ∷ Does Verifies  -- 69 VERIFY
    ∷ Does (Refuses Returned)  -- 6a RETURN
    ∷ Lays  -- 6b TOALTSTACK
    ∷ Fetches  -- 6c FROMALTSTACK
    ∷ Does (Puts 2 0 (0 ∷ 0 ∷ 0 ∷ 0 ∷ 0 ∷ 0 ∷ []))  -- 6d 2DROP
    ∷ Does (Puts 2 4 (0 ∷ 1 ∷ 0 ∷ 1 ∷ 0 ∷ 0 ∷ []))  -- 6e 2DUP
    ∷ Does (Puts 3 6 (0 ∷ 1 ∷ 2 ∷ 0 ∷ 1 ∷ 2 ∷ []))  -- 6f 3DUP
    ∷ Does (Puts 4 6 (0 ∷ 1 ∷ 2 ∷ 3 ∷ 0 ∷ 1 ∷ []))  -- 70 2OVER
    ∷ Does (Puts 6 6 (2 ∷ 3 ∷ 4 ∷ 5 ∷ 0 ∷ 1 ∷ []))  -- 71 2ROT
    ∷ Does (Puts 4 4 (2 ∷ 3 ∷ 0 ∷ 1 ∷ 0 ∷ 0 ∷ []))  -- 72 2SWAP
    ∷ Does CopiesTrue  -- 73 IFDUP
    ∷ Does Counts  -- 74 DEPTH
    ∷ Does (Puts 1 0 (0 ∷ 0 ∷ 0 ∷ 0 ∷ 0 ∷ 0 ∷ []))  -- 75 DROP
    ∷ Does (Puts 1 2 (0 ∷ 0 ∷ 0 ∷ 0 ∷ 0 ∷ 0 ∷ []))  -- 76 DUP
    ∷ Does (Puts 2 1 (1 ∷ 0 ∷ 0 ∷ 0 ∷ 0 ∷ 0 ∷ []))  -- 77 NIP
    ∷ Does (Puts 2 3 (0 ∷ 1 ∷ 0 ∷ 0 ∷ 0 ∷ 0 ∷ []))  -- 78 OVER
    ∷ Does Copies  -- 79 PICK
    ∷ Does Moves  -- 7a ROLL
    ∷ Does (Puts 3 3 (1 ∷ 2 ∷ 0 ∷ 0 ∷ 0 ∷ 0 ∷ []))  -- 7b ROT
    ∷ Does (Puts 2 2 (1 ∷ 0 ∷ 0 ∷ 0 ∷ 0 ∷ 0 ∷ []))  -- 7c SWAP
    ∷ Does (Puts 2 3 (1 ∷ 0 ∷ 1 ∷ 0 ∷ 0 ∷ 0 ∷ []))  -- 7d TUCK
    ∷ Does (Two Cat)  -- 7e CAT
    ∷ Does Splits  -- 7f SPLIT
    ∷ Does (Two Pad)  -- 80 NUM2BIN
    ∷ Does (One ToNumber)  -- 81 BIN2NUM
    ∷ Does Measures  -- 82 SIZE
    ∷ Never Disabled  -- 83 INVERT
    ∷ Does (Two And)  -- 84 AND
    ∷ Does (Two Or)  -- 85 OR
    ∷ Does (Two Xor)  -- 86 XOR
    ∷ Does (Two Equal)  -- 87 EQUAL
    ∷ DoesAndVerifies (Two Equal)  -- 88 EQUALVERIFY
    ∷ Does (Refuses BadOpcode)  -- 89 RESERVED1
    ∷ Does (Refuses BadOpcode)  -- 8a RESERVED2
    ∷ Does (One AddOne)  -- 8b 1ADD
    ∷ Does (One SubOne)  -- 8c 1SUB
    ∷ Never Disabled  -- 8d 2MUL
    ∷ Never Disabled  -- 8e 2DIV
    ∷ Does (One Negate)  -- 8f NEGATE
    ∷ Does (One Abs)  -- 90 ABS
    ∷ Does (One Not)  -- 91 NOT
    ∷ Does (One NonZero)  -- 92 0NOTEQUAL
    ∷ Does (Two Add)  -- 93 ADD
    ∷ Does (Two Sub)  -- 94 SUB
    ∷ Does (Two Mul)  -- 95 MUL
    ∷ Does (Two Div)  -- 96 DIV
    ∷ Does (Two Mod)  -- 97 MOD
    ∷ Never Disabled  -- 98 LSHIFT
    ∷ Never Disabled  -- 99 RSHIFT
    ∷ Does (Two BoolAnd)  -- 9a BOOLAND
    ∷ Does (Two BoolOr)  -- 9b BOOLOR
    ∷ Does (Two NumEqual)  -- 9c NUMEQUAL
    ∷ DoesAndVerifies (Two NumEqual)  -- 9d NUMEQUALVERIFY
    ∷ Does (Two NumNotEqual)  -- 9e NUMNOTEQUAL
    ∷ Does (Two Less)  -- 9f LESSTHAN
    ∷ Does (Two Greater)  -- a0 GREATERTHAN
    ∷ Does (Two LessEqual)  -- a1 LESSTHANOREQUAL
    ∷ Does (Two GreaterEqual)  -- a2 GREATERTHANOREQUAL
    ∷ Does (Two Min)  -- a3 MIN
    ∷ Does (Two Max)  -- a4 MAX
    ∷ Does (Three Within)  -- a5 WITHIN
    ∷ Does (One Ripemd160)  -- a6 RIPEMD160
    ∷ Does (One Sha1)  -- a7 SHA1
    ∷ Does (One Sha256)  -- a8 SHA256
    ∷ Does (One Hash160)  -- a9 HASH160
    ∷ Does (One Hash256)  -- aa HASH256
    ∷ Separates  -- ab CODESEPARATOR
    ∷ Does Checks  -- ac CHECKSIG
    ∷ DoesAndVerifies Checks  -- ad CHECKSIGVERIFY
    ∷ Does ChecksMany  -- ae CHECKMULTISIG
    ∷ DoesAndVerifies ChecksMany  -- af CHECKMULTISIGVERIFY
    ∷ Does Stays  -- b0 NOP1
    ∷ Does Waits  -- b1 CHECKLOCKTIMEVERIFY
    ∷ Does Ages  -- b2 CHECKSEQUENCEVERIFY
    ∷ Does Stays  -- b3 NOP4
    ∷ Does Stays  -- b4 NOP5
    ∷ Does Stays  -- b5 NOP6
    ∷ Does Stays  -- b6 NOP7
    ∷ Does Stays  -- b7 NOP8
    ∷ Does Stays  -- b8 NOP9
    ∷ Does Stays  -- b9 NOP10
    ∷ Does ChecksData  -- ba CHECKDATASIG
    ∷ DoesAndVerifies ChecksData  -- bb CHECKDATASIGVERIFY
    ∷ Does (One Reverse)  -- bc REVERSEBYTES
    ∷ Does (Refuses BadOpcode)  -- bd
    ∷ Does (Refuses BadOpcode)  -- be
    ∷ Does (Refuses BadOpcode)  -- bf
    ∷ Does (Asks ActiveIndex)  -- c0 INPUTINDEX
    ∷ Does (Asks ActiveBytecode)  -- c1 ACTIVEBYTECODE
    ∷ Does (Asks Version)  -- c2 TXVERSION
    ∷ Does (Asks InputCount)  -- c3 TXINPUTCOUNT
    ∷ Does (Asks OutputCount)  -- c4 TXOUTPUTCOUNT
    ∷ Does (Asks Locktime)  -- c5 TXLOCKTIME
    ∷ Does (AsksAt UtxoValue)  -- c6 UTXOVALUE
    ∷ Does (AsksAt UtxoBytecode)  -- c7 UTXOBYTECODE
    ∷ Does (AsksAt OutpointHash)  -- c8 OUTPOINTTXHASH
    ∷ Does (AsksAt OutpointIndex)  -- c9 OUTPOINTINDEX
    ∷ Does (AsksAt InputBytecode)  -- ca INPUTBYTECODE
    ∷ Does (AsksAt InputSequence)  -- cb INPUTSEQUENCENUMBER
    ∷ Does (AsksAt OutputValue)  -- cc OUTPUTVALUE
    ∷ Does (AsksAt OutputBytecode)  -- cd OUTPUTBYTECODE
    ∷ []

-- an executed opcode without a meaning
abbrev pub bad : Row
bad = Does (Refuses BadOpcode)

abbrev pub row_or_bad : Option Row → Row
row_or_bad None = bad
row_or_bad (Some row) = row

abbrev pub row_in : List Row → ℕ → Row
row_in table opcode = if nat_lt opcode 0x61 then bad else row_or_bad (slice_get table (opcode - 0x61))

-- the row of an opcode; one below 61 that is no push has no meaning, and so has one above cd
abbrev pub row_of : ℕ → Row
row_of opcode = row_in rows opcode

-- ---- what the limits of the machine need

-- a deed takes and puts at most 6 elements, and at most three more than it takes
abbrev pub is_modest : Deed → Bool
is_modest (Puts count put numbers) = nat_le count 6 && (nat_le put 6 && nat_le put (count + 3))
is_modest _ = true

abbrev pub is_modest_row : Row → Bool
is_modest_row (Does deed) = is_modest deed
is_modest_row (DoesAndVerifies deed) = is_modest deed
is_modest_row _ = true
