-- The names of opcodes, without the `OP_` in front of them, as the Bitcoin Cash specification has them after May 2022. The
-- bytes 01 to 4e, which push bytes of the script, 50, bd to bf, and those from ce on have none.
use Rattle.std.specs.Prelude.{ℕ, suc, Bool, true, ◌==◌, ◌&&◌, nat_lt, if◌then◌else◌, List, [], ◌∷◌, codes, Option, Some, None, is_some}
use Rattle.std.specs.List.{list_all, flat_map}
use Rattle.std.specs.Str.{bytes_eq}
use Rattle.script_codec.specs.declared.instr.Instr.{Instr}
use Rattle.script_codec.specs.declared.instr.Instr.TheVariants.{Push, Do}
use Rattle.script_codec.specs.Words.{words}

-- opcodes whose bytes follow one another: the first of them, and their names as the words of a text
abbrev pub runs : List (ℕ × List ℕ)
runs =
    (0x00, codes "0")
    ∷ (0x4f, codes "1NEGATE")
    ∷ (0x51, codes "1 2 3 4 5 6 7 8 9 10 11 12 13 14 15 16")
    ∷ (0x61, codes "NOP VER IF NOTIF VERIF VERNOTIF ELSE ENDIF VERIFY RETURN")
    ∷ (0x6b, codes "TOALTSTACK FROMALTSTACK 2DROP 2DUP 3DUP 2OVER 2ROT 2SWAP IFDUP DEPTH DROP")
    ∷ (0x76, codes "DUP NIP OVER PICK ROLL ROT SWAP TUCK")
    ∷ (0x7e, codes "CAT SPLIT NUM2BIN BIN2NUM SIZE INVERT AND OR XOR EQUAL EQUALVERIFY RESERVED1 RESERVED2")
    ∷ (0x8b, codes "1ADD 1SUB 2MUL 2DIV NEGATE ABS NOT 0NOTEQUAL")
    ∷ (0x93, codes "ADD SUB MUL DIV MOD LSHIFT RSHIFT")
    ∷ (0x9a, codes "BOOLAND BOOLOR NUMEQUAL NUMEQUALVERIFY NUMNOTEQUAL LESSTHAN GREATERTHAN")
    ∷ (0xa1, codes "LESSTHANOREQUAL GREATERTHANOREQUAL MIN MAX WITHIN")
    ∷ (0xa6, codes "RIPEMD160 SHA1 SHA256 HASH160 HASH256 CODESEPARATOR")
    ∷ (0xac, codes "CHECKSIG CHECKSIGVERIFY CHECKMULTISIG CHECKMULTISIGVERIFY")
    ∷ (0xb0, codes "NOP1 CHECKLOCKTIMEVERIFY CHECKSEQUENCEVERIFY NOP4 NOP5 NOP6 NOP7 NOP8 NOP9 NOP10")
    ∷ (0xba, codes "CHECKDATASIG CHECKDATASIGVERIFY REVERSEBYTES")
    ∷ (0xc0, codes "INPUTINDEX ACTIVEBYTECODE TXVERSION TXINPUTCOUNT TXOUTPUTCOUNT TXLOCKTIME UTXOVALUE UTXOBYTECODE")
    ∷ (0xc8, codes "OUTPOINTTXHASH OUTPOINTINDEX INPUTBYTECODE INPUTSEQUENCENUMBER OUTPUTVALUE OUTPUTBYTECODE")
    ∷ []

-- each name with its opcode
abbrev pub numbered : ℕ → List (List ℕ) → List (ℕ × List ℕ)
numbered first [] = []
numbered first (name ∷ names) = (first, name) ∷ numbered (suc first) names

-- a row for each opcode that has a name
unfoldable pub named_opcodes : List (ℕ × List ℕ)
named_opcodes = flat_map (λ run. numbered run.0 (words run.1)) runs

-- the name in the first row of an opcode
abbrev pub name_in : List (ℕ × List ℕ) → ℕ → Option (List ℕ)
name_in [] opcode = None
name_in (row ∷ rows) opcode = if opcode == row.0 then Some row.1 else name_in rows opcode

-- the opcode in the first row of a name
abbrev pub opcode_in : List (ℕ × List ℕ) → List ℕ → Option ℕ
opcode_in [] name = None
opcode_in (row ∷ rows) name = if bytes_eq name row.1 then Some row.0 else opcode_in rows name

abbrev pub name_of : ℕ → Option (List ℕ)
name_of opcode = name_in named_opcodes opcode

abbrev pub opcode_named : List ℕ → Option ℕ
opcode_named name = opcode_in named_opcodes name

abbrev pub has_name : ℕ → Bool
has_name opcode = is_some (name_of opcode)

-- a push, or an opcode above 60 that has a name
abbrev pub is_named : Instr → Bool
is_named (Push e) = true
is_named (Do opcode) = nat_lt 0x60 opcode.0 && has_name opcode.0

abbrev pub are_named : List Instr → Bool
are_named code = list_all is_named code
