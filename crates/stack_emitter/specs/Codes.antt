-- The form of emitted rows: which instructions stand among them, and what they weigh.
use Rattle.std.specs.Prelude.{◌≡◌, ℕ, ◌+◌, ◌==◌, Bool, true, false, not, ◌&&◌, ◌||◌, nat_lt, List, [], ◌∷◌, length}
use Rattle.std.specs.List.{list_all}
use Rattle.cash_base.specs.declared.place.Span.{Span}
use Rattle.script_codec.specs.declared.instr.Instr.{Instr}
use Rattle.script_codec.specs.declared.instr.Instr.TheVariants.{Push, Do}
use Rattle.script_codec.specs.declared.spans.Spanned.{Spanned}
use Rattle.script_codec.specs.Spelling.{is_instruction, spelling, spellings}
use Rattle.script_codec.specs.Counting.{weight, takes_keys}
use Rattle.script_codec.specs.Names.{is_named}
use Rattle.element_ops.specs.declared.op.Op1.{Op1}
use Rattle.element_ops.specs.declared.op.Op1.TheVariants.{Size}
use Rattle.opcode_table.specs.declared.rows.Deed.{Deed}
use Rattle.opcode_table.specs.declared.rows.Deed.TheVariants.{One, Measures}
use Rattle.opcode_table.specs.declared.rows.Row.TheVariants.{Does}
use Rattle.opcode_table.specs.Table.{row_of}
use Rattle.bch_vm.specs.Board.{is_condition}
use Rattle.bch_vm.specs.Law.{asks_for_keys}
use Rattle.row_runs.specs.Rows.{instructions, is_control}
use Rattle.row_runs.specs.Code.{is_simple}

abbrev pub is_span : Span → Span → Bool
is_span a b = (a.from == b.from) && (a.to == b.to)

-- DEPTH
abbrev pub is_depth : Instr → Bool
is_depth (Push e) = false
is_depth (Do opcode) = opcode.0 == 0x74

-- it has a spelling, is none of CODESEPARATOR, DEPTH, TOALTSTACK and FROMALTSTACK, and has a name where it is no push
abbrev pub is_sound : Instr → Bool
is_sound instr = is_instruction instr && (is_simple instr && (not (is_depth instr) && is_named instr))

-- each opcode from 61 to bc and from c0 to cd has a name
abbrev pub is_in_names : ℕ → Bool
is_in_names opcode = nat_lt 0x60 opcode && (nat_lt opcode 0xbd || (nat_lt 0xbf opcode && nat_lt opcode 0xce))

-- an opcode that may be emitted in a statement: no IF, NOTIF, ELSE or ENDIF, and it asks for no keys
abbrev pub is_plain_opcode : ℕ → Bool
is_plain_opcode opcode = is_in_names opcode && (not (is_condition opcode) && (not (opcode == 0x74) && not (takes_keys opcode)))

-- an opcode that does this deed
pub record IsOpcode (opcode : ℕ) (deed : Deed) : Type 0 where
  pub row : row_of opcode ≡ Does deed
  pub plain : is_plain_opcode opcode ≡ true

-- what the opcode of an operation on one element does
abbrev pub deed1 : Op1 → Deed
deed1 Size = Measures
deed1 op = One op

abbrev pub are_sound : List Spanned → Bool
are_sound rows = list_all is_sound (instructions rows)

-- no IF, NOTIF, ELSE or ENDIF, and it asks for no keys
abbrev pub is_plain_instr : Instr → Bool
is_plain_instr instr = not (is_control instr) && not (asks_for_keys instr)

-- rows at these two places, and all plain
abbrev pub are_plain : Span → Span → List Spanned → Bool
are_plain doing checking [] = true
are_plain doing checking (row ∷ rows) =
    ((is_span doing row.doing && is_span checking row.checking) && is_plain_instr row.instr) && are_plain doing checking rows

-- ---- bytes and counted opcodes

unfoldable pub bytes_of : List Spanned → ℕ
bytes_of rows = length (spellings (instructions rows))

abbrev pub row_bytes : Instr → ℕ
row_bytes instr = length (spelling instr)

-- an opcode above 60 counts as one
abbrev pub row_ops : Instr → ℕ
row_ops (Push e) = 0
row_ops (Do opcode) = weight opcode.0

unfoldable pub ops_of : List Spanned → ℕ
ops_of [] = 0
ops_of (row ∷ rows) = row_ops row.instr + ops_of rows
