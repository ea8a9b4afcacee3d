-- Rows of one operation that are known in advance.
use Rattle.std.specs.Prelude.{ℕ, List, ◌∷◌, map, pos}
use Rattle.cash_base.specs.declared.place.Span.{Span}
use Rattle.cash_base.specs.Number.{minimal_bytes}
use Rattle.element_ops.specs.declared.op.Op2.TheVariants.{Cat}
use Rattle.element_ops.specs.Operation.{result2}
use Rattle.form_tables.specs.Forms.{pushed_chunk}
use Rattle.script_codec.specs.declared.instr.Instr.{Instr}
use Rattle.script_codec.specs.declared.instr.Instr.TheVariants.{Do}
use Rattle.script_codec.specs.declared.spans.Spanned.{Spanned}
use Rattle.script_codec.specs.Reading.{push}
use Rattle.slot_code.specs.Meaning.{on_two, gives}
use Rattle.row_runs.specs.Rows.{row}
use Rattle.stack_emitter.specs.Correct.{Deed}
use Rattle.stack_pieces.specs.declared.pieces.Piece.{Piece}
use Rattle.stack_pieces.specs.declared.pieces.Piece.TheVariants.{Code, Number}

abbrev pub piece_instr : Piece → Instr
piece_instr (Code opcode) = Do (record { 0 = opcode })
piece_instr (Number n) = push (minimal_bytes (pos n))

abbrev pub rows_of_pieces : Span → Span → List Piece → List Spanned
rows_of_pieces d c pieces = map (λ p. row (piece_instr p) d c) pieces

-- appends a chunk's push
abbrev pub chunk_deed : Span → Deed
chunk_deed doing world s = on_two doing s.operands (λ so_far chunk rest. gives doing (result2 Cat so_far (pushed_chunk chunk)) rest s.env)
