-- What an artifact reads as: a program, or its first fault.
use Rattle.std.specs.Prelude.{ℕ, not, ◌==◌, ◌&&◌, nat_le, Bool, List, length, Option, Some, None, ok_or, Result, Ok, Err, if◌then◌else◌}
use Rattle.cash_base.specs.Failing.{◌>>=◌, ◌>>◌, refused_if}
use Rattle.cash_base.specs.declared.place.Span.{Span}
use Rattle.cash_symbols.specs.Words.{type_of}
use Rattle.serde_json.specs.Data.{Data}
use Rattle.serde_json.specs.Events.{items_len}
use Rattle.serde_json.specs.Find.{get, at, as_array}
use Rattle.json_fields.specs.Document.{object_in}
use Rattle.json_fields.specs.Fields.{whole_of, natural_within, each, if_there}
use Rattle.script_codec.specs.declared.instr.Instr.{Instr}
use Rattle.script_codec.specs.Spelling.{spellings}
use Rattle.asm_text.specs.declared.fault.AsmFault.{AsmFault}
use Rattle.asm_text.specs.declared.fault.AsmFault.TheVariants as asm
use Rattle.asm_text.specs.Assembly.{assembly_code}
use Rattle.span_map.specs.declared.SpanRow.{SpanRow}
use Rattle.artifact_json.specs.declared.fault.Field.TheVariants as fields
use Rattle.artifact_json.specs.declared.fault.ArtifactFault.{ArtifactFault}
use Rattle.artifact_json.specs.declared.fault.ArtifactFault.TheVariants as faults
use Rattle.artifact_json.specs.Artifact.{AbiParam, AbiCall, Artifact}
use Rattle.artifact_json.specs.Fields.{key, text_at, object_at, objects_at}

-- a number in a fault, at most the greatest of 32 bits
abbrev pub capped : ℕ → ℕ
capped n = if nat_le n 4294967295 then n else 4294967295

-- ---- code

-- a word that stands for no instruction, whatever is wrong with it
abbrev pub asm_fault : AsmFault → ArtifactFault
asm_fault (asm.UnknownWord word) = faults.BadAsm word
asm_fault (asm.BadHex word) = faults.BadAsm word
asm_fault (asm.TooLong word) = faults.BadAsm word
asm_fault asm.Memory = faults.Memory

abbrev pub if_code : Result (List Instr) AsmFault → Result (List Instr) ArtifactFault
if_code (Ok code) = Ok code
if_code (Err fault) = Err (asm_fault fault)

-- code of at most 520 bytes
abbrev pub if_short : List Instr → Result (List Instr) ArtifactFault
if_short code =
    if nat_le (length (spellings code)) 520 then Ok code else Err (faults.TooLong (capped (length (spellings code))))

unfoldable pub code_at : Data → Result (List Instr) ArtifactFault
code_at d = do
  text ← text_at fields.Bytecode d
  code ← if_code (assembly_code text)
  if_short code

-- ---- spans

abbrev pub no_spans : ArtifactFault
no_spans = faults.WrongKind fields.Spans

-- the number of 32 bits at a place of a list
unfoldable pub number_at : ℕ → Data → Result ℕ ArtifactFault
number_at place d = do
  value ← ok_or (at place d) no_spans
  whole ← ok_or (whole_of value) no_spans
  ok_or (natural_within 4294967295 whole) no_spans

-- it doesn't end before it begins, nor behind a source of so many bytes
abbrev pub is_inside : ℕ → Span → Bool
is_inside size span = nat_le span.from span.to && nat_le span.to size

-- the span of two numbers of a list, the first at this place
unfoldable pub span_at : (size place next : ℕ) → Data → Result Span ArtifactFault
span_at size place next d = do
  from ← number_at place d
  to ← number_at next d
  let span : Span = record { from = from; to = to }
  refused_if (not (is_inside size span)) no_spans
  Ok span

-- a list of four numbers: the places of the operation and of the statement
unfoldable pub row_of : ℕ → Data → Result SpanRow ArtifactFault
row_of size d = do
  items ← ok_or (as_array d) no_spans
  refused_if (not (items_len items == 4)) no_spans
  doing ← span_at size 0 1 d
  checking ← span_at size 2 3 d
  Ok (record { doing = doing; checking = checking })

unfoldable pub rows_of : ℕ → Data → Result (List SpanRow) ArtifactFault
rows_of size d = do
  items ← ok_or (as_array d) no_spans
  each (row_of size) items

-- the only field that may be missing
unfoldable pub spans_at : ℕ → Data → Result (Option (List SpanRow)) ArtifactFault
spans_at size d = if_there (rows_of size) (get (key fields.Spans) d)

-- ---- what is inside the fields

unfoldable pub input_of : Data → Result AbiParam ArtifactFault
input_of d = do
  name ← text_at fields.Name d
  spelled ← text_at fields.TypeName d
  ty ← ok_or (type_of spelled) (faults.WrongKind fields.TypeName)
  Ok (record { name = name; ty = ty })

unfoldable pub call_of : Data → Result AbiCall ArtifactFault
call_of d = do
  name ← text_at fields.Name d
  items ← objects_at 0 16 fields.Inputs d
  inputs ← each input_of items
  Ok (record { name = name; inputs = inputs })

-- two texts of any content
unfoldable pub compiler_check : Data → Result (Unit {0}) ArtifactFault
compiler_check d = do
  name ← text_at fields.Name d
  version ← text_at fields.Version d
  Ok tt

-- ---- the whole

-- a row for each instruction, where there are rows
abbrev pub count_check : List Instr → Option (List SpanRow) → Result (Unit {0}) ArtifactFault
count_check code None = Ok tt
count_check code (Some rows) =
    if length rows == length code then Ok tt else Err (faults.SpanCount (capped (length rows)) (capped (length code)))

-- each field, then what is inside them, and the number of rows last
unfoldable pub program_of : Data → Result Artifact ArtifactFault
program_of d = do
  name ← text_at fields.ContractName d
  params ← objects_at 0 16 fields.ConstructorInputs d
  functions ← objects_at 1 64 fields.Abi d
  code ← code_at d
  source ← text_at fields.Source d
  compiler ← object_at fields.Compiler d
  updated ← text_at fields.UpdatedAt d
  spans ← spans_at (length source) d
  ctor ← each input_of params
  abi ← each call_of functions
  compiler_check compiler
  count_check code spans
  Ok (record { code = code; spans = spans; ctor = ctor; abi = abi; name = name; source = source; updated = updated })

-- the program that bytes spell, or the first fault
unfoldable pub artifact_reading : List ℕ → Result Artifact ArtifactFault
artifact_reading bytes = do
  d ← ok_or (object_in bytes) faults.NotJson
  program_of d
