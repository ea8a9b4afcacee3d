-- The one text of a program.
use Rattle.std.specs.Prelude.{ℕ, ◌<◌, ◌^◌, List, map, codes, Option, Some, None, IfSome}
use Rattle.std.specs.List.{AllByRecursion}
use Rattle.std.specs.Str.{IsUtf8}
use Rattle.cash_base.specs.declared.place.Span.{Span}
use Rattle.serde_json.specs.Data.{Data, number, string, array, object, unsigned, no_items, item, Members, no_members, member}
use Rattle.serde_json.specs.View.{items_of}
use Rattle.json_text.specs.Text.{pretty_text}
use Rattle.asm_text.specs.Assembly.{assembly_text, PushesElement}
use Rattle.span_map.specs.declared.SpanRow.{SpanRow}
use Rattle.artifact_json.specs.declared.fault.Field.TheVariants as fields
use Rattle.artifact_json.specs.Types.{spelling}
use Rattle.artifact_json.specs.Artifact.{AbiParam, AbiCall, Artifact}
use Rattle.artifact_json.specs.Fields.{key}

-- ---- the value: an object has its keys in the order of their bytes

unfoldable pub input_value : AbiParam → Data
input_value input =
    object (member (key fields.Name) (string input.name)
    (member (key fields.TypeName) (string (spelling input.ty)) no_members))

abbrev pub inputs_value : List AbiParam → Data
inputs_value inputs = array (items_of (map input_value inputs))

unfoldable pub call_value : AbiCall → Data
call_value call =
    object (member (key fields.Inputs) (inputs_value call.inputs)
    (member (key fields.Name) (string call.name) no_members))

unfoldable pub compiler_value : Data
compiler_value =
    object (member (key fields.Name) (string (codes "cashc"))
    (member (key fields.Version) (string (codes "0.7.0")) no_members))

abbrev pub natural : ℕ → Data
natural n = number (unsigned n)

-- where the operation begins and ends, and where its statement does
unfoldable pub row_value : SpanRow → Data
row_value row =
    array (item (natural row.doing.from) (item (natural row.doing.to)
    (item (natural row.checking.from) (item (natural row.checking.to) no_items))))

-- the rows, where they are known, in front of other members
abbrev pub with_spans : Option (List SpanRow) → Members → Members
with_spans None others = others
with_spans (Some rows) others = member (key fields.Spans) (array (items_of (map row_value rows))) others

unfoldable pub program_value : Artifact → Data
program_value p =
    object (member (key fields.Abi) (array (items_of (map call_value p.abi)))
    (member (key fields.Bytecode) (string (assembly_text p.code))
    (member (key fields.Compiler) compiler_value
    (member (key fields.ConstructorInputs) (inputs_value p.ctor)
    (member (key fields.ContractName) (string p.name)
    (member (key fields.Source) (string p.source)
    (with_spans p.spans (member (key fields.UpdatedAt) (string p.updated) no_members))))))))

-- ---- the text

unfoldable pub artifact_text : Artifact → List ℕ
artifact_text p = pretty_text (program_value p)

-- ---- what the types of a program's parts say of it

abbrev pub IsSmall : Span → Type 0
IsSmall span = (span.from < 2 ^ 32) × (span.to < 2 ^ 32)

abbrev pub IsSmallRow : SpanRow → Type 0
IsSmallRow row = IsSmall row.doing × IsSmall row.checking

-- its text is UTF-8, what it pushes are elements, and its places have 32 bits
pub record HasTypes (p : Artifact) : Type 0 where
  pub text : IsUtf8 (artifact_text p)
  pub pushes : AllByRecursion PushesElement p.code
  pub places : IfSome p.spans (AllByRecursion IsSmallRow)
