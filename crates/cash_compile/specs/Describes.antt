-- How a program tells of the contract that it was compiled from.
use Rattle.std.specs.Prelude.{◌≡◌, ℕ, List, length, map, Some}
use Rattle.std.specs.List.{AllByRecursion}
use Rattle.std.specs.Str.Lossy.{utf8_lossy}
use Rattle.cash_base.specs.declared.place.Slot.{Slot}
use Rattle.cash_base.specs.declared.place.Span.{Span}
use Rattle.cash_tree.specs.declared.Ty.{Ty}
use Rattle.cash_tree.specs.declared.Param.{Param}
use Rattle.cash_tree.specs.declared.Function.{Function}
use Rattle.cash_tree.specs.declared.Contract.{Contract}
use Rattle.cash_base.specs.Source.{text_at}
use Rattle.span_map.specs.declared.SpanRow.{SpanRow}
use Rattle.artifact_json.specs.Artifact.{Artifact, AbiParam, AbiCall, IsRowInside}

abbrev pub described_param : (Span → List ℕ) → Param Slot → AbiParam
described_param name_at param = record { name = name_at param.place; ty = param.ty }

abbrev pub described_function : (Span → List ℕ) → Function Slot Ty → AbiCall
described_function name_at function =
    record { name = name_at function.name; inputs = map (described_param name_at) function.params }

-- Its source is that of the contract, its names are told so at the contract's places, its types are the contract's, and it
-- has a row of places, inside the source, for each instruction.
pub record DescribesBy (name_at : Span → List ℕ) (text : List ℕ) (contract : Contract Slot Ty) (program : Artifact) (rows : List SpanRow) : Type 0 where
  pub source : program.source ≡ text
  pub name : program.name ≡ name_at contract.name
  pub ctor : program.ctor ≡ map (described_param name_at) contract.params
  pub abi : program.abi ≡ map (described_function name_at) contract.functions
  pub placed : program.spans ≡ Some rows
  pub each : length rows ≡ length program.code
  pub inside : AllByRecursion (IsRowInside (length text)) rows

-- the program describes the contract of a text: its names are the text at the contract's places
abbrev pub Describes : List ℕ → Contract Slot Ty → Artifact → List SpanRow → Type 0
Describes text contract program rows = DescribesBy (text_at text) text contract program rows

-- the text at a place, with a sign of replacement for what isn't UTF-8
abbrev pub lossy_at : List ℕ → Span → List ℕ
lossy_at source span = utf8_lossy (text_at source span)
