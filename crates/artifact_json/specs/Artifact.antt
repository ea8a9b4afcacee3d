-- A compiled contract as contracts see it: lists for vectors, and bytes for texts.
use Rattle.std.specs.Prelude.{◌≡◌, ℕ, ◌≤◌, Bool, ◌&&◌, List, length, Option, IsTrue, IfSome}
use Rattle.std.specs.List.{AllByRecursion, list_all}
use Rattle.cash_base.specs.Source.{IsInside}
use Rattle.cash_tree.specs.declared.Ty.{Ty}
use Rattle.script_codec.specs.declared.instr.Instr.{Instr}
use Rattle.script_codec.specs.Names.{are_named}
use Rattle.script_codec.specs.Spelling.{spellings}
use Rattle.span_map.specs.declared.SpanRow.{SpanRow}
use Rattle.artifact_json.specs.Types.{is_named_type}

-- a parameter
pub record AbiParam : Type 0 where
  pub name : List ℕ
  pub ty : Ty

-- a function
pub record AbiCall : Type 0 where
  pub name : List ℕ
  pub inputs : List AbiParam

pub record Artifact : Type 0 where
  pub code : List Instr
  pub spans : Option (List SpanRow)
  pub ctor : List AbiParam
  pub abi : List AbiCall
  pub name : List ℕ
  pub source : List ℕ
  pub updated : List ℕ

-- ---- what can be spelled

-- each parameter has a type that a source can name
abbrev pub have_named_types : List AbiParam → Bool
have_named_types params = list_all (λ param. is_named_type param.ty) params

-- ... of each function
abbrev pub take_named_types : List AbiCall → Bool
take_named_types calls = list_all (λ call. have_named_types call.inputs) calls

-- each opcode has a name, and each type can be named: what every program keeps
abbrev pub is_spelled : List Instr → List AbiParam → List AbiCall → Bool
is_spelled code ctor abi = are_named code && (have_named_types ctor && take_named_types abi)

-- ---- what a file can hold

-- each function has at most 16 parameters
abbrev pub HasFewInputs : Artifact → Type 0
HasFewInputs program = AllByRecursion (λ function. length function.inputs ≤ 16) program.abi

-- both places of a row lie in a source of so many bytes
abbrev pub IsRowInside : ℕ → SpanRow → Type 0
IsRowInside size row = IsInside size row.doing × IsInside size row.checking

-- a row for each instruction, inside the source
pub record HasRows (program : Artifact) (rows : List SpanRow) : Type 0 where
  pub each : length rows ≡ length program.code
  pub inside : AllByRecursion (IsRowInside (length program.source)) rows

-- A file can hold it: at most 16 parameters of the constructor, 1 to 64 functions with at most 16 parameters each, opcodes with a
-- name, types that a source can name, code of at most 520 bytes, and where there are rows, one for each instruction.
pub record IsStorable (program : Artifact) : Type 0 where
  pub few_params : length program.ctor ≤ 16
  pub some_function : 1 ≤ length program.abi
  pub few_functions : length program.abi ≤ 64
  pub few_inputs : HasFewInputs program
  pub spelled : IsTrue (is_spelled program.code program.ctor program.abi)
  pub short : length (spellings program.code) ≤ 520
  pub placed : IfSome program.spans (HasRows program)
