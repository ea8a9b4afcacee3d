-- Fields of an artifact: what each is called, and texts, lists and objects in them.
use Rattle.std.specs.Prelude.{ℕ, not, List, codes, ok_or, Result, Ok, nat_lt}
use Rattle.cash_base.specs.Failing.{◌>>=◌, ◌>>◌, refused_if}
use Rattle.serde_json.specs.Data.{Data, Items}
use Rattle.serde_json.specs.Events.{items_len}
use Rattle.serde_json.specs.Find.{get, as_str}
use Rattle.json_fields.specs.Fields.{GivesUnless, is_object, objects_of}
use Rattle.artifact_json.specs.declared.fault.Field.{Field}
use Rattle.artifact_json.specs.declared.fault.Field.TheVariants as fields
use Rattle.artifact_json.specs.declared.fault.ArtifactFault.{ArtifactFault}
use Rattle.artifact_json.specs.declared.fault.ArtifactFault.TheVariants as faults

-- What a function returned, seen by `view`, is what `reading` gives, unless memory ran out.
abbrev pub Gives : {X Y : Type 0} → (X → Y) → Result X ArtifactFault → Result Y ArtifactFault → Type 0
Gives view result reading = GivesUnless faults.Memory view result reading

-- the name of each field in the file
abbrev pub key : Field → List ℕ
key fields.ContractName = codes "contractName"
key fields.ConstructorInputs = codes "constructorInputs"
key fields.Abi = codes "abi"
key fields.Name = codes "name"
key fields.Inputs = codes "inputs"
key fields.TypeName = codes "type"
key fields.Bytecode = codes "bytecode"
key fields.Source = codes "source"
key fields.Compiler = codes "compiler"
key fields.Version = codes "version"
key fields.UpdatedAt = codes "updatedAt"
key fields.Spans = codes "spans"

-- a field, which has to be there
unfoldable pub needed : Field → Data → Result Data ArtifactFault
needed field d = ok_or (get (key field) d) (faults.Missing field)

-- a text
unfoldable pub text_at : Field → Data → Result (List ℕ) ArtifactFault
text_at field d = do
  value ← needed field d
  ok_or (as_str value) (faults.WrongKind field)

-- an object, nothing in which is looked at yet
unfoldable pub object_at : Field → Data → Result Data ArtifactFault
object_at field d = do
  value ← needed field d
  refused_if (not (is_object value)) (faults.WrongKind field)
  Ok value

-- a list of objects, from so many to so many, nothing in which is looked at yet
unfoldable pub objects_at : (least most : ℕ) → Field → Data → Result Items ArtifactFault
objects_at least most field d = do
  value ← needed field d
  items ← ok_or (objects_of value) (faults.WrongKind field)
  refused_if (nat_lt (items_len items) least) (faults.WrongKind field)
  refused_if (nat_lt most (items_len items)) (faults.TooMany field)
  Ok items
