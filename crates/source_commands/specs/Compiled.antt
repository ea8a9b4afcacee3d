-- What is shown of a source that is compiled: the artifact of its program.
use Rattle.std.specs.Prelude.{◌≡◌, ℕ, List, Option, Ok}
use Rattle.cash_base.specs.Outside.{Files}
use Rattle.cash_base.specs.declared.place.Slot.{Slot}
use Rattle.cash_tree.specs.declared.Ty.{Ty}
use Rattle.cash_tree.specs.declared.Contract.{Contract}
use Rattle.artifact_json.specs.Artifact.{Artifact}
use Rattle.artifact_json.specs.Reading.{artifact_reading}
use Rattle.artifact_json.specs.Text.{artifact_text}
use Rattle.source_commands.specs.Sources.{IsBuilt}

-- The text is that of the program that was compiled from the source in the file at this time, and reading it gives this program.
pub record IsArtifactOf (files : Option Files) (name updated text : List ℕ) : Type 0 where
  pub contract : Contract Slot Ty
  pub program : Artifact
  pub built : IsBuilt files name program.source contract program
  pub time : program.updated ≡ updated
  pub written : text ≡ artifact_text program
  pub read_back : artifact_reading text ≡ Ok program
