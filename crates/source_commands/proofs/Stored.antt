-- A compiled program can be stored, and its artifact is shown.
use Rattle.std.proofs.Common.{◌≡◌, ◌≢◌, ℕ, List, [], ◌∷◌, ◌++◌, Option, Ok, sym, ◌∙◌}
use Rattle.cash_base.specs.Outside.{Files}
use Rattle.cash_base.specs.declared.place.Slot.{Slot}
use Rattle.cash_tree.specs.declared.Ty.{Ty}
use Rattle.cash_tree.specs.declared.Contract.{Contract}
use Rattle.artifact_json.specs.Artifact.{Artifact, IsStorable}
use Rattle.artifact_json.specs.Reading.{artifact_reading}
use Rattle.artifact_json.specs.Text.{program_value, artifact_text}
use Rattle.json.specs.Layout.{pretty}
use Rattle.json.specs.Tree.{json_tokens}
use Rattle.serde_json.specs.Data.{Data}
use Rattle.serde_json.specs.Written.{outline}
use Rattle.json_text.specs.Text.{pretty_text}
use Rattle.cash_compile.specs.Compile.{IsCompiled}
use Rattle.source_commands.specs.Compiled.{IsArtifactOf}
use Rattle.source_commands.specs.Sources.{IsBuilt}

-- what is written of a compiled program is read again
pub read_again : (source text : List ℕ) (contract : Contract Slot Ty) (program : Artifact) → IsCompiled source contract program
    → (IsStorable program → artifact_reading text ≡ Ok program) → artifact_reading text ≡ Ok program
read_again source text contract program h read = read h.storable

-- the text of an artifact ends with a line feed
no_end : (xs : List ℕ) → xs ++ 10 ∷ [] ≢ []
no_end [] is = cc
no_end (x ∷ xs) is = cc

value_is_there : (d : Data) → pretty_text d ≢ []
unfolding pretty_text
value_is_there d = no_end (pretty (json_tokens (outline d)))

artifact_is_there : (program : Artifact) → artifact_text program ≢ []
unfolding artifact_text
artifact_is_there program = value_is_there (program_value program)

pub text_is_there : (text : List ℕ) (program : Artifact) → text ≡ artifact_text program → text ≢ []
text_is_there text program same is = artifact_is_there program (sym same ∙ is)

pub artifact_shown : (files : Option Files) (name updated : List ℕ) (contract : Contract Slot Ty) (program : Artifact) (text : List ℕ)
    → IsBuilt files name program.source contract program → program.updated ≡ updated → text ≡ artifact_text program
    → artifact_reading text ≡ Ok program → IsArtifactOf files name updated text
artifact_shown files name updated contract program text made time written read = record {
  contract = contract;
  program = program;
  built = made;
  time = time;
  written = written;
  read_back = read;
}
