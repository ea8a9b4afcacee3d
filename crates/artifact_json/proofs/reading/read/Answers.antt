use Rattle.std.proofs.lemmas.Result.{IfOk-at_ok}
use Rattle.artifact_json.specs.Artifact.{IsStorable}
use Rattle.artifact_json.proofs.Storable.{program_storable}
use Rattle.artifact_json.proofs.reading.read.Goals as goal

pub returns-clause-storable : goal.returns-clause-storable
returns-clause-storable c = IfOk-at_ok IsStorable c.in_ok-program.ensures (program_storable _)
