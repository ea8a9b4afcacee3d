use Rattle.std.proofs.lemmas.Bool.{and_parts}
use Rattle.artifact_json.proofs.Named.{are_spelled}
use Rattle.artifact_json.proofs.laws.spelled_code_is_encoded.Goals as goal

pub returns : goal.returns
returns c = λ code ctor abi h. are_spelled code (and_parts _ _ h).0
