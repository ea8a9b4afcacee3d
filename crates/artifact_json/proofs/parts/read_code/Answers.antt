use Rattle.std.proofs.lemmas.Result.{IfOk-at_ok}
use Rattle.script_codec.specs.Names.{are_named}
use Rattle.std.proofs.Common.{◌≡◌, true}
use Rattle.artifact_json.proofs.Named.{code_named}
use Rattle.artifact_json.proofs.parts.read_code.Goals as goal

pub returns-in-Ok-clause-named : goal.returns-in-Ok-clause-named
returns-in-Ok-clause-named c = IfOk-at_ok (λ code. are_named code ≡ true) c.in-Ok.ensures.read (code_named c.args.text.now)
