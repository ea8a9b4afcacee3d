use Rattle.std.proofs.lemmas.Result.{IfOk-at_ok}
use Rattle.artifact_json.proofs.Storable.{AreInputs, AreCalls, inputs_typed, calls_typed, all_spelled}
use Rattle.artifact_json.proofs.reading.program_of.Goals as goal

pub invariant_of-result : goal.invariant_of-result
invariant_of-result c =
    let ctor = IfOk-at_ok (AreInputs _) c.in_ok-ctor.ensures (inputs_typed _) in
    let abi = IfOk-at_ok (AreCalls _) c.in_ok-abi.ensures (calls_typed _) in
    all_spelled c.in_ok-code.code.items c.in_ok-ctor.ctor.items c.in_ok-abi.abi.items c.in_ok-code.ensures.named ctor.types abi.types
