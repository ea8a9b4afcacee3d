use Rattle.spend_json.specs.Given.{spend_parts}
use Rattle.source_commands.proofs.Decided.{debug_decided}
use Rattle.source_commands.proofs.debugging.debugged.Goals as goal

pub returns-clause-decided : goal.returns-clause-decided
returns-clause-decided c =
    let compiled = c.args.compiled.now in
    debug_decided compiled.contract compiled.program c.requires.compiled c.args.bytes.now (spend_parts c.in_ok-spend.spend)
    c.in_ok-spend.ensures.read c.in_ok-parts_are_proper.ensures c.in_ok-output.output.status c.in_ok-output.output.text.items
    c.in_ok-output.ensures.shown
