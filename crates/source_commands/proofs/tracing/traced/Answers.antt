use Rattle.spend_json.specs.Given.{spend_parts}
use Rattle.source_commands.proofs.Decided.{trace_shown}
use Rattle.source_commands.proofs.tracing.traced.Goals as goal

pub returns-clause-shown : goal.returns-clause-shown
returns-clause-shown c =
    let compiled = c.args.compiled.now in
    let shown = c.in_ok-output.ensures.shown in
    trace_shown compiled.contract compiled.program c.requires.compiled c.args.bytes.now (spend_parts c.in_ok-spend.spend)
    c.in_ok-spend.ensures.read c.in_ok-parts_are_proper.ensures shown.0 c.in_ok-output.output.status c.in_ok-output.output.text.items shown.1
