use Rattle.std.proofs.Common.{map}
use Rattle.std.specs.Prelude.{option_map, string_bytes}
use Rattle.spend_json.specs.Given.{value_parts, by_call}
use Rattle.unlocker.specs.Handing.{handed_by}
use Rattle.unlocker.proofs.Spent.{call_fits}
use Rattle.unlocker.proofs.spends.call_of.Goals as goal

pub returns-in_ok-call-in-Call-clause-fits : goal.returns-in_ok-call-in-Call-clause-fits
returns-in_ok-call-in-Call-clause-fits c =
    call_fits c.args.program.now (map value_parts c.as_slice.result.now)
    (by_call (option_map string_bytes c.in-Call.function) (map value_parts c.as_slice-in-Call.result.now))
    (handed_by c.in_ok-call-in-Call.call) c.in_ok-call-in-Call.ensures.built
