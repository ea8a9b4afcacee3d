use Rattle.std.proofs.Common.{sym, ap, ◌∙◌}
use Rattle.source_meaning.specs.Runnable.{kind_count}
use Rattle.source_meaning.proofs.Steps.{sized_cast_counted}
use Rattle.source_meaning.proofs.evaluate.sized_cast_is_counted.Goals as goal

pub returns : goal.returns
returns c = sym (ap kind_count c.requires ∙ sized_cast_counted c.args.to.now c.args.value.now c.args.size.now)
