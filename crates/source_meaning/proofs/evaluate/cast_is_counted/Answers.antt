use Rattle.std.proofs.Common.{ap, ◌∙◌, arith}
use Rattle.source_meaning.specs.Runnable.{kind_count}
use Rattle.source_meaning.proofs.Steps.{any_cast_counted}
use Rattle.source_meaning.proofs.evaluate.cast_is_counted.Goals as goal

pub returns : goal.returns
returns c =
    let count = ap kind_count c.requires ∙ any_cast_counted c.args.to.now c.args.value.now c.args.size.now in
    omega arith
