use Rattle.type_check.proofs.Judging.{int_given}
use Rattle.type_check.proofs.expressions.+expression.Goals as goal

pub judge-returns-in-Int : goal.judge-returns-in-Int
judge-returns-in-Int t c =
    int_given c.args.e.now.kind c.in-Int.digits c.in-Int.unit c.args.e.now.span c.args.place c.args.env.now c.int.result
    c.in-Int.is c.int.ensures
