use Rattle.std.proofs.Common.{◌≡◌, drop}
use Rattle.type_check.specs.Shapes.{with_params}
use Rattle.type_check.proofs.statements.bind_all.Given as goal

abbrev pub invariant-loop-param : goal.invariant-loop-param
invariant-loop-param l = with_params (drop l.param-index l.params) l.env.items
    ≡ with_params l.params l.initial.env.items
