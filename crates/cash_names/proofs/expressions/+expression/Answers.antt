use Rattle.std.proofs.Common.{◌≡◌, Ok, Some, rules}
use Rattle.cash_tree.specs.declared.ExprKind.TheVariants as nodes
use Rattle.name_scopes.specs.Names.{names_of}
use Rattle.cash_base.specs.Failing.{◌>>=◌}
use Rattle.cash_names.specs.Reading.{reading_of, reading_of_kind}
use Rattle.cash_names.proofs.Arms.{cast_of}
use Rattle.cash_names.proofs.expressions.+expression.Goals as goal

pub resolve_kind-returns-in_err-boxed-in-Cast : goal.resolve_kind-returns-in_err-boxed-in-Cast
resolve_kind-returns-in_err-boxed-in-Cast t c =
    let source = c.args.source.now in
    let names = names_of c.args.scope.now in
    let is : c.args.kind.now ≡ nodes.Cast c.in-Cast.to c.in-Cast.value c.in-Cast.size = search rules in
    let there : c.in-Cast.size ≡ Some c.get-in-Cast-2.result.now = search rules in
    let read : reading_of source c.in-Cast.value names ≡ Ok c.in_ok-value-in-Cast.value = search rules in
    let whole : reading_of_kind source c.args.kind.now names ≡ (reading_of source c.get-in-Cast-2.result.now names >>= (λ s. Ok (nodes.Cast c.in-Cast.to c.in_ok-value-in-Cast.value (Some s)))) = cast_of source c.args.kind.now c.in-Cast.to c.in-Cast.value c.get-in-Cast-2.result.now c.in-Cast.size names c.in_ok-value-in-Cast.value is there read in
    search rules
