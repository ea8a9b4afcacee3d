use Rattle.std.proofs.Common.{◌≡◌, Ok, Some, map, rules}
use Rattle.cash_tree.specs.declared.StmtKind.TheVariants as nodes
use Rattle.name_scopes.specs.Names.{names_of}
use Rattle.cash_base.specs.Failing.{◌>>=◌}
use Rattle.cash_names.specs.Reading.{reading_of, block_reading, reading_of_stmt, reading_of_stmt_kind}
use Rattle.cash_names.proofs.Arms.{if_of, both_of}
use Rattle.cash_names.proofs.statements.+statement.Goals as goal

pub resolve_kind-returns-in_err-resolve_block-in-If-clause-gives :
    goal.resolve_kind-returns-in_err-resolve_block-in-If-clause-gives
resolve_kind-returns-in_err-resolve_block-in-If-clause-gives t c =
    let source = c.args.source.now in
    let names = names_of c.args.scope.now in
    let middle = names_of c.resolve_block.new.scope in
    let is : c.args.kind.now ≡ nodes.If c.in-If.test c.in-If.yes c.in-If.no = search rules in
    let there : c.in-If.no ≡ Some c.as_slice-in-If.result.now = search rules in
    let read : reading_of source c.in-If.test names ≡ Ok c.in_ok-test-in-If.test = search rules in
    let blocks : block_reading (map (reading_of_stmt source) c.in-If.yes) names ≡ both_of c.in_ok-yes-in-If.yes middle = search rules in
    let whole : reading_of_stmt_kind source c.args.kind.now names ≡ (block_reading (map (reading_of_stmt source) c.as_slice-in-If.result.now) middle >>= (λ n. both_of (nodes.If c.in_ok-test-in-If.test c.in_ok-yes-in-If.yes (Some n.0)) n.1)) = if_of source c.args.kind.now c.in-If.test c.in-If.yes c.as_slice-in-If.result.now c.in-If.no names middle c.in_ok-test-in-If.test c.in_ok-yes-in-If.yes is there read blocks in
    search rules
