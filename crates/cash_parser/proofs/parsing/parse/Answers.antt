use Rattle.std.proofs.Common.{length, sym}
use Rattle.cash_symbols.specs.Lexemes.{lexemes}
use Rattle.cash_parser.proofs.SmallTree.{all_small}
use Rattle.cash_parser.proofs.InsideTree.{tree_inside}
use Rattle.cash_parser.proofs.parsing.parse.Goals as goal

pub returns-in-Ok-clause-small : goal.returns-in-Ok-clause-small
returns-in-Ok-clause-small c =
    all_small (lexemes c.as_bytes-source.result.now c.args.tokens.now) c.in-Ok.tree c.in-Ok.ensures
    (sym c.in_default.ensures)

pub returns-in-Ok-clause-inside : goal.returns-in-Ok-clause-inside
returns-in-Ok-clause-inside c = λ stand.
    tree_inside c.as_bytes-source.result.now c.args.tokens.now (length c.args.source.now) c.in-Ok.tree c.in-Ok.ensures
    stand
