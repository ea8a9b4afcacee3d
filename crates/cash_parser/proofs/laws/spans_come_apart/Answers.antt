use Rattle.std.proofs.Common.{subst}
use Rattle.cash_base.specs.Source.{AreInside}
use Rattle.cash_expressions.proofs.Inside as expressions
use Rattle.cash_parser.proofs.InsideTree as tree
use Rattle.cash_parser.proofs.laws.spans_come_apart.Goals as goal

pub returns-clause-joined : goal.returns-clause-joined
returns-clause-joined c = expressions.parts

pub returns-clause-expression : goal.returns-clause-expression
returns-clause-expression c = λ len e h. (subst (AreInside len) (expressions.own_and_inner e) h).0

pub returns-clause-statement : goal.returns-clause-statement
returns-clause-statement c = λ len s h. (subst (AreInside len) (tree.own_and_inner s) h).0

pub returns-clause-name : goal.returns-clause-name
returns-clause-name c = expressions.spans_of_name

pub returns-clause-binary : goal.returns-clause-binary
returns-clause-binary c = expressions.spans_of_binary

pub returns-clause-require : goal.returns-clause-require
returns-clause-require c = tree.spans_of_require
