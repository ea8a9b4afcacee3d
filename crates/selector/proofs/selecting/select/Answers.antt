use Rattle.std.proofs.Common.{arith}
use Rattle.selector.proofs.Whole.{selects_pieces}
use Rattle.selector.proofs.selecting.select.Goals as goal

pub returns-clause-several : goal.returns-clause-several
returns-clause-several c = λ several.
    selects_pieces
    (record {
      first = c.picked_arm_runs.ensures.first;
      second = c.picked_arm_runs.ensures.second;
      in_turn = c.nested_code_composes.ensures.in_turn;
      two = c.nested_code_composes.ensures.two;
      same = c.nested_code_keeps_conditions.ensures.same;
      turn = c.runs_in_turn.ensures.executed;
      changes = c.nested_code_unexecuted.ensures.changes;
      nothing = c.nested_code_unexecuted.ensures.executes;
    })
    c.args.contract c.args.ctors c.args.functions.now _ c.requires.nested c.requires.unseparated several c.requires.few (omega arith)
    c.in_ok-code-2.ensures.code c.in_ok-code-2.ensures.marks
