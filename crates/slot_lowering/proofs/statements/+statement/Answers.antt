use Rattle.slot_lowering.proofs.Placed.{placed_if_else, left_body_more, left_body_done}
use Rattle.slot_lowering.proofs.statements.+statement.Goals as goal

pub kind-returns-in_ok-choice-in-Some : goal.kind-returns-in_ok-choice-in-Some
kind-returns-in_ok-choice-in-Some t c =
    placed_if_else c.in-If.is c.in-Some.is c.as_slice.ensures c.as_slice-in-Some.ensures c.in_ok-element-in-If.ensures c.in_ok-yes_code-in-If.ensures c.in_ok-no_code-in-Some.ensures c.in_ok-choice-in-Some.ensures

pub all-loop-at-preserved : goal.all-loop-at-preserved
all-loop-at-preserved t c = left_body_more _ _ _ _ _ _ c.loop-at.invariant c.loop-at-test.true c.index-body-at.is c.is_last-ends_here.ensures c.in_ok-statement.ensures

pub all-returns : goal.all-returns
all-returns t c = left_body_done _ _ _ _ c.loop-at.invariant c.loop-at-test.false
