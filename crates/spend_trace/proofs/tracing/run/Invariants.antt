use Rattle.std.proofs.Common.{◌≡◌, ◌++◌, length}
use Rattle.bch_vm.specs.Course.{outcome_of, rows_of}
use Rattle.bch_vm.specs.Spend.{spend_course, spend_outcome}
use Rattle.bch_vm.specs.Status.{course_from}
use Rattle.spend_trace.specs.Traced.{rows_in}
use Rattle.spend_trace.specs.Heights.{HasLowStacks}
use Rattle.spend_trace.proofs.tracing.run.Given as goal

-- the rows so far and those of what is left are those of the whole, and what is left ends as the whole
abbrev pub invariant-steps : goal.invariant-steps
invariant-steps l =
    let left = course_from l.context l.verdicts l.machine in
    record {
      rows : l.rows.items ++ rows_in l.program l.scripts left ≡ rows_in l.program l.scripts (spend_course l.context l.verdicts);
      outcome : outcome_of left ≡ spend_outcome l.context l.verdicts;
      low : HasLowStacks left;
    }

abbrev pub decreases-steps : goal.decreases-steps
decreases-steps l = length (rows_of (course_from l.context l.verdicts l.machine))
