use Rattle.std.proofs.Common.{sym, subst, ap, ◌∙◌}
use Rattle.std.specs.Global.{Vec}
use Rattle.script_codec.specs.declared.spans.Spanned.{Spanned}
use Rattle.script_codec.specs.declared.spans.Mark.{Mark}
use Rattle.stack_steps.specs.Lower.{statements_of}
use Rattle.stack_schedule.specs.Schedule.{Decides, EndsItsPath, EndsOnItsOwn, HasForm, CountsKeys, AreNamed, IsWithin}
use Rattle.stack_schedule.specs.Spans.{KeepsSpans}
use Rattle.stack_schedule.proofs.Beginning.{starts_as, schedule_decides, schedule_ends, schedule_own, schedule_form, schedule_statements, schedule_within, schedule_spans, form_named, starts_known}
use Rattle.stack_schedule.specs.Built.{IsScheduled}
use Rattle.stack_schedule.proofs.Building.{scheduled_by}
use Rattle.stack_schedule.proofs.whole.schedule.Goals as goal

pub lower_tail-requires : goal.lower_tail-requires
lower_tail-requires c =
    starts_as c.args.function.now c.args.start.now _ c.requires.formed c.requires.holds c.in_ok-low.ensures c.as_slice-body.result.now _ c.as_slice-body.ensures c.new-none.ensures

pub returns-clause-decides : goal.returns-clause-decides
returns-clause-decides c =
    subst (λ (code : Vec Spanned). Decides c.args.function.now c.args.start.now code.items) (sym c.marked_of-marked.ensures.code) (schedule_decides c.args.function.now c.args.start.now c.in_ok-low.low c.lower_tail.new.low c.requires.formed c.requires.holds c.in_ok-low.ensures c.as_slice-body.result.now _ c.as_slice-body.ensures c.new-none.ensures c.in_ok-lower_tail.ensures.finishes c.rows_run_as_code.ensures)

pub returns-clause-ends : goal.returns-clause-ends
returns-clause-ends c =
    subst (λ (code : Vec Spanned). EndsItsPath c.args.function.now c.args.start.now code.items) (sym c.marked_of-marked.ensures.code) (schedule_ends c.args.function.now c.args.start.now c.in_ok-low.low c.lower_tail.new.low c.requires.formed c.requires.holds c.in_ok-low.ensures c.as_slice-body.result.now _ c.as_slice-body.ensures c.new-none.ensures c.in_ok-lower_tail.ensures.finishes c.rows_run_as_code.ensures)

pub returns-clause-own : goal.returns-clause-own
returns-clause-own c =
    subst (λ (code : Vec Spanned). EndsOnItsOwn c.args.start.now code.items) (sym c.marked_of-marked.ensures.code) (schedule_own c.args.function.now c.args.start.now c.in_ok-low.low c.lower_tail.new.low c.requires.formed c.requires.holds c.in_ok-low.ensures c.as_slice-body.result.now _ c.as_slice-body.ensures c.new-none.ensures c.in_ok-lower_tail.ensures.finishes c.rows_run_as_code.ensures)

pub returns-clause-form : goal.returns-clause-form
returns-clause-form c =
    subst (λ (code : Vec Spanned). HasForm code.items) (sym c.marked_of-marked.ensures.code) (schedule_form c.args.function.now c.args.start.now c.in_ok-low.low c.lower_tail.new.low c.requires.formed c.requires.holds c.in_ok-low.ensures c.as_slice-body.result.now _ c.as_slice-body.ensures c.new-none.ensures c.in_ok-lower_tail.ensures.finishes c.rows_run_as_code.ensures)

pub returns-clause-statements : goal.returns-clause-statements
returns-clause-statements c =
    ap (λ (marks : Vec Mark). statements_of marks.items) c.marked_of-marked.ensures.marks ∙ schedule_statements c.args.function.now c.args.start.now c.in_ok-low.low c.lower_tail.new.low c.requires.formed c.requires.holds c.in_ok-low.ensures c.as_slice-body.result.now _ c.as_slice-body.ensures c.new-none.ensures c.in_ok-lower_tail.ensures.finishes c.rows_run_as_code.ensures

pub returns-clause-keys : goal.returns-clause-keys
returns-clause-keys c =
    subst (λ (code : Vec Spanned). CountsKeys code.items) (sym c.marked_of-marked.ensures.code) (c.in_ok-lower_tail.ensures.counts (starts_known c.args.function.now c.args.start.now _ c.in_ok-low.ensures)).keys

pub returns-clause-named : goal.returns-clause-named
returns-clause-named c =
    subst (λ (code : Vec Spanned). AreNamed code.items) (sym c.marked_of-marked.ensures.code) (form_named _ (schedule_form c.args.function.now c.args.start.now c.in_ok-low.low c.lower_tail.new.low c.requires.formed c.requires.holds c.in_ok-low.ensures c.as_slice-body.result.now _ c.as_slice-body.ensures c.new-none.ensures c.in_ok-lower_tail.ensures.finishes c.rows_run_as_code.ensures))

pub returns-clause-within : goal.returns-clause-within
returns-clause-within c =
    subst (λ (code : Vec Spanned). IsWithin c.args.function.now code.items) (sym c.marked_of-marked.ensures.code)
    (schedule_within c.args.function.now c.args.start.now c.in_ok-low.low c.lower_tail.new.low c.requires.formed c.requires.holds c.in_ok-low.ensures c.as_slice-body.result.now c.as_slice-body.ensures (c.in_ok-lower_tail.ensures.counts (starts_known c.args.function.now c.args.start.now _ c.in_ok-low.ensures)) c.code_counts.ensures (schedule_form c.args.function.now c.args.start.now c.in_ok-low.low c.lower_tail.new.low c.requires.formed c.requires.holds c.in_ok-low.ensures c.as_slice-body.result.now _ c.as_slice-body.ensures c.new-none.ensures c.in_ok-lower_tail.ensures.finishes c.rows_run_as_code.ensures))

pub returns-clause-spans : goal.returns-clause-spans
returns-clause-spans c =
    subst (λ (code : Vec Spanned). KeepsSpans c.args.function.now code.items) (sym c.marked_of-marked.ensures.code)
    (schedule_spans c.args.function.now c.args.start.now c.in_ok-low.low c.lower_tail.new.low c.in_ok-low.ensures c.as_slice-body.result.now c.as_slice-body.ensures c.in_ok-lower_tail.ensures.places)

pub returns-clause-scheduled : goal.returns-clause-scheduled
returns-clause-scheduled c =
    subst (λ (code : Vec Spanned). IsScheduled c.args.function.now c.args.start.now code.items c.marked_of-marked.result.marks.items) (sym c.marked_of-marked.ensures.code)
    (subst (λ (marks : Vec Mark). IsScheduled c.args.function.now c.args.start.now c.lower_tail.new.low.emitter.code.items marks.items) (sym c.marked_of-marked.ensures.marks)
    (scheduled_by c.args.function.now c.args.start.now c.in_ok-low.low c.lower_tail.new.low c.in_ok-low.ensures c.as_slice-body.result.now _ c.as_slice-body.ensures c.new-none.ensures c.in_ok-lower_tail.ensures.built))
