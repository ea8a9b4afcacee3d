use Rattle.std.proofs.Common.{Bool, Option, None, Result, Ok, sym, ap, ◌∙◌, subst}
use Rattle.cash_base.specs.declared.fault.MachineCause.{MachineCause}
use Rattle.bch_vm.specs.declared.outcome.Which.TheVariants.{Unlocking}
use Rattle.bch_vm.specs.Setting.{setting_of}
use Rattle.bch_vm.specs.Script.{Counted, balanced}
use Rattle.bch_vm.specs.Spend.{told, given_stack}
use Rattle.bch_vm.specs.Position.{IsPassed}
use Rattle.bch_vm.proofs.Courses.{rows_passed, given_passed}
use Rattle.bch_vm.proofs.run.Run.unlock.Goals as goal

pub script-smaller : goal.script-smaller
script-smaller c =
    let P : Result (Option Bool) MachineCause → Type 0 = λ r. IsPassed (setting_of c.args.context.now c.args.verdicts.now c.args.unlocking.now) Unlocking c.args.unlocking.now c.script.self r c.pass.new.self in
    rows_passed _ _ _ (subst P (c.in-Ok-Some.is ∙ ap Ok c.in-Ok-Some.field-0-is) (c.pass.ensures Unlocking))

pub script-preserved : goal.script-preserved
script-preserved c =
    let P : Result (Option Bool) MachineCause → Type 0 = λ r. IsPassed (setting_of c.args.context.now c.args.verdicts.now c.args.unlocking.now) Unlocking c.args.unlocking.now c.script.self r c.pass.new.self in
    given_passed _ _ _ (subst P (c.in-Ok-Some.is ∙ ap Ok c.in-Ok-Some.field-0-is) (c.pass.ensures Unlocking)) ∙ c.script.invariant

pub returns-in-Ok-None : goal.returns-in-Ok-None
returns-in-Ok-None c =
    let P : Result (Option Bool) MachineCause → Type 0 = λ r. IsPassed (setting_of c.args.context.now c.args.verdicts.now c.args.unlocking.now) Unlocking c.args.unlocking.now c.script.self r c.pass.new.self in
    let ended : P (Ok None) = subst P (c.in-Ok-None.is ∙ ap Ok c.in-Ok-None.field-0-is) (c.pass.ensures Unlocking) in
    c.clear_if_open.ensures
    ∙ ap (λ (p : Counted). given_stack (told Unlocking (balanced p.state.board.conditions p.state))) ended.1
    ∙ ap given_stack (sym ended.0)
    ∙ c.script.invariant
