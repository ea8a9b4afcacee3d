use Rattle.std.proofs.Common.{◌≡◌, Bool, Option, Some, None, Result, Ok, ap, ◌∙◌, subst}
use Rattle.cash_base.specs.declared.fault.MachineCause.{MachineCause}
use Rattle.bch_vm.specs.declared.phase.Phase.TheVariants.{Running}
use Rattle.bch_vm.specs.Setting.{setting_of}
use Rattle.bch_vm.specs.Position.{IsPassed}
use Rattle.bch_vm.specs.Status.{Status, script_of}
use Rattle.bch_vm.proofs.Phases.{step_goes, step_closes}
use Rattle.bch_vm.proofs.machine.Machine.pass.Goals as goal

pub returns-in-Ok-Some-clause-step : goal.returns-in-Ok-Some-clause-step
returns-in-Ok-Some-clause-step c =
    let setting = setting_of c.args.context.now c.args.verdicts.now c.script_of-script.result.now in
    let P : Result (Option Bool) MachineCause → Type 0 = λ r. IsPassed setting c.args.which c.script_of-script.result.now c.self.inside.run r c.pass.new.self in
    let passed : P (Ok (Some c.in-Ok-Some.executed)) = subst P (c.in-Ok-Some.is ∙ ap Ok c.in-Ok-Some.field-0-is) (c.pass.ensures c.args.which) in
    let phase : c.self.inside.phase ≡ Running c.args.which = ap (λ (s : Status). s.phase) c.self.view_is ∙ c.requires.phase in
    let script = c.script_of-script.ensures ∙ ap (script_of c.args.which c.args.unlocking.now c.args.locking.now) c.as_slice.ensures.value in
    step_goes c.args.context.now c.args.verdicts.now c.args.which c.self.inside.run c.pass.new.self c.self.inside.redeem.items c.script_of-script.result.now c.args.unlocking.now c.args.locking.now c.self.inside.phase c.args.self.now c.at-at.result c.in-Ok-Some.executed phase c.self.view_is script c.at-at.ensures passed

pub returns-in-Ok-None-clause-same : goal.returns-in-Ok-None-clause-same
returns-in-Ok-None-clause-same c =
    let setting = setting_of c.args.context.now c.args.verdicts.now c.script_of-script.result.now in
    let P : Result (Option Bool) MachineCause → Type 0 = λ r. IsPassed setting c.args.which c.script_of-script.result.now c.self.inside.run r c.pass.new.self in
    let ended : P (Ok None) = subst P (c.in-Ok-None.is ∙ ap Ok c.in-Ok-None.field-0-is) (c.pass.ensures c.args.which) in
    let phase : c.self.inside.phase ≡ Running c.args.which = ap (λ (s : Status). s.phase) c.self.view_is ∙ c.requires.phase in
    let script = c.script_of-script.ensures ∙ ap (script_of c.args.which c.args.unlocking.now c.args.locking.now) c.as_slice.ensures.value in
    c.close.ensures.course ∙ step_closes c.args.context.now c.args.verdicts.now c.args.which c.self.inside.run c.pass.new.self c.self.inside.redeem.items c.script_of-script.result.now c.args.unlocking.now c.args.locking.now c.self.inside.phase c.args.self.now phase c.self.view_is script ended
