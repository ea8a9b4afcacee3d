-- At the end nothing is left to be read.
use Rattle.std.proofs.Common.{◌≡◌, ap, ◌∙◌, refl, arith}
use Rattle.std.proofs.lemmas.List.{drop_all}
use Rattle.script_codec.specs.Reading.{reading}
use Rattle.script_codec.proofs.Seams.{reading_nil}
use Rattle.bch_vm.specs.Setting.{setting_of}
use Rattle.bch_vm.specs.Script.{Counted}
use Rattle.bch_vm.specs.Spend.{pieces_course}
use Rattle.bch_vm.proofs.run.Run.pass.Goals as goal

pub returns-then-self-script : goal.returns-then-self-script
returns-then-self-script c which =
    let here : c.self.inside.place ≡ c.args.self.now.state.progress.place = ap (λ (p : Counted). p.state.progress.place) c.self.view_is in
    (ap (λ pieces. pieces_course (setting_of c.args.context.now c.args.verdicts.now c.args.script.now) which pieces c.args.self.now) (ap reading (drop_all c.args.self.now.state.progress.place c.args.script.now (omega arith)) ∙ reading_nil), refl)
