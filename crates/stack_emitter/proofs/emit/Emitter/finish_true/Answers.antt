use Rattle.std.proofs.Common.{◌≡◌, ℕ, List, [], ◌∷◌, ◌++◌, length, ap, subst}
use Rattle.script_codec.specs.Reading.{push}
use Rattle.row_runs.specs.Rows.{row}
use Rattle.stack_emitter.proofs.Tails.{costs_true}
use Rattle.stack_emitter.proofs.emit.Emitter.finish_true.Goals as goal

pub returns-clause-costs : goal.returns-clause-costs
returns-clause-costs c =
    costs_true c.args.self.now c.repeat.new.self c.put.new.self _ c.args.checking (ap length c.slots-count.ensures) c.in_ok-repeat.ensures.code
    (subst (λ (e : List ℕ). c.put.new.self.code.items ≡ c.repeat.new.self.code.items ++ row (push e) c.args.checking c.args.checking ∷ []) c.write_number.ensures c.in_ok-put.ensures.code)
