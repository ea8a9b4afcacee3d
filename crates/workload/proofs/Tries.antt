-- A spend, tried by the machine and by the run of its source.
use Rattle.std.proofs.Common.{◌≡◌, ℕ, zero, suc, ◌+◌, ◌-◌, ◌<◌, List, [], ◌∷◌, ◌++◌, length, inl, inr, refl, sym, ap, ◌∙◌, subst, append_assoc, arith}
use Rattle.std.specs.Prelude.{◌⊎◌}
use Rattle.std.proofs.lemmas.Option.{same_Some}
use Rattle.command_files.specs.declared.Stop.{Stop}
use Rattle.command_files.specs.declared.Stop.TheVariants as stops
use Rattle.cash_base.specs.declared.place.Slot.{Slot}
use Rattle.cash_tree.specs.declared.Ty.{Ty}
use Rattle.cash_tree.specs.declared.Contract.{Contract}
use Rattle.cash_tree.specs.declared.Function.{Function}
use Rattle.source_meaning.specs.declared.outcome.SourceOutcome.{SourceOutcome}
use Rattle.source_meaning.specs.declared.outcome.SourceOutcome.TheVariants.{Met, Failed}
use Rattle.source_meaning.specs.Meaning.{source_outcome}
use Rattle.bch_vm.specs.declared.outcome.Which.TheVariants.{Unlocking, Locking, Redeem}
use Rattle.bch_vm.specs.declared.outcome.MachineOutcome.{MachineOutcome}
use Rattle.bch_vm.specs.declared.outcome.MachineOutcome.TheVariants.{Accepted, Refused}
use Rattle.artifact_json.specs.Artifact.{Artifact}
use Rattle.unlocker.specs.Spends.{world_of}
use Rattle.spend_command.specs.Spent.{IsNoSpend, HasBytesRefusal}
use Rattle.source_commands.specs.Judged.{IsVerdict, AreDecided}
use Rattle.source_commands.specs.Meaning.{run_status, IsMeantBy, IsNoCall}
use Rattle.source_stages.specs.Stages.{max_source_len}
use Rattle.cash_compile.specs.declared.refusal.Refusal.TheVariants.{SourceTooLong}
use Rattle.cash_compile.specs.Compile.{IsCompiled}
use Rattle.generated_spends.specs.Generated.{Generated, generated as generated_by}
use Rattle.workload.specs.Work.{verdict_of, IsTried, AreTried, AreVerdicts}
use Rattle.workload.specs.Refused.{IsSpendRefused, IsTooLong, HasContractCause}

abbrev Either : Artifact → List ℕ → List ℕ → Type 0
Either program bytes text = IsNoSpend program bytes text ⊎ IsNoCall program bytes text

pub no_spend : (program : Artifact) (bytes : List ℕ) (stop : Stop) → HasBytesRefusal (IsNoSpend program bytes) stop → HasBytesRefusal (Either program bytes) stop
no_spend program bytes (stops.Refused status text) h = (h.0, inl h.1)
no_spend program bytes stops.Unread h = h
no_spend program bytes stops.Memory h = h

pub no_call : (program : Artifact) (bytes : List ℕ) (stop : Stop) → HasBytesRefusal (IsNoCall program bytes) stop → HasBytesRefusal (Either program bytes) stop
no_call program bytes (stops.Refused status text) h = (h.0, inr h.1)
no_call program bytes stops.Unread h = h
no_call program bytes stops.Memory h = h

-- ---- both verdicts are the same

-- the byte of a status
abbrev IsByte : ℕ → ℕ → Type 0
IsByte status byte = (status ≡ 0 → byte ≡ 1) × (status ≡ 3 → byte ≡ 0)

by_run : (run : SourceOutcome) (status byte : ℕ) → IsByte status byte → status ≡ run_status run → byte ≡ verdict_of run
by_run Met status byte is e = is.0 e
by_run (Failed span cause) status byte is e = is.1 e

by_verdict : (source : List ℕ) (run : SourceOutcome) (outcome : MachineOutcome) (status byte : ℕ) (line : List ℕ) → IsByte status byte
    → IsVerdict source run outcome status line → byte ≡ verdict_of run
by_verdict source Met Accepted status byte line is v = is.0 v.0
by_verdict source Met (Refused script at cause) status byte line is v = absurd v
by_verdict source (Failed span cause) Accepted status byte line is v = absurd v
by_verdict source (Failed span cause) (Refused Redeem at fault) status byte line is v = is.1 v.0
by_verdict source (Failed span cause) (Refused Unlocking at fault) status byte line is v = absurd v
by_verdict source (Failed span cause) (Refused Locking at fault) status byte line is v = absurd v

pub tried_by_source : (contract : Contract Slot Ty) (program : Artifact) (bytes text : List ℕ) (status byte : ℕ) → IsByte status byte
    → IsMeantBy contract program bytes status text → IsTried contract program bytes byte
tried_by_source contract program bytes text status byte is m = record {
  spend = m.spend;
  asked = m.asked;
  meant = m.meant;
  means = m.means;
  verdict_is = by_run m.meant.outcome status byte is m.status_is;
}

pub tried_alike : (contract : Contract Slot Ty) (program : Artifact) (bytes first second : List ℕ) (s t byte other : ℕ) → IsByte s byte → IsByte t other
    → AreDecided program.source contract program bytes [] s first → IsMeantBy contract program bytes t second → byte ≡ other
tried_alike contract program bytes first second s t byte other is at decided m =
    let call = m.means.call in
    let d = decided m.spend call m.asked m.means.built in
    let f : d.function ≡ m.means.outcome.function = same_Some d.function m.means.outcome.function (sym d.called ∙ m.means.outcome.called) in
    let world = world_of m.spend call.scripts in
    let runs : source_outcome contract call.ctor d.function call.args world ≡ m.meant.outcome =
    ap (λ (g : Function Slot Ty). source_outcome contract call.ctor g call.args world) f ∙ sym m.means.outcome.ends in
    by_verdict program.source _ _ s byte d.line is d.verdict ∙ ap verdict_of runs ∙ sym (by_run m.meant.outcome t other at m.status_is)

-- ---- why a workload isn't done

pub first_spend : (program : Artifact) (bytes : List ℕ) (others : List (List ℕ)) (stop : Stop) → HasBytesRefusal (Either program bytes) stop
    → HasBytesRefusal (IsSpendRefused program (bytes ∷ others)) stop
first_spend program bytes others (stops.Refused status text) h = (h.0, inl h.1)
first_spend program bytes others stops.Unread h = h
first_spend program bytes others stops.Memory h = h

pub later_spend : (program : Artifact) (bytes : List ℕ) (others : List (List ℕ)) (stop : Stop) → HasBytesRefusal (IsSpendRefused program others) stop
    → HasBytesRefusal (IsSpendRefused program (bytes ∷ others)) stop
later_spend program bytes others (stops.Refused status text) h = (h.0, inr h.1)
later_spend program bytes others stops.Unread h = h
later_spend program bytes others stops.Memory h = h

pub spend_cause : (generated : Generated) (contract : Contract Slot Ty) (program : Artifact) (stop : Stop) → IsCompiled generated.source contract program
    → HasBytesRefusal (IsSpendRefused program generated.spends) stop → HasContractCause generated stop
spend_cause generated contract program (stops.Refused status text) compiled h = inr (h.0, contract, program, compiled, h.1)
spend_cause generated contract program stops.Unread compiled h = h
spend_cause generated contract program stops.Memory compiled h = h

pub long_cause : (generated : Generated) (stop : Stop) → max_source_len < length generated.source → IsTooLong stop → HasContractCause generated stop
long_cause generated (stops.Refused status text) long h = inl (h.0, SourceTooLong (length generated.source), (long, refl), h.1)
long_cause generated stops.Unread long h = h
long_cause generated stops.Memory long h = tt

-- ---- the verdicts of several contracts

pub verdicts_more : (count from : ℕ) (old mid new also also_mid also_new : List ℕ) → (count ≡ 0 → ⊥)
    → (more : List ℕ) × (mid ≡ old ++ more) × (also_mid ≡ also ++ more) × AreTried (generated_by from) more
    → (more : List ℕ) × (new ≡ mid ++ more) × (also_new ≡ also_mid ++ more) × AreVerdicts (count - 1) (from + 1) more
    → (more : List ℕ) × (new ≡ old ++ more) × (also_new ≡ also ++ more) × AreVerdicts count from more
verdicts_more zero from old mid new also also_mid also_new some first rest = absurd (some refl)
verdicts_more (suc n) from old mid new also also_mid also_new some (a, grown, also_grown, tried) (b, grows, also_grows, are) =
    let less : suc n - 1 ≡ n = omega arith in (
      a ++ b,
      grows ∙ ap (λ (l : List ℕ). l ++ b) grown ∙ append_assoc old a b,
      also_grows ∙ ap (λ (l : List ℕ). l ++ b) also_grown ∙ append_assoc also a b,
      (a, b, refl, tried, subst (λ (k : ℕ). AreVerdicts k (from + 1) b) less are),
    )

-- ... where the source and the spend files are those of the generated contract
pub spend_cause_of : (generated : Generated) (source : List ℕ) (spends : List (List ℕ)) (contract : Contract Slot Ty) (program : Artifact) (stop : Stop)
    → source ≡ generated.source → spends ≡ generated.spends → IsCompiled source contract program
    → HasBytesRefusal (IsSpendRefused program spends) stop → HasContractCause generated stop
spend_cause_of generated source spends contract program stop same also compiled h =
    spend_cause generated contract program stop (subst (λ (s : List ℕ). IsCompiled s contract program) same compiled)
    (subst (λ (l : List (List ℕ)). HasBytesRefusal (IsSpendRefused program l) stop) also h)
