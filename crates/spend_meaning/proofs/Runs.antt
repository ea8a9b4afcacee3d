-- A call of a program can be run, where the program has as many parameters as the contract.
use Rattle.std.proofs.Common.{◌≡◌, ℕ, zero, suc, true, List, [], ◌∷◌, length, Option, Some, IfSome, refl, sym, ap, ◌∙◌, subst}
use Rattle.std.proofs.lemmas.List.{length-map}
use Rattle.std.specs.Prelude.{slice_get, ◌==◌}
use Rattle.std.proofs.lemmas.Bool.{and_parts, eqb-true}
use Rattle.cash_base.specs.declared.place.Slot.{Slot}
use Rattle.cash_tree.specs.declared.Ty.{Ty}
use Rattle.cash_tree.specs.declared.Contract.{Contract}
use Rattle.cash_tree.specs.declared.Function.{Function}
use Rattle.source_meaning.specs.Runnable.{CanRun}
use Rattle.artifact_json.specs.Artifact.{Artifact, AbiCall}
use Rattle.unlocker.specs.declared.built.Call.{Call}
use Rattle.unlocker.specs.Handing.{handed_by}
use Rattle.unlocker.specs.Spends.{Handed, IsCallOf, context_of, world_of}
use Rattle.tx_context.specs.Transaction.{Transaction}
use Rattle.tx_context.specs.Table.{Row}
use Rattle.tx_context.specs.World.{World}
use Rattle.source_meaning.specs.declared.outcome.SourceOutcome.{SourceOutcome}
use Rattle.source_meaning.specs.Meaning.{source_outcome}
use Rattle.spend_json.specs.Given.{SpendParts}
use Rattle.spend_meaning.specs.Meant.{HasRoom, take_as_many, has_parameters_of, IsEnd}

-- the contract's function in the place of the program's
same_place : (calls : List AbiCall) (functions : List (Function Slot Ty)) (k : ℕ) (call : AbiCall)
    → take_as_many calls functions ≡ true → slice_get calls k ≡ Some call
    → (function : Function Slot Ty) × (slice_get functions k ≡ Some function) × (length call.inputs ≡ length function.params)
same_place [] functions k call agree found = absurd cc
same_place (c ∷ calls) [] k call agree found = absurd cc
same_place (c ∷ calls) (f ∷ functions) zero call agree found =
    let same : c ≡ call = cc in (
      f,
      refl,
      subst (λ (a : AbiCall). length a.inputs ≡ length f.params) same
          (eqb-true (length c.inputs) (length f.params) (and_parts (length c.inputs == length f.params) (take_as_many calls functions) agree).0),
    )
same_place (c ∷ calls) (f ∷ functions) (suc k) call agree found =
    same_place calls functions k call (and_parts (length c.inputs == length f.params) (take_as_many calls functions) agree).1 found

-- all that a run can ask about
abbrev world_with : Transaction (List ℕ) → List Row → List ℕ → World
world_with context verdicts redeem = record { context = context; verdicts = verdicts; redeem = redeem }

-- the function that is called
called_function : (program : Artifact) (contract : Contract Slot Ty) (call : Handed)
    → has_parameters_of program contract ≡ true → (fits : IsCallOf program call)
    → (function : Function Slot Ty) × (slice_get contract.functions call.chosen ≡ Some function)
    × (length fits.function.inputs ≡ length function.params)
called_function program contract call told fits =
    same_place program.abi contract.functions call.chosen fits.function
    (and_parts (length program.ctor == length contract.params) (take_as_many program.abi contract.functions) told).1 fits.found

-- There is a run of the call.
pub call_runs : (program : Artifact) (contract : Contract Slot Ty) (call : Call) (ctor chosen args : ℕ) → HasRoom contract
    → has_parameters_of program contract ≡ true → IsCallOf program (handed_by call)
    → ctor ≡ length call.ctor.items → chosen ≡ call.chosen → args ≡ length call.args.items → CanRun contract ctor chosen args
call_runs program contract call ctor chosen args room told fits ctor_is chosen_is args_is =
    let parts = and_parts (length program.ctor == length contract.params) (take_as_many program.abi contract.functions) told in
    let place = called_function program contract (handed_by call) told fits in
    let params : length contract.params ≡ ctor =
    sym (eqb-true (length program.ctor) (length contract.params) parts.0) ∙ sym fits.ctor_count
    ∙ length-map call.ctor.items (λ e. e.items) ∙ sym ctor_is in
    let inputs : length place.0.params ≡ args =
    sym place.2 ∙ sym fits.arg_count ∙ length-map call.args.items (λ e. e.items) ∙ sym args_is in
    subst (λ (k : ℕ). CanRun contract ctor k args) (sym chosen_is)
    (subst (λ (n : ℕ). CanRun contract n call.chosen args) params
    (subst (λ (n : ℕ). CanRun contract (length contract.params) call.chosen n) inputs (room call.chosen place.0 place.1)))

-- ... and it ends as its meaning
pub run_ends : (program : Artifact) (contract : Contract Slot Ty) (spend : SpendParts) (call : Handed) (outcome : SourceOutcome) (chosen : ℕ)
    (ctor args : List (List ℕ)) (context : Transaction (List ℕ)) (redeem : List ℕ)
    → has_parameters_of program contract ≡ true → IsCallOf program call
    → ctor ≡ call.ctor → chosen ≡ call.chosen → args ≡ call.args
    → context ≡ context_of spend call.scripts → redeem ≡ call.scripts.redeem
    → IfSome (slice_get contract.functions chosen) (λ f. outcome ≡ source_outcome contract ctor f args (world_with context spend.verdicts redeem))
    → IsEnd contract spend call outcome
run_ends program contract spend call outcome chosen ctor args context redeem told fits ctor_is chosen_is args_is context_is redeem_is ends =
    let place = called_function program contract call told fits in
    let asked = world_with context spend.verdicts redeem in
    let there : slice_get contract.functions chosen ≡ Some place.0 = ap (slice_get contract.functions) chosen_is ∙ place.1 in
    let found : outcome ≡ source_outcome contract ctor place.0 args asked =
    subst (λ (o : Option (Function Slot Ty)). IfSome o (λ f. outcome ≡ source_outcome contract ctor f args asked)) there ends in
    let world : asked ≡ world_of spend call.scripts =
    ap (λ (t : Transaction (List ℕ)). world_with t spend.verdicts redeem) context_is
    ∙ ap (world_with (context_of spend call.scripts) spend.verdicts) redeem_is in
    record {
      function = place.0;
      called = place.1;
      ends = found
          ∙ ap (λ (c : List (List ℕ)). source_outcome contract c place.0 args asked) ctor_is
          ∙ ap (λ (a : List (List ℕ)). source_outcome contract call.ctor place.0 a asked) args_is
          ∙ ap (λ (w : World). source_outcome contract call.ctor place.0 call.args w) world;
    }
