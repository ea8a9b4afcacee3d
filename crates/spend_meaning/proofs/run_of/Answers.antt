use Rattle.std.proofs.Common.{◌∙◌, length, map, ap}
use Rattle.spend_json.specs.Given.{spend_parts}
use Rattle.unlocker.specs.declared.built.Call.{Call}
use Rattle.unlocker.specs.Handing.{handed_by}
use Rattle.spend_meaning.proofs.Runs.{call_runs, run_ends}
use Rattle.spend_meaning.proofs.run_of.Goals as goal

pub run-requires : goal.run-requires
run-requires c =
    call_runs c.args.program.now c.args.contract.now c.args.call.now
    (length c.as_slice-2.result.now) c.call.inside.0.1.0 (length c.as_slice-3.result.now)
    c.requires.room c.requires.told c.requires.fits
    (ap length c.as_slice-2.ensures.value ∙ ap (λ (k : Call). length k.ctor.items) c.call.view_is)
    (ap (λ (k : Call). k.chosen) c.call.view_is)
    (ap length c.as_slice-3.ensures.value ∙ ap (λ (k : Call). length k.args.items) c.call.view_is)

pub returns : goal.returns
returns c =
    run_ends c.args.program.now c.args.contract.now (spend_parts c.args.spend.now) (handed_by c.args.call.now) c.run.result
    c.call.inside.0.1.0 (map (λ e. e.items) c.as_slice-2.result.now) (map (λ e. e.items) c.as_slice-3.result.now)
    c.args.context.now c.as_slice.result.now c.requires.told c.requires.fits
    (ap (map (λ e. e.items)) c.as_slice-2.ensures.value ∙ ap (λ (k : Call). map (λ e. e.items) k.ctor.items) c.call.view_is)
    (ap (λ (k : Call). k.chosen) c.call.view_is)
    (ap (map (λ e. e.items)) c.as_slice-3.ensures.value ∙ ap (λ (k : Call). map (λ e. e.items) k.args.items) c.call.view_is)
    c.requires.context
    (c.as_slice.ensures.value ∙ ap (λ (k : Call). k.scripts.redeem) c.call.view_is)
    c.run.ensures
