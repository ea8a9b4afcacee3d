-- The place of a refusal in the redeem script, and how it is told.
use Rattle.std.proofs.Common.{◌≡◌, ℕ, List, length, Option, Some, ap, ◌∙◌, ◌++◌}
use Rattle.cash_base.specs.declared.fault.Cause.{Cause}
use Rattle.cash_base.specs.declared.fault.MachineCause.{MachineCause}
use Rattle.cash_base.specs.declared.place.Span.{Span}
use Rattle.bch_vm.specs.declared.outcome.Which.TheVariants.{Redeem}
use Rattle.bch_vm.specs.declared.outcome.MachineOutcome.{MachineOutcome}
use Rattle.bch_vm.specs.declared.outcome.MachineOutcome.TheVariants.{Refused}
use Rattle.span_map.specs.declared.SpanRow.{SpanRow}
use Rattle.span_map.specs.Lines.{line_col}
use Rattle.span_map.specs.Places.{place_after}
use Rattle.std.specs.Prelude.{codes}
use Rattle.std.specs.Fmt.{decimal}
use Rattle.artifact_json.specs.Artifact.{Artifact}
use Rattle.spend_debug.specs.Telling.{LineCol, at_place, told_place, placed_name, cause_name, verdict_line, failure_line}
use Rattle.spend_debug.specs.SpendDebug.{SpendParts, known_place, told_of, outcome_of}

-- the place that is told is that of the program's row
place_told : (program : Artifact) (spend : SpendParts) (rows : List SpanRow) (at : ℕ) (cause : MachineCause) (span : Span)
    → program.spans ≡ Some rows → outcome_of program spend ≡ Refused Redeem at cause
    → place_after rows (length spend.ctor) at cause ≡ Some span → (told_of program spend).place ≡ Some span
place_told program spend rows at cause span known is placed =
    ap (λ (r : Option (List SpanRow)). known_place r (length spend.ctor) (outcome_of program spend)) known
    ∙ ap (λ (o : MachineOutcome). known_place (Some rows) (length spend.ctor) o) is ∙ placed

-- how a refusal at a place is told
told_refusal : (place : LineCol) (cause : MachineCause) (fault : Cause) (at : ℕ) → placed_name cause ≡ cause_name fault
    → verdict_line (Refused Redeem at cause) (Some place) ≡ failure_line place fault at
told_refusal place cause fault at same =
    ap (λ (name : List ℕ). codes "refused " ++ at_place place ++ codes " " ++ name ++ codes " opcode " ++ decimal at ++ codes "\n") same

pub told_failure : (program : Artifact) (spend : SpendParts) (rows : List SpanRow) (at : ℕ) (cause : MachineCause) (span : Span)
    (fault : Cause) (source : List ℕ)
    → program.spans ≡ Some rows → outcome_of program spend ≡ Refused Redeem at cause
    → place_after rows (length spend.ctor) at cause ≡ Some span → placed_name cause ≡ cause_name fault
    → verdict_line (told_of program spend).outcome (told_place source (told_of program spend).place)
    ≡ failure_line (line_col source span.from) fault at
told_failure program spend rows at cause span fault source known is placed same =
    ap (λ (p : Option Span). verdict_line (outcome_of program spend) (told_place source p))
    (place_told program spend rows at cause span known is placed)
    ∙ ap (λ (o : MachineOutcome). verdict_line o (Some (line_col source span.from))) is
    ∙ told_refusal (line_col source span.from) cause fault at same
