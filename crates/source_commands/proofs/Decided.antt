-- What is shown of a call of a correct program tells of the run of the source too.
use Rattle.std.proofs.Common.{◌≡◌, ℕ, ◌++◌, List, [], length, Option, Some, Result, Ok, inl, inr, refl, sym, ap, ◌∙◌, subst}
use Rattle.std.specs.Prelude.{slice_get, codes}
use Rattle.std.specs.Fmt.{decimal}
use Rattle.std.proofs.lemmas.List.{length-map}
use Rattle.cash_base.specs.Failing.{◌>>=◌}
use Rattle.cash_base.specs.Source.{text_at}
use Rattle.cash_base.specs.declared.fault.Cause.{Cause}
use Rattle.cash_base.specs.declared.fault.MachineCause.{MachineCause}
use Rattle.cash_base.specs.declared.place.Slot.{Slot}
use Rattle.cash_base.specs.declared.place.Span.{Span}
use Rattle.cash_tree.specs.declared.Ty.{Ty}
use Rattle.cash_tree.specs.declared.Contract.{Contract}
use Rattle.cash_tree.specs.declared.Function.{Function}
use Rattle.source_meaning.specs.declared.outcome.SourceOutcome.{SourceOutcome}
use Rattle.source_meaning.specs.declared.outcome.SourceOutcome.TheVariants.{Met, Failed}
use Rattle.source_meaning.specs.Meaning.{source_outcome}
use Rattle.bch_vm.specs.declared.outcome.Which.TheVariants.{Unlocking, Locking, Redeem}
use Rattle.bch_vm.specs.declared.outcome.MachineOutcome.{MachineOutcome}
use Rattle.bch_vm.specs.declared.outcome.MachineOutcome.TheVariants.{Accepted, Refused}
use Rattle.span_map.specs.declared.SpanRow.{SpanRow}
use Rattle.span_map.specs.Lines.{line_col}
use Rattle.artifact_json.specs.Artifact.{Artifact, AbiCall}
use Rattle.spend_json.specs.Given.{SpendParts}
use Rattle.spend_json.specs.Files.{spend_reading}
use Rattle.unlocker.specs.declared.BuildFault.{BuildFault}
use Rattle.unlocker.specs.Spends.{Built, Handed, built_spend, built_call, world_of, IsCallOf}
use Rattle.unlocker.proofs.Spent.{scripts_of_call, call_fits}
use Rattle.spend_debug.specs.SpendDebug.{known_place, or_stop}
use Rattle.spend_debug.specs.Telling.{Told, LineCol, told_place, at_place, placed_name, cause_name, verdict_line, lines_with, report_lines}
use Rattle.spend_trace.specs.Judged.{outcome_of, told_by, report_of}
use Rattle.spend_trace.specs.Traced.{Trace, traced, trace_of}
use Rattle.cash_compile.specs.Describes.{described_param, described_function}
use Rattle.cash_compile.specs.Compile.{IsCompiled}
use Rattle.cash_compile.specs.Correct.{Call, Outside, Admits, IsSameCause, Agrees, IsCorrect}
use Rattle.spend_command.specs.Spent.{outcome_status, IsTold}
use Rattle.source_texts.specs.TraceLines.{row_lines}
use Rattle.source_commands.specs.Judged.{IsVerdict, IsDecided, AreDecided, IsTraceOf, IsTracedBy, IsProper}
use Rattle.source_commands.proofs.Calls.{scripts_with, AreOwn, own_scripts, found_in_map}

-- ---- the line of the verdict

same_name : (cause : MachineCause) (fault : Cause) → IsSameCause cause fault → placed_name cause ≡ cause_name fault
same_name cause fault (inl is) = ap placed_name is
same_name cause fault (inr is) = ap placed_name is.0 ∙ ap cause_name (sym is.1)

-- a refusal at a place, by the name of its cause
abbrev refused_line : LineCol → ℕ → List ℕ → List ℕ
refused_line place at name = codes "refused " ++ at_place place ++ codes " " ++ name ++ codes " opcode " ++ decimal at ++ codes "\n"

verdict_told : (source : List ℕ) (rows : List SpanRow) (before : ℕ) (run : SourceOutcome) (outcome : MachineOutcome) → Agrees rows before outcome run
    → IsVerdict source run outcome (outcome_status outcome) (verdict_line outcome (told_place source (known_place (Some rows) before outcome)))
verdict_told source rows before Met Accepted agrees = (refl, refl)
verdict_told source rows before (Failed span fault) (Refused Redeem at cause) agrees = (
  refl,
  ap (λ (p : Option Span). verdict_line (Refused Redeem at cause) (told_place source p)) agrees.0
      ∙ ap (refused_line (line_col source span.from) at) (same_name cause fault agrees.1),
)
verdict_told source rows before Met (Refused Unlocking at cause) agrees = absurd agrees
verdict_told source rows before Met (Refused Locking at cause) agrees = absurd agrees
verdict_told source rows before Met (Refused Redeem at cause) agrees = absurd agrees
verdict_told source rows before (Failed span fault) Accepted agrees = absurd agrees
verdict_told source rows before (Failed span fault) (Refused Unlocking at cause) agrees = absurd agrees
verdict_told source rows before (Failed span fault) (Refused Locking at cause) agrees = absurd agrees

-- ---- a call of a correct program

-- the line of the verdict on some scripts
abbrev line_of : Artifact → SpendParts → Built → List ℕ
line_of program spend scripts =
    verdict_line (outcome_of spend scripts)
    (told_place program.source (known_place program.spans (length program.ctor) (outcome_of spend scripts)))

-- the run of the function that is called, and its verdict
record IsRun (contract : Contract Slot Ty) (program : Artifact) (spend : SpendParts) (call : Handed) : Type 0 where
  function : Function Slot Ty
  called : slice_get contract.functions call.chosen ≡ Some function
  verdict : IsVerdict program.source (source_outcome contract call.ctor function call.args (world_of spend call.scripts))
      (outcome_of spend call.scripts) (outcome_status (outcome_of spend call.scripts)) (line_of program spend call.scripts)

run_of : (contract : Contract Slot Ty) (program : Artifact) (h : IsCorrect program.source contract program) (spend : SpendParts) (proper : IsProper program spend)
    (call : Handed) → built_call program spend ≡ Ok call → IsRun contract program spend call
run_of contract program h spend proper call is =
    let source = program.source in
    let fits : IsCallOf program call = call_fits program spend.ctor spend.choice call is in
    let own : AreOwn program call = own_scripts program spend call is in
    let elements = proper.elements call is in
    let found = found_in_map (described_function (text_at source)) contract.functions call.chosen fits.function
    (subst (λ (abi : List AbiCall). slice_get abi call.chosen ≡ Some fits.function) h.describes.abi fits.found) in
    let f = found.0 in
    let params : length program.ctor ≡ length contract.params =
    ap length h.describes.ctor ∙ length-map contract.params (described_param (text_at source)) in
    let asked : Call = record { ctor = call.ctor; chosen = call.chosen; args = call.args } in
    let outside : Outside = record { frame = spend.frame; verdicts = spend.verdicts } in
    let fit : Admits contract program.code f asked = record {
      called = record {
        ctor_count = fits.ctor_count ∙ params;
        found = found.1;
        arg_count = fits.arg_count ∙ ap (λ (c : AbiCall). length c.inputs) found.2 ∙ length-map f.params (described_param (text_at source));
        ctor_elements = elements.0;
        arg_elements = elements.1;
      };
      size = own.small;
    } in
    let count : length contract.functions ≡ length program.abi =
    sym (ap length h.describes.abi ∙ length-map contract.functions (described_function (text_at source))) in
    let by_scripts = λ (scripts : Built). Agrees h.rows (length call.ctor) (outcome_of spend scripts)
    (source_outcome contract call.ctor f call.args (world_of spend scripts)) in
    let agrees : by_scripts call.scripts = subst by_scripts (sym own.scripts)
    (subst (λ (n : ℕ). by_scripts (scripts_with program call n)) count
    (h.agrees asked f outside fit (record { frame = proper.frame; table = proper.verdicts }))) in
    let run = source_outcome contract call.ctor f call.args (world_of spend call.scripts) in
    let outcome = outcome_of spend call.scripts in
    let by_place = λ (spans : Option (List SpanRow)) (before : ℕ). IsVerdict source run outcome (outcome_status outcome)
    (verdict_line outcome (told_place source (known_place spans before outcome))) in
    record {
      function = f;
      called = found.1;
      verdict = subst (λ (spans : Option (List SpanRow)). by_place spans (length program.ctor)) (sym h.describes.placed)
          (subst (λ (n : ℕ). by_place (Some h.rows) n) fits.ctor_count (verdict_told source h.rows (length call.ctor) run outcome agrees));
    }

-- the same spend is read of the same bytes
same_spend : (bytes : List ℕ) (spend other : SpendParts) → spend_reading bytes ≡ Ok spend → spend_reading bytes ≡ Ok other → spend ≡ other
same_spend bytes spend other read again =
    let same : Ok spend ≡ Ok other = sym read ∙ again in
    cc

-- ---- `debug`

told_is : (program : Artifact) (spend : SpendParts) (scripts : Built) (told : Told) → built_spend program spend ≡ Ok scripts
    → report_of program spend ≡ Ok told → told_by program spend scripts ≡ told
told_is program spend scripts told made judged =
    let one : Ok (told_by program spend scripts) ≡ Ok told =
    ap (λ (r : Result Built BuildFault). or_stop r >>= λ s. Ok (told_by program spend s)) (sym made) ∙ judged in
    cc

debug_here : (contract : Contract Slot Ty) (program : Artifact) (h : IsCorrect program.source contract program) (spend : SpendParts) (proper : IsProper program spend)
    (status : ℕ) (text : List ℕ) (t : IsTold program spend status text) (call : Handed) → built_call program spend ≡ Ok call
    → IsDecided program.source contract spend call [] status text
debug_here contract program h spend proper status text t call is =
    let run = run_of contract program h spend proper call is in
    let told = told_is program spend call.scripts t.told (scripts_of_call program spend call is) t.judged in
    record {
      function = run.function;
      called = run.called;
      line = line_of program spend call.scripts;
      verdict = subst (λ (n : ℕ). IsVerdict program.source (source_outcome contract call.ctor run.function call.args (world_of spend call.scripts))
          (outcome_of spend call.scripts) n (line_of program spend call.scripts))
          (ap (λ (u : Told). outcome_status u.outcome) told ∙ sym t.status_is) run.verdict;
      shown = t.shown ∙ ap (report_lines program.source) (sym told);
    }

pub debug_decided : (contract : Contract Slot Ty) (program : Artifact) (h : IsCompiled program.source contract program) (bytes : List ℕ) (spend : SpendParts)
    → spend_reading bytes ≡ Ok spend → IsProper program spend → (status : ℕ) (text : List ℕ) → IsTold program spend status text
    → AreDecided program.source contract program bytes [] status text
debug_decided contract program h bytes spend read proper status text told other call again is =
    let same : spend ≡ other = same_spend bytes spend other read again in
    subst (λ (s : SpendParts). IsDecided program.source contract s call [] status text) same
    (debug_here contract program h.correct spend proper status text told call
    (subst (λ (s : SpendParts). built_call program s ≡ Ok call) (sym same) is))

-- ---- `trace`

trace_is : (program : Artifact) (spend : SpendParts) (scripts : Built) (trace : Trace) → built_spend program spend ≡ Ok scripts
    → trace_of program spend ≡ Ok trace → traced program spend scripts ≡ trace
trace_is program spend scripts trace made judged =
    let one : Ok (traced program spend scripts) ≡ Ok trace =
    ap (λ (r : Result Built BuildFault). or_stop r >>= λ s. Ok (traced program spend s)) (sym made) ∙ judged in
    cc

-- the lines of a report with others before the verdict
abbrev report_with : List ℕ → List ℕ → Told → List ℕ
report_with source between told =
    lines_with told.redeem told.unlocking told.locking (between ++ verdict_line told.outcome (told_place source told.place))

trace_here : (contract : Contract Slot Ty) (program : Artifact) (h : IsCorrect program.source contract program) (spend : SpendParts) (proper : IsProper program spend)
    (trace : Trace) (status : ℕ) (text : List ℕ) (t : IsTraceOf program.source program spend trace status text) (call : Handed) → built_call program spend ≡ Ok call
    → IsDecided program.source contract spend call (row_lines program.source trace.rows) status text
trace_here contract program h spend proper trace status text t call is =
    let run = run_of contract program h spend proper call is in
    let same : traced program spend call.scripts ≡ trace = trace_is program spend call.scripts trace (scripts_of_call program spend call is) t.traced in
    let report : told_by program spend call.scripts ≡ trace.report = ap (λ (u : Trace). u.report) same in
    record {
      function = run.function;
      called = run.called;
      line = line_of program spend call.scripts;
      verdict = subst (λ (n : ℕ). IsVerdict program.source (source_outcome contract call.ctor run.function call.args (world_of spend call.scripts))
          (outcome_of spend call.scripts) n (line_of program spend call.scripts))
          (ap (λ (u : Told). outcome_status u.outcome) report ∙ sym t.status_is) run.verdict;
      shown = t.shown ∙ ap (report_with program.source (row_lines program.source trace.rows)) (sym report);
    }

pub trace_shown : (contract : Contract Slot Ty) (program : Artifact) (h : IsCompiled program.source contract program) (bytes : List ℕ) (spend : SpendParts)
    → spend_reading bytes ≡ Ok spend → IsProper program spend → (trace : Trace) (status : ℕ) (text : List ℕ) → IsTraceOf program.source program spend trace status text
    → IsTracedBy contract program bytes status text
trace_shown contract program h bytes spend read proper trace status text told = record {
  spend = spend;
  asked = read;
  trace = trace;
  judged = told;
  decided = λ other call again is.
      let same : spend ≡ other = same_spend bytes spend other read again in
      subst (λ (s : SpendParts). IsDecided program.source contract s call (row_lines program.source trace.rows) status text) same
      (trace_here contract program h.correct spend proper trace status text told call
      (subst (λ (s : SpendParts). built_call program s ≡ Ok call) (sym same) is));
}
