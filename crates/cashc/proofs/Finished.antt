-- A command that nothing is in the way of is answered, or memory runs out.
use Rattle.std.proofs.Common.{◌≡◌, ℕ, ◌≤◌, ◌<◌, ◌⊎◌, List, length, Option, Some, None, Result, Ok, Err, inl, inr, sym, ap, ◌∙◌, subst, arith}
use Rattle.std.specs.Global.{Global}
use Rattle.std.specs.declared.string.String.{String}
use Rattle.cash_base.specs.Failing.{◌>>=◌}
use Rattle.cash_base.specs.Outside.{Files, Rose}
use Rattle.cash_base.specs.declared.place.Slot.{Slot}
use Rattle.cash_tree.specs.declared.Ty.{Ty}
use Rattle.cash_tree.specs.declared.Contract.{Contract}
use Rattle.slot_lowering.specs.Room.{room, ops_room}
use Rattle.artifact_json.specs.Artifact.{Artifact}
use Rattle.artifact_json.specs.Reading.{artifact_reading}
use Rattle.spend_json.specs.Given.{SpendParts}
use Rattle.spend_json.specs.Files.{spend_reading}
use Rattle.unlocker.specs.declared.BuildFault.{BuildFault}
use Rattle.unlocker.specs.Spends.{Built, Handed, built_spend, built_call}
use Rattle.spend_debug.specs.SpendDebug.{or_stop}
use Rattle.spend_debug.specs.declared.spends.SpendStop.TheVariants.{Build}
use Rattle.spend_trace.specs.Judged.{told_by, report_of}
use Rattle.source_stages.specs.Stages.{max_source_len}
use Rattle.cash_compile.specs.declared.refusal.Refusal.{Refusal}
use Rattle.cash_compile.specs.Compile.{IsAccepted, IsCompiled, IsUncompiled, most_bytes, most_opcodes}
use Rattle.command_files.specs.Files.{IsFile, IsLonger, IsMissing}
use Rattle.spend_command.specs.Spent.{max_artifact_len, max_input_len, IsRefusalUpTo, IsNoArtifact, IsNoSpend, IsSpendRefusal, LacksSpendFile}
use Rattle.source_commands.specs.Sources.{IsRefusal, IsRefusalOf, LacksSpendOf}
use Rattle.source_commands.specs.Meaning.{IsNoCall}
use Rattle.cashc.specs.TopCall.{Command, compile_by, debug_by, trace_by, spend_by, meaning_by, workload_by, command_of, IsRefusedFor, LacksFile, HasReadCauseFor}
use Rattle.cashc.specs.Complete.{HasFile, HasSource, HasBoth, HasProgram, CanBuild, CanCall, CanAnswer, IsQuiet}

-- ---- a file that is there

same_file : (files : Option Files) (name a b : List ℕ) → HasFile files name a → IsFile files name b → a ≡ b
same_file (Some fs) name a b found is =
    let one : Some a ≡ Some b = sym found ∙ is in
    cc
same_file None name a b found is = absurd found

not_longer : (files : Option Files) (name bytes : List ℕ) (limit : ℕ) → HasFile files name bytes → length bytes ≤ limit
    → IsLonger files name limit → ⊥
not_longer (Some fs) name bytes limit found short (other, is, longer) =
    let one : Some bytes ≡ Some other = sym found ∙ is in
    let same : bytes ≡ other = cc in
    let less : limit < length bytes = subst (λ (b : List ℕ). limit < length b) (sym same) longer in
    absurd (omega (arith, short, less))
not_longer None name bytes limit found short longer = absurd found

not_missing : (files : Option Files) (name bytes : List ℕ) → HasFile files name bytes → IsMissing files name → ⊥
not_missing (Some fs) name bytes found missing =
    let one : Some bytes ≡ None = sym found ∙ missing in
    absurd cc
not_missing None name bytes found missing = absurd found

-- it isn't refused, where its bytes aren't
file_read : (most : ℕ) (files : Option Files) (name bytes : List ℕ) → HasFile files name bytes → length bytes ≤ most
    → (Is : List ℕ → List ℕ → Type 0) → ((text : List ℕ) → Is bytes text → ⊥) → (text : List ℕ) → IsRefusalUpTo most Is files name text → ⊥
file_read most files name bytes found short Is never text (inl long) = not_longer files name bytes most found short long.0
file_read most files name bytes found short Is never text (inr (other, is, within, refused)) =
    let same : bytes ≡ other = same_file files name bytes other found is in
    never text (subst (λ (b : List ℕ). Is b text) (sym same) refused)

-- ---- a source

-- the law of contracts with little room
abbrev pub FitLaw : Type 0
FitLaw = (source : List ℕ) (contract : Contract Slot Ty) (refusal : Refusal) → IsAccepted source contract
    → room contract ≤ most_bytes → ops_room contract ≤ most_opcodes → IsUncompiled source refusal → ⊥

source_read : (law : FitLaw) (files : Option Files) (name source : List ℕ) (h : HasSource files name source) (text : List ℕ)
    → IsRefusal files name text → ⊥
source_read law files name source h text (inl long) =
    not_longer files name source max_source_len h.found h.accepted.resolved.parsed.cut.text.short long.0
source_read law files name source h text (inr (other, refusal, found, short, refused, told)) =
    let same : source ≡ other = same_file files name source other h.found found in
    law source h.contract refusal h.accepted h.bytes h.opcodes (subst (λ (s : List ℕ). IsUncompiled s refusal) (sym same) refused)

-- ---- a spend file

same_spend : (bytes : List ℕ) (spend other : SpendParts) → spend_reading bytes ≡ Ok spend → spend_reading bytes ≡ Ok other → spend ≡ other
same_spend bytes spend other read again =
    let one : Ok spend ≡ Ok other = sym read ∙ again in
    cc

always_spends : (program : Artifact) (spend : SpendParts) (bytes : List ℕ) → spend_reading bytes ≡ Ok spend → CanBuild program spend
    → (text : List ℕ) → IsNoSpend program bytes text → ⊥
always_spends program spend bytes reads can text (inl none) =
    let one : Ok spend ≡ Err none.0 = sym reads ∙ none.1 in
    absurd cc
always_spends program spend bytes reads can text (inr (other, again, unbuilt)) =
    let same : spend ≡ other = same_spend bytes spend other reads again in
    let made : built_spend program other ≡ Ok can.0 = subst (λ (s : SpendParts). built_spend program s ≡ Ok can.0) same can.1 in
    let judged : report_of program other ≡ Ok (told_by program other can.0) =
    ap (λ (r : Result Built BuildFault). or_stop r >>= λ s. Ok (told_by program other s)) made in
    let one : Ok (told_by program other can.0) ≡ Err (Build unbuilt.0) = sym judged ∙ unbuilt.1 in
    absurd cc

always_calls : (program : Artifact) (spend : SpendParts) (bytes : List ℕ) → spend_reading bytes ≡ Ok spend → CanCall program spend
    → (text : List ℕ) → IsNoCall program bytes text → ⊥
always_calls program spend bytes reads can text (inl none) =
    let one : Ok spend ≡ Err none.0 = sym reads ∙ none.1 in
    absurd cc
always_calls program spend bytes reads can text (inr (other, again, uncalled)) =
    let same : spend ≡ other = same_spend bytes spend other reads again in
    let made : built_call program other ≡ Ok can.0 = subst (λ (s : SpendParts). built_call program s ≡ Ok can.0) same can.1 in
    let called : or_stop (built_call program other) ≡ Ok can.0 = ap (λ (r : Result Handed BuildFault). or_stop r) made in
    let one : Ok can.0 ≡ Err (Build uncalled.0) = sym called ∙ uncalled.1 in
    absurd cc

-- ---- both

abbrev Refusals : Type 1
Refusals = Artifact → List ℕ → List ℕ → Type 0

abbrev Never : (Artifact → SpendParts → Type 0) → Refusals → Type 0
Never Can Is = (program : Artifact) (spend : SpendParts) (bytes : List ℕ) → spend_reading bytes ≡ Ok spend → Can program spend
    → (text : List ℕ) → Is program bytes text → ⊥

both_read : (law : FitLaw) (Can : Artifact → SpendParts → Type 0) (Is : Refusals) (never : Never Can Is) (files : Option Files) (source spend : List ℕ)
    (h : HasBoth Can files source spend) (status : ℕ) (text : List ℕ) → IsRefusalOf Is files source spend status text → ⊥
both_read law Can Is never files source spend h status text (inl refused) =
    source_read law files source h.source h.has_source text refused.1
both_read law Can Is never files source spend h status text (inr (four, (program, made, refused))) =
    let same : h.source ≡ program.source = same_file files source h.source program.source h.has_source.found made.1.found in
    let compiled : IsCompiled h.source made.0 program =
    subst (λ (s : List ℕ). IsCompiled s made.0 program) (sym same) made.1.compiled in
    let read = h.has_spend in
    file_read max_input_len files spend read.bytes read.found read.short (Is program)
    (never program h.spend read.bytes read.reads (h.can made.0 program compiled)) text refused

both_there : (Can : Artifact → SpendParts → Type 0) (files : Option Files) (source spend : List ℕ) (h : HasBoth Can files source spend)
    → LacksSpendOf files source spend → ⊥
both_there Can files source spend h (inl missing) = not_missing files source h.source h.has_source.found missing
both_there Can files source spend h (inr missing) = not_missing files spend h.has_spend.bytes h.has_spend.found missing.0

-- ---- an artifact

program_read : (files : Option Files) (artifact spend : List ℕ) (h : HasProgram files artifact spend) (text : List ℕ)
    → IsSpendRefusal files artifact spend text → ⊥
program_read files artifact spend h text (inl refused) =
    let read = h.has_artifact in
    let never : (told : List ℕ) → IsNoArtifact read.bytes told → ⊥ =
    λ told none.
    let one : Ok h.program ≡ Err none.0 = sym read.reads ∙ none.1 in
    absurd cc in
    file_read max_artifact_len files artifact read.bytes read.found read.short IsNoArtifact never text refused
program_read files artifact spend h text (inr (program, is, refused)) =
    let read = h.has_artifact in
    let bytes : read.bytes ≡ is.0 = same_file files artifact read.bytes is.0 read.found is.1 in
    let again : artifact_reading read.bytes ≡ Ok program = subst (λ (b : List ℕ). artifact_reading b ≡ Ok program) (sym bytes) is.2 in
    let one : Ok h.program ≡ Ok program = sym read.reads ∙ again in
    let same : h.program ≡ program = cc in
    let can : CanBuild program h.spend = subst (λ (p : Artifact). CanBuild p h.spend) same h.can in
    let asked = h.has_spend in
    file_read max_input_len files spend asked.bytes asked.found asked.short (IsNoSpend program)
    (always_spends program h.spend asked.bytes asked.reads can) text refused

program_there : (files : Option Files) (artifact spend : List ℕ) (h : HasProgram files artifact spend)
    → LacksSpendFile files artifact spend → ⊥
program_there files artifact spend h (inl missing) = not_missing files artifact h.has_artifact.bytes h.has_artifact.found missing
program_there files artifact spend h (inr missing) = not_missing files spend h.has_spend.bytes h.has_spend.found missing.0

-- ---- a command

never_refused : (law : FitLaw) (files : Option Files) (command : Command) → CanAnswer files command → (status : ℕ) (text : List ℕ)
    → IsRefusedFor files command status text → ⊥
never_refused law files (compile_by source time) can status text refused = source_read law files source can.0 can.1 text refused.1
never_refused law files (debug_by source spend) can status text refused =
    both_read law CanBuild IsNoSpend always_spends files source spend can status text refused
never_refused law files (trace_by source spend) can status text refused =
    both_read law CanBuild IsNoSpend always_spends files source spend can status text refused
never_refused law files (spend_by artifact spend) can status text refused = program_read files artifact spend can text refused.1
never_refused law files (meaning_by source spend) can status text refused =
    both_read law CanCall IsNoCall always_calls files source spend can status text refused
never_refused law files (workload_by contracts) can status text refused = can status text refused

never_lacks : (files : Option Files) (command : Command) → CanAnswer files command → LacksFile files command → ⊥
never_lacks files (compile_by source time) can missing = not_missing files source can.0 can.1.found missing
never_lacks files (debug_by source spend) can missing = both_there CanBuild files source spend can missing
never_lacks files (trace_by source spend) can missing = both_there CanBuild files source spend can missing
never_lacks files (spend_by artifact spend) can missing = program_there files artifact spend can missing
never_lacks files (meaning_by source spend) can missing = both_there CanCall files source spend can missing
never_lacks files (workload_by contracts) can missing = missing

-- ---- at each exit

abbrev pub IsAnswered : ℕ → Type 0
IsAnswered status = (status ≡ 0) ⊎ (status ≡ 3) ⊎ (status ≡ 7)

same_command : (words : List (String Global)) (a b : Command) → command_of words ≡ Some a → command_of words ≡ Some b → a ≡ b
same_command words a b named again =
    let one : Some a ≡ Some b = sym named ∙ again in
    cc

pub no_command : (words : List (String Global)) (command : Command) (result : ℕ) → command_of words ≡ None → command_of words ≡ Some command
    → IsAnswered result
no_command words command result none named =
    let one : None ≡ Some command = sym none ∙ named in
    absurd cc

pub shown_whole : (result status before now : ℕ) → (result ≡ status) ⊎ (result ≡ 6) → (status ≡ 0) ⊎ (status ≡ 3) → (result ≡ 6 → Rose before now)
    → IsQuiet before now → IsAnswered result
shown_whole result status before now (inl is) (inl zero_is) stopped quiet = inl (is ∙ zero_is)
shown_whole result status before now (inl is) (inr three_is) stopped quiet = inr (inl (is ∙ three_is))
shown_whole result status before now (inr is) shown stopped quiet = absurd (quiet (stopped is))

pub never_told : (law : FitLaw) (files : Option Files) (words : List (String Global)) (command seen : Command) (status : ℕ) (text : List ℕ) (result : ℕ)
    → command_of words ≡ Some command → CanAnswer files command → command_of words ≡ Some seen → IsRefusedFor files seen status text
    → IsAnswered result
never_told law files words command seen status text result named can again refused =
    absurd (never_refused law files seen
    (subst (λ (d : Command). CanAnswer files d) (same_command words command seen named again) can) status text refused)

pub never_unread : (files : Option Files) (words : List (String Global)) (command seen : Command) (before now result : ℕ)
    → command_of words ≡ Some command → CanAnswer files command → command_of words ≡ Some seen → IsQuiet before now
    → HasReadCauseFor files (Some seen) before now → IsAnswered result
never_unread files words command seen before now result named can again quiet (inl risen) = absurd (quiet risen)
never_unread files words command seen before now result named can again quiet (inr lacks) =
    absurd (never_lacks files seen (subst (λ (d : Command). CanAnswer files d) (same_command words command seen named again) can) lacks)
