-- What a command tells, as the top call says it.
use Rattle.std.proofs.Common.{◌≡◌, ℕ, List, Option, None, Some, refl, sym, subst}
use Rattle.std.specs.Global.{Global}
use Rattle.std.specs.declared.string.String.{String}
use Rattle.cash_base.specs.Outside.{Files}
use Rattle.command_files.specs.declared.Stop.{Stop}
use Rattle.command_files.specs.declared.Stop.TheVariants.{Refused, Unread, Memory}
use Rattle.spend_command.specs.Spent.{IsNoSpend, HasSpendCause}
use Rattle.source_commands.specs.Sources.{HasSourceFileCause, HasSpendCauseOf}
use Rattle.source_commands.specs.Meaning.{IsNoCall}
use Rattle.workload.specs.Refused.{HasWorkCause}
use Rattle.cashc.specs.TopCall.{Command, compile_by, debug_by, trace_by, spend_by, meaning_by, workload_by, command_of, usage, IsToldFor, IsTold, HasReadCauseFor, HasReadCause}
use Rattle.cashc.specs.Answering.{HasCause}

-- words that are no command
pub misuse : (files : Option Files) (words : List (String Global)) (text : List ℕ) → command_of words ≡ None → text ≡ usage → IsTold files words 2 text
misuse files words text none is = subst (λ (o : Option Command). IsToldFor files o 2 text) (sym none) (refl, is)

-- the words' command is refused
pub told_for : (files : Option Files) (words : List (String Global)) (command : Command) (status : ℕ) (text said : List ℕ)
    → command_of words ≡ Some command → said ≡ text → IsToldFor files (Some command) status text → IsTold files words status said
told_for files words command status text said named is told =
    subst (λ (o : Option Command). IsToldFor files o status said) (sym named) (subst (λ (t : List ℕ). IsToldFor files (Some command) status t) (sym is) told)

-- it can't read a file
pub unread_for : (files : Option Files) (words : List (String Global)) (command : Command) (before now : ℕ)
    → command_of words ≡ Some command → HasReadCauseFor files (Some command) before now → HasReadCause files words before now
unread_for files words command before now named cause = subst (λ (o : Option Command). HasReadCauseFor files o before now) (sym named) cause

-- ---- a command shows nothing

pub compile_stopped : (files : Option Files) (source time : List ℕ) (before now : ℕ) (stop : Stop)
    → HasSourceFileCause files source before now stop → HasCause files (compile_by source time) before now stop
compile_stopped files source time before now (Refused status text) cause = cause
compile_stopped files source time before now Unread cause = cause
compile_stopped files source time before now Memory cause = tt

pub debug_stopped : (files : Option Files) (source spend : List ℕ) (before now : ℕ) (stop : Stop)
    → HasSpendCauseOf IsNoSpend files source spend before now stop → HasCause files (debug_by source spend) before now stop
debug_stopped files source spend before now (Refused status text) cause = cause
debug_stopped files source spend before now Unread cause = cause
debug_stopped files source spend before now Memory cause = tt

pub trace_stopped : (files : Option Files) (source spend : List ℕ) (before now : ℕ) (stop : Stop)
    → HasSpendCauseOf IsNoSpend files source spend before now stop → HasCause files (trace_by source spend) before now stop
trace_stopped files source spend before now (Refused status text) cause = cause
trace_stopped files source spend before now Unread cause = cause
trace_stopped files source spend before now Memory cause = tt

pub spend_stopped : (files : Option Files) (artifact spend : List ℕ) (before now : ℕ) (stop : Stop)
    → HasSpendCause files artifact spend before now stop → HasCause files (spend_by artifact spend) before now stop
spend_stopped files artifact spend before now (Refused status text) cause = cause
spend_stopped files artifact spend before now Unread cause = cause
spend_stopped files artifact spend before now Memory cause = tt

pub meaning_stopped : (files : Option Files) (source spend : List ℕ) (before now : ℕ) (stop : Stop)
    → HasSpendCauseOf IsNoCall files source spend before now stop → HasCause files (meaning_by source spend) before now stop
meaning_stopped files source spend before now (Refused status text) cause = cause
meaning_stopped files source spend before now Unread cause = cause
meaning_stopped files source spend before now Memory cause = tt

pub workload_stopped : (files : Option Files) (contracts : ℕ) (before now : ℕ) (stop : Stop) → HasWorkCause contracts stop
    → HasCause files (workload_by contracts) before now stop
workload_stopped files contracts before now (Refused status text) cause = cause
workload_stopped files contracts before now Unread cause = absurd cause
workload_stopped files contracts before now Memory cause = tt
