-- How the end of a source's run is told.
use Rattle.std.specs.Prelude.{ℕ, List, ◌++◌, codes}
use Rattle.source_meaning.specs.declared.outcome.SourceOutcome.{SourceOutcome}
use Rattle.source_meaning.specs.declared.outcome.SourceOutcome.TheVariants.{Met, Failed}
use Rattle.span_map.specs.Lines.{line_col}
use Rattle.spend_debug.specs.Telling.{lines_with, at_place, cause_name}
use Rattle.spend_meaning.specs.Meant.{MeantParts}

-- `met`, or `failed LINE:COL CAUSE`
abbrev pub run_line : List ℕ → SourceOutcome → List ℕ
run_line source Met = codes "met\n"
run_line source (Failed span cause) =
    codes "failed " ++ at_place (line_col source span.from) ++ codes " " ++ cause_name cause ++ codes "\n"

-- behind the lines of the three scripts
abbrev pub meaning_lines : List ℕ → MeantParts → List ℕ
meaning_lines source meant = lines_with meant.redeem meant.unlocking meant.locking (run_line source meant.outcome)
