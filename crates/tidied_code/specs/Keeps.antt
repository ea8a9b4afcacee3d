-- What tidied code keeps of the code of a contract.
use Rattle.std.specs.Prelude.{Bool, IsTrue, List, map}
use Rattle.std.specs.List.{list_all}
use Rattle.cash_base.specs.declared.place.Span.{Span}
use Rattle.source_meaning.specs.declared.outcome.SourceOutcome.{SourceOutcome}
use Rattle.tx_context.specs.World.{World}
use Rattle.script_codec.specs.declared.instr.Instr.{Instr}
use Rattle.script_codec.specs.declared.spans.Spanned.{Spanned}
use Rattle.opcode_table.specs.Stack.{Stack}
use Rattle.bch_vm.specs.Setting.{setting_in}
use Rattle.bch_vm.specs.Script.{state, run, Progress}
use Rattle.row_runs.specs.Rows.{instructions}
use Rattle.peephole.specs.Tidy.{Tidied}
use Rattle.tidied_code.specs.Ends.{places, EndsAs}

-- how the run of the rows ends, behind whichever instructions, in whichever code, from a stack in a world
abbrev pub AlwaysEndsAs : List Spanned → SourceOutcome → World → List Instr → Stack → Type 0
AlwaysEndsAs rows outcome world whole stack =
    (p : Progress) → EndsAs (map places rows) p.at outcome (run (setting_in world whole) (instructions rows) (state stack p))

-- Where the code always ends as the source, the tidied code does: however the source ends, in every world and code, from every
-- stack.
abbrev pub KeepsEnds : List Spanned → List Spanned → Type 0
KeepsEnds before after = (outcome : SourceOutcome) (world : World) (whole : List Instr) (stack : Stack)
    → AlwaysEndsAs before outcome world whole stack → AlwaysEndsAs after outcome world whole stack

-- The places of its rows are among those of the code: they pass each test that all of these pass.
abbrev pub KeepsPlaces : List Spanned → List Spanned → Type 0
KeepsPlaces before after = (test : Span → Span → Bool) → IsTrue (list_all (λ (row : Spanned). test row.doing row.checking) before)
    → IsTrue (list_all (λ (row : Spanned). test row.doing row.checking) after)

pub record Keeps (before after : List Spanned) : Type 0 where
  pub tidied : Tidied before after
  pub ends : KeepsEnds before after
  pub places : KeepsPlaces before after
