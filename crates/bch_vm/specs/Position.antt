-- Where a run of a script is.
use Rattle.std.specs.Prelude.{◌≡◌, ℕ, ◌≤◌, Bool, List, length, drop, Option, Some, None, Result, Ok, Err}
use Rattle.cash_base.specs.declared.fault.MachineCause.{MachineCause}
use Rattle.tx_context.specs.declared.frame.TheConstants.{LONGEST_BYTECODE}
use Rattle.script_codec.specs.Reading.{reading}
use Rattle.bch_vm.specs.declared.outcome.Which.{Which}
use Rattle.bch_vm.specs.declared.outcome.MachineOutcome.TheVariants.{Refused}
use Rattle.bch_vm.specs.Setting.{Setting}
use Rattle.bch_vm.specs.Board.{height}
use Rattle.bch_vm.specs.Script.{State, Counted, balanced}
use Rattle.bch_vm.specs.Course.{Course, Passes, Stops, row_of}
use Rattle.bch_vm.specs.Spend.{told, pieces_course}

-- what bounds the work of a run
pub record IsBounded (p : Counted) : Type 0 where
  pub elements : height p.state.board ≤ 1000
  pub opened : length p.state.board.conditions ≤ p.count
  pub count : p.count ≤ 201
  pub passed : p.state.progress.at ≤ p.state.progress.place
  pub place : p.state.progress.place ≤ LONGEST_BYTECODE

-- the course of what is left of the script
abbrev pub rest_course : Setting → Which → List ℕ → Counted → Course State
rest_course setting which script p = pieces_course setting which (reading (drop p.state.progress.place script)) p

-- What passing an instruction answers: whether it was executed; nothing at the end of the script, where everything stays;
-- or a refusal.
abbrev pub IsPassed : Setting → Which → List ℕ → Counted → Result (Option Bool) MachineCause → Counted → Type 0
IsPassed setting which script old (Ok (Some executed)) new =
    rest_course setting which script old
    ≡ Passes (row_of which old.state.progress.at executed new.state.board.stack) (rest_course setting which script new)
IsPassed setting which script old (Ok None) new =
    (rest_course setting which script old ≡ told which (balanced old.state.board.conditions old.state)) × (new ≡ old)
IsPassed setting which script old (Err cause) new =
    rest_course setting which script old ≡ Stops (Refused which old.state.progress.at cause)
