-- The world of a spend.
use Rattle.std.specs.Prelude.{ℕ, Bool, ◌==◌, List, map, if◌then◌else◌, unwrap_or}
use Rattle.std.specs.List.{enumerate_from}
use Rattle.cash_base.specs.Number.{IsBytes}
use Rattle.tx_context.specs.Transaction.{InputParts, OutputParts, Transaction, Locking}
use Rattle.tx_context.specs.Limits.{IsContext}
use Rattle.tx_context.specs.Table.{Row, AreVerdicts}

-- What a run of a contract's source, and of its script, can ask about: the transaction, the verdicts on signatures, and
-- the redeem script, which is the active bytecode.
pub record World : Type 0 where
  pub context : Transaction (List ℕ)
  pub verdicts : List Row
  pub redeem : List ℕ

-- What holds of every world: the transaction is a context within its limits, the verdicts are a table, and the redeem
-- script is bytes, however many.
pub record IsWorld (world : World) : Type 0 where
  pub context : IsContext world.context
  pub verdicts : AreVerdicts world.verdicts
  pub redeem : IsBytes world.redeem

-- An input of a context: its locking bytecode is that of the spend where none was given. The active input has both
-- bytecodes of the spend, whatever was given.
abbrev pub filled_input : Bool → List ℕ → List ℕ → InputParts Locking → InputParts (List ℕ)
filled_input is_active locking unlocking i = record {
  hash = i.hash;
  index = i.index;
  sequence = i.sequence;
  value = i.value;
  locking = if is_active then locking else unwrap_or i.locking locking;
  unlocking = if is_active then unlocking else i.unlocking;
}

abbrev pub filled_inputs : ℕ → List ℕ → List ℕ → List (ℕ × InputParts Locking) → List (InputParts (List ℕ))
filled_inputs active locking unlocking inputs =
    map (λ i. filled_input (i.0 == active) locking unlocking i.1) inputs

abbrev pub filled_output : List ℕ → OutputParts Locking → OutputParts (List ℕ)
filled_output locking o = record { value = o.value; locking = unwrap_or o.locking locking }

-- the context of a frame whose active input is spent by these two scripts
abbrev pub filled_context : Transaction Locking → List ℕ → List ℕ → Transaction (List ℕ)
filled_context frame locking unlocking = record {
  version = frame.version;
  locktime = frame.locktime;
  inputs = filled_inputs frame.active locking unlocking (enumerate_from 0 frame.inputs);
  outputs = map (filled_output locking) frame.outputs;
  active = frame.active;
}
