-- What slot code's rows cost, and that their counts of keys are known.
use Rattle.std.specs.Prelude.{◌≡◌, ◌+◌, ◌≤◌, true, false, length}
use Rattle.bch_vm.specs.Law.{are_keys_known}
use Rattle.slot_code.specs.Weight.{Weigh}
use Rattle.row_runs.specs.Rows.{instructions}
use Rattle.stack_emitter.specs.Codes.{bytes_of}
use Rattle.stack_steps.specs.declared.low.Low.{Low}
use Rattle.stack_steps.specs.Steps.{KeysKnown, Pays, counted_of}

-- the added rows cost at most this weight, and each check of several signatures has its number of keys before it
pub record Counts (weigh : Weigh) (old new : Low) : Type 0 where
  pub keys : KeysKnown new.emitter
  pub pays : Pays weigh old new

-- The same of rows that end their paths. What each name in scope has in store is spent there.
pub record CountsEnd (weigh : Weigh) (old new : Low) : Type 0 where
  pub keys : are_keys_known false (instructions new.emitter.code.items) ≡ true
  pub bytes_fit : bytes_of new.emitter.code.items + length old.scope
      ≤ bytes_of old.emitter.code.items + length old.emitter.place.slots + (weigh (length old.scope)).bytes
  pub ops_fit : counted_of new.emitter.code.items + length old.scope
      ≤ counted_of old.emitter.code.items + length old.emitter.place.slots + (weigh (length old.scope)).ops
