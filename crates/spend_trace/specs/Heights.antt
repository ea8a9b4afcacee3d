-- How high the stack gets on the way through a spend.
use Rattle.std.specs.Prelude.{◌≤◌, Bool, true, false, List, [], ◌∷◌, length}
use Rattle.bch_vm.specs.Course.{Course, Passes, Gives, Stops}
use Rattle.spend_trace.specs.declared.tracing.TraceRow.{TraceRow}

-- after each instruction that is passed, the stack has at most 1,000 elements
abbrev pub HasLowStacks : {A : Type 0} → Course A → Type 0
HasLowStacks (Passes row rest) = (length row.stack ≤ 1000) × HasLowStacks rest
HasLowStacks (Gives a) = Unit {0}
HasLowStacks (Stops outcome) = Unit {0}

-- the row of an instruction, where it was executed
abbrev pub added : Bool → TraceRow → List TraceRow
added true row = row ∷ []
added false row = []
