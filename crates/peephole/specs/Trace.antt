-- What a run executes: the statements, and the stacks before them.
use Rattle.std.specs.Prelude.{◌≡◌, ◌==◌, Bool, true, false, ◌&&◌, if◌then◌else◌, List, [], ◌∷◌, ◌++◌, Option, Some, None, Ok, Err}
use Rattle.cash_base.specs.declared.place.Span.{Span}
use Rattle.tx_context.specs.World.{World}
use Rattle.script_codec.specs.declared.spans.Spanned.{Spanned}
use Rattle.opcode_table.specs.Stack.{Stack}
use Rattle.bch_vm.specs.Board.{Board, is_executed}
use Rattle.row_runs.specs.Rows.{is_control}
use Rattle.rewrite_rules.specs.Rows.{Next, step}
use Rattle.peephole.specs.Sublists.{Sublist}

-- an executed instruction: its statement, the stack just before it, and whether it is IF, NOTIF, ELSE or ENDIF
pub record Event : Type 0 where
  pub checking : Span
  pub stack : Stack
  pub control : Bool

abbrev pub event : Spanned → Stack → Event
event r stack = record { checking = r.checking; stack = stack; control = is_control r.instr }

abbrev pub where_executed : Bool → Event → List Event
where_executed true e = e ∷ []
where_executed false e = []

abbrev pub events_from : Next → (Board → List Event) → List Event
events_from (Ok b) f = f b
events_from (Err fault) f = []

-- the executed instructions of a run, in order; one that fails isn't among them
abbrev pub trace : World → List Spanned → Board → List Event
trace world [] b = []
trace world (r ∷ rows) b =
    events_from (step world r b) (λ next. where_executed (is_executed r.instr b.conditions) (event r b.stack) ++ trace world rows next)

-- the statement of the last that is no IF, NOTIF, ELSE or ENDIF, or one from before
abbrev pub last_statement : Option Span → List Event → Option Span
last_statement s [] = s
last_statement s (e ∷ events) = last_statement (if e.control then s else Some e.checking) events

abbrev pub is_same : Option Span → Span → Bool
is_same None t = false
is_same (Some s) t = s.from == t.from && s.to == t.to

abbrev pub mark_where : Bool → Event → List (Span × Stack)
mark_where true e = []
mark_where false e = (e.checking, e.stack) ∷ []

-- each unbroken row of executed instructions of one statement: its span, and the stack just before it
abbrev pub beginnings : Option Span → List Event → List (Span × Stack)
beginnings s [] = []
beginnings s (e ∷ events) = mark_where (is_same s e.checking) e ++ beginnings (Some e.checking) events

-- each executed IF, NOTIF, ELSE and ENDIF
abbrev pub controls : List Event → List Event
controls [] = []
controls (e ∷ events) = where_executed e.control e ++ controls events

-- Where the run ends, the last statement is the same. The rows of one statement are those from before with some left out, each
-- on the stack on which it began, and each IF, NOTIF, ELSE and ENDIF stays, on its stack.
pub record KeepsStatements (ended : Bool) (before after : List Event) : Type 0 where
  pub last : ended ≡ true → (s : Option Span) → last_statement s after ≡ last_statement s before
  pub begin : (s : Option Span) → Sublist (beginnings s after) (beginnings s before)
  pub control : controls after ≡ controls before
