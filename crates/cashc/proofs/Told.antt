-- What the sinks of the top call told, and what is told of a stop.
use Rattle.std.proofs.Common.{ℕ, ◌++◌, List, length, Option, option_map, Result, Ok, Err, sym, ap, ◌∙◌}
use Rattle.std.proofs.Math.Seq.{take-length}
use Rattle.cash_base.specs.Outside.{Writes}
use Rattle.cashc.specs.TopCall.{Tried}

-- a write was tried
pub tried : {E : Type 0} (old new : Option (List ℕ)) (before now : ℕ) (text : List ℕ) (result : Result (Unit {0}) E) → Writes old new before now text result → Tried before now old new text
tried old new before now text (Ok u) w = record {
  front = (length text, w.all ∙ ap (λ t. option_map (λ written. written ++ t) old) (sym (take-length text)));
  whole = λ quiet. w.all;
}
tried old new before now text (Err e) w = record { front = w.failed.1; whole = λ quiet. absurd (quiet w.failed.0) }
