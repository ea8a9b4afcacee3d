-- The items of a JSON list, one after the other, as a loop reads them.
use Rattle.std.proofs.Common.{◌≡◌, List, ◌++◌, length, Result, Ok}
use Rattle.cash_base.specs.Failing.{◌>>=◌}
use Rattle.serde_json.specs.Events.{items_len}
use Rattle.serde_json.specs.View.{items_view}
use Rattle.serde_json.specs.declared.value.Value.{Value}
use Rattle.serde_json.proofs.Views.{items_len-items_view}

pub count_items : (vs : List Value) → items_len (items_view vs) ≡ length vs
count_items vs = items_len-items_view vs

-- what was read before, and what is still read
abbrev pub with_front : {B E : Type 0} → List B → Result (List B) E → Result (List B) E
with_front front read = read >>= λ xs. Ok (front ++ xs)
