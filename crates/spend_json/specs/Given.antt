-- What a spend file holds, without where it lies in memory.
use Rattle.std.specs.Prelude.{ℕ, ℤ, Bool, List, map, Option, option_map, string_bytes}
use Rattle.cash_base.specs.declared.value.TypedValue.{TypedValue}
use Rattle.cash_base.specs.declared.value.TypedValue.TheVariants as typed
use Rattle.tx_context.specs.Transaction.{Transaction, Locking}
use Rattle.tx_context.specs.Table.{Row}
use Rattle.spend_json.specs.declared.choice.Choice.{Choice}
use Rattle.spend_json.specs.declared.choice.Choice.TheVariants as choices
use Rattle.spend_json.specs.declared.file.SpendFile.{SpendFile}

-- a value of a parameter
pub data ValueParts : Type 0 where
  int_value : ℤ → ValueParts
  bool_value : Bool → ValueParts
  text_value : List ℕ → ValueParts
  raw_value : List ℕ → ValueParts

abbrev pub value_parts : TypedValue → ValueParts
value_parts (typed.Int z) = int_value z
value_parts (typed.Bool b) = bool_value b
value_parts (typed.Text s) = text_value (string_bytes s)
value_parts (typed.Raw e) = raw_value e.items

-- a call of a function, which may be left open, with arguments; or pushes of elements in its place
pub data ChoiceParts : Type 0 where
  by_call : Option (List ℕ) → List ValueParts → ChoiceParts
  by_pushes : List (List ℕ) → ChoiceParts

abbrev pub choice_parts : Choice → ChoiceParts
choice_parts (choices.Call function args) = by_call (option_map string_bytes function) (map value_parts args.items)
choice_parts (choices.Pushes pushes) = by_pushes (map (λ e. e.items) pushes.items)

pub record SpendParts : Type 0 where
  pub ctor : List ValueParts
  pub choice : ChoiceParts
  pub frame : Transaction Locking
  pub verdicts : List Row

abbrev pub spend_parts : SpendFile → SpendParts
spend_parts file = record {
  ctor = map value_parts file.ctor.items;
  choice = choice_parts file.choice;
  frame = file.frame;
  verdicts = file.verdicts;
}
