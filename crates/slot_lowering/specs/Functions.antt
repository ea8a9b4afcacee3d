-- Which contracts are lowered, and what their functions become.
use Rattle.std.specs.Prelude.{◌≡◌, ◌≤◌, ℕ, ◌+◌, ◌==◌, nat_le, Bool, true, ◌&&◌, List, [], ◌∷◌, ◌++◌, length, map, drop}
use Rattle.std.specs.List.{list_all, AllZip}
use Rattle.cash_base.specs.declared.place.Span.{Span}
use Rattle.cash_base.specs.declared.place.Slot.{Slot}
use Rattle.tx_context.specs.World.{World}
use Rattle.cash_tree.specs.Spans.{nothing as no_name, function_spans}
use Rattle.cash_tree.specs.declared.Ty.{Ty}
use Rattle.cash_tree.specs.declared.Param.{Param}
use Rattle.cash_tree.specs.declared.Contract.{Contract}
use Rattle.cash_tree.specs.declared.Function.{Function}
use Rattle.source_meaning.specs.Meaning.{source_outcome}
use Rattle.source_meaning.specs.Runnable.{all_of}
use Rattle.slot_code.specs.declared.slots.SlotFunction.{SlotFunction}
use Rattle.slot_code.specs.Meaning.{slot_outcome}
use Rattle.slot_code.specs.Shape.{IsWellFormed, first_slots, most_slots}
use Rattle.slot_code.specs.Weight.{weight_of}
use Rattle.slot_code.specs.Spans.{slot_spans}
use Rattle.slot_lowering.specs.Scoped.{has_values, ends_rightly}
use Rattle.slot_lowering.specs.Room.{function_price}
use Rattle.slot_lowering.specs.Statements.{is_scoped}
use Rattle.slot_lowering.specs.Arranged.{ArrangedBody}

-- ---- the condition

-- parameters in the slots from this number on, in order
abbrev pub in_slots : ℕ → List (Param Slot) → Bool
in_slots n [] = true
in_slots n (p ∷ params) = p.name.0 == n && in_slots (n + 1) params

-- Behind so many parameters of the constructor: the names have slots of their own, of which at most 160 are in scope at once,
-- each name stands in scope where it is read, each value is ready and has at most 1,000 nodes, and each path ends with a check.
abbrev pub function_fits : ℕ → Function Slot Ty → Bool
function_fits ctors f =
    (in_slots ctors f.params && nat_le (ctors + length f.params) most_slots)
    && (all_of (map has_values f.body) && (is_scoped f.body (first_slots (ctors + length f.params)) && ends_rightly f.body))

abbrev pub contract_fits : Contract Slot Ty → Bool
contract_fits contract = in_slots 0 contract.params && list_all (function_fits (length contract.params)) contract.functions

pub record CanLower (contract : Contract Slot Ty) : Type 0 where
  pub is : contract_fits contract ≡ true

-- a function of it
pub record CanLowerFunction (contract : Contract Slot Ty) (f : Function Slot Ty) : Type 0 where
  pub params : in_slots 0 contract.params ≡ true
  pub is : function_fits (length contract.params) f ≡ true

-- ---- what is promised

-- the counts of the parameters, and the place
pub record HasCounts (contract : Contract Slot Ty) (f : Function Slot Ty) (g : SlotFunction) : Type 0 where
  pub ctors : g.ctors ≡ length contract.params
  pub params : g.params ≡ length f.params
  pub span : g.span ≡ f.span

-- It is met where the function is met, and else fails at the same place for the same cause, with any elements, one for each
-- parameter, in any world.
pub record RunsAs (contract : Contract Slot Ty) (f : Function Slot Ty) (g : SlotFunction) : Type 0 where
  pub runs : (ctor args : List (List ℕ)) (world : World) → length ctor ≡ length contract.params → length args ≡ length f.params
      → slot_outcome g ctor args world ≡ source_outcome contract ctor f args world

-- The weights of its instructions sum up to at most the price of the function.
pub record IsWeighed (contract : Contract Slot Ty) (f : Function Slot Ty) (g : SlotFunction) : Type 0 where
  pub bytes : (weight_of g).bytes ≤ (function_price contract f).bytes
  pub ops : (weight_of g).ops ≤ (function_price contract f).ops

-- Each span that stands in it is one of the function's: a test that holds of all of those holds of it.
pub record KeepsSpans (f : Function Slot Ty) (g : SlotFunction) : Type 0 where
  pub all : (test : Span → Bool) → list_all test (function_spans no_name f) ≡ true → list_all test (slot_spans g) ≡ true

-- Statement by statement, its rows stand as the function's statements do.
pub record Arranges (f : Function Slot Ty) (g : SlotFunction) : Type 0 where
  pub is : ArrangedBody true f.body g.body

pub record IsLowered (contract : Contract Slot Ty) (f : Function Slot Ty) (g : SlotFunction) : Type 0 where
  pub counts : HasCounts contract f g
  pub shape : IsWellFormed g
  pub run : RunsAs contract f g
  pub weight : IsWeighed contract f g
  pub spans : KeepsSpans f g
  pub arranged : Arranges f g

-- the functions in order
pub record AreLowered (contract : Contract Slot Ty) (functions : List (Function Slot Ty)) (lowered : List SlotFunction) : Type 0 where
  pub all : AllZip (IsLowered contract) functions lowered

-- what is left of a loop over functions, from here on, makes the whole
pub record LeftFunctions (contract : Contract Slot Ty) (now : List SlotFunction) (i : ℕ) : Type 0 where
  pub params : in_slots 0 contract.params ≡ true
  pub fits : list_all (function_fits (length contract.params)) (drop i contract.functions) ≡ true
  pub by : (rest : List SlotFunction) → AllZip (IsLowered contract) (drop i contract.functions) rest → AllZip (IsLowered contract) contract.functions (now ++ rest)
