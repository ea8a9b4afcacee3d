-- The scripts of a spend that a spend file asks for, or the first fault of what it says.
use Rattle.std.specs.Prelude.{◌≡◌, ℕ, ◌==◌, if◌then◌else◌, List, [], ◌∷◌, length, Option, Some, None, ok_or, slice_get, Result, Ok, Err}
use Rattle.std.specs.List.{position_from}
use Rattle.std.specs.Str.{bytes_eq}
use Rattle.cash_base.specs.Failing.{◌>>=◌}
use Rattle.tx_context.specs.Transaction.{Transaction}
use Rattle.tx_context.specs.World.{World, filled_context}
use Rattle.bch_vm.specs.Law.{locking_script}
use Rattle.spend_json.specs.Given.{ValueParts, ChoiceParts, by_call, by_pushes, SpendParts}
use Rattle.artifact_json.specs.Artifact.{Artifact, AbiParam, AbiCall}
use Rattle.unlocker.specs.declared.BuildFault.{BuildFault}
use Rattle.unlocker.specs.declared.BuildFault.TheVariants.{NoSuchFunction, PushesGiven}
use Rattle.unlocker.specs.Scripts.{redeem_script, spending_script}
use Rattle.unlocker.specs.Building.{count_check, size_check, chosen_function, built_pushes}
use Rattle.unlocker.specs.Values.{element_for}

-- ---- elements

-- each value in order, by the type of its parameter
abbrev pub each_element : List AbiParam → List ValueParts → Result (List (List ℕ)) BuildFault
each_element [] values = Ok []
each_element (param ∷ params) [] = Ok []
each_element (param ∷ params) (value ∷ values) = do
  element ← element_for param.ty value
  elements ← each_element params values
  Ok (element ∷ elements)

-- the elements of some values, one for each parameter: their count comes before each of them
abbrev pub elements_for : List AbiParam → List ValueParts → Result (List (List ℕ)) BuildFault
elements_for params values = do
  counted ← count_check (length params) (length values)
  each_element params values

-- The function that is called, by its index from 0: the first of its name. Where none is named it is the only one.
abbrev pub place_of : List AbiCall → Option (List ℕ) → Option ℕ
place_of functions (Some name) = position_from (λ function. bytes_eq function.name name) 0 functions
place_of functions None = if length functions == 1 then Some 0 else None

-- ---- the redeem script

-- the elements of the constructor's parameters, and the redeem script that has them
pub record Opened : Type 0 where
  pub ctor : List (List ℕ)
  pub redeem : List ℕ

abbrev pub opened : List (List ℕ) → List ℕ → Opened
opened ctor redeem = record { ctor = ctor; redeem = redeem }

-- the constructor's count, each of its values, and then the size of the redeem script
abbrev pub opened_by : Artifact → List ValueParts → Result Opened BuildFault
opened_by program values = do
  ctor ← elements_for program.ctor values
  redeem ← size_check (redeem_script program.code ctor)
  Ok (opened ctor redeem)

-- ---- the call, or the pushes in its place

pub record Called : Type 0 where
  -- the function, by its index from 0
  pub chosen : ℕ
  pub args : List (List ℕ)

abbrev pub called : ℕ → List (List ℕ) → Called
called chosen args = record { chosen = chosen; args = args }

-- that there is such a function, the count of the arguments, and then each of them
abbrev pub called_by : Artifact → Option (List ℕ) → List ValueParts → Result Called BuildFault
called_by program name values = do
  chosen ← ok_or (place_of program.abi name) NoSuchFunction
  function ← chosen_function (slice_get program.abi chosen)
  args ← elements_for function.inputs values
  Ok (called chosen args)

abbrev pub unlocking_by : Artifact → ChoiceParts → List ℕ → Result (List ℕ) BuildFault
unlocking_by program (by_call name values) redeem = do
  call ← called_by program name values
  Ok (spending_script (length program.abi) call.chosen call.args redeem)
unlocking_by program (by_pushes elements) redeem = built_pushes elements redeem

-- ---- the spend

-- the redeem script and the unlocking script; the locking script is that of the redeem script
pub record Built : Type 0 where
  pub redeem : List ℕ
  pub unlocking : List ℕ

abbrev pub built : List ℕ → List ℕ → Built
built redeem unlocking = record { redeem = redeem; unlocking = unlocking }

-- the faults of the redeem script come before those of the unlocking script
abbrev pub built_spend : Artifact → SpendParts → Result Built BuildFault
built_spend program spend = do
  front ← opened_by program spend.ctor
  unlocking ← unlocking_by program spend.choice front.redeem
  Ok (built front.redeem unlocking)

-- the transaction that is spent, with the scripts
abbrev pub context_of : SpendParts → Built → Transaction (List ℕ)
context_of spend scripts = filled_context spend.frame (locking_script scripts.redeem) scripts.unlocking

-- all that the machine, and a run of the source, can ask about
abbrev pub world_of : SpendParts → Built → World
world_of spend scripts = record { context = context_of spend scripts; verdicts = spend.verdicts; redeem = scripts.redeem }

-- ---- what a call hands in

-- the elements of a call, with its scripts
pub record Handed : Type 0 where
  pub ctor : List (List ℕ)
  pub chosen : ℕ
  pub args : List (List ℕ)
  pub scripts : Built

abbrev pub handed : ℕ → Opened → Called → Handed
handed functions front call = record {
  ctor = front.ctor;
  chosen = call.chosen;
  args = call.args;
  scripts = built front.redeem (spending_script functions call.chosen call.args front.redeem);
}

-- where a call is wanted, that pushes are given comes before all other faults, which are those of the scripts
abbrev pub call_with : Artifact → List ValueParts → ChoiceParts → Result Handed BuildFault
call_with program ctor (by_call name values) = do
  front ← opened_by program ctor
  call ← called_by program name values
  Ok (handed (length program.abi) front call)
call_with program ctor (by_pushes elements) = Err PushesGiven

abbrev pub built_call : Artifact → SpendParts → Result Handed BuildFault
built_call program spend = call_with program spend.ctor spend.choice

-- It is a call of the program: of one of its functions, with an element for each parameter.
pub record IsCallOf (program : Artifact) (call : Handed) : Type 0 where
  pub ctor_count : length call.ctor ≡ length program.ctor
  pub function : AbiCall
  pub found : slice_get program.abi call.chosen ≡ Some function
  pub arg_count : length call.args ≡ length function.inputs
