-- How the scripts of a spend of a compiled contract are built, or why they aren't.
use Rattle.std.specs.Prelude.{ℕ, ◌==◌, nat_le, if◌then◌else◌, List, length, Option, Some, None, slice_get, Result, Ok, Err}
use Rattle.cash_base.specs.Failing.{◌>>=◌}
use Rattle.unlocker.specs.declared.BuildFault.{BuildFault}
use Rattle.unlocker.specs.declared.BuildFault.TheVariants.{WrongCount, NoSuchFunction, RedeemTooLong, UnlockTooLong}
use Rattle.artifact_json.specs.Artifact.{Artifact, AbiCall}
use Rattle.unlocker.specs.Scripts.{redeem_script, spending_script, pushing_script}

-- a number, or the greatest of 32 bits where it is above that
abbrev pub capped : ℕ → ℕ
capped n = if nat_le n 4294967295 then n else 4294967295

-- as many elements as there are parameters, or the fault that tells both numbers
abbrev pub count_check : ℕ → ℕ → Result (Unit {0}) BuildFault
count_check wanted found = if wanted == found then Ok tt else Err (WrongCount (capped wanted) (capped found))

-- a script of at most 520 bytes, since it is pushed as one element
abbrev pub size_check : List ℕ → Result (List ℕ) BuildFault
size_check redeem = if nat_le (length redeem) 520 then Ok redeem else Err (RedeemTooLong (capped (length redeem)))

abbrev pub chosen_function : Option AbiCall → Result AbiCall BuildFault
chosen_function (Some function) = Ok function
chosen_function None = Err NoSuchFunction

-- the redeem script of a contract for its constructor's elements: their count comes before the size
abbrev pub built_redeem : Artifact → List (List ℕ) → Result (List ℕ) BuildFault
built_redeem program ctor = do
  counted ← count_check (length program.ctor) (length ctor)
  size_check (redeem_script program.code ctor)

-- the unlocking script that calls a function, by its index: that there is one comes before the count of the arguments
abbrev pub built_unlocking : Artifact → ℕ → List (List ℕ) → List ℕ → Result (List ℕ) BuildFault
built_unlocking program chosen args redeem = do
  function ← chosen_function (slice_get program.abi chosen)
  counted ← count_check (length function.inputs) (length args)
  Ok (spending_script (length program.abi) chosen args redeem)

-- a script has at most 10,000 bytes
abbrev pub script_check : List ℕ → Result (List ℕ) BuildFault
script_check script = if nat_le (length script) 10000 then Ok script else Err (UnlockTooLong (capped (length script)))

-- the unlocking script that pushes these elements in place of a call
abbrev pub built_pushes : List (List ℕ) → List ℕ → Result (List ℕ) BuildFault
built_pushes elements redeem = script_check (pushing_script elements redeem)
