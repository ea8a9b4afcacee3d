-- The scripts of a spend of a contract's code.
use Rattle.std.specs.Prelude.{ℕ, nat_lt, if◌then◌else◌, List, [], ◌∷◌, ◌++◌, map, reverse, pos}
use Rattle.cash_base.specs.Number.{minimal_bytes}
use Rattle.script_codec.specs.declared.instr.Instr.{Instr}
use Rattle.script_codec.specs.Reading.{push}
use Rattle.script_codec.specs.Spelling.{spellings}
use Rattle.bch_vm.specs.Law.{unlocking_script}

-- the constructor's elements are pushed in front of the code, the last first
abbrev pub redeem_code : List Instr → List (List ℕ) → List Instr
redeem_code code ctor = map push (reverse ctor) ++ code

abbrev pub redeem_script : List Instr → List (List ℕ) → List ℕ
redeem_script code ctor = spellings (redeem_code code ctor)

-- What an unlocking script hands to the redeem script, the top first: the arguments of a function, the first on top, and
-- above them the function's number where the contract has several.
abbrev pub handed_in : ℕ → ℕ → List (List ℕ) → List (List ℕ)
handed_in functions chosen args = if nat_lt functions 2 then args else minimal_bytes (pos chosen) ∷ args

-- the minimal pushes of what is handed in, and then of the redeem script
abbrev pub spending_script : ℕ → ℕ → List (List ℕ) → List ℕ → List ℕ
spending_script functions chosen args redeem = unlocking_script (handed_in functions chosen args) redeem

-- the minimal pushes of these elements, in order, and then of the redeem script
abbrev pub pushing_script : List (List ℕ) → List ℕ → List ℕ
pushing_script elements redeem = spellings (map push elements ++ push redeem ∷ [])
