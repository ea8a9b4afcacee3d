-- How many opcodes code counts, and where its checks of several signatures stand.
use Rattle.std.specs.Prelude.{◌≡◌, ℕ, ◌+◌, ◌≤◌, Bool, true, if◌then◌else◌, List, [], ◌∷◌}
use Rattle.script_codec.specs.declared.instr.Instr.{Instr}
use Rattle.script_codec.specs.declared.instr.Instr.TheVariants.{Push, Do}
use Rattle.script_codec.specs.Counting.{weight, key_count, number_pushed}
use Rattle.bch_vm.specs.Law.{asks_for_keys, are_keys_known}

abbrev pub weight_of : Instr → ℕ
weight_of (Push e) = 0
weight_of (Do opcode) = weight opcode.0

-- the number of keys that an instruction pushes
abbrev pub keys_by : Instr → ℕ
keys_by instr = key_count (number_pushed instr)

abbrev pub keys_asked : ℕ → Instr → ℕ
keys_asked keys instr = if asks_for_keys instr then keys else 0

-- the opcodes of code that counts, and the keys of each check of several signatures directly after their number, where a number
-- of keys stands before the code
abbrev pub opcodes_counted : ℕ → List Instr → ℕ
opcodes_counted keys [] = 0
opcodes_counted keys (instr ∷ code) = weight_of instr + keys_asked keys instr + opcodes_counted (keys_by instr) code

-- Each check of several signatures still stands directly after the number of its keys, and no more opcodes are counted.
pub record KeepsKeys (known : Bool) (keys : ℕ) (before after : List Instr) : Type 0 where
  pub checks : are_keys_known known after ≡ true
  pub counted : opcodes_counted keys after ≤ opcodes_counted keys before
