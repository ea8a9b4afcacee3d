-- A spend of code as a redeem script, as BIP 16 has it, and the run of its instructions that decides it.
use Rattle.std.specs.Prelude.{◌≡◌, ℕ, ◌≤◌, nat_le, ℤ, pos, negsuc, IsTrue, Bool, true, false, not, ◌&&◌, ◌||◌, List, [], ◌∷◌, ◌++◌, length, map, reverse, Option, Some, None, Result, Ok, Err}
use Rattle.std.specs.List.{AllByRecursion}
use Rattle.cash_base.specs.declared.fault.MachineCause.{MachineCause}
use Rattle.cash_base.specs.declared.fault.MachineCause.TheVariants.{OpLimit, StackLimit}
use Rattle.cash_base.specs.Element.{IsElement}
use Rattle.cash_base.specs.Number.{truth_of, number_of}
use Rattle.ripemd160.specs.Ripemd160.{ripemd160}
use Rattle.sha2.specs.Sha256.{sha256}
use Rattle.tx_context.specs.Transaction.{Transaction}
use Rattle.tx_context.specs.Table as verdict
use Rattle.tx_context.specs.World.{World}
use Rattle.script_codec.specs.declared.instr.Instr.{Instr}
use Rattle.script_codec.specs.Spelling.{are_instructions, spellings}
use Rattle.script_codec.specs.Reading.{reading, push}
use Rattle.script_codec.specs.declared.instr.Instr.TheVariants.{Push, Do}
use Rattle.script_codec.specs.Counting.{number_pushed, takes_keys, counted_in}
use Rattle.bch_vm.specs.declared.outcome.Which.TheVariants.{Redeem}
use Rattle.bch_vm.specs.declared.outcome.MachineOutcome.{MachineOutcome}
use Rattle.bch_vm.specs.declared.outcome.MachineOutcome.TheVariants.{Accepted, Refused}
use Rattle.opcode_table.specs.Stack.{Stack}
use Rattle.bch_vm.specs.Setting.{setting_in}
use Rattle.bch_vm.specs.Board.{height}
use Rattle.bch_vm.specs.Script.{State, state, beginning, run, stack_at_end, Failure}
use Rattle.bch_vm.specs.Course.{outcome_of}
use Rattle.bch_vm.specs.Spend.{spent_input, after_redeem}

-- ---- the two scripts

-- The minimal pushes of the elements, the last of the list first, so that the first ends up on top, and then the
-- minimal push of the redeem script.
abbrev pub unlocking_script : Stack → List ℕ → List ℕ
unlocking_script elements redeem = spellings (map push (reverse elements) ++ push redeem ∷ [])

-- HASH160, a push of the 20 bytes of the redeem script's digest (RIPEMD-160 of SHA-256), and EQUAL
abbrev pub locking_script : List ℕ → List ℕ
locking_script redeem = 0xa9 ∷ 0x14 ∷ (ripemd160 (sha256 redeem) ++ 0x87 ∷ [])

-- The code is a redeem script that is spent on these elements: the spent input of the context has the two scripts. An
-- element and a redeem script have at most 520 bytes, and an unlocking script at most 10,000.
pub record IsRedeemed (elements : Stack) (code : List Instr) (context : Transaction (List ℕ)) : Type 0 where
  pub are_elements : AllByRecursion IsElement elements
  pub spelled : IsTrue (are_instructions code)
  pub redeem_size : length (spellings code) ≤ 520
  pub unlocking_size : length (unlocking_script elements (spellings code)) ≤ 10000
  pub unlocking : (spent_input context).unlocking ≡ unlocking_script elements (spellings code)
  pub locking : (spent_input context).locking ≡ locking_script (spellings code)

-- the world of the run of the code: the transaction, the verdicts, and the code's bytes as redeem script
abbrev pub world_of : List Instr → Transaction (List ℕ) → List verdict.Row → World
world_of code context verdicts = record { context = context; verdicts = verdicts; redeem = spellings code }

-- ---- code that keeps within the limits of the machine

-- the push of a number of keys, from 0 to 20
abbrev pub is_key_count : Option ℤ → Bool
is_key_count (Some (pos n)) = nat_le n 20
is_key_count (Some (negsuc n)) = false
is_key_count None = false

abbrev pub pushes_key_count : Instr → Bool
pushes_key_count instr = is_key_count (number_pushed instr)

-- CHECKMULTISIG or CHECKMULTISIGVERIFY
abbrev pub asks_for_keys : Instr → Bool
asks_for_keys (Push e) = false
asks_for_keys (Do opcode) = takes_keys opcode.0

-- Each check of several signatures stands directly after the push of its number of keys, where `before` tells whether such a
-- push stands before the code.
abbrev pub are_keys_known : Bool → List Instr → Bool
are_keys_known before [] = true
are_keys_known before (instr ∷ code) =
    (before || not (asks_for_keys instr)) && are_keys_known (pushes_key_count instr) code

-- At most 33 elements are handed in, and the code counts at most 201 opcodes, the keys of each check of several signatures
-- among them. With at most 520 bytes of code no run of it comes to a limit: each instruction adds at most one element, and each
-- counted opcode at most two more, so at most 955 stand.
pub record IsSmall (elements : Stack) (code : List Instr) : Type 0 where
  pub few : length elements ≤ 33
  pub opcodes : counted_in (reading (spellings code)) ≤ 201
  pub keys : IsTrue (are_keys_known false code)

-- ---- what decides

-- The end of the run decides as the end of a redeem script: it is accepted where one element is left, which is true,
-- and otherwise refused by what is left. A failure of the run is that of the redeem script, with its index and cause.
abbrev pub decided_by : Result State Failure → MachineOutcome
decided_by (Ok end) = outcome_of (after_redeem end)
decided_by (Err failure) = Refused Redeem failure.at failure.cause

-- the run ends with one element, which is true
abbrev pub EndsTrue : Result State Failure → Type 0
EndsTrue r = (e : List ℕ) × (stack_at_end r ≡ Ok (e ∷ [])) × (truth_of e ≡ true)

-- ---- limits of a spend that a run of instructions doesn't have

-- more than 201 opcodes in a script, or more than 1,000 elements on the stacks
abbrev pub is_limit : MachineCause → Bool
is_limit OpLimit = true
is_limit StackLimit = true
is_limit _ = false

-- the spend isn't refused for one of these
abbrev pub is_in_room : MachineOutcome → Bool
is_in_room Accepted = true
is_in_room (Refused script at cause) = not (is_limit cause)

-- ---- how high the stacks of a run get

-- in each state that the run of the code comes to, there are at most so many elements on both stacks
abbrev pub StaysBelow : ℕ → World → List Instr → Stack → Type 0
StaysBelow most world code elements =
    (before after : List Instr) (s : State) → before ++ after ≡ code
    → run (setting_in world code) before (state elements beginning) ≡ Ok s → height s.board ≤ most
