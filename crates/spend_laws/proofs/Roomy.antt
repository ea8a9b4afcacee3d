-- A spend of code as a redeem script is in room, where the code and the elements are small.
use Rattle.std.proofs.Common.{ℕ, ◌+◌, ◌*◌, ◌≤◌, Bool, true, false, cond, List, [], ◌∷◌, length, map, IsTrue, refl, sym, ap, ◌∙◌, subst, arith}
use Rattle.std.proofs.lemmas.List.{length-map, length-reverse}
use Rattle.cash_base.specs.declared.fault.MachineCause.TheVariants.{EndFalse}
use Rattle.cash_base.specs.Number.{truth_of}
use Rattle.tx_context.specs.Transaction.{Transaction}
use Rattle.tx_context.specs.Table as verdict
use Rattle.script_codec.specs.declared.instr.Instr.{Instr}
use Rattle.script_codec.specs.Spelling.{spellings}
use Rattle.script_codec.specs.Reading.{push}
use Rattle.script_codec.specs.Counting.{counted_in}
use Rattle.bch_vm.specs.declared.outcome.Which.TheVariants.{Unlocking, Locking, Redeem}
use Rattle.bch_vm.specs.declared.outcome.MachineOutcome.TheVariants.{Refused}
use Rattle.opcode_table.specs.Stack.{Stack}
use Rattle.bch_vm.specs.Script.{State, state, state_of, beginning, counted}
use Rattle.bch_vm.specs.Board.{board}
use Rattle.bch_vm.specs.Course.{Course, Gives, Stops, ◌>>◌, outcome_of}
use Rattle.bch_vm.specs.Spend.{after_redeem, clean, spend_outcome}
use Rattle.bch_vm.specs.Law.{IsRedeemed, IsSmall, is_in_room}
use Rattle.spend_laws.proofs.Endings.{Stays, stays_on}
use Rattle.spend_laws.proofs.Spelled.{Laws}
use Rattle.spend_laws.proofs.Locking.{locking_code}
use Rattle.spend_laws.proofs.Accepted.{tested}
use Rattle.spend_laws.proofs.Spends.{AreRead, Spent, setting_for, scripts, unlocking_course, locking_course, redeem_course, begins, unlocked, unlocked_twice}
use Rattle.spend_laws.proofs.Decided.{spent, are_read}
use Rattle.spend_laws.proofs.CodeStays.{code_stays, none_known, known_without, counted_few, pushes_keyless, no_keys_for, at_first, rises_low, rises_counted, length_spelled}

-- ---- the end of a redeem script is no limit

clean-in_room : (last : ℕ) (stack : Stack) → IsTrue (is_in_room (clean Redeem last stack))
clean-in_room last [] = refl
clean-in_room last (e ∷ []) = refl
clean-in_room last (e ∷ a ∷ rest) = refl

end-in_room : (end : State) → IsTrue (is_in_room (outcome_of (after_redeem end)))
end-in_room end = by_stack end.board.stack
  where
    by_truth : (stack : Stack) (truth : Bool)
        → IsTrue (is_in_room
        (outcome_of (tested truth end.progress.last >> Stops (clean Redeem end.progress.last stack))))
    by_truth stack true = clean-in_room end.progress.last stack
    by_truth stack false = refl

    by_stack : (stack : Stack)
        → IsTrue (is_in_room
        (outcome_of (after_redeem
        (state_of (board stack end.board.alternate end.board.conditions end.board.separator) end.progress))))
    by_stack [] = refl
    by_stack (e ∷ rest) = by_truth (e ∷ rest) (truth_of e)

-- ---- the three courses stop at no limit

-- at most 33 elements were handed in
unlocking_stays : (t : Spent) (elements : Stack) (code : List Instr) (read : AreRead elements code t.unlocking t.locking)
    → length elements ≤ 33 → Stays (unlocking_course t read.pushes)
unlocking_stays t elements code read few =
    let pushes = map push read.pushes in
    let many = ap (λ (l : Stack). length l) read.pushed in
    let turned = length-reverse read.pushes in
    let mapped = length-map read.pushes push in
    let adds = rises_low pushes in
    let counts = counted_few pushes read.unlocking_fit (pushes_keyless read.pushes) in
    let none = no_keys_for 0 pushes read.unlocking_fit (pushes_keyless read.pushes) in
    code_stays (setting_for t t.unlocking) Unlocking false 0 pushes (counted (state [] beginning) 0) read.unlocking_fit
    (known_without false pushes (pushes_keyless read.pushes)) (none_known 0 (board [] [] [] 0))
    (omega (arith, many, turned, mapped, few, adds)) (omega (arith, many, turned, mapped, few, counts, none))

locking_stays : (t : Spent) (elements : Stack) (code : List Instr) (read : AreRead elements code t.unlocking t.locking)
    → length elements ≤ 33 → Stays (locking_course t (spellings code) elements)
locking_stays t elements code read few =
    let locks = locking_code (spellings code) in
    let adds = rises_low locks in
    let counts = counted_few locks read.locking_fit refl in
    let none = no_keys_for 0 locks read.locking_fit refl in
    code_stays (setting_for t t.locking) Locking false 0 locks (counted (state (spellings code ∷ elements) beginning) 0) read.locking_fit
    (known_without false locks refl) (none_known 0 (board (spellings code ∷ elements) [] [] 0)) (omega (arith, few, adds)) (omega (arith, counts, none))

redeem_stays : (t : Spent) (elements : Stack) (code : List Instr) (read : AreRead elements code t.unlocking t.locking)
    → length (spellings code) ≤ 520 → IsSmall elements code → Stays (redeem_course t code elements)
redeem_stays t elements code read size small =
    let same = ap counted_in read.redeem_read in
    let few = small.few in
    let counts = small.opcodes in
    let adds = rises_counted code in
    let long = length_spelled code read.redeem_fit in
    let none = at_first code in
    code_stays (setting_for t (spellings code)) Redeem false 0 code (counted (state elements beginning) 0) read.redeem_fit
    small.keys (none_known 0 (board elements [] [] 0)) (omega (arith, few, adds, same, counts, long, size)) (omega (arith, same, counts, none))

-- ---- the laws

in_room : (t : Spent) (elements : Stack) (code : List Instr)
    → AreRead elements code t.unlocking t.locking → length (spellings code) ≤ 520 → IsSmall elements code
    → IsTrue (is_in_room (outcome_of (scripts t)))
in_room t elements code read size small =
    let first = ap outcome_of (begins t elements code read) in
    let stays = unlocking_stays t elements code read small.few in
    let locked = locking_stays t elements code read small.few in
    let third = first ∙ unlocked t elements code read stays ∙ unlocked_twice t elements code read stays locked in
    subst (λ o. IsTrue (is_in_room o)) (sym third)
    (stays_on (redeem_course t code elements) after_redeem (redeem_stays t elements code read size small) end-in_room)

pub code_in_room : Laws
    → (elements : Stack) (code : List Instr) (context : Transaction (List ℕ)) (verdicts : List verdict.Row)
    → IsRedeemed elements code context → IsSmall elements code → IsTrue (is_in_room (spend_outcome context verdicts))
code_in_room laws elements code context verdicts is small =
    in_room (spent context verdicts) elements code (are_read laws elements code context is) is.redeem_size small
