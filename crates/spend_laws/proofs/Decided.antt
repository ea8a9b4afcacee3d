-- The scripts of a redeem script are read as their code, and so its run decides.
use Rattle.std.proofs.Common.{◌≡◌, ℕ, ◌≤◌, List, [], ◌∷◌, ◌++◌, length, map, reverse, IsTrue, refl, sym, ap, ◌∙◌, subst, arith}
use Rattle.std.proofs.lemmas.List.{map-append, reverse-append, reverse-reverse}
use Rattle.std.specs.List.{AllByRecursion}
use mathlib.Core.List.{reverse_aux}
use Rattle.cash_base.specs.Element.{IsElement}
use Rattle.tx_context.specs.Transaction.{Transaction}
use Rattle.tx_context.specs.Table as verdict
use Rattle.script_codec.specs.declared.instr.Instr.{Instr}
use Rattle.script_codec.specs.Spelling.{spellings}
use Rattle.script_codec.specs.Reading.{reading, push}
use Rattle.opcode_table.specs.Stack.{Stack}
use Rattle.bch_vm.specs.Script.{run_end}
use Rattle.bch_vm.specs.Course.{outcome_of}
use Rattle.bch_vm.specs.Spend.{is_p2sh, after_redeem, spent_input, spend_outcome}
use Rattle.bch_vm.specs.Law.{IsRedeemed, world_of, decided_by, is_in_room}
use Rattle.spend_laws.proofs.Endings.{Stays, stays_before}
use Rattle.spend_laws.proofs.Spelled.{Laws, IsShort, code_read, code_fit, are_pushes, pushes_fit}
use Rattle.spend_laws.proofs.Locking.{locking_code, locking-spelled, locking_fit, length-locking, locking-p2sh}
use Rattle.spend_laws.proofs.Spends.{AreRead, Spent, scripts, unlocked_then, locked_then, unlocking_course, locking_course, redeem_course, begins, unlocked, unlocked_twice, redeemed_runs}

-- ---- short elements in the order of their pushes

are_short : (es : List (List ℕ)) → AllByRecursion IsElement es → AllByRecursion IsShort es
are_short [] are = tt
are_short (e ∷ es) are = (are.0.size, are_short es are.1)

short_onto : (es others : List (List ℕ)) → AllByRecursion IsShort es → AllByRecursion IsShort others
    → AllByRecursion IsShort (reverse_aux es others)
short_onto [] others are more = more
short_onto (e ∷ es) others are more = short_onto es (e ∷ others) are.1 (are.0, more)

short_before : (es : List (List ℕ)) (e : List ℕ) → AllByRecursion IsShort es → IsShort e
    → AllByRecursion IsShort (es ++ e ∷ [])
short_before [] e are last = (last, tt)
short_before (first ∷ es) e are last = (are.0, short_before es e are.1 last)

-- ---- the law

pub are_read : Laws → (elements : Stack) (code : List Instr) (context : Transaction (List ℕ))
    → IsRedeemed elements code context
    → AreRead elements code (spent_input context).unlocking (spent_input context).locking
are_read laws elements code context is =
    let redeem = spellings code in
    let all = reverse elements ++ redeem ∷ [] in
    let pushed : (spent_input context).unlocking ≡ spellings (map push all) = is.unlocking
    ∙ ap spellings (sym (map-append push (reverse elements) (redeem ∷ []))) in
    record {
      pushes = all;
      pushed = reverse-append (reverse elements) (redeem ∷ []) ∙ ap (λ es. redeem ∷ es) (reverse-reverse elements);
      unlocking_read = ap reading pushed ∙ code_read laws (map push all) (are_pushes all);
      unlocking_fit =
          pushes_fit laws all (short_before (reverse elements) redeem
          (short_onto elements [] (are_short elements is.are_elements) tt) is.redeem_size);
      unlocking_size = subst (λ script. length script ≤ 10000) (sym is.unlocking) is.unlocking_size;
      locking_read = ap reading (is.locking ∙ locking-spelled redeem) ∙ code_read laws (locking_code redeem) refl;
      locking_fit = locking_fit laws redeem;
      locking_size =
          let size : length (spent_input context).locking ≡ 23 = ap length is.locking
          ∙ length-locking redeem in omega (arith, size);
      locking_p2sh = ap is_p2sh is.locking ∙ locking-p2sh redeem;
      redeem_read = code_read laws code is.spelled;
      redeem_fit = code_fit laws code is.spelled is.redeem_size;
      redeem_size = let size = is.redeem_size in omega (arith, size);
    }

-- the spend of the active input
abbrev pub spent : Transaction (List ℕ) → List verdict.Row → Spent
spent context verdicts = record {
  context = context;
  verdicts = verdicts;
  unlocking = (spent_input context).unlocking;
  locking = (spent_input context).locking;
}

decides : (t : Spent) (elements : Stack) (code : List Instr)
    → AreRead elements code t.unlocking t.locking → IsTrue (is_in_room (outcome_of (scripts t)))
    → outcome_of (scripts t) ≡ decided_by (run_end (world_of code t.context t.verdicts) code elements)
decides t elements code read room =
    let redeem = spellings code in
    let first = ap outcome_of (begins t elements code read) in
    let stays : Stays (unlocking_course t read.pushes) = stays_before (unlocking_course t read.pushes)
    (unlocked_then t) (subst (λ o. IsTrue (is_in_room o)) first room) in
    let second = first ∙ unlocked t elements code read stays in
    let locked : Stays (locking_course t redeem elements) = stays_before (locking_course t redeem elements)
    (locked_then t) (subst (λ o. IsTrue (is_in_room o)) second room) in
    let third = second ∙ unlocked_twice t elements code read stays locked in
    let ran : Stays (redeem_course t code elements) = stays_before (redeem_course t code elements) after_redeem
    (subst (λ o. IsTrue (is_in_room o)) third room) in
    third ∙ redeemed_runs t elements code read.redeem_fit ran

pub code_decides : Laws
    → (elements : Stack) (code : List Instr) (context : Transaction (List ℕ)) (verdicts : List verdict.Row)
    → IsRedeemed elements code context → IsTrue (is_in_room (spend_outcome context verdicts))
    → spend_outcome context verdicts ≡ decided_by (run_end (world_of code context verdicts) code elements)
code_decides laws elements code context verdicts is room =
    decides (spent context verdicts) elements code (are_read laws elements code context is) room
