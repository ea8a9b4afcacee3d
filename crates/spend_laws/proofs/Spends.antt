-- A spend of code as a redeem script comes to the run of the code.
use Rattle.std.proofs.Common.{◌≡◌, ℕ, ◌+◌, ◌≤◌, true, cond, List, [], ◌∷◌, length, map, reverse, Result, Ok, Err, refl, ap, ◌∙◌}
use Rattle.std.proofs.lemmas.Bool.{le-ltb}
use Rattle.std.specs.List.{AllByRecursion}
use mathlib.Core.List.{reverse_aux}
use Rattle.script_codec.specs.declared.instr.Instr.{Instr}
use Rattle.script_codec.specs.Spelling.{spellings}
use Rattle.script_codec.specs.Reading.{Piece, reading, spelled, push}
use Rattle.bch_vm.specs.declared.outcome.Which.{Which}
use Rattle.bch_vm.specs.declared.outcome.Which.TheVariants.{Unlocking, Locking, Redeem}
use Rattle.bch_vm.specs.declared.outcome.MachineOutcome.TheVariants.{Refused}
use Rattle.cash_base.specs.declared.fault.MachineCause.TheVariants.{NotPushOnly, ScriptSize}
use Rattle.tx_context.specs.Transaction.{Transaction}
use Rattle.tx_context.specs.Table as verdict
use Rattle.opcode_table.specs.Stack.{Stack}
use Rattle.bch_vm.specs.declared.outcome.MachineOutcome.{MachineOutcome}
use Rattle.bch_vm.specs.Setting.{Setting, setting_of}
use Rattle.bch_vm.specs.Script.{State, state, beginning, run, run_end, Progress, progress_after, counted, Failure}
use Rattle.bch_vm.specs.Course.{Course, Gives, Stops, ◌>>=◌, ◌>>◌, outcome_of}
use Rattle.bch_vm.specs.Spend.{told, pieces_course, script_course, push_check, given_stack, stack_left, is_p2sh, redeemed, clean, after_redeem, after_locking, after_unlocking, scripts_course}
use Rattle.bch_vm.specs.Law.{world_of, decided_by}
use Rattle.spend_laws.proofs.Endings.{ends, Stays, outcome-ends, given-ends}
use Rattle.spend_laws.proofs.Checked.{closed}
use Rattle.spend_laws.proofs.Spelled.{IsFit, pieces_of, push_opcode}
use Rattle.spend_laws.proofs.CodeRuns.{code_runs}
use Rattle.spend_laws.proofs.Locking.{locking_code, locking_run}

-- ---- pushes

-- pushes of elements leave them on the stack
pushes_run : (setting : Setting) (es : List (List ℕ)) (stack : Stack) (p : Progress)
    → (q : Progress) × (run setting (map push es) (state stack p) ≡ Ok (state (reverse_aux es stack) q))
pushes_run setting [] stack p = (p, refl)
pushes_run setting (e ∷ es) stack p = pushes_run setting es (e ∷ stack) (progress_after (push e) [] p)

-- and are pushes alone
pushes_pass : (es : List (List ℕ)) (at : ℕ) → AllByRecursion IsFit (map push es)
    → push_check at (pieces_of (map push es)) ≡ Gives tt
pushes_pass [] at fit = refl
pushes_pass (e ∷ es) at fit =
    ap (λ above. cond above (Stops (Refused Unlocking at NotPushOnly))
    (push_check (at + 1) (pieces_of (map push es)))) (push_opcode (spelled (push e)) e fit.0.meant)
    ∙ pushes_pass es (at + 1) fit.1

-- ---- scripts

-- the course of pieces on a stack
abbrev pub course_on : Setting → Which → List Piece → Stack → Course State
course_on setting which pieces stack = pieces_course setting which pieces (counted (state stack beginning) 0)

script_read : (context : Transaction (List ℕ)) (verdicts : List verdict.Row) (which : Which) (script : List ℕ) (pieces : List Piece) (stack : Stack)
    → length script ≤ 10000 → reading script ≡ pieces
    → script_course context verdicts which script stack ≡ course_on (setting_of context verdicts script) which pieces stack
script_read context verdicts which script pieces stack size reads =
    ap (λ long. (cond long (Stops (Refused which 0 ScriptSize)) (Gives tt)) >> course_on (setting_of context verdicts script) which
    (reading script) stack) (le-ltb 10000 (length script) size)
    ∙ ap (λ ps. course_on (setting_of context verdicts script) which ps stack) reads

-- how the three scripts of a spend are read
pub record AreRead (elements : Stack) (code : List Instr) (unlocking locking : List ℕ) : Type 0 where
  pub pushes : List (List ℕ)
  pub pushed : reverse pushes ≡ spellings code ∷ elements
  pub unlocking_read : reading unlocking ≡ pieces_of (map push pushes)
  pub unlocking_fit : AllByRecursion IsFit (map push pushes)
  pub unlocking_size : length unlocking ≤ 10000
  pub locking_read : reading locking ≡ pieces_of (locking_code (spellings code))
  pub locking_fit : AllByRecursion IsFit (locking_code (spellings code))
  pub locking_size : length locking ≤ 10000
  pub locking_p2sh : is_p2sh locking ≡ true
  pub redeem_read : reading (spellings code) ≡ pieces_of code
  pub redeem_fit : AllByRecursion IsFit code
  pub redeem_size : length (spellings code) ≤ 10000

-- ---- the three courses

-- a spend's transaction and verdicts, and its unlocking and its locking script
pub record Spent : Type 0 where
  pub context : Transaction (List ℕ)
  pub verdicts : List verdict.Row
  pub unlocking : List ℕ
  pub locking : List ℕ

abbrev pub setting_for : Spent → List ℕ → Setting
setting_for t script = setting_of t.context t.verdicts script

abbrev pub unlocking_course : Spent → List (List ℕ) → Course State
unlocking_course t pushes = course_on (setting_for t t.unlocking) Unlocking (pieces_of (map push pushes)) []

abbrev pub locking_course : Spent → List ℕ → Stack → Course State
locking_course t redeem elements = course_on (setting_for t t.locking) Locking (pieces_of (locking_code redeem)) (redeem ∷ elements)

abbrev pub redeem_course : Spent → List Instr → Stack → Course State
redeem_course t code elements = course_on (setting_for t (spellings code)) Redeem (pieces_of code) elements

abbrev pub scripts : Spent → Course MachineOutcome
scripts t = scripts_course t.context t.verdicts t.unlocking t.locking

abbrev pub unlocked_then : Spent → State → Course MachineOutcome
unlocked_then t = after_unlocking t.context t.verdicts t.unlocking t.locking

abbrev pub locked_then : Spent → State → Course MachineOutcome
locked_then t = after_locking t.context t.verdicts t.unlocking t.locking

-- the pushes alone are run first
pub begins : (t : Spent) (elements : Stack) (code : List Instr) (read : AreRead elements code t.unlocking t.locking)
    → scripts t ≡ (unlocking_course t read.pushes >>= unlocked_then t)
begins t elements code read =
    let first = script_course t.context t.verdicts Unlocking t.unlocking [] in
    ap (λ pieces. push_check 0 pieces >> (first >>= unlocked_then t)) read.unlocking_read
    ∙ ap (λ checked. checked >> (first >>= unlocked_then t)) (pushes_pass read.pushes 0 read.unlocking_fit)
    ∙ ap (λ course. course >>= unlocked_then t)
    (script_read t.context t.verdicts Unlocking t.unlocking (pieces_of (map push read.pushes)) [] read.unlocking_size read.unlocking_read)

-- they leave the redeem script on the elements
unlocking_ends : (t : Spent) (elements : Stack) (code : List Instr) (read : AreRead elements code t.unlocking t.locking)
    → Stays (unlocking_course t read.pushes)
    → (q : Progress) × (ends (unlocking_course t read.pushes) ≡ Gives (state (spellings code ∷ elements) q))
unlocking_ends t elements code read stays =
    let left = pushes_run (setting_for t t.unlocking) read.pushes [] beginning in (
      left.0,
      code_runs (setting_for t t.unlocking) Unlocking (map push read.pushes) (counted (state [] beginning) 0) read.unlocking_fit stays
          ∙ ap (λ r. told Unlocking (closed r)) left.1
          ∙ ap (λ (stack : Stack). Gives (state stack left.0)) read.pushed,
    )

left_is : (t : Spent) (elements : Stack) (code : List Instr) (read : AreRead elements code t.unlocking t.locking)
    → Stays (unlocking_course t read.pushes) → stack_left t.context t.verdicts t.unlocking ≡ spellings code ∷ elements
left_is t elements code read stays =
    ap given_stack (script_read t.context t.verdicts Unlocking t.unlocking (pieces_of (map push read.pushes)) [] read.unlocking_size read.unlocking_read)
    ∙ given-ends (unlocking_course t read.pushes)
    ∙ ap given_stack (unlocking_ends t elements code read stays).1

-- then comes the locking script
pub unlocked : (t : Spent) (elements : Stack) (code : List Instr) (read : AreRead elements code t.unlocking t.locking)
    → Stays (unlocking_course t read.pushes)
    → outcome_of (unlocking_course t read.pushes >>= unlocked_then t)
    ≡ outcome_of (locking_course t (spellings code) elements >>= locked_then t)
unlocked t elements code read stays =
    outcome-ends (unlocking_course t read.pushes) (unlocked_then t)
    ∙ ap (λ course. outcome_of (course >>= unlocked_then t)) (unlocking_ends t elements code read stays).1
    ∙ ap (λ course. outcome_of (course >>= locked_then t))
    (script_read t.context t.verdicts Locking t.locking (pieces_of (locking_code (spellings code)))
    (spellings code ∷ elements) read.locking_size read.locking_read)

-- which is met, so that the redeem script comes
pub unlocked_twice : (t : Spent) (elements : Stack) (code : List Instr) (read : AreRead elements code t.unlocking t.locking)
    → Stays (unlocking_course t read.pushes) → Stays (locking_course t (spellings code) elements)
    → outcome_of (locking_course t (spellings code) elements >>= locked_then t)
    ≡ outcome_of (redeem_course t code elements >>= after_redeem)
unlocked_twice t elements code read stays locked =
    let redeem = spellings code in
    outcome-ends (locking_course t redeem elements) (locked_then t)
    ∙ ap (λ course. outcome_of (course >>= locked_then t))
    (code_runs (setting_for t t.locking) Locking (locking_code redeem)
    (counted (state (redeem ∷ elements) beginning) 0) read.locking_fit locked)
    ∙ ap (λ r. outcome_of (told Locking (closed r) >>= locked_then t)) (locking_run (setting_for t t.locking) redeem elements)
    ∙ ap (λ is. outcome_of
    (cond is (redeemed t.context t.verdicts 2 (stack_left t.context t.verdicts t.unlocking)) (Stops (clean Locking 2 ((1 ∷ []) ∷ elements)))))
    read.locking_p2sh
    ∙ ap (λ stack. outcome_of (redeemed t.context t.verdicts 2 stack)) (left_is t elements code read stays)
    ∙ ap (λ course. outcome_of (course >>= after_redeem))
    (script_read t.context t.verdicts Redeem redeem (pieces_of code) elements read.redeem_size read.redeem_read)

-- ---- the redeem script

told-decided : (r : Result State Failure) → outcome_of (told Redeem r >>= after_redeem) ≡ decided_by r
told-decided (Ok end) = refl
told-decided (Err failure) = refl

-- whose run decides
pub redeemed_runs : (t : Spent) (elements : Stack) (code : List Instr) → AllByRecursion IsFit code
    → Stays (redeem_course t code elements)
    → outcome_of (redeem_course t code elements >>= after_redeem) ≡ decided_by (run_end (world_of code t.context t.verdicts) code elements)
redeemed_runs t elements code fit stays =
    outcome-ends (redeem_course t code elements) after_redeem
    ∙ ap (λ course. outcome_of (course >>= after_redeem))
    (code_runs (setting_for t (spellings code)) Redeem code (counted (state elements beginning) 0) fit stays)
    ∙ told-decided (run_end (world_of code t.context t.verdicts) code elements)
