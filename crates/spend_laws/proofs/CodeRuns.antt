-- Spelled code in a script goes as the run of its instructions, if it stops at no limit.
use Rattle.std.proofs.Common.{◌≡◌, ℕ, ◌-◌, inl, inr, Bool, true, false, nat_lt, List, [], ◌∷◌, Result, Ok, Err, refl, sym, subst}
use Rattle.std.specs.List.{AllByRecursion}
use Rattle.std.proofs.lemmas.Bool.{false≢true}
use Rattle.cash_base.specs.declared.fault.MachineCause.{MachineCause}
use Rattle.cash_base.specs.declared.fault.MachineCause.TheVariants.{OpLimit}
use Rattle.script_codec.specs.declared.instr.Instr.{Instr}
use Rattle.script_codec.specs.Spelling.{spelling}
use Rattle.script_codec.specs.Reading.{Piece, Whole, spelled}
use Rattle.bch_vm.specs.declared.outcome.Which.{Which}
use Rattle.bch_vm.specs.Setting.{Setting}
use Rattle.bch_vm.specs.Board.{Board, height, board_after}
use Rattle.bch_vm.specs.Script.{State, state_of, run, Counted, counted, Progress, progress_after, piece_after, balanced}
use Rattle.bch_vm.specs.Course.{Course, ◌>>=◌}
use Rattle.bch_vm.specs.Spend.{told, step_course, pieces_course}
use Rattle.spend_laws.proofs.Endings.{ends, Stays, ends-told}
use Rattle.spend_laws.proofs.Checked.{checked, count_with, count_after, does, raw-checked, closed, under, ran_from}
use Rattle.spend_laws.proofs.Limited.{IsLimited, instr_limited}
use Rattle.spend_laws.proofs.Spelled.{IsFit, pieces_of}

-- an instruction that passes its checks but for those of the limits, and the code after it
instr_runs : (setting : Setting) (which : Which) (piece : Piece) (instr : Instr) (code : List Instr) (s : Counted)
    (f : Counted → Course State) (over : Bool) (r : Result Board MachineCause) (count : ℕ)
    → piece_after setting piece s ≡ checked over r (progress_after instr s.state.board.conditions s.state.progress) count
    → IsLimited r (does setting instr s.state 20)
    → ((next : Counted) → Stays (f next) → ends (f next) ≡ told which (closed (run setting code next.state)))
    → Stays (step_course which piece s (piece_after setting piece s) >>= f)
    → ends (step_course which piece s (piece_after setting piece s) >>= f) ≡ told which (closed (run setting (instr ∷ code) s.state))
instr_runs setting which piece instr code s f over r count is limited goes =
    subst (λ r. Stays (step_course which piece s r >>= f) → ends (step_course which piece s r >>= f)
    ≡ told which (closed (run setting (instr ∷ code) s.state))) (sym is)
    (by_tests over r (does setting instr s.state 20) limited)
  where
    progress : Progress
    progress = progress_after instr s.state.board.conditions s.state.progress

    by_height : (b : Board) (high : Bool) → Stays (step_course which piece s (under high b progress count) >>= f)
        → ends (step_course which piece s (under high b progress count) >>= f)
        ≡ told which (closed (run setting code (state_of b progress)))
    by_height b true stays = absurd (false≢true stays)
    by_height b false stays = goes (counted (state_of b progress) count) stays

    by_result : (r : Result Board MachineCause)
        → Stays (step_course which piece s (checked false r progress count) >>= f)
        → ends (step_course which piece s (checked false r progress count) >>= f)
        ≡ told which (ran_from setting code s.state.progress.at progress r)
    by_result (Err cause) stays = refl
    by_result (Ok b) stays = by_height b (nat_lt 1000 (height b)) stays

    by_tests : (over : Bool) (r free : Result Board MachineCause) → IsLimited r free
        → Stays (step_course which piece s (checked over r progress count) >>= f)
        → ends (step_course which piece s (checked over r progress count) >>= f)
        ≡ told which (ran_from setting code s.state.progress.at progress free)
    by_tests true r free limited stays = absurd (false≢true stays)
    by_tests false r free (inl is) stays =
        absurd (false≢true (subst (λ (r : Result Board MachineCause). Stays (step_course which piece s (checked false r progress count) >>= f)) is stays))
    by_tests false r free (inr is) stays =
        subst (λ (r : Result Board MachineCause). Stays (step_course which piece s (checked false r progress count) >>= f)
        → ends (step_course which piece s (checked false r progress count) >>= f)
        ≡ told which (ran_from setting code s.state.progress.at progress free)) (sym is) (by_result free) stays

pub code_runs : (setting : Setting) (which : Which) (code : List Instr) (s : Counted) → AllByRecursion IsFit code
    → Stays (pieces_course setting which (pieces_of code) s)
    → ends (pieces_course setting which (pieces_of code) s) ≡ told which (closed (run setting code s.state))
code_runs setting which [] s fit stays = ends-told which (balanced s.state.board.conditions s.state)
code_runs setting which (instr ∷ code) s fit stays =
    let raw = spelled instr in
    let checks = raw-checked setting raw instr s fit.0.meant fit.0.minimal fit.0.short fit.0.sized in
    let left = 201 - count_with raw s in
    instr_runs setting which (Whole raw) instr code s (pieces_course setting which (pieces_of code))
    (nat_lt 201 (count_with raw s)) (does setting instr s.state left) (count_after raw instr s) checks
    (instr_limited setting _ left instr s.state.board)
    (λ next more. code_runs setting which code next fit.1 more) stays
