-- Runs compose.
use Rattle.std.proofs.Common.{◌≡◌, List, [], ◌∷◌, ◌++◌, Result, Ok, Err, refl, sym, ap, ◌∙◌, append_assoc}
use Rattle.cash_base.specs.Failing.{◌>>=◌}
use Rattle.script_codec.specs.declared.instr.Instr.{Instr}
use Rattle.bch_vm.specs.Setting.{Setting}
use Rattle.bch_vm.specs.Board.{is_executed}
use Rattle.bch_vm.specs.Script.{State, Failure, run, state_after, executed_one, executed_in, RunsInTurn, ExecutesInTurn}

then_in_turn : {A B C E : Type 0} (r : Result A E) (f : A → Result B E) (g : B → Result C E) (h : A → Result C E) → ((a : A) → h a ≡ (f a >>= g)) → (r >>= h) ≡ ((r >>= f) >>= g)
then_in_turn (Ok a) f g h e = e a
then_in_turn (Err failure) f g h e = refl

pub run_append : (setting : Setting) (first second : List Instr) → RunsInTurn setting first second
run_append setting [] second s = refl
run_append setting (instr ∷ first) second s =
    then_in_turn (state_after setting instr s) (run setting first) (run setting second) (run setting (first ++ second)) (run_append setting first second)

-- from where a run has come to
executed_from : (setting : Setting) (first second : List Instr) → ExecutesInTurn setting first second → (r : Result State Failure)
    → executed_in setting (first ++ second) r ≡ executed_in setting first r ++ executed_in setting second (r >>= run setting first)
executed_from setting first second goes (Ok s) = goes s
executed_from setting first second goes (Err failure) = none_left setting (first ++ second) first second failure
  where
    none_at : (setting : Setting) (code : List Instr) (failure : Failure) → executed_in setting code (Err failure) ≡ []
    none_at setting [] failure = refl
    none_at setting (instr ∷ code) failure = refl

    none_left : (setting : Setting) (whole first second : List Instr) (failure : Failure)
        → executed_in setting whole (Err failure) ≡ executed_in setting first (Err failure) ++ executed_in setting second (Err failure)
    none_left setting whole first second failure =
        none_at setting whole failure ∙ sym (none_at setting second failure)
        ∙ ap (λ l. l ++ executed_in setting second (Err failure)) (sym (none_at setting first failure))

pub executed_append : (setting : Setting) (first second : List Instr) → ExecutesInTurn setting first second
executed_append setting [] second s = refl
executed_append setting (instr ∷ first) second s =
    let one = executed_one (is_executed instr s.board.conditions) s.progress.at (state_after setting instr s) in
    ap (λ l. one ++ l) (executed_from setting first second (executed_append setting first second) (state_after setting instr s))
    ∙ sym (append_assoc one (executed_in setting first (state_after setting instr s)) (executed_in setting second (state_after setting instr s >>= run setting first)))
