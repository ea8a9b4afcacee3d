-- Which instructions the arms of a choice execute.
use Rattle.std.proofs.Common.{◌≡◌, ◌⊎◌, inl, inr, ℕ, ◌+◌, Bool, true, false, cond, not, ◌&&◌, List, [], ◌∷◌, ◌++◌, length, Result, Ok, Err, refl, sym, ap, ◌∙◌, subst, arith}
use Rattle.std.specs.List.{AllByRecursion}
use Rattle.std.proofs.Math.Bool.{and-false}
use Rattle.cash_base.specs.declared.fault.MachineCause.{MachineCause}
use Rattle.cash_base.specs.Failing.{◌>>=◌}
use Rattle.cash_base.specs.Number.{truth_of}
use Rattle.script_codec.specs.declared.instr.Instr.{Instr}
use Rattle.script_codec.specs.Spelling.{spelling}
use Rattle.opcode_table.specs.declared.rows.Row.TheVariants.{Opens, Flips, Closes}
use Rattle.opcode_table.specs.Stack.{Stack}
use Rattle.opcode_table.specs.Table.{rows, row_of}
use Rattle.bch_vm.specs.Setting.{Setting, around}
use Rattle.bch_vm.specs.Board.{Board, board, is_live, opened_where, row_after, board_after, is_executed, is_effective, is_condition}
use Rattle.bch_vm.specs.Script.{State, state_of, Progress, progress_after, passed, state_after, run, Failure, Executed, executed_one, executed_in}
use Rattle.run_laws.specs.Nested.{is_nested, progress_over}
use Rattle.run_laws.specs.Branches.{HasConditionsOf, opcode, opener, ELSE, ENDIF, two_arms}
use Rattle.selector.proofs.Runs.{on, progress_by, over_over}
use Rattle.selector.proofs.Shapes.{Laws}

-- a board inside of one condition more
abbrev pub held : Bool → Board → Board
held c b = board b.stack b.alternate (c ∷ b.conditions) b.separator

-- ---- IF, ELSE and ENDIF

if_row : row_of 0x63 ≡ Opens true
unfolding rows
if_row = refl

else_row : row_of 0x67 ≡ Flips
unfolding rows
else_row = refl

endif_row : row_of 0x68 ≡ Closes
unfolding rows
endif_row = refl

condition_progress : (byte : ℕ) (conditions : List Bool) (p : Progress) → is_condition byte ≡ true
    → progress_after (opcode byte) conditions p ≡ progress_over (opcode byte ∷ []) p
condition_progress byte conditions p is =
    let still : is_effective (opcode byte) conditions ≡ false = ap (λ t. is_live conditions && not t) is ∙ and-false (is_live conditions) in
    progress_by (omega arith) (ap (λ t. cond t p.at p.last) still) (omega arith)

open_step : (setting : Setting) (b : Board) (test : List ℕ) (rest : Stack) (p : Progress) (c : Bool) → is_live b.conditions ≡ true
    → truth_of test ≡ c
    → state_after setting (opener true) (on b (test ∷ rest) p) ≡ Ok (on (held c b) rest (progress_over (opener true ∷ []) p))
open_step setting b test rest p c live truth =
    let a = around setting (p.place + length (spelling (opener true))) 20 in
    let here = board (test ∷ rest) b.alternate b.conditions b.separator in
    let q = progress_after (opener true) b.conditions p in
    ap (λ row. passed p.at q (row_after a row here)) if_row
    ∙ ap (λ l. passed p.at q (opened_where l true here)) live
    ∙ ap (λ t. Ok (on (held t b) rest q)) truth
    ∙ ap (λ q. Ok (on (held c b) rest q)) (condition_progress 0x63 b.conditions p refl)

else_step : (setting : Setting) (b : Board) (stack alternate : Stack) (c : Bool) (conditions : List Bool) (separator : ℕ) (p : Progress)
    → state_after setting ELSE (state_of (board stack alternate (c ∷ conditions) separator) p)
    ≡ Ok (state_of (board stack alternate (not c ∷ conditions) separator) (progress_over (ELSE ∷ []) p))
else_step setting b stack alternate c conditions separator p =
    let a = around setting (p.place + length (spelling ELSE)) 20 in
    let here = board stack alternate (c ∷ conditions) separator in
    ap (λ row. passed p.at (progress_after ELSE (c ∷ conditions) p) (row_after a row here)) else_row
    ∙ ap (λ q. Ok (state_of (board stack alternate (not c ∷ conditions) separator) q)) (condition_progress 0x67 (c ∷ conditions) p refl)

endif_step : (setting : Setting) (stack alternate : Stack) (c : Bool) (conditions : List Bool) (separator : ℕ) (p : Progress)
    → state_after setting ENDIF (state_of (board stack alternate (c ∷ conditions) separator) p)
    ≡ Ok (state_of (board stack alternate conditions separator) (progress_over (ENDIF ∷ []) p))
endif_step setting stack alternate c conditions separator p =
    let a = around setting (p.place + length (spelling ENDIF)) 20 in
    let here = board stack alternate (c ∷ conditions) separator in
    ap (λ row. passed p.at (progress_after ENDIF (c ∷ conditions) p) (row_after a row here)) endif_row
    ∙ ap (λ q. Ok (state_of (board stack alternate conditions separator) q)) (condition_progress 0x68 (c ∷ conditions) p refl)

-- ---- executed instructions, one after the other

one_executed : (setting : Setting) (instr : Instr) (code : List Instr) (s t : State) → is_executed instr s.board.conditions ≡ true
    → state_after setting instr s ≡ Ok t
    → executed_in setting (instr ∷ code) (Ok s)
    ≡ record { at = s.progress.at; height = length t.board.stack } ∷ executed_in setting code (Ok t)
one_executed setting instr code s t is goes =
    ap (λ b. executed_one b s.progress.at (state_after setting instr s) ++ executed_in setting code (state_after setting instr s)) is
    ∙ ap (λ r. executed_one true s.progress.at r ++ executed_in setting code r) goes

-- code that isn't executed, and then other code
skipped : Laws → (setting : Setting) (code more : List Instr) (s : State) → is_nested code ≡ true
    → is_live s.board.conditions ≡ false
    → executed_in setting (code ++ more) (Ok s) ≡ executed_in setting more (Ok (state_of s.board (progress_over code s.progress)))
skipped laws setting code more s nested dead =
    laws.turn setting code more s
    ∙ ap (λ es. es ++ executed_in setting more (run setting code s)) (laws.nothing setting code nested s dead)
    ∙ ap (λ r. executed_in setting more r) (laws.changes setting code nested s dead)

-- ---- where a run ends

abbrev pub EndsAt : ℕ → Result State Failure → Type 0
EndsAt n (Ok t) = t.progress.at ≡ n
EndsAt n (Err failure) = Unit {0}

pub ends_at : (setting : Setting) (code : List Instr) (s : State) → EndsAt (s.progress.at + length code) (run setting code s)
ends_at setting [] s = omega arith
ends_at setting (instr ∷ code) s =
    by_result (board_after (around setting (s.progress.place + length (spelling instr)) 20) instr s.board) (λ b. ends_at setting code (state_of b q))
  where
    q : Progress
    q = progress_after instr s.board.conditions s.progress

    by_result : (r : Result Board MachineCause)
        → ((b : Board) → EndsAt (q.at + length code) (run setting code (state_of b q)))
        → EndsAt (s.progress.at + length (instr ∷ code)) (passed s.progress.at q r >>= run setting code)
    by_result (Err cause) more = tt
    by_result (Ok b) more = subst (λ n. EndsAt n (run setting code (state_of b q))) (omega arith) (more b)

-- ---- behind an arm that was executed

-- each of them has one of these numbers
abbrev pub AreAt : ℕ → ℕ → List Executed → Type 0
AreAt i j es = AllByRecursion (λ e. (e.at ≡ i) ⊎ (e.at ≡ j)) es

abbrev pub opened_state : State → Bool → List Bool → State
opened_state t c conditions = state_of (board t.board.stack t.board.alternate (c ∷ conditions) t.board.separator) t.progress

known_state : (t : State) (c : Bool) (conditions : List Bool) → t.board.conditions ≡ c ∷ conditions → t ≡ opened_state t c conditions
known_state t c conditions same = ap (λ cs. state_of (board t.board.stack t.board.alternate cs t.board.separator) t.progress) same

behind_second : (setting : Setting) (t : State) (i : ℕ) (c : Bool) (conditions : List Bool) → is_live conditions ≡ true
    → AllByRecursion (λ e. e.at ≡ t.progress.at) (executed_in setting (ENDIF ∷ []) (Ok (opened_state t c conditions)))
behind_second setting t i c conditions live =
    subst (AllByRecursion (λ e. e.at ≡ t.progress.at))
    (sym (one_executed setting ENDIF [] (opened_state t c conditions) _ live
    (endif_step setting t.board.stack t.board.alternate c conditions t.board.separator t.progress)))
    (refl, tt)

pub second_ends : (setting : Setting) (s : State) (r : Result State Failure) (n : ℕ) (c : Bool) (conditions : List Bool)
    → s.board.conditions ≡ c ∷ conditions → is_live conditions ≡ true → HasConditionsOf s r → EndsAt n r
    → AllByRecursion (λ e. e.at ≡ n) (executed_in setting (ENDIF ∷ []) r)
second_ends setting s (Err failure) n c conditions same live kept ends = tt
second_ends setting s (Ok t) n c conditions same live kept ends =
    subst (λ m. AllByRecursion (λ e. e.at ≡ m) (executed_in setting (ENDIF ∷ []) (Ok t))) ends
    (subst (λ u. AllByRecursion (λ e. e.at ≡ t.progress.at) (executed_in setting (ENDIF ∷ []) (Ok u)))
    (sym (known_state t c conditions (kept ∙ same))) (behind_second setting t 0 c conditions live))

-- ELSE, the other arm that is passed over, and ENDIF
first_tail : Laws → (setting : Setting) (second : List Instr) (t : State) (conditions : List Bool) → is_nested second ≡ true
    → is_live conditions ≡ true
    → AreAt t.progress.at (t.progress.at + 1 + length second)
    (executed_in setting (ELSE ∷ (second ++ (ENDIF ∷ []))) (Ok (opened_state t true conditions)))
first_tail laws setting second t conditions nested live =
    let q = progress_over (ELSE ∷ []) t.progress in
    let dead = state_of (board t.board.stack t.board.alternate (false ∷ conditions) t.board.separator) q in
    let over = progress_over second q in
    let index : over.at ≡ t.progress.at + 1 + length second = omega arith in
    let whole = one_executed setting ELSE (second ++ (ENDIF ∷ [])) (opened_state t true conditions) dead live
    (else_step setting t.board t.board.stack t.board.alternate true conditions t.board.separator t.progress)
    ∙ ap (λ es. record { at = t.progress.at; height = length t.board.stack } ∷ es)
    (skipped laws setting second (ENDIF ∷ []) dead nested refl
    ∙ one_executed setting ENDIF [] (state_of dead.board over) _ live
    (endif_step setting t.board.stack t.board.alternate false conditions t.board.separator over)) in
    subst (AreAt t.progress.at (t.progress.at + 1 + length second)) (sym whole) (inl refl, (inr index, tt))

pub first_ends : Laws → (setting : Setting) (second : List Instr) (s : State) (r : Result State Failure) (n : ℕ)
    (conditions : List Bool) → is_nested second ≡ true → s.board.conditions ≡ true ∷ conditions → is_live conditions ≡ true
    → HasConditionsOf s r → EndsAt n r
    → AreAt n (n + 1 + length second) (executed_in setting (ELSE ∷ (second ++ (ENDIF ∷ []))) r)
first_ends laws setting second s (Err failure) n conditions nested same live kept ends = tt
first_ends laws setting second s (Ok t) n conditions nested same live kept ends =
    subst (λ m. AreAt m (m + 1 + length second) (executed_in setting (ELSE ∷ (second ++ (ENDIF ∷ []))) (Ok t))) ends
    (subst (λ u. AreAt t.progress.at (t.progress.at + 1 + length second) (executed_in setting (ELSE ∷ (second ++ (ENDIF ∷ []))) (Ok u)))
    (sym (known_state t true conditions (kept ∙ same))) (first_tail laws setting second t conditions nested live))

-- ---- both arms

pub first_executed : Laws → (setting : Setting) (first second : List Instr) (b : Board) (test : List ℕ) (rest : Stack) (p : Progress)
    → is_live b.conditions ≡ true → truth_of test ≡ true
    → executed_in setting (two_arms true first second) (Ok (on b (test ∷ rest) p))
    ≡ record { at = p.at; height = length rest }
    ∷ (executed_in setting first (Ok (on (held true b) rest (progress_over (opener true ∷ []) p)))
    ++ executed_in setting (ELSE ∷ (second ++ (ENDIF ∷ []))) (run setting first (on (held true b) rest (progress_over (opener true ∷ []) p))))
first_executed laws setting first second b test rest p live truth =
    let inside = on (held true b) rest (progress_over (opener true ∷ []) p) in
    one_executed setting (opener true) (first ++ (ELSE ∷ (second ++ (ENDIF ∷ [])))) (on b (test ∷ rest) p) inside live
    (open_step setting b test rest p true live truth)
    ∙ ap (λ es. record { at = p.at; height = length rest } ∷ es) (laws.turn setting first (ELSE ∷ (second ++ (ENDIF ∷ []))) inside)

pub second_executed : Laws → (setting : Setting) (first second : List Instr) (b : Board) (test : List ℕ) (rest : Stack) (p : Progress)
    → is_nested first ≡ true → is_live b.conditions ≡ true → truth_of test ≡ false
    → executed_in setting (two_arms true first second) (Ok (on b (test ∷ rest) p))
    ≡ record { at = p.at; height = length rest } ∷ record { at = p.at + 1 + length first; height = length rest }
    ∷ (executed_in setting second (Ok (on (held true b) rest (progress_over (opener true ∷ (first ++ (ELSE ∷ []))) p)))
    ++ executed_in setting (ENDIF ∷ []) (run setting second (on (held true b) rest (progress_over (opener true ∷ (first ++ (ELSE ∷ []))) p))))
second_executed laws setting first second b test rest p nested live truth =
    let p1 = progress_over (opener true ∷ []) p in
    let p2 = progress_over first p1 in
    let index : p2.at ≡ p.at + 1 + length first = omega arith in
    one_executed setting (opener true) (first ++ (ELSE ∷ (second ++ (ENDIF ∷ [])))) (on b (test ∷ rest) p) (on (held false b) rest p1) live
    (open_step setting b test rest p false live truth)
    ∙ ap (λ es. record { at = p.at; height = length rest } ∷ es)
    (skipped laws setting first (ELSE ∷ (second ++ (ENDIF ∷ []))) (on (held false b) rest p1) nested refl
    ∙ one_executed setting ELSE (second ++ (ENDIF ∷ [])) (on (held false b) rest p2) (on (held true b) rest (progress_over (ELSE ∷ []) p2)) live
    (else_step setting b rest b.alternate false b.conditions b.separator p2)
    ∙ ap (λ n. record { at = n; height = length rest }
    ∷ executed_in setting (second ++ (ENDIF ∷ [])) (Ok (on (held true b) rest (progress_over (ELSE ∷ []) p2)))) index
    ∙ ap (λ q. record { at = p.at + 1 + length first; height = length rest }
    ∷ executed_in setting (second ++ (ENDIF ∷ [])) (Ok (on (held true b) rest q)))
    (over_over first (ELSE ∷ []) p1 ∙ over_over (opener true ∷ []) (first ++ (ELSE ∷ [])) p)
    ∙ ap (λ es. record { at = p.at + 1 + length first; height = length rest } ∷ es)
    (laws.turn setting second (ENDIF ∷ []) (on (held true b) rest (progress_over (opener true ∷ (first ++ (ELSE ∷ []))) p))))
