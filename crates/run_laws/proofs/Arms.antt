-- Arms of conditions: the picked one is run, and nothing else.
use Rattle.std.proofs.Common.{◌≡◌, ℕ, ◌+◌, Bool, true, false, not, List, [], ◌∷◌, ◌++◌, length, Result, Ok, Err, refl, sym, ap, ◌∙◌, arith}
use Rattle.std.proofs.Math.Bool.{and-false}
use Rattle.std.proofs.lemmas.Grind.{flat_map-append}
use Rattle.std.proofs.lemmas.List.{length-append}
use Rattle.cash_base.specs.declared.fault.MachineCause.{MachineCause}
use Rattle.cash_base.specs.Failing.{◌>>=◌}
use Rattle.script_codec.specs.declared.instr.Instr.{Instr}
use Rattle.script_codec.specs.Spelling.{spelling, spellings}
use Rattle.opcode_table.specs.declared.rows.Row.TheVariants.{Opens, Flips, Closes}
use Rattle.opcode_table.specs.Stack.{Stack}
use Rattle.opcode_table.specs.Table.{rows, row_of}
use Rattle.bch_vm.specs.Setting.{Setting, Around, around}
use Rattle.bch_vm.specs.Board.{Board, board, is_live, test_taken, opened_where, opened, flipped, closed, row_after, board_after, is_effective}
use Rattle.bch_vm.specs.Script.{State, state_of, Progress, progress_after, passed, state_after, run, RunsInTurn, Failure}
use Rattle.run_laws.specs.Nested.{is_nested, progress_over}
use Rattle.run_laws.specs.Branches.{HasConditionsOf, opener, ELSE, ENDIF, IsAtTest, picks, past_test, past, under, arm_run, RunsTheFirst, RunsTheSecond, RunsTheOnly, RunsNone}
use Rattle.run_laws.proofs.Outer.{goes_under_any}
use Rattle.run_laws.proofs.Nesting.{progress_by, progress_next, changes_nothing, keeps_conditions}

-- runs compose, as the law of the machine's crate says
abbrev pub RunsCompose : Type 0
RunsCompose = (setting : Setting) (first second : List Instr) → RunsInTurn setting first second

-- where an arm begins that is taken: its condition is open and true, the test is gone, and these instructions were passed
abbrev inside_arm : List Instr → Stack → State → State
inside_arm passed rest s =
    state_of (board rest s.board.alternate (true ∷ s.board.conditions) s.board.separator) (progress_over passed s.progress)

-- these conditions are open, and these instructions were passed
abbrev closed_at : List Instr → List Bool → State → State
closed_at passed conditions t =
    state_of (board t.board.stack t.board.alternate conditions t.board.separator) (progress_over passed t.progress)

-- ---- the four rows

pub if_row : row_of 0x63 ≡ Opens true
unfolding rows
if_row = refl

pub notif_row : row_of 0x64 ≡ Opens false
unfolding rows
notif_row = refl

pub else_row : row_of 0x67 ≡ Flips
unfolding rows
else_row = refl

pub endif_row : row_of 0x68 ≡ Closes
unfolding rows
endif_row = refl

-- ---- progress

progress_none : (p : Progress) → progress_over [] p ≡ p
progress_none p = progress_by (omega arith) refl (omega arith)

progress_one : (instr : Instr) (conditions : List Bool) (p : Progress) → is_effective instr conditions ≡ false
    → progress_after instr conditions p ≡ progress_over (instr ∷ []) p
progress_one instr conditions p still =
    sym (progress_none (progress_after instr conditions p)) ∙ progress_next instr conditions [] p still

progress_join : (first second : List Instr) (p : Progress)
    → progress_over second (progress_over first p) ≡ progress_over (first ++ second) p
progress_join first second p =
    let instrs = length-append first second in
    let both = ap (λ l. length l) (flat_map-append spelling first second) in
    let bytes = length-append (spellings first) (spellings second) in
    progress_by (omega (arith, instrs)) refl (omega (arith, both, bytes))

-- an instruction that isn't effective, by what it does
step_by : (setting : Setting) (instr : Instr) (s : State) (next : Board) → is_effective instr s.board.conditions ≡ false
    → board_after (around setting (s.progress.place + length (spelling instr)) 20) instr s.board ≡ Ok next
    → state_after setting instr s ≡ Ok (state_of next (progress_over (instr ∷ []) s.progress))
step_by setting instr s next still is =
    ap (λ r. passed s.progress.at (progress_after instr s.board.conditions s.progress) r) is
    ∙ ap (λ p. Ok (state_of next p)) (progress_one instr s.board.conditions s.progress still)

-- ---- IF, NOTIF, ELSE and ENDIF

opener_effect : (sense : Bool) (conditions : List Bool) → is_effective (opener sense) conditions ≡ false
opener_effect true conditions = and-false (is_live conditions)
opener_effect false conditions = and-false (is_live conditions)

opener_opens : (a : Around) (sense : Bool) (b : Board) → board_after a (opener sense) b ≡ opened sense b
opener_opens a true b = ap (λ row. row_after a row b) if_row
opener_opens a false b = ap (λ row. row_after a row b) notif_row

opens_on : (sense : Bool) (b : Board) (test : List ℕ) (rest : Stack) → is_live b.conditions ≡ true → b.stack ≡ test ∷ rest
    → opened sense b ≡ Ok (board rest b.alternate (picks sense test ∷ b.conditions) b.separator)
opens_on sense b test rest live stands =
    ap (λ l. opened_where l sense b) live ∙ ap (λ stack. taken_from (test_taken sense stack)) stands
  where
    taken_from : Result (Bool × Stack) MachineCause → Result Board MachineCause
    taken_from r = ◌>>=◌ {A = Bool × Stack} r (λ taken. Ok (board taken.1 b.alternate (taken.0 ∷ b.conditions) b.separator))

opens_step : (setting : Setting) (sense : Bool) (s : State) (test : List ℕ) (rest : Stack) → IsAtTest s test rest
    → state_after setting (opener sense) s
    ≡ Ok (state_of (board rest s.board.alternate (picks sense test ∷ s.board.conditions) s.board.separator)
    (progress_over (opener sense ∷ []) s.progress))
opens_step setting sense s test rest h =
    step_by setting (opener sense) s _ (opener_effect sense s.board.conditions)
    (opener_opens (around setting (s.progress.place + length (spelling (opener sense))) 20) sense s.board
    ∙ opens_on sense s.board test rest h.live h.stack)

flips_step : (setting : Setting) (t : State) (c : Bool) (conditions : List Bool) → t.board.conditions ≡ c ∷ conditions
    → state_after setting ELSE t ≡ Ok (closed_at (ELSE ∷ []) (not c ∷ conditions) t)
flips_step setting t c conditions h =
    let a = around setting (t.progress.place + length (spelling ELSE)) 20 in
    step_by setting ELSE t (board t.board.stack t.board.alternate (not c ∷ conditions) t.board.separator)
    (and-false (is_live t.board.conditions))
    (ap (λ row. row_after a row t.board) else_row
    ∙ ap (λ cs. flipped cs >>= λ cs. Ok (board t.board.stack t.board.alternate cs t.board.separator)) h)

closes_step : (setting : Setting) (t : State) (c : Bool) (conditions : List Bool) → t.board.conditions ≡ c ∷ conditions
    → state_after setting ENDIF t ≡ Ok (closed_at (ENDIF ∷ []) conditions t)
closes_step setting t c conditions h =
    let a = around setting (t.progress.place + length (spelling ENDIF)) 20 in
    step_by setting ENDIF t (board t.board.stack t.board.alternate conditions t.board.separator)
    (and-false (is_live t.board.conditions))
    (ap (λ row. row_after a row t.board) endif_row
    ∙ ap (λ cs. closed cs >>= λ cs. Ok (board t.board.stack t.board.alternate cs t.board.separator)) h)

-- ---- after an arm

ends_with : (setting : Setting) (t : State) (c : Bool) (conditions : List Bool) → t.board.conditions ≡ c ∷ conditions
    → run setting (ENDIF ∷ []) t ≡ Ok (closed_at (ENDIF ∷ []) conditions t)
ends_with setting t c conditions h = ap (λ r. r >>= run setting []) (closes_step setting t c conditions h)

-- nested code that isn't executed, in front of other code
skips : RunsCompose → (setting : Setting) (code more : List Instr) (s : State) → is_nested code ≡ true
    → is_live s.board.conditions ≡ false
    → run setting (code ++ more) s ≡ run setting more (state_of s.board (progress_over code s.progress))
skips turn setting code more s nested dead =
    turn setting code more s ∙ ap (λ r. r >>= run setting more) (changes_nothing setting code nested s dead)

-- where the first arm was taken
passes_second : RunsCompose → (setting : Setting) (second : List Instr) (t : State) (conditions : List Bool)
    → is_nested second ≡ true
    → t.board.conditions ≡ true ∷ conditions
    → run setting (ELSE ∷ (second ++ (ENDIF ∷ []))) t ≡ Ok (closed_at (ELSE ∷ (second ++ (ENDIF ∷ []))) conditions t)
passes_second turn setting second t conditions nested h =
    let dead = closed_at (ELSE ∷ []) (false ∷ conditions) t in
    let over = state_of dead.board (progress_over second dead.progress) in
    ap (λ r. r >>= run setting (second ++ (ENDIF ∷ []))) (flips_step setting t true conditions h)
    ∙ skips turn setting second (ENDIF ∷ []) dead nested refl
    ∙ ends_with setting over false conditions refl
    ∙ ap (λ p. Ok (state_of (board t.board.stack t.board.alternate conditions t.board.separator) p))
    (progress_join second (ENDIF ∷ []) dead.progress ∙ progress_join (ELSE ∷ []) (second ++ (ENDIF ∷ [])) t.progress)

-- what follows an arm that was taken
after_arm : (setting : Setting) (s : State) (r : Result State Failure) (after : List Instr) (conditions : List Bool)
    → HasConditionsOf s r
    → ((t : State) → t.board.conditions ≡ s.board.conditions → run setting after t ≡ Ok (closed_at after conditions t))
    → (r >>= run setting after) ≡ (r >>= λ t. Ok (closed_at after conditions t))
after_arm setting s (Ok t) after conditions kept goes = goes t kept
after_arm setting s (Err failure) after conditions kept goes = refl

-- an arm goes as if it stood alone
as_alone : (setting : Setting) (before arm after : List Instr) (rest : Stack) (s : State) → is_nested arm ≡ true
    → is_live s.board.conditions ≡ true
    → (run setting arm (inside_arm before rest s) >>= λ t. Ok (closed_at after s.board.conditions t))
    ≡ arm_run setting before arm after rest s
as_alone setting before arm after rest s nested live =
    let alone = past_test before rest s in
    ap (λ r. r >>= λ t. Ok (closed_at after s.board.conditions t))
    (goes_under_any setting arm nested alone (true ∷ s.board.conditions) live live)
    ∙ by_end (run setting arm alone) (keeps_conditions setting arm alone nested)
  where
    by_end : (r : Result State Failure) → HasConditionsOf (past_test before rest s) r
        → ((r >>= λ t. Ok (under (true ∷ s.board.conditions) t)) >>= λ t. Ok (closed_at after s.board.conditions t))
        ≡ (r >>= λ t. Ok (past after t))
    by_end (Err failure) kept = refl
    by_end (Ok t) kept =
        ap (λ c. Ok (state_of (board t.board.stack t.board.alternate c t.board.separator) (progress_over after t.progress)))
        (sym kept)

-- ---- the laws

opened_then : (setting : Setting) (sense : Bool) (code : List Instr) (s : State) (test : List ℕ) (rest : Stack) (c : Bool)
    → IsAtTest s test rest → picks sense test ≡ c
    → run setting (opener sense ∷ code) s
    ≡ run setting code (state_of (board rest s.board.alternate (c ∷ s.board.conditions) s.board.separator)
    (progress_over (opener sense ∷ []) s.progress))
opened_then setting sense code s test rest c h picked =
    ap (λ r. r >>= run setting code) (opens_step setting sense s test rest h)
    ∙ ap (λ t. run setting code (state_of (board rest s.board.alternate (t ∷ s.board.conditions) s.board.separator)
    (progress_over (opener sense ∷ []) s.progress))) picked

pub runs_the_first : RunsCompose → (setting : Setting) (sense : Bool) (first second : List Instr) → is_nested first ≡ true
    → is_nested second ≡ true → RunsTheFirst setting sense first second
runs_the_first turn setting sense first second nested other s test rest h picked =
    let inside = inside_arm (opener sense ∷ []) rest s in
    let after = ELSE ∷ (second ++ (ENDIF ∷ [])) in
    opened_then setting sense (first ++ after) s test rest true h picked
    ∙ turn setting first after inside
    ∙ after_arm setting inside (run setting first inside) after s.board.conditions
    (keeps_conditions setting first inside nested)
    (λ t kept. passes_second turn setting second t s.board.conditions other kept)
    ∙ as_alone setting (opener sense ∷ []) first after rest s nested h.live

pub runs_the_only : RunsCompose → (setting : Setting) (sense : Bool) (arm : List Instr) → is_nested arm ≡ true
    → RunsTheOnly setting sense arm
runs_the_only turn setting sense arm nested s test rest h picked =
    let inside = inside_arm (opener sense ∷ []) rest s in
    opened_then setting sense (arm ++ (ENDIF ∷ [])) s test rest true h picked
    ∙ turn setting arm (ENDIF ∷ []) inside
    ∙ after_arm setting inside (run setting arm inside) (ENDIF ∷ []) s.board.conditions
    (keeps_conditions setting arm inside nested)
    (λ t kept. ends_with setting t true s.board.conditions kept)
    ∙ as_alone setting (opener sense ∷ []) arm (ENDIF ∷ []) rest s nested h.live

pub runs_the_second : RunsCompose → (setting : Setting) (sense : Bool) (first second : List Instr) → is_nested first ≡ true
    → is_nested second ≡ true → RunsTheSecond setting sense first second
runs_the_second turn setting sense first second nested other s test rest h picked =
    let dead = state_of (board rest s.board.alternate (false ∷ s.board.conditions) s.board.separator)
    (progress_over (opener sense ∷ []) s.progress) in
    let over = state_of dead.board (progress_over first dead.progress) in
    let inside = inside_arm (opener sense ∷ (first ++ (ELSE ∷ []))) rest s in
    opened_then setting sense (first ++ (ELSE ∷ (second ++ (ENDIF ∷ [])))) s test rest false h picked
    ∙ skips turn setting first (ELSE ∷ (second ++ (ENDIF ∷ []))) dead nested refl
    ∙ ap (λ r. r >>= run setting (second ++ (ENDIF ∷ []))) (flips_step setting over false s.board.conditions refl)
    ∙ ap (λ p. run setting (second ++ (ENDIF ∷ [])) (state_of inside.board p))
    (progress_join first (ELSE ∷ []) dead.progress
    ∙ progress_join (opener sense ∷ []) (first ++ (ELSE ∷ [])) s.progress)
    ∙ turn setting second (ENDIF ∷ []) inside
    ∙ after_arm setting inside (run setting second inside) (ENDIF ∷ []) s.board.conditions
    (keeps_conditions setting second inside other)
    (λ t kept. ends_with setting t true s.board.conditions kept)
    ∙ as_alone setting (opener sense ∷ (first ++ (ELSE ∷ []))) second (ENDIF ∷ []) rest s other h.live

pub runs_none : RunsCompose → (setting : Setting) (sense : Bool) (arm : List Instr) → is_nested arm ≡ true
    → RunsNone setting sense arm
runs_none turn setting sense arm nested s test rest h picked =
    let dead = state_of (board rest s.board.alternate (false ∷ s.board.conditions) s.board.separator)
    (progress_over (opener sense ∷ []) s.progress) in
    let over = state_of dead.board (progress_over arm dead.progress) in
    opened_then setting sense (arm ++ (ENDIF ∷ [])) s test rest false h picked
    ∙ skips turn setting arm (ENDIF ∷ []) dead nested refl
    ∙ ends_with setting over false s.board.conditions refl
    ∙ ap (λ p. Ok (state_of (board rest s.board.alternate s.board.conditions s.board.separator) p))
    (progress_join arm (ENDIF ∷ []) dead.progress
    ∙ progress_join (opener sense ∷ []) (arm ++ (ENDIF ∷ [])) s.progress)
