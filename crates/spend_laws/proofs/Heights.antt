-- How high the stacks of a run get.
use Rattle.std.proofs.Common.{◌≡◌, ℕ, ◌+◌, ◌*◌, ◌≤◌, true, List, [], ◌∷◌, ◌++◌, length, Result, Ok, Err, refl, sym, ap, ◌∙◌, subst, arith}
use Rattle.cash_base.specs.declared.fault.MachineCause.{MachineCause}
use Rattle.cash_base.specs.Failing.{◌>>=◌}
use Rattle.tx_context.specs.World.{World}
use Rattle.script_codec.specs.declared.instr.Instr.{Instr}
use Rattle.script_codec.specs.Spelling.{are_instructions, spelling, spellings}
use Rattle.script_codec.specs.Reading.{reading}
use Rattle.script_codec.specs.Counting.{counted_in}
use Rattle.opcode_table.specs.Stack.{Stack}
use Rattle.bch_vm.specs.Setting.{Setting, setting_in, around}
use Rattle.bch_vm.specs.Board.{Board, height, board_after}
use Rattle.bch_vm.specs.Script.{State, state, state_of, beginning, Progress, progress_after, passed, run, Failure}
use Rattle.bch_vm.specs.Law.{StaysBelow}
use Rattle.spend_laws.proofs.Spelled.{Laws, IsFit, code_read, code_fit}
use Rattle.spend_laws.proofs.Modest.{IsModestOn, rise, instr_modest}
use Rattle.spend_laws.proofs.CodeStays.{rises, rises_counted, length_spelled}

abbrev state_or : State → Result State Failure → State
state_or s (Ok t) = t
state_or s (Err failure) = s

run_low : (setting : Setting) (code : List Instr) (s t : State) → run setting code s ≡ Ok t → height t.board ≤ height s.board + rises code
run_low setting [] s t is = let same = ap (λ (r : Result State Failure). height (state_or s r).board) is in omega (arith, same)
run_low setting (instr ∷ code) s t is =
    by_step (board_after (around setting place 20) instr s.board) (instr_modest setting place instr s.board)
    (λ b h. run_low setting code (state_of b progress) t h) is
  where
    place : ℕ
    place = s.progress.place + length (spelling instr)

    progress : Progress
    progress = progress_after instr s.board.conditions s.progress

    by_step : (r : Result Board MachineCause) → IsModestOn (rise instr) s.board r
        → ((b : Board) → run setting code (state_of b progress) ≡ Ok t → height t.board ≤ height b + rises code) → (passed s.progress.at progress r >>= run setting code) ≡ Ok t
        → height t.board ≤ height s.board + rises (instr ∷ code)
    by_step (Err cause) modest goes h = absurd cc
    by_step (Ok b) modest goes h = let more = goes b h in omega (arith, modest, more)

rises_apart : (first second : List Instr) → rises (first ++ second) ≡ rises first + rises second
rises_apart [] second = omega arith
rises_apart (instr ∷ first) second = let more = rises_apart first second in omega (arith, more)

pub stays_below : Laws → (world : World) (code : List Instr) (elements : Stack) → are_instructions code ≡ true → length (spellings code) ≤ 520
    → length elements ≤ 33 → counted_in (reading (spellings code)) ≤ 201 → StaysBelow 955 world code elements
stays_below laws world code elements are size few counts before after s is ran =
    let low = run_low (setting_in world code) before (state elements beginning) s ran in
    let apart = rises_apart before after in
    let whole = ap rises is in
    let adds = rises_counted code in
    let same = ap counted_in (code_read laws code are) in
    let long = length_spelled code (code_fit laws code are size) in
    omega (arith, low, apart, whole, adds, same, long, size, few, counts)
