-- The run of a function at its place, and its run alone.
use Rattle.std.proofs.Common.{◌≡◌, inr, ℕ, true, List, [], ◌∷◌, ◌++◌, length, Result, Ok, Err, refl, sym, ap, ◌∙◌, subst, arith, append-nil}
use Rattle.std.specs.List.{AllByRecursion}
use Rattle.cash_base.specs.Failing.{◌>>=◌}
use Rattle.tx_context.specs.World.{World}
use Rattle.script_codec.specs.declared.instr.Instr.{Instr}
use Rattle.script_codec.specs.declared.spans.Marked.{Marked}
use Rattle.opcode_table.specs.Stack.{Stack}
use Rattle.bch_vm.specs.Setting.{setting_in}
use Rattle.bch_vm.specs.Board.{Board, board}
use Rattle.bch_vm.specs.Script.{State, state, Progress, beginning, run, balanced, run_end, Failure}
use Rattle.run_laws.specs.Nested.{nesting, is_nested}
use Rattle.run_laws.specs.Branches.{HasConditionsOf, past}
use Rattle.selector.specs.Pieces.{Piece, Own, Function, functions_of}
use Rattle.selector.specs.Place.{is_unseparated, EndsBehind}
use Rattle.selector.specs.Selection.{behind}
use Rattle.selector.proofs.Runs.{on}
use Rattle.selector.proofs.Shapes.{Laws}
use Rattle.selector.proofs.Chosen.{then_past}
use Rattle.selector.proofs.Anywhere.{inside, IsBehind, run_behind, closes}

-- what holds of all functions holds of each
pub of_each : (P : Marked → Type 0) (before : List Piece) (function : Marked) (after : List Piece)
    → AllByRecursion P (functions_of (before ++ (Function function ∷ after))) → P function
of_each P [] function after all = all.0
of_each P (Own rows ∷ before) function after all = of_each P before function after all
of_each P (Function first ∷ before) function after all = of_each P before function after all.1

-- ---- the end

abbrev pub start : Board
start = board [] [] [] 0

abbrev pub ended : Result State Failure → Result State Failure
ended r = r >>= λ s. balanced s.board.conditions s

inside_nothing : (b : Board) → inside [] b ≡ b
inside_nothing b = ap (λ c. board b.stack b.alternate c b.separator) (append-nil b.conditions)

ends_behind : (before : ℕ) (after : List Instr) (p q : Progress) (s : State) (r r′ : Result State Failure)
    → s.board.conditions ≡ [] → HasConditionsOf s r → IsBehind before [] p q r r′
    → EndsBehind before p q (ended r) (then_past after r′)
ends_behind before after p q s (Err failure) r′ none kept h = ap (then_past after) h
ends_behind before after p q s (Ok t) r′ none kept (u, is, last) =
    subst (λ r. EndsBehind before p q r (then_past after r′)) (sym (ap (λ c. balanced c t) (kept ∙ none)))
    (past after (record { board = inside [] t.board; progress = u }), ap (then_past after) is, inside_nothing t.board, last)

-- in every world, the run at its place ends as the run alone
pub alone : Laws → (world : World) (whole before code after : List Instr) (stack : Stack) → is_nested code ≡ true
    → is_unseparated code ≡ true
    → EndsBehind (length before) beginning (behind before beginning) (run_end world code stack)
    (then_past after (run (setting_in world whole) code (on start stack (behind before beginning))))
alone laws world whole before code after stack nested plain =
    let first = setting_in world code in
    ends_behind (length before) after beginning (behind before beginning) (state stack beginning)
    (run first code (state stack beginning)) (run (setting_in world whole) code (on start stack (behind before beginning))) refl
    (laws.same first code (state stack beginning) nested)
    (run_behind first (setting_in world whole) (length before) [] beginning (behind before beginning) code 0 (board stack [] [] 0)
    beginning (behind before beginning) refl plain (λ x y. refl) (closes (nesting code 0) nested) (omega arith) (inr (refl, refl)))
