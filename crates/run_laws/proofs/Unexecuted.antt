-- Nested code that isn't executed: none of its instructions counts as executed.
use Rattle.std.proofs.Common.{◌≡◌, ℕ, zero, suc, ◌+◌, Bool, true, false, cond, ◌||◌, eqb, List, [], ◌∷◌, ◌++◌, length, drop, Option, Some, None, Result, Ok, refl, ap, ◌∙◌, subst, arith}
use Rattle.std.specs.Prelude.{option_and_then}
use Rattle.std.proofs.lemmas.Bool.Decides.{nat_tests}
use Rattle.std.proofs.lemmas.Option.{none-some}
use Rattle.cash_base.specs.declared.fault.MachineCause.{MachineCause}
use Rattle.script_codec.specs.declared.instr.Instr.{Instr}
use Rattle.script_codec.specs.declared.instr.Instr.TheVariants.{Push, Do}
use Rattle.script_codec.specs.Spelling.{spelling}
use Rattle.opcode_table.specs.declared.rows.Row.{Row}
use Rattle.opcode_table.specs.declared.rows.Row.TheVariants.{Flips, Closes}
use Rattle.opcode_table.specs.Table.{row_of}
use Rattle.bch_vm.specs.Setting.{Setting, around}
use Rattle.bch_vm.specs.Board.{Board, board, is_live, outer, is_executed, board_after}
use Rattle.bch_vm.specs.Script.{state_of, Progress, progress_after, passed, executed_one, executed_in}
use Rattle.run_laws.specs.Nested.{open_after_row, open_after, nesting, is_nested}
use Rattle.run_laws.specs.Branches.{ExecutesNothing}
use Rattle.run_laws.proofs.Nesting.{closes, dead_inside, StillAt, instr_still}
use Rattle.run_laws.proofs.Arms.{else_row, endif_row}

outer_dead : (n : ℕ) (conditions : List Bool) → is_live (drop (suc n) conditions) ≡ false → is_live (outer conditions) ≡ false
outer_dead n [] dead = dead
outer_dead n (c ∷ conditions) dead = dead_inside n conditions dead

flips_inside : (n k : ℕ) (conditions : List Bool) → is_live (drop n conditions) ≡ false → open_after_row Flips n ≡ Some k
    → is_live (outer conditions) ≡ false
flips_inside zero k conditions dead h = absurd (none-some k h)
flips_inside (suc n) k conditions dead h = outer_dead n conditions dead

closes_inside : (n k : ℕ) (conditions : List Bool) → is_live (drop n conditions) ≡ false → open_after_row Closes n ≡ Some k
    → is_live (outer conditions) ≡ false
closes_inside zero k conditions dead h = absurd (none-some k h)
closes_inside (suc n) k conditions dead h = outer_dead n conditions dead

opcode_unexecuted : (opcode n k : ℕ) (conditions : List Bool) → is_live (drop n conditions) ≡ false
    → open_after_row (row_of opcode) n ≡ Some k
    → cond (eqb opcode 0x67 || eqb opcode 0x68) (is_live (outer conditions)) (is_live conditions) ≡ false
opcode_unexecuted opcode n k conditions dead h = by_tests (eqb opcode 0x67) (eqb opcode 0x68) refl refl
  where
    of_row : (other : ℕ) (row : Row) → opcode ≡ other → row_of other ≡ row → open_after_row row n ≡ Some k
    of_row other row same is =
        subst (λ r. open_after_row r n ≡ Some k) is (subst (λ o. open_after_row (row_of o) n ≡ Some k) same h)

    by_tests : (t u : Bool) → eqb opcode 0x67 ≡ t → eqb opcode 0x68 ≡ u
        → cond (t || u) (is_live (outer conditions)) (is_live conditions) ≡ false
    by_tests true u e f =
        let same : opcode ≡ 0x67 = grind (arith, nat_tests, e) in
        flips_inside n k conditions dead (of_row 0x67 Flips same else_row)
    by_tests false true e f =
        let same : opcode ≡ 0x68 = grind (arith, nat_tests, f) in
        closes_inside n k conditions dead (of_row 0x68 Closes same endif_row)
    by_tests false false e f = dead_inside n conditions dead

unexecuted : (instr : Instr) (n k : ℕ) (conditions : List Bool) → is_live (drop n conditions) ≡ false
    → open_after instr n ≡ Some k → is_executed instr conditions ≡ false
unexecuted (Push e) n k conditions dead h = dead_inside n conditions dead
unexecuted (Do opcode) n k conditions dead h = opcode_unexecuted opcode.0 n k conditions dead h

step_unexecuted : (setting : Setting) (code : List Instr) (at : ℕ) (q : Progress) (live : Bool) (b : Board) (n m : ℕ)
    (o : Option ℕ) (r : Result Board MachineCause) → is_live (drop n b.conditions) ≡ false → StillAt o n b r
    → ((k : ℕ) → o ≡ Some k → live ≡ false)
    → ((k : ℕ) (b : Board) → is_live (drop k b.conditions) ≡ false → nesting code k ≡ Some m
    → executed_in setting code (Ok (state_of b q)) ≡ [])
    → option_and_then (nesting code) o ≡ Some m
    → (executed_one live at (passed at q r) ++ executed_in setting code (passed at q r)) ≡ []
step_unexecuted setting code at q live b n m None r dead still not_live more h = absurd (none-some m h)
step_unexecuted setting code at q live b n m (Some k) r dead still not_live more h =
    let after = board b.stack b.alternate still.conditions b.separator in
    ap (λ l. executed_one l at (passed at q r) ++ executed_in setting code (passed at q r)) (not_live k refl)
    ∙ ap (λ x. executed_one false at (passed at q x) ++ executed_in setting code (passed at q x)) still.same
    ∙ more k after (ap is_live still.kept ∙ dead) h

run_unexecuted : (setting : Setting) (code : List Instr) (n m : ℕ) (b : Board) (p : Progress)
    → is_live (drop n b.conditions) ≡ false → nesting code n ≡ Some m → executed_in setting code (Ok (state_of b p)) ≡ []
run_unexecuted setting [] n m b p dead h = refl
run_unexecuted setting (instr ∷ code) n m b p dead h =
    let a = around setting (p.place + length (spelling instr)) 20 in
    let q = progress_after instr b.conditions p in
    step_unexecuted setting code p.at q (is_executed instr b.conditions) b n m (open_after instr n) (board_after a instr b) dead
    (instr_still a instr n b dead) (λ k is. unexecuted instr n k b.conditions dead is)
    (λ k after still g. run_unexecuted setting code k m after q still g) h

pub executes_nothing : (setting : Setting) (code : List Instr) → is_nested code ≡ true → ExecutesNothing setting code
executes_nothing setting code nested s dead =
    run_unexecuted setting code 0 0 s.board s.progress dead (closes code nested)
