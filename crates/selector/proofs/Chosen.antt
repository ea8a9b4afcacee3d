-- Which function the code runs that chooses.
use Rattle.std.proofs.Common.{◌≡◌, ℕ, zero, suc, ◌+◌, ◌≤◌, ◌<◌, ◌^◌, Bool, true, false, List, [], ◌∷◌, ◌++◌, length, Some, ℤ, pos, Result, Ok, Err, refl, sym, ap, ◌∙◌, subst, arith, append-nil, length-append}
use Rattle.std.specs.Ordering.{int_eq}
use Rattle.std.proofs.lemmas.Bool.Decides.{Decides-int_eq}
use Rattle.std.specs.List.{AllByRecursion}
use Rattle.std.proofs.lemmas.List.{append_assoc, length-map}
use Rattle.cash_base.specs.declared.place.Span.{Span}
use Rattle.cash_base.specs.Failing.{◌>>=◌}
use Rattle.cash_base.specs.Number.{number_of, minimal_bytes}
use Rattle.cash_base.specs.Operand.{truth_bytes}
use Rattle.script_codec.specs.declared.instr.Instr.{Instr}
use Rattle.script_codec.specs.declared.spans.Spanned.{Spanned}
use Rattle.script_codec.specs.declared.spans.Marked.{Marked}
use Rattle.opcode_table.specs.Stack.{Stack}
use Rattle.bch_vm.specs.Setting.{Setting}
use Rattle.bch_vm.specs.Board.{Board, board, is_live}
use Rattle.bch_vm.specs.Script.{State, state_of, Progress, beginning, run, Failure, Executed, executed_in}
use Rattle.run_laws.specs.Nested.{nesting, is_nested, progress_over}
use Rattle.run_laws.specs.Branches.{opener, ELSE, ENDIF, past, two_arms}
use Rattle.selector.specs.Pieces.{instructions, Piece, Own, Function, code_of}
use Rattle.selector.specs.Choice.{DROP, DUP, NUMEQUAL, NUMEQUALVERIFY, number, own, opening, closing, choice}
use Rattle.selector.specs.Selection.{AreNested, behind, Stands, StandsAt}
use Rattle.selector.specs.Place.{is_unseparated, all_executed_behind}
use Rattle.selector.proofs.Runs.{push_step, dup_step, drop_step, compare_step, take_step, then_executes, on, behind_behind, behind_over, over_over, over_nothing, pushes, copies, drops, compares, takes}
use Rattle.selector.proofs.Built.{code_append, split}
use Rattle.selector.proofs.Anywhere.{AreAlike, executed_all_behind, closes}
use Rattle.selector.proofs.Stands.{stands_behind, own_at, at_next}
use Rattle.selector.proofs.Executed.{held, AreAt, ends_at, first_ends, second_ends, first_executed, second_executed}
use Rattle.selector.proofs.ExecutedOwn.{AreOwnFrom, own_both, own_behind, own_in_front, own_at_either, own_at_each, Executes}
use Rattle.selector.proofs.Shapes.{Laws, instrs_of, instrs_append, instrs_function, last_shape, more_shape, dropping_nested, choice_nested}

-- ---- the end of a run, with further instructions that are passed

abbrev pub then_past : List Instr → Result State Failure → Result State Failure
then_past after r = r >>= λ t. Ok (past after t)

past_nothing : (r : Result State Failure) → r ≡ then_past [] r
past_nothing (Err failure) = refl
past_nothing (Ok t) = ap (λ p. Ok (record { board = t.board; progress = p })) (sym (over_nothing t.progress))

pub past_past : (first second : List Instr) (r : Result State Failure)
    → then_past second (then_past first r) ≡ then_past (first ++ second) r
past_past first second (Err failure) = refl
past_past first second (Ok t) = ap (λ p. Ok (record { board = t.board; progress = p })) (over_over first second t.progress)

-- ---- the executed instructions of a function

abbrev pub executed_entry : ℕ → ℕ → Executed
executed_entry at height = record { at = at; height = height }

-- those of its run alone
abbrev pub alone_in : Setting → List Instr → Board → Stack → List Executed
alone_in alone code b rest = executed_in alone code (Ok (state_of (board rest b.alternate [] b.separator) beginning))

function_executed : (alone setting : Setting) (code : List Instr) (b : Board) (rest : Stack) (q : Progress) (n : ℕ)
    → is_nested code ≡ true → is_live b.conditions ≡ true → AreAlike alone setting b.separator → is_unseparated code ≡ true → q.at ≡ n
    → executed_in setting code (Ok (on b rest q)) ≡ all_executed_behind n (alone_in alone code b rest)
function_executed alone setting code b rest q n nested live alike plain there =
    executed_all_behind alone setting n b.conditions code 0 (board rest b.alternate [] b.separator) beginning q live plain alike
    (closes (nesting code 0) nested) (omega (arith, there))

-- ---- the function of a number

-- where the selector is this number, the function at this place is run
pub record IsChosen (contract : Span) (pieces : List Piece) (at : ℕ) (x : ℤ) : Type 0 where
  pub place : Stands pieces at
  pub some : 1 ≤ length (instrs_of place.before)
  pub nested : is_nested (instructions place.function.code.items) ≡ true
  pub goes : (setting : Setting) (b : Board) (selector : List ℕ) (rest : Stack) (p : Progress)
      → is_live b.conditions ≡ true → number_of selector ≡ Some x
      → run setting (instrs_of pieces) (on b (selector ∷ rest) p)
      ≡ then_past (instrs_of place.after)
      (run setting (instructions place.function.code.items) (on b rest (behind (instrs_of place.before) p)))
  pub executes : (alone setting : Setting) (b : Board) (selector : List ℕ) (rest : Stack) (p : Progress)
      → is_live b.conditions ≡ true → number_of selector ≡ Some x → AreAlike alone setting b.separator
      → is_unseparated (instructions place.function.code.items) ≡ true
      → Executes contract (code_of pieces) p.at (length (instrs_of place.before)) (length rest)
      (alone_in alone (instructions place.function.code.items) b rest)
      (executed_in setting (instrs_of pieces) (Ok (on b (selector ∷ rest) p)))

itself : (x : ℤ) → int_eq x x ≡ true
itself x = (Decides-int_eq x x).1 refl

pub differs : (x y : ℤ) → (x ≡ y → ⊥) → int_eq x y ≡ false
differs x y apart = by_test (int_eq x y) refl
  where
    by_test : (t : Bool) → int_eq x y ≡ t → t ≡ false
    by_test true is = absurd (apart ((Decides-int_eq x y).0 is))
    by_test false is = refl

pub fits : (n : ℕ) → n ≤ 65535 → n < 2 ^ 63
fits n h = omega (arith, h)

-- the last function
last_chosen : (contract : Span) (n : ℕ) (function : Marked) → is_nested (instructions function.code.items) ≡ true → n ≤ 65535
    → IsChosen contract (choice contract n (function ∷ [])) 0 (pos n)
last_chosen contract n function nested low = record {
  place = record {
    before = Own (closing contract n) ∷ [];
    function = function;
    after = [];
    parts = refl;
    count = refl;
  };
  some = omega arith;
  nested = nested;
  goes = λ setting b selector rest p live is.
      let code = instructions function.code.items in
      ap (λ c. run setting c (on b (selector ∷ rest) p)) (last_shape contract n function)
      ∙ pushes setting (minimal_bytes (pos n)) (NUMEQUALVERIFY ∷ code) b (selector ∷ rest) p live
      ∙ takes setting n code b selector rest (behind (number n ∷ []) p) (pos n) live (fits n low) is (itself (pos n))
      ∙ ap (λ q. run setting code (on b rest q)) (behind_behind (number n ∷ []) (NUMEQUALVERIFY ∷ []) p (omega arith))
      ∙ past_nothing (run setting code (on b rest (behind (number n ∷ NUMEQUALVERIFY ∷ []) p)));
  executes = λ alone setting b selector rest p live is alike plain.
      let code = instructions function.code.items in
      let e = minimal_bytes (pos n) in
      let found = alone_in alone code b rest in
      record {
        front = executed_entry p.at (length (e ∷ selector ∷ rest)) ∷ [];
        last = executed_entry (p.at + 1) (length rest);
        after = [];
        are = ap (λ c. executed_in setting c (Ok (on b (selector ∷ rest) p))) (last_shape contract n function)
            ∙ then_executes setting (number n) (NUMEQUALVERIFY ∷ code) b (selector ∷ rest) (e ∷ selector ∷ rest) p live
            (push_step setting e b (selector ∷ rest) p live)
            ∙ ap (λ es. executed_entry p.at (length (e ∷ selector ∷ rest)) ∷ es)
            (then_executes setting NUMEQUALVERIFY code b (e ∷ selector ∷ rest) rest (behind (number n ∷ []) p) live
            (take_step setting n b selector rest (behind (number n ∷ []) p) (pos n) live (fits n low) is (itself (pos n)))
            ∙ ap (λ es. executed_entry (p.at + 1) (length rest) ∷ es)
            (function_executed alone setting code b rest (behind (NUMEQUALVERIFY ∷ []) (behind (number n ∷ []) p)) (p.at + 2) nested live
            alike plain (omega arith)
            ∙ sym (append-nil (all_executed_behind (p.at + 2) found))));
        at = omega arith;
        leaves = refl;
        own = (
          record { index = 0; at = omega arith; stands = own_at contract (number n) _ },
          (record { index = 1; at = refl; stands = at_next contract _ _ 0 (own_at contract NUMEQUALVERIFY _) }, tt),
        );
      };
}

-- the comparison with a number in front of others
pub compared : (setting : Setting) (n : ℕ) (code : List Instr) (b : Board) (selector : List ℕ) (rest : Stack) (p : Progress) (x : ℤ)
    → is_live b.conditions ≡ true → n ≤ 65535 → number_of selector ≡ Some x
    → run setting (DUP ∷ number n ∷ NUMEQUAL ∷ code) (on b (selector ∷ rest) p)
    ≡ run setting code (on b (truth_bytes (int_eq x (pos n)) ∷ selector ∷ rest) (behind (DUP ∷ number n ∷ NUMEQUAL ∷ []) p))
compared setting n code b selector rest p x live low is =
    copies setting (number n ∷ NUMEQUAL ∷ code) b selector rest p live
    ∙ pushes setting (minimal_bytes (pos n)) (NUMEQUAL ∷ code) b (selector ∷ selector ∷ rest) (behind (DUP ∷ []) p) live
    ∙ compares setting n code b selector (selector ∷ rest) (behind (number n ∷ []) (behind (DUP ∷ []) p)) x live (fits n low) is
    ∙ ap (λ q. run setting code (on b (truth_bytes (int_eq x (pos n)) ∷ selector ∷ rest) q))
    (ap (behind (NUMEQUAL ∷ [])) (behind_behind (DUP ∷ []) (number n ∷ []) p (omega arith))
    ∙ behind_behind (DUP ∷ number n ∷ []) (NUMEQUAL ∷ []) p (omega arith))

compared_executed : (setting : Setting) (n : ℕ) (code : List Instr) (b : Board) (selector : List ℕ) (rest : Stack) (p : Progress) (x : ℤ)
    → is_live b.conditions ≡ true → n ≤ 65535 → number_of selector ≡ Some x
    → executed_in setting (DUP ∷ number n ∷ NUMEQUAL ∷ code) (Ok (on b (selector ∷ rest) p))
    ≡ executed_entry p.at (length (selector ∷ selector ∷ rest)) ∷ executed_entry (p.at + 1) (length (selector ∷ selector ∷ selector ∷ rest))
    ∷ executed_entry (p.at + 1 + 1) (length (selector ∷ selector ∷ rest))
    ∷ executed_in setting code
    (Ok (on b (truth_bytes (int_eq x (pos n)) ∷ selector ∷ rest) (behind (DUP ∷ number n ∷ NUMEQUAL ∷ []) p)))
compared_executed setting n code b selector rest p x live low is =
    let e = minimal_bytes (pos n) in
    let p1 = behind (DUP ∷ []) p in
    let p2 = behind (number n ∷ []) p1 in
    let to : Stack = truth_bytes (int_eq x (pos n)) ∷ selector ∷ rest in
    then_executes setting DUP (number n ∷ NUMEQUAL ∷ code) b (selector ∷ rest) (selector ∷ selector ∷ rest) p live
    (dup_step setting b selector rest p live)
    ∙ ap (λ es. executed_entry p.at (length (selector ∷ selector ∷ rest)) ∷ es)
    (then_executes setting (number n) (NUMEQUAL ∷ code) b (selector ∷ selector ∷ rest) (e ∷ selector ∷ selector ∷ rest) p1 live
    (push_step setting e b (selector ∷ selector ∷ rest) p1 live)
    ∙ ap (λ es. executed_entry (p.at + 1) (length (selector ∷ selector ∷ selector ∷ rest)) ∷ es)
    (then_executes setting NUMEQUAL code b (e ∷ selector ∷ selector ∷ rest) to p2 live
    (compare_step setting n b selector (selector ∷ rest) p2 x live (fits n low) is)
    ∙ ap (λ q. executed_entry (p.at + 1 + 1) (length (selector ∷ selector ∷ rest)) ∷ executed_in setting code (Ok (on b to q)))
    (ap (behind (NUMEQUAL ∷ [])) (behind_behind (DUP ∷ []) (number n ∷ []) p (omega arith))
    ∙ behind_behind (DUP ∷ number n ∷ []) (NUMEQUAL ∷ []) p (omega arith))))

-- ELSE and ENDIF behind the first of several functions
endif_stands : (contract : Span) (inner : List Piece)
    → StandsAt contract (code_of (inner ++ Own (own contract ENDIF ∷ []) ∷ [])) (length (code_of inner) + 0)
endif_stands contract inner =
    let ends : List Piece = Own (own contract ENDIF ∷ []) ∷ [] in
    subst (λ rows. StandsAt contract rows (length (code_of inner) + 0)) (sym (code_append inner ends))
    (stands_behind contract (code_of inner) (code_of ends) 0 (own_at contract ENDIF []))

first_tail_own : (contract : Span) (n : ℕ) (function next : Marked) (functions : List Marked) (at : ℕ) (es : List Executed)
    → AreAt (at + 3 + 1 + length (DROP ∷ instructions function.code.items))
    (at + 3 + 1 + length (DROP ∷ instructions function.code.items) + 1
    + length (instrs_of (choice contract (n + 1) (next ∷ functions)))) es
    → AreOwnFrom contract (code_of (choice contract n (function ∷ next ∷ functions))) at es
first_tail_own contract n function next functions at es all =
    let rows = function.code.items in
    let inner = choice contract (n + 1) (next ∷ functions) in
    let ends : List Piece = Own (own contract ENDIF ∷ []) ∷ [] in
    let tail : List Spanned = own contract ELSE ∷ code_of (inner ++ ends) in
    let i = length (opening contract n) + (length rows + 0) in
    let j = length (opening contract n) + (length rows + suc (length (code_of inner) + 0)) in
    let mapped = length-map rows (λ row. row.instr) in
    let mapped_inner = length-map (code_of inner) (λ row. row.instr) in
    let at_else : at + 3 + 1 + length (DROP ∷ instructions rows) ≡ at + i = omega (arith, mapped) in
    let at_endif : at + 3 + 1 + length (DROP ∷ instructions rows) + 1 + length (instrs_of inner) ≡ at + j = omega (arith, mapped, mapped_inner) in
    own_at_either contract (code_of (choice contract n (function ∷ next ∷ functions))) at i j es
    (stands_behind contract (opening contract n) (rows ++ tail) (length rows + 0)
    (stands_behind contract rows tail 0 (own_at contract ELSE (code_of (inner ++ ends)))))
    (stands_behind contract (opening contract n) (rows ++ tail) (length rows + suc (length (code_of inner) + 0))
    (stands_behind contract rows tail (suc (length (code_of inner) + 0))
    (at_next contract (own contract ELSE) (code_of (inner ++ ends)) (length (code_of inner) + 0)
    (endif_stands contract inner))))
    (subst (λ m. AreAt (at + i) m es) at_endif
    (subst (λ m. AreAt m (at + 3 + 1 + length (DROP ∷ instructions rows) + 1 + length (instrs_of inner)) es) at_else all))

-- the first of several functions
first_chosen : Laws → (contract : Span) (n : ℕ) (function next : Marked) (functions : List Marked)
    → AreNested (function ∷ next ∷ functions) → n ≤ 65535
    → IsChosen contract (choice contract n (function ∷ next ∷ functions)) 0 (pos n)
first_chosen laws contract n function next functions nested low =
    let code = instructions function.code.items in
    let inner = choice contract (n + 1) (next ∷ functions) in
    let tail = inner ++ Own (own contract ENDIF ∷ []) ∷ [] in
    let glue = DUP ∷ number n ∷ NUMEQUAL ∷ [] in
    record {
      place = record {
        before = Own (opening contract n) ∷ [];
        function = function;
        after = Own (own contract ELSE ∷ []) ∷ tail;
        parts = refl;
        count = refl;
      };
      some = omega arith;
      nested = nested.0;
      goes = λ setting b selector rest p live is.
          let arms = two_arms true (DROP ∷ code) (instrs_of inner) in
          let p3 = behind glue p in
          let end = ELSE ∷ (instrs_of inner ++ (ENDIF ∷ [])) in
          ap (λ c. run setting c (on b (selector ∷ rest) p)) (more_shape contract n function next functions)
          ∙ compared setting n arms b selector rest p (pos n) live low is
          ∙ ap (λ t. run setting arms (on b (truth_bytes t ∷ selector ∷ rest) p3)) (itself (pos n))
          ∙ laws.first setting true (DROP ∷ code) (instrs_of inner) (dropping_nested laws code nested.0)
          (choice_nested laws contract (n + 1) (next ∷ functions) nested.1)
          (on b (truth_bytes true ∷ selector ∷ rest) p3) (truth_bytes true) (selector ∷ rest)
          (record { live = live; stack = refl }) refl
          ∙ ap (then_past end) (drops setting code b selector rest (progress_over (opener true ∷ []) p3) live
          ∙ ap (λ q. run setting code (on b rest q))
          (behind_over (opener true ∷ []) (DROP ∷ []) p3 (omega arith)
          ∙ behind_behind glue (opener true ∷ DROP ∷ []) p (omega arith)))
          ∙ ap (λ after. then_past (ELSE ∷ after) (run setting code (on b rest (behind (glue ++ (opener true ∷ DROP ∷ [])) p))))
          (sym (instrs_append inner (Own (own contract ENDIF ∷ []) ∷ [])));
      executes = λ alone setting b selector rest p live is alike plain.
          let arms = two_arms true (DROP ∷ code) (instrs_of inner) in
          let p3 = behind glue p in
          let p4 = progress_over (opener true ∷ []) p3 in
          let within = on (held true b) (selector ∷ rest) p4 in
          let r = run setting (DROP ∷ code) within in
          let tail_es = executed_in setting (ELSE ∷ (instrs_of inner ++ (ENDIF ∷ []))) r in
          let two = length (selector ∷ selector ∷ rest) in
          let front : List Executed = executed_entry p.at two ∷ executed_entry (p.at + 1) (length (selector ∷ selector ∷ selector ∷ rest))
          ∷ executed_entry (p.at + 1 + 1) two ∷ [] in
          let dropping = dropping_nested laws code nested.0 in
          let others = choice_nested laws contract (n + 1) (next ∷ functions) nested.1 in
          record {
            front = front ++ executed_entry p3.at (length (selector ∷ rest)) ∷ [];
            last = executed_entry p4.at (length rest);
            after = tail_es;
            are = ap (λ c. executed_in setting c (Ok (on b (selector ∷ rest) p))) (more_shape contract n function next functions)
                ∙ compared_executed setting n arms b selector rest p (pos n) live low is
                ∙ ap (λ es. front ++ es)
                (ap (λ t. executed_in setting arms (Ok (on b (truth_bytes t ∷ selector ∷ rest) p3))) (itself (pos n))
                ∙ first_executed laws setting (DROP ∷ code) (instrs_of inner) b (truth_bytes true) (selector ∷ rest) p3 live refl
                ∙ ap (λ es. executed_entry p3.at (length (selector ∷ rest)) ∷ (es ++ tail_es))
                (then_executes setting DROP code (held true b) (selector ∷ rest) rest p4 live (drop_step setting (held true b) selector rest p4 live)
                ∙ ap (λ es. executed_entry p4.at (length rest) ∷ es)
                (function_executed alone setting code (held true b) rest (behind (DROP ∷ []) p4) (p.at + 5) nested.0 live alike plain
                (omega arith))));
            at = omega arith;
            leaves = refl;
            own = (
              record { index = 0; at = omega arith; stands = own_at contract DUP _ },
              (
                record { index = 1; at = refl; stands = at_next contract _ _ 0 (own_at contract (number n) _) },
                (
                  record { index = 2; at = omega arith; stands = at_next contract _ _ 1 (at_next contract _ _ 0 (own_at contract NUMEQUAL _)) },
                  (
                    record {
                      index = 3;
                      at = refl;
                      stands = at_next contract _ _ 2 (at_next contract _ _ 1 (at_next contract _ _ 0 (own_at contract (opener true) _)));
                    },
                    (
                      record {
                        index = 4;
                        at = omega arith;
                        stands = at_next contract _ _ 3
                            (at_next contract _ _ 2 (at_next contract _ _ 1 (at_next contract _ _ 0 (own_at contract DROP _))));
                      },
                      first_tail_own contract n function next functions p.at tail_es
                          (first_ends laws setting (instrs_of inner) within r (p4.at + length (DROP ∷ code)) b.conditions others refl live
                          (laws.same setting (DROP ∷ code) within dropping) (ends_at setting (DROP ∷ code) within)),
                    ),
                  ),
                ),
              ),
            );
          };
    }

-- what is executed of the selector where one of the others is chosen
other_own : (contract : Span) (n : ℕ) (function next : Marked) (functions : List Marked) (at inside : ℕ)
    (front : List Executed) (last : Executed) (after tail : List Executed) (e0 e1 e2 e3 e4 : Executed)
    → e0.at ≡ at + 0 → e1.at ≡ at + 1 → e2.at ≡ at + 2 → e3.at ≡ at + 3
    → e4.at ≡ at + (length (opening contract n) + (length function.code.items + 0))
    → inside ≡ at + length (opening contract n ++ (function.code.items ++ own contract ELSE ∷ []))
    → AreOwnFrom contract (code_of (choice contract (n + 1) (next ∷ functions))) inside (front ++ last ∷ after)
    → AllByRecursion (λ e. e.at ≡ inside + length (instrs_of (choice contract (n + 1) (next ∷ functions)))) tail
    → AreOwnFrom contract (code_of (choice contract n (function ∷ next ∷ functions))) at
    (e0 ∷ e1 ∷ e2 ∷ e3 ∷ e4 ∷ (front ++ (last ∷ (after ++ tail))))
other_own contract n function next functions at inside front last after tail e0 e1 e2 e3 e4 a0 a1 a2 a3 a4 there all ends_all =
    let rows = function.code.items in
    let inner = choice contract (n + 1) (next ∷ functions) in
    let ends : List Piece = Own (own contract ENDIF ∷ []) ∷ [] in
    let front_rows : List Spanned = opening contract n ++ (rows ++ own contract ELSE ∷ []) in
    let mapped = length-map (code_of inner) (λ row. row.instr) in
    let in_inner : AreOwnFrom contract (code_of (inner ++ ends)) inside (front ++ last ∷ after) =
    subst (λ code. AreOwnFrom contract code inside (front ++ last ∷ after)) (sym (code_append inner ends))
    (own_in_front contract (code_of inner) (code_of ends) inside (front ++ last ∷ after) all) in
    let at_end : AllByRecursion (λ e. e.at ≡ inside + (length (code_of inner) + 0)) tail =
    subst (λ m. AllByRecursion (λ e. e.at ≡ m) tail) (omega (arith, mapped)) ends_all in
    let both : AreOwnFrom contract (code_of (inner ++ ends)) inside ((front ++ last ∷ after) ++ tail) =
    own_both contract (code_of (inner ++ ends)) inside (front ++ last ∷ after) tail in_inner
    (own_at_each contract (code_of (inner ++ ends)) inside (length (code_of inner) + 0) tail (endif_stands contract inner) at_end) in
    let whole : AreOwnFrom contract (front_rows ++ code_of (inner ++ ends)) at (front ++ (last ∷ (after ++ tail))) =
    subst (λ es. AreOwnFrom contract (front_rows ++ code_of (inner ++ ends)) at es) (append_assoc front (last ∷ after) tail)
    (own_behind contract front_rows (code_of (inner ++ ends)) at inside ((front ++ last ∷ after) ++ tail) there both) in (
      record { index = 0; at = a0; stands = own_at contract DUP _ },
      (
        record { index = 1; at = a1; stands = at_next contract _ _ 0 (own_at contract (number n) _) },
        (
          record { index = 2; at = a2; stands = at_next contract _ _ 1 (at_next contract _ _ 0 (own_at contract NUMEQUAL _)) },
          (
            record {
              index = 3;
              at = a3;
              stands = at_next contract _ _ 2 (at_next contract _ _ 1 (at_next contract _ _ 0 (own_at contract (opener true) _)));
            },
            (
              record {
                index = length (opening contract n) + (length rows + 0);
                at = a4;
                stands = stands_behind contract (opening contract n) (rows ++ (own contract ELSE ∷ code_of (inner ++ ends))) (length rows + 0)
                    (stands_behind contract rows (own contract ELSE ∷ code_of (inner ++ ends)) 0 (own_at contract ELSE (code_of (inner ++ ends))));
              },
              subst (λ code. AreOwnFrom contract code at (front ++ (last ∷ (after ++ tail)))) (sym (split contract n function next functions)) whole,
            ),
          ),
        ),
      ),
    )

-- one of the others
other_chosen : Laws → (contract : Span) (n : ℕ) (function next : Marked) (functions : List Marked) (k : ℕ) (x : ℤ)
    → AreNested (function ∷ next ∷ functions) → n ≤ 65535 → int_eq x (pos n) ≡ false
    → IsChosen contract (choice contract (n + 1) (next ∷ functions)) k x
    → IsChosen contract (choice contract n (function ∷ next ∷ functions)) (suc k) x
other_chosen laws contract n function next functions k x nested low apart h =
    let code = instructions function.code.items in
    let inner = choice contract (n + 1) (next ∷ functions) in
    let ends : List Piece = Own (own contract ENDIF ∷ []) ∷ [] in
    let starts : List Piece = Own (opening contract n) ∷ Function function ∷ Own (own contract ELSE ∷ []) ∷ [] in
    let glue = DUP ∷ number n ∷ NUMEQUAL ∷ [] in
    let skipped = opener true ∷ ((DROP ∷ code) ++ (ELSE ∷ [])) in
    let chosen = instructions h.place.function.code.items in
    let before_is : instrs_of (starts ++ h.place.before) ≡ glue ++ (skipped ++ instrs_of h.place.before) =
    instrs_append starts h.place.before
    ∙ ap (λ l. glue ++ (opener true ∷ DROP ∷ l) ++ instrs_of h.place.before) (instrs_function function (Own (own contract ELSE ∷ []) ∷ [])) in
    record {
      place = record {
        before = starts ++ h.place.before;
        function = h.place.function;
        after = h.place.after ++ ends;
        parts = ap (λ l. starts ++ (l ++ ends)) h.place.parts
            ∙ ap (λ l. starts ++ l) (append_assoc h.place.before (Function h.place.function ∷ h.place.after) ends);
        count = ap suc h.place.count;
      };
      some = omega arith;
      nested = h.nested;
      goes = λ setting b selector rest p live is.
          let arms = two_arms true (DROP ∷ code) (instrs_of inner) in
          let p3 = behind glue p in
          ap (λ c. run setting c (on b (selector ∷ rest) p)) (more_shape contract n function next functions)
          ∙ compared setting n arms b selector rest p x live low is
          ∙ ap (λ t. run setting arms (on b (truth_bytes t ∷ selector ∷ rest) p3)) apart
          ∙ laws.second setting true (DROP ∷ code) (instrs_of inner) (dropping_nested laws code nested.0)
          (choice_nested laws contract (n + 1) (next ∷ functions) nested.1)
          (on b (truth_bytes false ∷ selector ∷ rest) p3) (truth_bytes false) (selector ∷ rest)
          (record { live = live; stack = refl }) refl
          ∙ ap (then_past (ENDIF ∷ [])) (h.goes setting b selector rest (progress_over skipped p3) live is)
          ∙ past_past (instrs_of h.place.after) (ENDIF ∷ []) _
          ∙ ap (λ after. then_past after (run setting chosen (on b rest (behind (instrs_of h.place.before) (progress_over skipped p3)))))
          (sym (instrs_append h.place.after ends))
          ∙ ap (λ q. then_past (instrs_of (h.place.after ++ ends)) (run setting chosen (on b rest q)))
          (behind_over skipped (instrs_of h.place.before) p3 h.some
          ∙ behind_behind glue (skipped ++ instrs_of h.place.before) p (omega arith)
          ∙ ap (λ l. behind l p) (sym before_is));
      executes = λ alone setting b selector rest p live is alike plain.
          let arms = two_arms true (DROP ∷ code) (instrs_of inner) in
          let p3 = behind glue p in
          let p6 = progress_over skipped p3 in
          let within = on (held true b) (selector ∷ rest) p6 in
          let r = run setting (instrs_of inner) within in
          let ih = h.executes alone setting (held true b) selector rest p6 live is alike plain in
          let tail_es = executed_in setting (ENDIF ∷ []) r in
          let found = alone_in alone chosen b rest in
          let two = length (selector ∷ selector ∷ rest) in
          let high = length (selector ∷ rest) in
          let front : List Executed = executed_entry p.at two ∷ executed_entry (p.at + 1) (length (selector ∷ selector ∷ selector ∷ rest))
          ∷ executed_entry (p.at + 1 + 1) two ∷ [] in
          let arm : List Executed = executed_entry p3.at high ∷ executed_entry (p3.at + 1 + length (DROP ∷ code)) high ∷ [] in
          let dropping = dropping_nested laws code nested.0 in
          let others = choice_nested laws contract (n + 1) (next ∷ functions) nested.1 in
          let joined = ap length before_is in
          let counted = length-append skipped (instrs_of h.place.before) in
          let starts_at : p6.at + length (instrs_of h.place.before) ≡ p.at + length (instrs_of (starts ++ h.place.before)) =
          omega (arith, joined, counted) in
          let front_rows : List Spanned = opening contract n ++ (function.code.items ++ own contract ELSE ∷ []) in
          let front_counted = length-append code (ELSE ∷ []) in
          let rows_counted = length-append function.code.items (own contract ELSE ∷ []) in
          let mapped = length-map function.code.items (λ row. row.instr) in
          let inner_from : p6.at ≡ p.at + length front_rows = omega (arith, front_counted, rows_counted, mapped) in
          record {
            front = front ++ (arm ++ ih.front);
            last = ih.last;
            after = ih.after ++ tail_es;
            are = ap (λ c. executed_in setting c (Ok (on b (selector ∷ rest) p))) (more_shape contract n function next functions)
                ∙ compared_executed setting n arms b selector rest p x live low is
                ∙ ap (λ es. front ++ es)
                (ap (λ t. executed_in setting arms (Ok (on b (truth_bytes t ∷ selector ∷ rest) p3))) apart
                ∙ second_executed laws setting (DROP ∷ code) (instrs_of inner) b (truth_bytes false) (selector ∷ rest) p3 dropping live refl
                ∙ ap (λ es. arm ++ (es ++ tail_es)) ih.are
                ∙ ap (λ es. arm ++ es)
                (append_assoc ih.front (ih.last ∷ (all_executed_behind (p6.at + length (instrs_of h.place.before)) found ++ ih.after)) tail_es
                ∙ ap (λ es. ih.front ++ (ih.last ∷ es))
                (append_assoc (all_executed_behind (p6.at + length (instrs_of h.place.before)) found) ih.after tail_es)
                ∙ ap (λ m. ih.front ++ (ih.last ∷ (all_executed_behind m found ++ (ih.after ++ tail_es)))) starts_at));
            at = ih.at ∙ starts_at;
            leaves = ih.leaves;
            own = other_own contract n function next functions p.at p6.at ih.front ih.last ih.after tail_es
                (executed_entry p.at two) (executed_entry (p.at + 1) (length (selector ∷ selector ∷ selector ∷ rest)))
                (executed_entry (p.at + 1 + 1) two) (executed_entry p3.at high) (executed_entry (p3.at + 1 + length (DROP ∷ code)) high)
                (omega arith) refl (omega arith) refl (omega (arith, mapped)) inner_from ih.own
                (second_ends setting within r (p6.at + length (instrs_of inner)) true b.conditions refl live
                (laws.same setting (instrs_of inner) within others) (ends_at setting (instrs_of inner) within));
          };
    }

pub chosen : Laws → (contract : Span) (n : ℕ) (functions : List Marked) (k : ℕ) → AreNested functions
    → n + length functions ≤ 65535 → k < length functions → IsChosen contract (choice contract n functions) k (pos (n + k))
chosen laws contract n [] k nested low within = absurd (omega (arith, within))
chosen laws contract n (function ∷ []) zero nested low within =
    subst (λ m. IsChosen contract (choice contract n (function ∷ [])) 0 (pos m)) (omega arith) (last_chosen contract n function nested.0 (omega (arith, low)))
chosen laws contract n (function ∷ []) (suc k) nested low within = absurd (omega (arith, within))
chosen laws contract n (function ∷ next ∷ functions) zero nested low within =
    subst (λ m. IsChosen contract (choice contract n (function ∷ next ∷ functions)) 0 (pos m)) (omega arith)
    (first_chosen laws contract n function next functions nested (omega (arith, low)))
chosen laws contract n (function ∷ next ∷ functions) (suc k) nested low within =
    subst (λ m. IsChosen contract (choice contract n (function ∷ next ∷ functions)) (suc k) (pos m)) (omega arith)
    (other_chosen laws contract n function next functions k (pos (n + 1 + k)) nested (omega (arith, low))
    (differs (pos (n + 1 + k)) (pos n) (apart (n + 1 + k) n (omega arith)))
    (chosen laws contract (n + 1) (next ∷ functions) k nested.1 (omega (arith, low)) (omega (arith, within))))
  where
    apart : (m n : ℕ) → n < m → pos m ≡ pos n → ⊥
    apart m n less same = let e : m ≡ n = cc in absurd (omega (arith, e, less))
