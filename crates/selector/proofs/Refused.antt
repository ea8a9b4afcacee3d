-- Where no function is run.
use Rattle.std.proofs.Common.{◌≡◌, ℕ, suc, ◌+◌, ◌≤◌, ◌<◌, true, false, List, [], ◌∷◌, ◌++◌, length, Some, None, ℤ, pos, Result, Err, refl, sym, ap, ◌∙◌, subst, arith, length-append}
use Rattle.std.specs.Ordering.{int_eq}
use Rattle.std.proofs.lemmas.List.{length-map}
use Rattle.cash_base.specs.declared.fault.Cause.TheVariants.{NotANumber, CheckFailed}
use Rattle.cash_base.specs.declared.fault.MachineCause.{MachineCause}
use Rattle.cash_base.specs.declared.fault.MachineCause.TheVariants.{Shared}
use Rattle.cash_base.specs.declared.place.Span.{Span}
use Rattle.cash_base.specs.Number.{number_of, minimal_bytes}
use Rattle.cash_base.specs.Operand.{truth_bytes}
use Rattle.script_codec.specs.declared.instr.Instr.{Instr}
use Rattle.script_codec.specs.declared.spans.Spanned.{Spanned}
use Rattle.script_codec.specs.declared.spans.Marked.{Marked}
use Rattle.opcode_table.specs.Stack.{Stack}
use Rattle.bch_vm.specs.Setting.{Setting}
use Rattle.bch_vm.specs.Board.{Board, is_live}
use Rattle.bch_vm.specs.Script.{State, Progress, run, Failure}
use Rattle.run_laws.specs.Nested.{progress_over}
use Rattle.run_laws.specs.Branches.{opener, ELSE, ENDIF, two_arms}
use Rattle.selector.specs.Pieces.{instructions, Piece, Own, code_of}
use Rattle.selector.specs.Choice.{DROP, DUP, NUMEQUAL, NUMEQUALVERIFY, number, own, opening, choice}
use Rattle.selector.specs.Selection.{AreNested, behind, StandsAt}
use Rattle.selector.proofs.Runs.{on, pushes, copies, compares_none, takes_not, takes_none}
use Rattle.selector.proofs.Shapes.{Laws, instrs_of, last_shape, more_shape, dropping_nested, choice_nested}
use Rattle.selector.proofs.Built.{code_append, split}
use Rattle.selector.proofs.Stands.{stands_behind, stands_in_front, own_at, at_next}
use Rattle.selector.proofs.Chosen.{then_past, differs, fits, compared}

-- ---- failures

-- the run fails so many instructions behind its start, at the contract's place
pub record FailsFrom (contract : Span) (rows : List Spanned) (from : ℕ) (cause : MachineCause) (r : Result State Failure) : Type 0 where
  pub at : ℕ
  pub fails : r ≡ Err (record { at = from + at; cause = cause })
  pub stands : StandsAt contract rows at

-- whatever the selector is of which this holds, the code fails for this cause
abbrev pub Refuses : Span → List Piece → (List ℕ → Type 0) → MachineCause → Type 0
Refuses contract pieces P cause =
    (setting : Setting) (b : Board) (selector : List ℕ) (rest : Stack) (p : Progress) → is_live b.conditions ≡ true → P selector
    → FailsFrom contract (code_of pieces) p.at cause (run setting (instrs_of pieces) (on b (selector ∷ rest) p))

-- ---- no number

abbrev pub IsNoNumber : List ℕ → Type 0
IsNoNumber selector = number_of selector ≡ None

fails_at : {r : Result State Failure} (at at′ : ℕ) (cause : MachineCause) → at ≡ at′
    → r ≡ Err (record { at = at; cause = cause }) → r ≡ Err (record { at = at′; cause = cause })
fails_at {r} at at′ cause same fails = fails ∙ ap (λ n. Err (record { at = n; cause = cause })) same

pub no_number : (contract : Span) (n : ℕ) (functions : List Marked) → 1 ≤ length functions → n ≤ 65535
    → Refuses contract (choice contract n functions) IsNoNumber (Shared NotANumber)
no_number contract n [] some low = absurd (omega (arith, some))
no_number contract n (function ∷ []) some low = λ setting b selector rest p live is.
    let code = instructions function.code.items in
    record {
      at = 1;
      fails = fails_at _ _ (Shared NotANumber) (omega arith)
          (ap (λ c. run setting c (on b (selector ∷ rest) p)) (last_shape contract n function)
          ∙ pushes setting (minimal_bytes (pos n)) (NUMEQUALVERIFY ∷ code) b (selector ∷ rest) p live
          ∙ takes_none setting n code b selector rest (behind (number n ∷ []) p) live (fits n low) is);
      stands = at_next contract _ _ 0 (own_at contract NUMEQUALVERIFY _);
    }
no_number contract n (function ∷ next ∷ functions) some low = λ setting b selector rest p live is.
    let arms = two_arms true (DROP ∷ instructions function.code.items) (instrs_of (choice contract (n + 1) (next ∷ functions))) in
    record {
      at = 2;
      fails = fails_at _ _ (Shared NotANumber) (omega arith)
          (ap (λ c. run setting c (on b (selector ∷ rest) p)) (more_shape contract n function next functions)
          ∙ copies setting (number n ∷ NUMEQUAL ∷ arms) b selector rest p live
          ∙ pushes setting (minimal_bytes (pos n)) (NUMEQUAL ∷ arms) b (selector ∷ selector ∷ rest) (behind (DUP ∷ []) p) live
          ∙ compares_none setting n arms b selector (selector ∷ rest) (behind (number n ∷ []) (behind (DUP ∷ []) p)) live (fits n low) is);
      stands = at_next contract _ _ 1 (at_next contract _ _ 0 (own_at contract NUMEQUAL _));
    }

-- ---- a number of no function

abbrev pub IsOfNone : ℕ → ℕ → List ℕ → Type 0
IsOfNone n count selector = (x : ℤ) × (number_of selector ≡ Some x) × ((k : ℕ) → k < count → x ≡ pos (n + k) → ⊥)

of_no_other : (n count : ℕ) (selector : List ℕ) → IsOfNone n (suc count) selector → IsOfNone (n + 1) count selector
of_no_other n count selector (x, is, none) = (x, is, λ k within same. none (suc k) (omega (arith, within)) (same ∙ ap pos (omega arith)))

not_this : (n count : ℕ) (x : ℤ) → ((k : ℕ) → k < suc count → x ≡ pos (n + k) → ⊥) → int_eq x (pos n) ≡ false
not_this n count x none = differs x (pos n) (λ same. none 0 (omega arith) (same ∙ ap pos (omega arith)))

fails_on : (r : Result State Failure) (at : ℕ) (cause : MachineCause) (after : List Instr)
    → r ≡ Err (record { at = at; cause = cause }) → then_past after r ≡ Err (record { at = at; cause = cause })
fails_on r at cause after fails = ap (then_past after) fails

pub of_none : Laws → (contract : Span) (n : ℕ) (functions : List Marked) → AreNested functions → 1 ≤ length functions
    → n + length functions ≤ 65535
    → Refuses contract (choice contract n functions) (IsOfNone n (length functions)) (Shared CheckFailed)
of_none laws contract n [] nested some low = absurd (omega (arith, some))
of_none laws contract n (function ∷ []) nested some low = λ setting b selector rest p live (x, is, none).
    let code = instructions function.code.items in
    record {
      at = 1;
      fails = fails_at _ _ (Shared CheckFailed) (omega arith)
          (ap (λ c. run setting c (on b (selector ∷ rest) p)) (last_shape contract n function)
          ∙ pushes setting (minimal_bytes (pos n)) (NUMEQUALVERIFY ∷ code) b (selector ∷ rest) p live
          ∙ takes_not setting n code b selector rest (behind (number n ∷ []) p) x live (fits n (omega (arith, low))) is
          (not_this n 0 x none));
      stands = at_next contract _ _ 0 (own_at contract NUMEQUALVERIFY _);
    }
of_none laws contract n (function ∷ next ∷ functions) nested some low = λ setting b selector rest p live (x, is, none).
    let code = instructions function.code.items in
    let inner = choice contract (n + 1) (next ∷ functions) in
    let ends : List Piece = Own (own contract ENDIF ∷ []) ∷ [] in
    let arms = two_arms true (DROP ∷ code) (instrs_of inner) in
    let p3 = behind (DUP ∷ number n ∷ NUMEQUAL ∷ []) p in
    let skipped = opener true ∷ ((DROP ∷ code) ++ (ELSE ∷ [])) in
    let more = of_none laws contract (n + 1) (next ∷ functions) nested.1 (omega arith) (omega (arith, low))
    setting b selector rest (progress_over skipped p3) live (of_no_other n (length (next ∷ functions)) selector (x, is, none)) in
    let front : List Spanned = opening contract n ++ (function.code.items ++ own contract ELSE ∷ []) in
    let counted = length-append code (ELSE ∷ []) in
    let rows_counted = length-append function.code.items (own contract ELSE ∷ []) in
    let mapped = length-map function.code.items (λ row. row.instr) in
    record {
      at = length front + more.at;
      fails = fails_at ((progress_over skipped p3).at + more.at) _ (Shared CheckFailed) (omega (arith, counted, rows_counted, mapped))
          (ap (λ c. run setting c (on b (selector ∷ rest) p)) (more_shape contract n function next functions)
          ∙ compared setting n arms b selector rest p x live (omega (arith, low)) is
          ∙ ap (λ t. run setting arms (on b (truth_bytes t ∷ selector ∷ rest) p3)) (not_this n (length (next ∷ functions)) x none)
          ∙ laws.second setting true (DROP ∷ code) (instrs_of inner) (dropping_nested laws code nested.0)
          (choice_nested laws contract (n + 1) (next ∷ functions) nested.1)
          (on b (truth_bytes false ∷ selector ∷ rest) p3) (truth_bytes false) (selector ∷ rest)
          (record { live = live; stack = refl }) refl
          ∙ fails_on _ _ (Shared CheckFailed) (ENDIF ∷ []) more.fails);
      stands = subst (λ rows. StandsAt contract rows (length front + more.at)) (sym (split contract n function next functions))
          (stands_behind contract front (code_of (inner ++ ends)) more.at
          (subst (λ rows. StandsAt contract rows more.at) (sym (code_append inner ends))
          (stands_in_front contract (code_of inner) (code_of ends) more.at more.stands)));
    }
