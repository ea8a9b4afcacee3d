-- The whole code: the selector is raised, and then chooses.
use Rattle.std.proofs.Common.{◌≡◌, ℕ, ◌+◌, ◌≤◌, ◌<◌, Bool, true, false, cond, List, [], ◌∷◌, ◌++◌, length, Some, ℤ, pos, Result, Ok, Err, refl, sym, ap, ◌∙◌, subst, arith, append-nil, not, length-append}
use Rattle.std.specs.Prelude.{◌==◌}
use Rattle.std.specs.List.{AllByRecursion}
use Rattle.std.proofs.lemmas.Bool.{eqb-true, false≢true, lt-ltb}
use Rattle.std.proofs.lemmas.List.{map-append, length-map, append_assoc}
use Rattle.cash_base.specs.declared.fault.Cause.TheVariants.{NotANumber, CheckFailed}
use Rattle.cash_base.specs.declared.fault.MachineCause.{MachineCause}
use Rattle.cash_base.specs.declared.fault.MachineCause.TheVariants.{Shared, Underflow}
use Rattle.cash_base.specs.declared.place.Span.{Span}
use Rattle.cash_base.specs.Number.{number_of, minimal_bytes}
use Rattle.tx_context.specs.World.{World}
use Rattle.script_codec.specs.declared.instr.Instr.{Instr}
use Rattle.script_codec.specs.declared.spans.Spanned.{Spanned}
use Rattle.script_codec.specs.declared.spans.Marked.{Marked}
use Rattle.opcode_table.specs.Stack.{Stack}
use Rattle.opcode_table.specs.Table.{rows}
use Rattle.bch_vm.specs.Setting.{Setting, setting_in}
use Rattle.bch_vm.specs.Board.{Board, is_live}
use Rattle.bch_vm.specs.Script.{State, Progress, beginning, run, balanced, run_end, Failure, Executed, executed_in, state}
use Rattle.run_laws.specs.Nested.{is_nested}
use Rattle.run_laws.specs.Branches.{HasConditionsOf, past, ENDIF, two_arms}
use Rattle.selector.specs.Pieces.{instructions, Piece, Own, Function, code_of, functions_of, own_of, marks_of, is_opcode}
use Rattle.script_codec.specs.Names.{is_named, are_named}
use Rattle.script_codec.specs.Spelling.{is_instruction, are_instructions}
use Rattle.bch_vm.specs.Law.{are_keys_known}
use Rattle.run_laws.specs.Underneath.{counts_elements, is_without_depth}
use Rattle.selector.specs.Place.{separates, is_unseparated, EndsBehind, all_executed_behind}
use Rattle.selector.specs.Choice.{DROP, DUP, ROLL, NUMEQUAL, number, own, raising, choice}
use Rattle.selector.specs.Selection.{AreNested, AreUnseparated, behind, StandsAt, FailsAt, Chooses, is_function, RefusesNoNumber, RefusesOthers, RefusesNone, Selects, lacks, AreChoosing, ExecutesBehind}
use Rattle.selector.proofs.Runs.{on, behind_behind, pushes, raises, raises_none, copies_none, push_step, roll_step, then_executes}
use Rattle.selector.proofs.Shapes.{Laws, instrs_of, more_shape, choice_nested}
use Rattle.selector.proofs.Chosen.{then_past, IsChosen, chosen, executed_entry}
use Rattle.selector.proofs.Opcodes.{all_chosen, instructions_suit, names_suit, separators_suit, depth_suits, lacking_suits, known_chosen}
use Rattle.selector.proofs.Alone.{of_each, start, ended, alone}
use Rattle.selector.proofs.Refused.{FailsFrom, Refuses, IsNoNumber, no_number, IsOfNone, of_none}
use Rattle.selector.proofs.ExecutedOwn.{AreOwnFrom, own_both, own_behind, own_in_front}
use Rattle.selector.proofs.Stands.{stands_behind, own_at, at_next}
use Rattle.selector.proofs.Sizes.{size_append, opcodes_append, own_append, raising_own, raising_size, raising_opcodes, choice_own, choice_size, choice_opcodes}

-- ---- the selector is raised

-- after the instructions that raise the selector it stands on top, and what comes behind is behind these too
record IsRaised (contract : Span) (setting : Setting) (raise : List Spanned) (code : List Instr) (b : Board) (given : Stack)
    (selector : List ℕ) (rest : Stack) (p : Progress) : Type 0 where
  progress : Progress
  goes : run setting (instructions raise ++ code) (on b (given ++ selector ∷ rest) p) ≡ run setting code (on b (selector ∷ (given ++ rest)) progress)
  at : progress.at ≡ p.at + length (instructions raise)
  then : (second : List Instr) → 1 ≤ length second → behind second progress ≡ behind (instructions raise ++ second) p
  front : List Executed
  executed : executed_in setting (instructions raise ++ code) (Ok (on b (given ++ selector ∷ rest) p))
      ≡ front ++ executed_in setting code (Ok (on b (selector ∷ (given ++ rest)) progress))
  own : AreOwnFrom contract raise p.at front

no_elements : (given : Stack) → length given ≡ 0 → given ≡ []
no_elements [] none = refl
no_elements (e ∷ given) none = absurd (omega (arith, none))

raised : (setting : Setting) (contract : Span) (ctors : ℕ) (code : List Instr) (b : Board) (given : Stack) (selector : List ℕ) (rest : Stack)
    (p : Progress) → is_live b.conditions ≡ true → ctors ≤ 65535 → length given ≡ ctors
    → IsRaised contract setting (raising contract ctors) code b given selector rest p
raised setting contract ctors code b given selector rest p live low count = by_test (ctors == 0) refl
  where
    by_test : (t : Bool) → (ctors == 0) ≡ t
        → IsRaised contract setting (cond t [] (own contract (number ctors) ∷ own contract ROLL ∷ [])) code b given selector rest p
    by_test true is = record {
      progress = p;
      goes = let none = no_elements given (count ∙ eqb-true ctors 0 is) in
          ap (λ above. run setting code (on b (above ++ selector ∷ rest) p)) none
          ∙ ap (λ above. run setting code (on b (selector ∷ (above ++ rest)) p)) (sym none);
      at = omega arith;
      then = λ second some. refl;
      front = [];
      executed = let none = no_elements given (count ∙ eqb-true ctors 0 is) in
          ap (λ above. executed_in setting code (Ok (on b (above ++ selector ∷ rest) p))) none
          ∙ ap (λ above. executed_in setting code (Ok (on b (selector ∷ (above ++ rest)) p))) (sym none);
      own = tt;
    }
    by_test false is = record {
      progress = behind (number ctors ∷ ROLL ∷ []) p;
      goes = pushes setting (minimal_bytes (pos ctors)) (ROLL ∷ code) b (given ++ selector ∷ rest) p live
          ∙ raises setting ctors code b given selector rest (behind (number ctors ∷ []) p) live (omega (arith, low)) count
          ∙ ap (λ q. run setting code (on b (selector ∷ (given ++ rest)) q))
          (behind_behind (number ctors ∷ []) (ROLL ∷ []) p (omega arith));
      at = refl;
      then = λ second some. behind_behind (number ctors ∷ ROLL ∷ []) second p some;
      front = executed_entry p.at (length (minimal_bytes (pos ctors) ∷ (given ++ selector ∷ rest)))
          ∷ executed_entry (p.at + 1) (length (selector ∷ (given ++ rest))) ∷ [];
      executed = then_executes setting (number ctors) (ROLL ∷ code) b (given ++ selector ∷ rest)
          (minimal_bytes (pos ctors) ∷ (given ++ selector ∷ rest)) p live (push_step setting (minimal_bytes (pos ctors)) b (given ++ selector ∷ rest) p live)
          ∙ ap (λ es. executed_entry p.at (length (minimal_bytes (pos ctors) ∷ (given ++ selector ∷ rest))) ∷ es)
          (then_executes setting ROLL code b (minimal_bytes (pos ctors) ∷ (given ++ selector ∷ rest)) (selector ∷ (given ++ rest))
          (behind (number ctors ∷ []) p) live (roll_step setting ctors b given selector rest (behind (number ctors ∷ []) p) live (omega (arith, low)) count)
          ∙ ap (λ q. executed_entry (p.at + 1) (length (selector ∷ (given ++ rest))) ∷ executed_in setting code (Ok (on b (selector ∷ (given ++ rest)) q)))
          (behind_behind (number ctors ∷ []) (ROLL ∷ []) p (omega arith)));
      own = (
        record { index = 0; at = omega arith; stands = own_at contract (number ctors) (own contract ROLL ∷ []) },
        (
          record { index = 1; at = refl; stands = at_next contract (own contract (number ctors)) (own contract ROLL ∷ []) 0 (own_at contract ROLL []) },
          tt,
        ),
      );
    }

-- ---- at the end of a run

ended_past : (s : State) (after : List Instr) (r : Result State Failure) → s.board.conditions ≡ [] → HasConditionsOf s r
    → ended (then_past after r) ≡ then_past after r
ended_past s after (Err failure) none same = refl
ended_past s after (Ok t) none same = ap (λ conditions. balanced conditions (past after t)) (same ∙ none)

-- ---- the pieces

abbrev pub pieces_of : Span → ℕ → List Marked → List Piece
pieces_of contract ctors functions = Own (raising contract ctors) ∷ choice contract 0 functions

instrs_whole : (contract : Span) (ctors : ℕ) (functions : List Marked)
    → instrs_of (pieces_of contract ctors functions) ≡ instructions (raising contract ctors) ++ instrs_of (choice contract 0 functions)
instrs_whole contract ctors functions =
    map-append (λ row. row.instr) (raising contract ctors) (code_of (choice contract 0 functions))

functions_append : (first second : List Piece) → functions_of (first ++ second) ≡ functions_of first ++ functions_of second
functions_append [] second = refl
functions_append (Own code ∷ first) second = functions_append first second
functions_append (Function function ∷ first) second = ap (λ l. function ∷ l) (functions_append first second)

functions_in_order : (contract : Span) (n : ℕ) (functions : List Marked) → functions_of (choice contract n functions) ≡ functions
functions_in_order contract n [] = refl
functions_in_order contract n (function ∷ []) = refl
functions_in_order contract n (function ∷ next ∷ functions) =
    ap (λ l. function ∷ l)
    (functions_append (choice contract (n + 1) (next ∷ functions)) (Own (own contract ENDIF ∷ []) ∷ [])
    ∙ append-nil (functions_of (choice contract (n + 1) (next ∷ functions)))
    ∙ functions_in_order contract (n + 1) (next ∷ functions))

whole_runs : Laws → (contract : Span) (ctors : ℕ) (functions : List Marked) (k : ℕ) (h : IsChosen contract (choice contract 0 functions) k (pos (0 + k)))
    (world : World) (given rest : Stack) (selector : List ℕ) → ctors ≤ 65535 → length given ≡ ctors → number_of selector ≡ Some (pos k)
    → run_end world (instrs_of (pieces_of contract ctors functions)) (given ++ selector ∷ rest)
    ≡ then_past (instrs_of h.place.after)
    (run (setting_in world (instrs_of (pieces_of contract ctors functions))) (instructions h.place.function.code.items)
    (on start (given ++ rest) (behind (instrs_of (Own (raising contract ctors) ∷ h.place.before)) beginning)))
whole_runs laws contract ctors functions k h world given rest selector low count is =
    let setting = setting_in world (instrs_of (pieces_of contract ctors functions)) in
    let code = instrs_of (choice contract 0 functions) in
    let function = instructions h.place.function.code.items in
    let up = raised setting contract ctors code start given selector rest beginning refl low count in
    let from = on start (given ++ rest) (behind (instrs_of (Own (raising contract ctors) ∷ h.place.before)) beginning) in
    ap (λ c. ended (run setting c (on start (given ++ selector ∷ rest) beginning))) (instrs_whole contract ctors functions)
    ∙ ap ended up.goes
    ∙ ap ended (h.goes setting start selector (given ++ rest) up.progress refl (is ∙ ap (λ n. Some (pos n)) (omega arith)))
    ∙ ap (λ q. ended (then_past (instrs_of h.place.after) (run setting function (on start (given ++ rest) q))))
    (up.then (instrs_of h.place.before) h.some
    ∙ ap (λ l. behind l beginning) (sym (map-append (λ row. row.instr) (raising contract ctors) (code_of h.place.before))))
    ∙ ended_past from (instrs_of h.place.after) (run setting function from) refl (laws.same setting function from h.nested)

-- numbered from the first instruction
from_first : (contract : Span) (code : List Spanned) (es : List Executed) → AreOwnFrom contract code 0 es → AreChoosing contract code es
from_first contract code [] all = tt
from_first contract code (e ∷ es) all =
    let index : all.0.index ≡ e.at = sym (all.0.at ∙ omega arith) in
    (subst (StandsAt contract code) index all.0.stands, from_first contract code es all.1)

whole_executes : (contract : Span) (ctors : ℕ) (functions : List Marked) (k : ℕ)
    (h : IsChosen contract (choice contract 0 functions) k (pos (0 + k)))
    (world : World) (given rest : Stack) (selector : List ℕ) → ctors ≤ 65535 → length given ≡ ctors → number_of selector ≡ Some (pos k)
    → is_unseparated (instructions h.place.function.code.items) ≡ true
    → ExecutesBehind contract (code_of (pieces_of contract ctors functions)) (length (code_of (Own (raising contract ctors) ∷ h.place.before)))
    (length (given ++ rest))
    (executed_in (setting_in world (instructions h.place.function.code.items)) (instructions h.place.function.code.items)
    (Ok (state (given ++ rest) beginning)))
    (executed_in (setting_in world (instrs_of (pieces_of contract ctors functions))) (instrs_of (pieces_of contract ctors functions))
    (Ok (state (given ++ selector ∷ rest) beginning)))
whole_executes contract ctors functions k h world given rest selector low count is plain =
    let setting = setting_in world (instrs_of (pieces_of contract ctors functions)) in
    let code = instrs_of (choice contract 0 functions) in
    let rows = code_of (choice contract 0 functions) in
    let raise = raising contract ctors in
    let function = instructions h.place.function.code.items in
    let up = raised setting contract ctors code start given selector rest beginning refl low count in
    let ih = h.executes (setting_in world function) setting start selector (given ++ rest) up.progress refl
    (is ∙ ap (λ n. Some (pos n)) (omega arith)) (λ x y. refl) plain in
    let found = executed_in (setting_in world function) function (Ok (state (given ++ rest) beginning)) in
    let joined = length-append raise (code_of h.place.before) in
    let mapped = length-map raise (λ row. row.instr) in
    let mapped_before = length-map (code_of h.place.before) (λ row. row.instr) in
    let there : up.progress.at + length (instrs_of h.place.before) ≡ length (code_of (Own raise ∷ h.place.before)) =
    omega (arith, up.at, joined, mapped, mapped_before) in
    let from : up.progress.at ≡ 0 + length raise = omega (arith, up.at, mapped) in
    let all : AreOwnFrom contract (raise ++ rows) 0 (up.front ++ (ih.front ++ ih.last ∷ ih.after)) =
    own_both contract (raise ++ rows) 0 up.front (ih.front ++ ih.last ∷ ih.after)
    (own_in_front contract raise rows 0 up.front up.own)
    (own_behind contract raise rows 0 up.progress.at (ih.front ++ ih.last ∷ ih.after) from ih.own) in
    record {
      front = up.front ++ ih.front;
      last = ih.last;
      after = ih.after;
      are = ap (λ c. executed_in setting c (Ok (on start (given ++ selector ∷ rest) beginning))) (instrs_whole contract ctors functions)
          ∙ up.executed
          ∙ ap (λ es. up.front ++ es) ih.are
          ∙ ap (λ n. up.front ++ (ih.front ++ (ih.last ∷ (all_executed_behind n found ++ ih.after)))) there
          ∙ sym (append_assoc up.front ih.front
          (ih.last ∷ (all_executed_behind (length (code_of (Own raise ∷ h.place.before))) found ++ ih.after)));
      at = ih.at ∙ there;
      leaves = ih.leaves;
      choosing = from_first contract (raise ++ rows) ((up.front ++ ih.front) ++ ih.last ∷ ih.after)
          (subst (AreOwnFrom contract (raise ++ rows) 0) (sym (append_assoc up.front ih.front (ih.last ∷ ih.after))) all);
    }

whole_chosen : Laws → (contract : Span) (ctors : ℕ) (functions : List Marked) (k : ℕ) → AreNested functions → AreUnseparated functions
    → ctors ≤ 65535 → length functions ≤ 64 → k < length functions
    → Chooses contract ctors (code_of (pieces_of contract ctors functions)) (pieces_of contract ctors functions) k
whole_chosen laws contract ctors functions k nested plain low few within =
    let raise : List Piece = Own (raising contract ctors) ∷ [] in
    let h = chosen laws contract 0 functions k nested (omega (arith, few)) within in
    let whole = instrs_of (pieces_of contract ctors functions) in
    let function = instructions h.place.function.code.items in
    let in_order = subst (AllByRecursion (λ f. is_unseparated (instructions f.code.items) ≡ true))
    (sym (functions_in_order contract 0 functions) ∙ ap functions_of h.place.parts) plain in
    let lone = of_each (λ f. is_unseparated (instructions f.code.items) ≡ true) h.place.before h.place.function h.place.after in_order in
    record {
      place = record {
        before = raise ++ h.place.before;
        function = h.place.function;
        after = h.place.after;
        parts = ap (λ l. raise ++ l) h.place.parts;
        count = h.place.count;
      };
      runs = λ world given rest selector count is. whole_runs laws contract ctors functions k h world given rest selector low count is;
      alone = λ world given rest selector count is.
          subst (λ r. EndsBehind (length (code_of (raise ++ h.place.before))) beginning
          (behind (instrs_of (raise ++ h.place.before)) beginning) (run_end world function (given ++ rest)) r)
          (sym (whole_runs laws contract ctors functions k h world given rest selector low count is))
          (subst (λ n. EndsBehind n beginning (behind (instrs_of (raise ++ h.place.before)) beginning) (run_end world function (given ++ rest))
          (then_past (instrs_of h.place.after) (run (setting_in world whole) function
          (on start (given ++ rest) (behind (instrs_of (raise ++ h.place.before)) beginning)))))
          (length-map (code_of (raise ++ h.place.before)) (λ row. row.instr))
          (alone laws world whole (instrs_of (raise ++ h.place.before)) function (instrs_of h.place.after) (given ++ rest) h.nested lone));
      executes = λ world given rest selector count is.
          whole_executes contract ctors functions k h world given rest selector low count is lone;
    }

-- ---- refusals

failed_end : (contract : Span) (code : List Spanned) (cause : MachineCause) (r : Result State Failure)
    → FailsFrom contract code 0 cause r → FailsAt contract code cause (ended r)
failed_end contract code cause r h = record {
  at = h.at;
  fails = ap ended h.fails ∙ ap (λ n. Err (record { at = n; cause = cause })) (omega arith);
  stands = h.stands;
}

whole_refuses : (contract : Span) (ctors : ℕ) (functions : List Marked) (P : List ℕ → Type 0) (cause : MachineCause)
    → ctors ≤ 65535 → Refuses contract (choice contract 0 functions) P cause
    → (world : World) (given rest : Stack) (selector : List ℕ) → length given ≡ ctors → P selector
    → FailsAt contract (code_of (pieces_of contract ctors functions)) cause
    (run_end world (instrs_of (pieces_of contract ctors functions)) (given ++ selector ∷ rest))
whole_refuses contract ctors functions P cause low refuses world given rest selector count holds =
    let setting = setting_in world (instrs_of (pieces_of contract ctors functions)) in
    let code = instrs_of (choice contract 0 functions) in
    let up = raised setting contract ctors code start given selector rest beginning refl low count in
    let h = refuses setting start selector (given ++ rest) up.progress refl holds in
    let counted = length-map (raising contract ctors) (λ row. row.instr) in
    failed_end contract (code_of (pieces_of contract ctors functions)) cause
    (run setting (instrs_of (pieces_of contract ctors functions)) (on start (given ++ selector ∷ rest) beginning))
    (record {
      at = length (raising contract ctors) + h.at;
      fails = ap (λ c. run setting c (on start (given ++ selector ∷ rest) beginning)) (instrs_whole contract ctors functions)
          ∙ up.goes ∙ h.fails
          ∙ ap (λ n. Err (record { at = n; cause = cause })) (omega (arith, up.at, counted));
      stands = stands_behind contract (raising contract ctors) (code_of (choice contract 0 functions)) h.at h.stands;
    })

of_no_function : (count : ℕ) (selector : List ℕ) (x : ℤ) → number_of selector ≡ Some x → is_function count x ≡ false
    → IsOfNone 0 count selector
of_no_function count selector x is other = (x, is, none)
  where
    none : (k : ℕ) → k < count → x ≡ pos (0 + k) → ⊥
    none k within same =
        let index : 0 + k ≡ k = omega arith in
        false≢true (sym other ∙ ap (is_function count) (same ∙ ap pos index) ∙ lt-ltb k count within)

-- no selector: nothing is there to be raised, or to be copied
whole_missing : (contract : Span) (ctors : ℕ) (functions : List Marked) → 2 ≤ length functions → ctors ≤ 65535
    → (world : World) (stack : Stack) → length stack ≤ ctors
    → FailsAt contract (code_of (pieces_of contract ctors functions)) Underflow
    (run_end world (instrs_of (pieces_of contract ctors functions)) stack)
whole_missing contract ctors [] several low world stack few = absurd (omega (arith, several))
whole_missing contract ctors (function ∷ []) several low world stack few = absurd (omega (arith, several))
whole_missing contract ctors (function ∷ next ∷ functions) several low world stack few =
    let all : List Marked = function ∷ next ∷ functions in
    let pieces = choice contract 0 all in
    let setting = setting_in world (instrs_of (pieces_of contract ctors all)) in
    failed_end contract (code_of (pieces_of contract ctors all)) Underflow
    (run setting (instrs_of (pieces_of contract ctors all)) (on start stack beginning))
    (by_test setting (code_of pieces) (more_shape contract 0 function next functions) (own_at contract DUP _) (ctors == 0) refl)
  where
    no_stack : (stack : Stack) → length stack ≤ 0 → stack ≡ []
    no_stack [] none = refl
    no_stack (e ∷ stack) none = absurd (omega (arith, none))

    by_test : (setting : Setting) (code : List Spanned)
        → instructions code ≡ DUP ∷ number 0 ∷ NUMEQUAL
        ∷ two_arms true (DROP ∷ instructions function.code.items) (instrs_of (choice contract 1 (next ∷ functions)))
        → StandsAt contract code 0 → (t : Bool) → (ctors == 0) ≡ t
        → FailsFrom contract (cond t [] (own contract (number ctors) ∷ own contract ROLL ∷ []) ++ code) 0 Underflow
        (run setting (instructions (cond t [] (own contract (number ctors) ∷ own contract ROLL ∷ []) ++ code)) (on start stack beginning))
    by_test setting code shape stands true is = record {
      at = 0;
      fails = ap (λ c. run setting c (on start stack beginning)) shape
          ∙ ap (λ s. run setting (DUP ∷ number 0 ∷ NUMEQUAL
          ∷ two_arms true (DROP ∷ instructions function.code.items) (instrs_of (choice contract 1 (next ∷ functions)))) (on start s beginning))
          (no_stack stack (let none = eqb-true ctors 0 is in omega (arith, none, few)))
          ∙ copies_none setting (number 0 ∷ NUMEQUAL
          ∷ two_arms true (DROP ∷ instructions function.code.items) (instrs_of (choice contract 1 (next ∷ functions)))) start beginning refl;
      stands = stands;
    }
    by_test setting code shape stands false is = record {
      at = 1;
      fails = pushes setting (minimal_bytes (pos ctors)) (ROLL ∷ instructions code) start stack beginning refl
          ∙ raises_none setting ctors (instructions code) start stack (behind (number ctors ∷ []) beginning) refl (omega (arith, low)) few;
      stands = at_next contract (own contract (number ctors)) (own contract ROLL ∷ code) 0 (own_at contract ROLL code);
    }

-- ---- the whole

raising_nested : (contract : Span) (ctors : ℕ) → is_nested (instructions (raising contract ctors)) ≡ true
unfolding rows
raising_nested contract ctors = by_test (ctors == 0)
  where
    by_test : (t : Bool) → is_nested (instructions (cond t [] (own contract (number ctors) ∷ own contract ROLL ∷ []))) ≡ true
    by_test true = refl
    by_test false = refl

whole_nested : Laws → (contract : Span) (ctors : ℕ) (functions : List Marked) → AreNested functions
    → is_nested (instrs_of (pieces_of contract ctors functions)) ≡ true
whole_nested laws contract ctors functions nested =
    subst (λ code. is_nested code ≡ true) (sym (instrs_whole contract ctors functions))
    (laws.in_turn (instructions (raising contract ctors)) (instrs_of (choice contract 0 functions)) (raising_nested contract ctors)
    (choice_nested laws contract 0 functions nested))

pub selects_pieces : Laws → (contract : Span) (ctors : ℕ) (functions : List Marked) (code : Marked) → AreNested functions
    → AreUnseparated functions → 2 ≤ length functions → length functions ≤ 64 → ctors ≤ 65535
    → code.code.items ≡ code_of (pieces_of contract ctors functions) → code.marks.items ≡ marks_of 0 (pieces_of contract ctors functions)
    → Selects functions ctors contract code
selects_pieces laws contract ctors functions code nested plain several few low whole marks =
    let raise = raising contract ctors in
    let chooses = own_of (choice contract 0 functions) in
    let sizes = size_append raise chooses in
    let counts = opcodes_append raise chooses in
    let raise_size = raising_size contract ctors low in
    let raise_opcodes = raising_opcodes contract ctors in
    let size = choice_size contract 0 functions (omega (arith, several)) (omega (arith, few)) in
    let opcodes = choice_opcodes contract 0 functions (omega (arith, several)) in
    let back = sym whole in
    let pieces = pieces_of contract ctors functions in
    let in_order = functions_in_order contract 0 functions in
    record {
      pieces = pieces_of contract ctors functions;
      rows = whole;
      in_order = in_order;
      marks = marks;
      own = own_append contract raise chooses (raising_own contract ctors) (choice_own contract 0 functions);
      bytes = omega (arith, sizes, raise_size, size, several);
      opcodes = omega (arith, counts, raise_opcodes, opcodes, several);
      nested = subst (λ code. is_nested (instructions code) ≡ true) back (whole_nested laws contract ctors functions nested);
      unseparated = subst (λ code. is_unseparated (instructions code) ≡ true) back
          (all_chosen (λ instr. not (separates instr)) separators_suit contract ctors functions pieces refl in_order plain);
      lacking = λ byte foreign all. subst (λ code. lacks byte (instructions code) ≡ true) back
          (all_chosen (λ instr. not (is_opcode byte instr)) (lacking_suits byte foreign) contract ctors functions pieces refl in_order all);
      shallow = λ all. subst (λ code. is_without_depth (instructions code) ≡ true) back
          (all_chosen (λ instr. not (counts_elements instr)) depth_suits contract ctors functions pieces refl in_order all);
      spelled = λ all. subst (λ code. are_instructions (instructions code) ≡ true) back
          (all_chosen is_instruction instructions_suit contract ctors functions pieces refl in_order all);
      named = λ all. subst (λ code. are_named (instructions code) ≡ true) back
          (all_chosen is_named names_suit contract ctors functions pieces refl in_order all);
      keys = λ all. subst (λ code. are_keys_known false (instructions code) ≡ true) back
          (known_chosen contract ctors functions pieces refl in_order all);
      chosen = λ at within. subst (λ code. Chooses contract ctors code (pieces_of contract ctors functions) at) back
          (whole_chosen laws contract ctors functions at nested plain low few within);
      no_number = subst (λ code. RefusesNoNumber contract ctors code) back
          (whole_refuses contract ctors functions IsNoNumber (Shared NotANumber) low
          (no_number contract 0 functions (omega (arith, several)) (omega arith)));
      others = subst (λ code. RefusesOthers contract ctors (length functions) code) back
          (λ world given rest selector x count is other.
          whole_refuses contract ctors functions (IsOfNone 0 (length functions)) (Shared CheckFailed) low
          (of_none laws contract 0 functions nested (omega (arith, several)) (omega (arith, few)))
          world given rest selector count (of_no_function (length functions) selector x is other));
      missing = subst (λ code. RefusesNone contract ctors code) back (whole_missing contract ctors functions several low);
    }
