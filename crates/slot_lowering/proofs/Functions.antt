-- Functions: what stands in the slots at the start, and what a path makes of it.
use Rattle.std.proofs.Common.{◌≡◌, ◌<◌, ◌≤◌, ℕ, zero, suc, ◌+◌, ◌==◌, Bool, true, false, get_or, List, [], ◌∷◌, ◌++◌, length, map, drop, Result, Ok, Err, refl, sym, ap, ◌∙◌, subst, arith, append_assoc}
use Rattle.std.proofs.Math.Path.{fun_ext}
use Rattle.std.specs.Prelude.{◌&&◌, ◌||◌, nat_le, nat_lt, is_some, Some, None, Option, option_and_then, if◌then◌else◌, slice_get}
use Rattle.std.specs.List.{list_all, AllZip, All, AllByRecursion}
use Rattle.std.proofs.lemmas.List.{append-nil, at_drop_more, drop_all, length-append}
use Rattle.std.proofs.lemmas.List.Folds.{list_all-append, list_any-append}
use Rattle.std.proofs.lemmas.List.Elements.{All-from_recursion}
use Rattle.std.proofs.lemmas.Option.{slice_get-get_or, slice_get_past}
use Rattle.std.proofs.lemmas.Bool.{leb-true, ltb-true, eqb-true}
use Rattle.std.proofs.lemmas.Bool.Decides.{nat_tests}
use Rattle.cash_base.specs.declared.place.Span.{Span}
use Rattle.cash_base.specs.declared.place.Slot.{Slot}
use Rattle.cash_tree.specs.declared.Ty.{Ty}
use Rattle.cash_tree.specs.declared.Param.{Param}
use Rattle.cash_tree.specs.declared.Contract.{Contract}
use Rattle.cash_tree.specs.declared.Function.{Function}
use Rattle.cash_tree.specs.declared.Stmt.{Stmt}
use Rattle.source_meaning.specs.declared.outcome.Failure.{Failure}
use Rattle.source_meaning.specs.Meaning.{Env, with_value, with_values, ended, env_after_all, handed as source_handed}
use Rattle.source_meaning.specs.Runnable.{all_of}
use Rattle.slot_code.specs.declared.slots.SlotInstr.{SlotInstr}
use Rattle.slot_code.specs.declared.slots.SlotFunction.{SlotFunction}
use Rattle.slot_code.specs.Meaning.{state, run_of, handed}
use Rattle.slot_code.specs.Shape.{Operand, Place, has, closed, path_shape, shapes_of, first_slots, start, ends_rightly as rows_end, is_body, IsWellFormed}
use Rattle.slot_code.specs.Weight.{path_weigh}
use Rattle.slot_expressions.proofs.Tests.{and_intro, and_left, and_right}
use Rattle.slot_lowering.specs.Scoped.{has_values, ReadyBody, ends_rightly}
use Rattle.slot_lowering.specs.Statements.{Holds, IsPath, LowersBodyAt, met, leave_all, is_scoped}
use Rattle.slot_lowering.specs.Functions.{in_slots, function_fits, CanLower, CanLowerFunction, HasCounts, RunsAs, IsWeighed, KeepsSpans, Arranges, IsLowered, AreLowered, LeftFunctions}
use Rattle.slot_lowering.specs.Room.{path_pays, pays_of, function_price}
use Rattle.slot_lowering.specs.Weighed.{weights, AtEnd}
use Rattle.slot_lowering.specs.Spans.{SpansAmong, own_spans}
use Rattle.slot_code.specs.Spans.{code_spans}
use Rattle.cash_tree.specs.Nodes.{joined}
use Rattle.cash_tree.specs.Spans.{nothing as no_name, param_spans, statement_spans}
use Rattle.slot_lowering.specs.Arranged.{ArrangedBody}

-- ---- the slots at the start

slot_test : (n k : ℕ) → (nat_lt k n || ((n == k) || false)) ≡ nat_lt k (suc n)
slot_test n k = by_test (nat_lt k n) refl
  where
    by_test : (b : Bool) → nat_lt k n ≡ b → (b || ((n == k) || false)) ≡ nat_lt k (suc n)
    by_test true is = grind (arith, nat_tests, is)
    by_test false is = by_own (n == k) refl
      where
        by_own : (c : Bool) → (n == k) ≡ c → (c || false) ≡ nat_lt k (suc n)
        by_own true same = grind (arith, nat_tests, is, same)
        by_own false same = grind (arith, nat_tests, is, same)

-- the first slots are those below their number
has_first : (n : ℕ) (slot : Slot) → has slot (first_slots n) ≡ nat_lt slot.0 n
has_first zero slot = grind (arith, nat_tests)
has_first (suc n) slot =
    list_any-append (λ (other : Slot). other.0 == slot.0) (first_slots n) (record { 0 = n } ∷ [])
    ∙ ap (λ b. b || ((n == slot.0) || false)) (has_first n slot) ∙ slot_test n slot.0

has_some : (xs : List (List ℕ)) (k : ℕ) → is_some (slice_get xs k) ≡ nat_lt k (length xs)
has_some xs k = by_test (nat_lt k (length xs)) refl
  where
    by_test : (b : Bool) → nat_lt k (length xs) ≡ b → is_some (slice_get xs k) ≡ b
    by_test true is = ap is_some (slice_get-get_or xs k [] (ltb-true k (length xs) is))
    by_test false is = ap is_some (slice_get_past xs k (grind (arith, nat_tests, is)))

holds_handed : (ctor args : List (List ℕ)) (n : ℕ) → length (ctor ++ args) ≡ n → Holds (first_slots n) (handed ctor args)
holds_handed ctor args n count slot = has_some (ctor ++ args) slot.0 ∙ ap (nat_lt slot.0) count ∙ sym (has_first n slot)

-- ---- the elements at the start

at_own : (before : List (List ℕ)) (e : List ℕ) → slice_get (before ++ e ∷ []) (length before) ≡ Some e
at_own [] e = refl
at_own (x ∷ xs) e = at_own xs e

at_other : (before : List (List ℕ)) (e : List ℕ) (k : ℕ) → (k ≡ length before → ⊥) → slice_get (before ++ e ∷ []) k ≡ slice_get before k
at_other [] e zero other = absurd (other refl)
at_other [] e (suc k) other = refl
at_other (x ∷ xs) e zero other = refl
at_other (x ∷ xs) e (suc k) other = at_other xs e k (λ is. other (ap suc is))

-- the elements of the slots, in order
abbrev listed : List (List ℕ) → Env
listed es slot = slice_get es slot.0

one_more : (before : List (List ℕ)) (e : List ℕ) (slot : Slot) → slot.0 ≡ length before → with_value slot e (listed before) ≡ listed (before ++ e ∷ [])
one_more before e slot at = fun_ext (λ (other : Slot). by_test other (other.0 == slot.0) refl)
  where
    by_test : (other : Slot) (b : Bool) → (other.0 == slot.0) ≡ b → (if b then Some e else slice_get before other.0) ≡ slice_get (before ++ e ∷ []) other.0
    by_test other true is =
        let same : other.0 ≡ length before = eqb-true other.0 slot.0 is ∙ at in
        sym (ap (slice_get (before ++ e ∷ [])) same ∙ at_own before e)
    by_test other false is =
        sym (at_other before e other.0 (λ same. let never : (other.0 == slot.0) ≡ true = grind (arith, nat_tests, same, at) in let both : false ≡ true = sym is ∙ never in absurd cc))

filled : (before : List (List ℕ)) (params : List (Param Slot)) (es : List (List ℕ)) → in_slots (length before) params ≡ true → length es ≡ length params
    → with_values params es (listed before) ≡ listed (before ++ es)
filled before [] [] slots count = ap listed (sym (append-nil before))
filled before [] (e ∷ es) slots count = absurd (grind (arith, count))
filled before (p ∷ params) [] slots count = absurd (grind (arith, count))
filled before (p ∷ params) (e ∷ es) slots count =
    let own : (p.name.0 == length before) ≡ true = and_left (p.name.0 == length before) (in_slots (length before + 1) params) slots in
    let others : in_slots (length before + 1) params ≡ true = and_right (p.name.0 == length before) (in_slots (length before + 1) params) slots in
    let next : length (before ++ e ∷ []) ≡ length before + 1 = length-append before (e ∷ []) in
    let rest : length es ≡ length params = omega (arith, count) in
    ap (with_values params es) (one_more before e p.name (eqb-true p.name.0 (length before) own))
    ∙ filled (before ++ e ∷ []) params es (ap (λ n. in_slots n params) next ∙ others) rest
    ∙ ap listed (append_assoc before (e ∷ []) es)

handed_alike : (contract : Contract Slot Ty) (f : Function Slot Ty) (ctor args : List (List ℕ)) → in_slots 0 contract.params ≡ true → in_slots (length contract.params) f.params ≡ true
    → length ctor ≡ length contract.params → length args ≡ length f.params → source_handed contract ctor f args ≡ handed ctor args
handed_alike contract f ctor args ctor_slots arg_slots ctor_count arg_count =
    ap (with_values f.params args) (filled [] contract.params ctor ctor_slots ctor_count)
    ∙ filled ctor f.params args (ap (λ n. in_slots n f.params) ctor_count ∙ arg_slots) arg_count

-- ---- a function

ended_met : {A B : Type 0} (r : Result A Failure) (q : Result B Failure) → met r ≡ met q → ended r ≡ ended q
ended_met (Ok a) (Ok b) is = refl
ended_met (Ok a) (Err f) is = absurd cc
ended_met (Err e) (Ok b) is = absurd cc
ended_met (Err e) (Err f) is = ap (λ (r : Result (Unit {0}) Failure). ended r) is

pub body_ready : {contract : Contract Slot Ty} {f : Function Slot Ty} → CanLowerFunction contract f → ReadyBody f.body
body_ready {contract} {f} h =
    let ctors : ℕ = length contract.params in
    record { is = and_left (all_of (map has_values f.body)) (is_scoped f.body (first_slots (ctors + length f.params)) && ends_rightly f.body) (and_right (in_slots ctors f.params && nat_le (ctors + length f.params) 160) (all_of (map has_values f.body) && (is_scoped f.body (first_slots (ctors + length f.params)) && ends_rightly f.body)) h.is) }

few : {contract : Contract Slot Ty} {f : Function Slot Ty} → CanLowerFunction contract f → length contract.params + length f.params ≤ 160
few {contract} {f} h =
    let ctors : ℕ = length contract.params in
    leb-true (ctors + length f.params) 160 (and_right (in_slots ctors f.params) (nat_le (ctors + length f.params) 160) (and_left (in_slots ctors f.params && nat_le (ctors + length f.params) 160) (all_of (map has_values f.body) && (is_scoped f.body (first_slots (ctors + length f.params)) && ends_rightly f.body)) h.is))

pub few_params : {contract : Contract Slot Ty} {f : Function Slot Ty} → CanLowerFunction contract f → length f.params ≤ 160
few_params h = let both = few h in omega (arith, both)

pub few_ctors : {contract : Contract Slot Ty} {f : Function Slot Ty} → CanLowerFunction contract f → length contract.params ≤ 160
few_ctors h = let both = few h in omega (arith, both)

some_closed : (o : Option Place) (p : Place) → o ≡ Some p → p.operands ≡ [] → is_some (option_and_then closed o) ≡ true
some_closed o p is empty =
    ap (λ q. is_some (option_and_then closed q)) is ∙ ap (λ (l : List Operand). is_some (if length l == 0 then Some p else None)) empty

weighed : {contract : Contract Slot Ty} {f : Function Slot Ty} {g : SlotFunction} → g.ctors + g.params ≡ length contract.params + length f.params → AtEnd g.body (path_pays (map pays_of f.body)) → IsWeighed contract f g
weighed {contract} {f} {g} count h =
    let n : ℕ = length contract.params + length f.params in record {
      bytes = subst (λ k. (path_weigh (weights g.body) k).bytes ≤ (function_price contract f).bytes) (sym count) (h.within.bytes n);
      ops = subst (λ k. (path_weigh (weights g.body) k).ops ≤ (function_price contract f).ops) (sym count) (h.within.ops n);
    }

spanned : {f : Function Slot Ty} {g : SlotFunction} → g.span ≡ f.span → SpansAmong g.body (joined (map own_spans f.body)) → KeepsSpans f g
unfolding own_spans
spanned {f} {g} span_is h = record {
  all = λ test holds.
      let params = joined (map (param_spans no_name) f.params) in
      let body = joined (map (statement_spans no_name) f.body) in
      let first : (test f.span && list_all test (params ++ body)) ≡ true = and_right (test f.name) (test f.span && list_all test (params ++ body)) holds in
      let both = sym (list_all-append test params body) ∙ and_right (test f.span) (list_all test (params ++ body)) first in
      and_intro (test g.span) (list_all test (code_spans g.body)) (ap test span_is ∙ and_left (test f.span) (list_all test (params ++ body)) first)
      (h.all test (and_right (list_all test params) (list_all test body) both));
}

pub is_lowered : {contract : Contract Slot Ty} {f : Function Slot Ty} {none_yet : List SlotInstr} {g : SlotFunction} → CanLowerFunction contract f → none_yet ≡ []
    → LowersBodyAt true none_yet g.body f.body → g.ctors ≡ length contract.params → g.params ≡ length f.params → g.span ≡ f.span → IsLowered contract f g
is_lowered {contract} {f} {none_yet} {g} can none_is h ctors_is params_is span_is =
    let ctors : ℕ = length contract.params in
    let n : ℕ = ctors + length f.params in
    let slots : List Slot = first_slots n in
    let first = and_left (in_slots ctors f.params && nat_le n 160) (all_of (map has_values f.body) && (is_scoped f.body slots && ends_rightly f.body)) can.is in
    let second = and_right (in_slots ctors f.params && nat_le n 160) (all_of (map has_values f.body) && (is_scoped f.body slots && ends_rightly f.body)) can.is in
    let third = and_right (all_of (map has_values f.body)) (is_scoped f.body slots && ends_rightly f.body) second in
    let path = h.last refl in
    let rows_are : g.body ≡ path.rows = path.grown ∙ ap (λ l. l ++ path.rows) none_is in
    let p : IsPath g.body (leave_all f.body) slots = subst (λ l. IsPath l (leave_all f.body) slots) (sym rows_are)
    (path.does slots (and_left (is_scoped f.body slots) (ends_rightly f.body) third) (and_right (is_scoped f.body slots) (ends_rightly f.body) third)) in
    let count : g.ctors + g.params ≡ n = ap (λ k. k + g.params) ctors_is ∙ ap (λ k. ctors + k) params_is in
    let to = p.leads [] [] in record {
      counts = record { ctors = ctors_is; params = params_is; span = span_is };
      shape = ap (λ k. is_body k (map shapes_of g.body)) count
          ∙ and_intro (nat_le n 160) (is_some (option_and_then closed (path_shape (map shapes_of g.body) (start n))) && rows_end (map shapes_of g.body))
          (and_right (in_slots ctors f.params) (nat_le n 160) first)
          (and_intro (is_some (option_and_then closed (path_shape (map shapes_of g.body) (start n)))) (rows_end (map shapes_of g.body))
          (some_closed (path_shape (map shapes_of g.body) (start n)) to.0 to.1 to.2) p.ends);
      run = record {
        runs = λ ctor args world ctor_count arg_count.
            let at_start : length (ctor ++ args) ≡ n = length-append ctor args ∙ ap (λ k. k + length args) ctor_count ∙ ap (λ k. ctors + k) arg_count in
            ended_met (run_of world g.body (state [] (handed ctor args))) (env_after_all world f.body (handed ctor args))
            (p.alike world (handed ctor args) (holds_handed ctor args n at_start))
            ∙ ap (λ env. ended (env_after_all world f.body env)) (sym (handed_alike contract f ctor args can.params (and_left (in_slots ctors f.params) (nat_le n 160) first) ctor_count arg_count));
      };
      spans = spanned span_is (subst (λ l. SpansAmong l (joined (map own_spans f.body))) (sym rows_are) path.spans);
      arranged = record { is = subst (ArrangedBody true f.body) (sym rows_are) (path.arranged (and_right (is_scoped f.body slots) (ends_rightly f.body) third)) };
      weight = weighed count (subst (λ l. AtEnd l (path_pays (map pays_of f.body))) (sym rows_are) (path.weight (and_right (is_scoped f.body slots) (ends_rightly f.body) third)));
    }

pub is_made : {contract : Contract Slot Ty} {f : Function Slot Ty} {none_yet body : List SlotInstr} {stmts : List (Stmt Slot Ty)} {params ctors : ℕ} {span : Span} → CanLowerFunction contract f → none_yet ≡ []
    → stmts ≡ f.body → LowersBodyAt true none_yet body stmts → ctors ≡ length contract.params → params ≡ length f.params → span ≡ f.span
    → IsLowered contract f (record { params = params; ctors = ctors; span = span; body = body })
is_made {contract} {f} {none_yet} {body} {stmts} {params} {ctors} {span} can none_is stmts_are h ctors_is params_is span_is =
    is_lowered can none_is (subst (LowersBodyAt true none_yet body) stmts_are h) ctors_is params_is span_is

-- ---- the functions

next_function : (fs : List (Function Slot Ty)) (x : Function Slot Ty) (i : ℕ) → i < length fs → x ≡ get_or fs i x → drop i fs ≡ x ∷ drop (i + 1) fs
next_function fs x i within is = at_drop_more (λ l. l) fs i x within ∙ ap (λ y. y ∷ drop (i + 1) fs) (sym is)

pub left_none : {contract : Contract Slot Ty} {none_yet : List SlotFunction} → none_yet ≡ [] → CanLower contract → LeftFunctions contract none_yet 0
left_none {contract} {none_yet} none_is h = record {
  params = and_left (in_slots 0 contract.params) (list_all (function_fits (length contract.params)) contract.functions) h.is;
  fits = and_right (in_slots 0 contract.params) (list_all (function_fits (length contract.params)) contract.functions) h.is;
  by = λ rest t. subst (λ l. AllZip (IsLowered contract) contract.functions (l ++ rest)) (sym none_is) t;
}

pub left_item : {contract : Contract Slot Ty} {now : List SlotFunction} {x : Function Slot Ty} {i : ℕ} → LeftFunctions contract now i → i < length contract.functions → x ≡ get_or contract.functions i x → CanLowerFunction contract x
left_item {contract} {now} {x} {i} h within is =
    let test = function_fits (length contract.params) in record {
      params = h.params;
      is = and_left (test x) (list_all test (drop (i + 1) contract.functions)) (sym (ap (list_all test) (next_function contract.functions x i within is)) ∙ h.fits);
    }

pub left_more : {contract : Contract Slot Ty} {now next : List SlotFunction} {x : Function Slot Ty} {g : SlotFunction} {i : ℕ} → LeftFunctions contract now i → i < length contract.functions → x ≡ get_or contract.functions i x
    → IsLowered contract x g → next ≡ now ++ g ∷ [] → LeftFunctions contract next (i + 1)
left_more {contract} {now} {next} {x} {g} {i} h within is lowered grown =
    let test = function_fits (length contract.params) in
    let at = next_function contract.functions x i within is in record {
      params = h.params;
      fits = and_right (test x) (list_all test (drop (i + 1) contract.functions)) (sym (ap (list_all test) at) ∙ h.fits);
      by = λ rest t.
          let whole : AllZip (IsLowered contract) contract.functions (now ++ g ∷ rest) = h.by (g ∷ rest) (subst (λ l. AllZip (IsLowered contract) l (g ∷ rest)) (sym at) (lowered, t)) in
          subst (AllZip (IsLowered contract) contract.functions) (sym (ap (λ l. l ++ rest) grown ∙ append_assoc now (g ∷ []) rest)) whole;
    }

pub left_done : {contract : Contract Slot Ty} {now : List SlotFunction} {fs : List (Function Slot Ty)} {i : ℕ} → fs ≡ contract.functions → LeftFunctions contract now i → length fs ≤ i → AreLowered contract contract.functions now
left_done {contract} {now} {fs} {i} same h past =
    let over : length contract.functions ≤ i = subst (λ l. length l ≤ i) same past in record {
      all = subst (AllZip (IsLowered contract) contract.functions) (append-nil now) (h.by [] (subst (λ l. AllZip (IsLowered contract) l []) (sym (drop_all i contract.functions over)) tt));
    }

each : {R Q : Function Slot Ty → SlotFunction → Type 0} (fs : List (Function Slot Ty)) (gs : List SlotFunction) → ((f : Function Slot Ty) (g : SlotFunction) → R f g → Q f g) → AllZip R fs gs → AllZip Q fs gs
each [] [] to h = tt
each [] (g ∷ gs) to h = elim h [ ]
each (f ∷ fs) [] to h = elim h [ ]
each (f ∷ fs) (g ∷ gs) to h = (to f g h.0, each fs gs to h.1)

pub counts_of_all : {contract : Contract Slot Ty} {gs : List SlotFunction} → AreLowered contract contract.functions gs → AllZip (HasCounts contract) contract.functions gs
counts_of_all {contract} {gs} h = each contract.functions gs (λ f g is. is.counts) h.all

pub runs_of_all : {contract : Contract Slot Ty} {gs : List SlotFunction} → AreLowered contract contract.functions gs → AllZip (RunsAs contract) contract.functions gs
runs_of_all {contract} {gs} h = each contract.functions gs (λ f g is. is.run) h.all

pub weights_of_all : {contract : Contract Slot Ty} {gs : List SlotFunction} → AreLowered contract contract.functions gs → AllZip (IsWeighed contract) contract.functions gs
weights_of_all {contract} {gs} h = each contract.functions gs (λ f g is. is.weight) h.all

pub spans_of_all : {contract : Contract Slot Ty} {gs : List SlotFunction} → AreLowered contract contract.functions gs → AllZip KeepsSpans contract.functions gs
spans_of_all {contract} {gs} h = each contract.functions gs (λ f g is. is.spans) h.all

pub arranged_all : {contract : Contract Slot Ty} {gs : List SlotFunction} → AreLowered contract contract.functions gs → AllZip Arranges contract.functions gs
arranged_all {contract} {gs} h = each contract.functions gs (λ f g is. is.arranged) h.all

shapes : (contract : Contract Slot Ty) (fs : List (Function Slot Ty)) (gs : List SlotFunction) → AllZip (IsLowered contract) fs gs → AllByRecursion IsWellFormed gs
shapes contract [] [] h = tt
shapes contract [] (g ∷ gs) h = elim h [ ]
shapes contract (f ∷ fs) [] h = elim h [ ]
shapes contract (f ∷ fs) (g ∷ gs) h = (h.0.shape, shapes contract fs gs h.1)

pub shapes_of_all : {contract : Contract Slot Ty} {gs : List SlotFunction} → AreLowered contract contract.functions gs → All IsWellFormed gs
shapes_of_all {contract} {gs} h = All-from_recursion IsWellFormed gs (shapes contract contract.functions gs h.all)
