-- The slots of a named tree are numbered in the order of their definitions.
use Rattle.std.proofs.Common.{◌≡◌, ◌∙◌, ap, sym, subst, refl, ℕ, ◌+◌, List, [], ◌∷◌, ◌++◌, map, length, Some, None, arith, length-append}
use Rattle.std.specs.List.{AllByRecursion}
use Rattle.std.proofs.lemmas.List.{append-nil, length-map}
use Rattle.cash_base.specs.declared.place.Span.{Span}
use Rattle.cash_base.specs.declared.place.Slot.{Slot}
use Rattle.cash_tree.specs.declared.Param.{Param}
use Rattle.cash_tree.specs.Nodes.{joined}
use Rattle.name_scopes.specs.Names.{Names, slot, slot_at}
use Rattle.cash_names.specs.Outline.{Statement, NamedStmt, FunctionTree, NamedFunction, Tree, NamedTree, slotted}
use Rattle.cash_names.specs.Scopes as scopes
use Rattle.cash_names.specs.Scopes.{NamesStmt, NamesAll, NamesParams, NamesFunctions, IsNamed}
use Rattle.cash_names.specs.Definitions.{Definition, definition, kind_definitions, stmt_definitions, definitions, param_definitions, function_definitions, AreNumbered, HasSlotsInOrder}
use Rattle.cash_names.proofs.Rows.{at_define, at_pair, at_assign, at_time, at_age, at_require, at_if}

abbrev pub Defined : Type 0
Defined = List (Definition Slot)

-- slots from one number to another
pub record Runs (from : ℕ) (slots : Defined) (to : ℕ) : Type 0 where
  pub order : AreNumbered from slots
  pub size : from + length slots ≡ to

none : (from : ℕ) → Runs from [] from
none from = record { order = tt; size = omega arith }

one : (from : ℕ) (place : Span) → Runs from (definition (slot from) place ∷ []) (from + 1)
one from place = record { order = (refl, tt); size = omega arith }

two : (from middle : ℕ) (left right : Span) → middle ≡ from + 1
    → Runs from (definition (slot from) left ∷ definition (slot middle) right ∷ []) (middle + 1)
two from middle left right is = record { order = (refl, (is, tt)); size = omega (arith, is) }

append_numbered : (from : ℕ) (a b : Defined) → AreNumbered from a → AreNumbered (from + length a) b
    → AreNumbered from (a ++ b)
append_numbered from [] b h k =
    let same : from + 0 ≡ from = omega arith in subst (λ (n : ℕ). AreNumbered n b) same k
append_numbered from (s ∷ a) b h k =
    let same : from + length (s ∷ a) ≡ from + 1 + length a = omega arith in
    (h.0, append_numbered (from + 1) a b h.1 (subst (λ (n : ℕ). AreNumbered n b) same k))

pub further : {from middle to : ℕ} {a b : Defined} → Runs from a middle → Runs middle b to → Runs from (a ++ b) to
further {from} {middle} {to} {a} {b} h k =
    let more = length-append a b in
    let first = h.size in
    let second = k.size in
    record {
      order = append_numbered from a b h.order (subst (λ (n : ℕ). AreNumbered n b) (sym first) k.order);
      size = omega (arith, more, first, second);
    }

-- ---- statements

runs_as : {from to : ℕ} {a b : Defined} → a ≡ b → Runs from b to → Runs from a to
runs_as {from} {to} is h = subst (λ (l : Defined). Runs from l to) (sym is) h

mutual
  pub stmt_runs : {source : List ℕ} {names later : Names} {s : Statement} {t : NamedStmt}
      → NamesStmt source names s t later → Runs names.next (definitions t) later.next
  stmt_runs (scopes.define names ty constant name place e x span new h) =
      runs_as (at_define kind_definitions stmt_definitions ty constant (slot names.next) place x span) (one names.next place)
  stmt_runs (scopes.pair names middle left right e x span is new new' h) =
      runs_as (at_pair kind_definitions stmt_definitions (slotted left names.next) (slotted right middle.next) x span)
      (two names.next middle.next left.place right.place (ap (λ (n : Names). n.next) is))
  stmt_runs {source = source} (scopes.assign names name e x span free h) = runs_as (at_assign kind_definitions stmt_definitions (slot_at source names name) x span) (none names.next)
  stmt_runs (scopes.time names e x span h) = runs_as (at_time kind_definitions stmt_definitions x span) (none names.next)
  stmt_runs (scopes.age names e x span h) = runs_as (at_age kind_definitions stmt_definitions x span) (none names.next)
  stmt_runs (scopes.require names e x span h) = runs_as (at_require kind_definitions stmt_definitions x span) (none names.next)
  stmt_runs (scopes.if_only names inner e x ss ts span h k) =
      runs_as (at_if kind_definitions stmt_definitions x ts None span ∙ append-nil (joined (map definitions ts))) (all_run k)
  stmt_runs (scopes.if_else names inner inner' e x ss ss' ts ts' span h k m) =
      runs_as (at_if kind_definitions stmt_definitions x ts (Some ts') span)
      (further (all_run k) (all_run m))

  pub all_run : {source : List ℕ} {names later : Names} {ss : List Statement} {ts : List NamedStmt}
      → NamesAll source names ss ts later → Runs names.next (joined (map definitions ts)) later.next
  all_run (scopes.done names) = none names.next
  all_run (scopes.step names middle later s ss t ts h hs) =
      further (stmt_runs h) (all_run hs)

-- ---- functions and the contract

pub params_run : {source : List ℕ} {names later : Names} {ps : List (Param Span)} {qs : List (Param Slot)}
    → NamesParams source names ps qs later → Runs names.next (param_definitions qs) later.next
params_run (scopes.no_param names) = none names.next
params_run (scopes.next_param names later p ps qs new rest) =
    further (one names.next p.place) (params_run rest)

functions_run : {source : List ℕ} {first names later : Names} {fs : List FunctionTree} {gs : List NamedFunction} (count : ℕ)
    → first.next ≡ count → NamesFunctions source first names fs gs later
    → AllByRecursion (λ g. AreNumbered count (function_definitions g)) gs
functions_run count is (scopes.no_function functions) = tt
functions_run {first = first} count is (scopes.next_function functions later inner last name span ps qs ss ts fs gs new params body rest) =
    let all = further (params_run params) (all_run body) in
    (subst (λ (n : ℕ). AreNumbered n (param_definitions qs ++ joined (map definitions ts))) is all.order, functions_run count is rest)

pub in_order : (source : List ℕ) (tree : Tree) (t : NamedTree) → IsNamed source tree t → HasSlotsInOrder t
in_order source _ _ (scopes.contract ctor functions name span pragmas ps qs f fs gs admitted params calls) =
    let all = params_run params in
    let size : length (param_definitions qs) ≡ length qs = length-map qs (λ (q : Param Slot). definition q.name q.place) in
    let count = all.size in
    (all.order, functions_run (length qs) (omega (arith, size, count)) calls)
