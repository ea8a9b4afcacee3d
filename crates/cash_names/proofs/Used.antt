-- Each slot that a named tree uses is that of a name that is declared.
use Rattle.std.proofs.Common.{◌≡◌, ◌∙◌, ap, sym, subst, ℕ, ◌+◌, ◌<◌, ◌≤◌, Bool, true, false, List, [], ◌∷◌, ◌++◌, map, length, Option, Some, None, arith}
use Rattle.std.specs.Prelude.{if◌then◌else◌}
use Rattle.std.specs.List.{AllByRecursion}
use Rattle.std.specs.Str.{bytes_eq}
use Rattle.std.proofs.lemmas.List.{length-map}
use Rattle.cash_base.specs.declared.place.Span.{Span}
use Rattle.cash_base.specs.declared.place.Slot.{Slot}
use Rattle.cash_base.specs.Source.{text_at}
use Rattle.cash_tree.specs.declared.Param.{Param}
use Rattle.cash_tree.specs.declared.ExprKind.TheOpen.{ExprKind-F, Expr-F}
use Rattle.cash_tree.specs.declared.ExprKind.TheViews.{roll-Expr, roll-ExprKind}
use Rattle.cash_tree.specs.declared.ExprKind.TheFolds.{fold-Expr, fold-ExprKind, ind-Expr, fold-roll-Expr, fold-roll-ExprKind, map-ExprKind}
use Rattle.cash_tree.specs.Nodes.{joined}
use Rattle.name_scopes.specs.declared.scope.Variable.{Variable}
use Rattle.name_scopes.specs.Names.{Names, Entry, find, look, slot, slot_of, slot_at, declared, variable, with_variable, after}
use Rattle.name_scopes.specs.Wants.{Want, IsGranted, AreGranted}
use Rattle.cash_names.specs.Expressions.{Expression, Kind, NamedExpr, kind_wants, node_wants, wants_of, joined as joined_wants, callee_wants, with_slots}
use Rattle.cash_names.specs.Outline.{Statement, NamedStmt, FunctionTree, NamedFunction, Tree, NamedTree, slotted}
use Rattle.cash_names.specs.Scopes as scopes
use Rattle.cash_names.specs.Scopes.{NamesExpr, NamesStmt, NamesAll, NamesParams, NamesFunctions, IsNamed}
use Rattle.cash_names.specs.Definitions.{Definition, definition, definitions, param_definitions, function_definitions, expression_kind_uses, node_uses, expression_uses, kind_uses, stmt_uses, uses, function_uses, HasSlotsDefined}
use Rattle.cash_names.proofs.Kept.{layer, node, early_kind, early, fused}
use Rattle.cash_names.proofs.Numbered.{Runs, stmt_runs, all_run, params_run, further}
use Rattle.cash_names.proofs.Rows.{at_define, at_pair, at_assign, at_time, at_age, at_require, at_if}

record Below (count : ℕ) (slots : List Slot) : Type 0 where
  pub all : AllByRecursion (λ s. s.0 < count) slots

none_below : {count : ℕ} → Below count []
none_below = record { all = tt }

join : (count : ℕ) (a b : List Slot) → AllByRecursion (λ s. s.0 < count) a → AllByRecursion (λ s. s.0 < count) b
    → AllByRecursion (λ s. s.0 < count) (a ++ b)
join count [] b h k = k
join count (x ∷ a) b h k = (h.0, join count a b h.1 k)

both_below : {count : ℕ} {a b : List Slot} → Below count a → Below count b → Below count (a ++ b)
both_below {count} {a} {b} p q = record { all = join count a b p.all q.all }

widen : (count more : ℕ) (a : List Slot) → count ≤ more → AllByRecursion (λ s. s.0 < count) a
    → AllByRecursion (λ s. s.0 < more) a
widen count more [] h k = tt
widen count more (x ∷ a) h k =
    let first = k.0 in
    let here : x.0 < more = omega (arith, first, h) in
    (here, widen count more a h k.1)

wider : {count more : ℕ} {a : List Slot} → count ≤ more → Below count a → Below more a
wider {count} {more} {a} h p = record { all = widen count more a h p.all }

below_by : {count : ℕ} {a b : List Slot} → a ≡ b → Below count b → Below count a
below_by {count} p h = subst (Below count) (sym p) h

-- ---- names in scope

record Filled (count : ℕ) (known : List Entry) : Type 0 where
  pub all : AllByRecursion (λ e. e.1.slot.0 < count) known

by_test : (count : ℕ) (t : Bool) (first v : Variable) (rest : Option Variable) → first.slot.0 < count
    → (rest ≡ Some v → v.slot.0 < count) → (if t then Some first else rest) ≡ Some v → v.slot.0 < count
by_test count true first v rest here more same =
    let one : first ≡ v = cc in subst (λ (v : Variable). v.slot.0 < count) one here
by_test count false first v rest here more same = more same

found : (count : ℕ) (name : List ℕ) (es : List Entry) (v : Variable) → AllByRecursion (λ e. e.1.slot.0 < count) es
    → find name es ≡ Some v → v.slot.0 < count
found count name [] v all is = absurd cc
found count name (e ∷ es) v all is =
    by_test count (bytes_eq name e.0) e.1 v (find name es) all.0 (λ same. found count name es v all.1 same) is

slot_below : (source : List ℕ) (names : Names) (span : Span) (v : Variable) → Filled names.next names.known
    → look (text_at source span) names ≡ Some v → Below names.next (slot_at source names span ∷ [])
slot_below source names span v filled is =
    let here = found names.next (text_at source span) names.known v filled.all is in
    let same : slot_at source names span ≡ v.slot = ap slot_of is in
    record { all = (subst (λ (s : Slot). s.0 < names.next) (sym same) here, tt) }

-- ---- expressions

apart : (source : List ℕ) (a b : List Want) → AreGranted source (a ++ b) → AreGranted source a × AreGranted source b
apart source [] b h = (tt, h)
apart source (w ∷ a) b h = let r = apart source a b h.1 in ((h.0, r.0), r.1)

abbrev kind_wants_of : Names → Kind → List Want
kind_wants_of names = fold-ExprKind Span (Unit {0}) (List Want) (List Want) (kind_wants names) node_wants

abbrev slots_of_kind : List ℕ → Names → Kind → List Slot
slots_of_kind source names = early_kind (slot_at source names) expression_kind_uses node_uses

abbrev slots_of : List ℕ → Names → Expression → List Slot
slots_of source names = early (slot_at source names) expression_kind_uses node_uses

abbrev KindUsed : List ℕ → Names → Kind → Type 0
KindUsed source names kind = AreGranted source (kind_wants_of names kind) → Below names.next (slots_of_kind source names kind)

abbrev ExprUsed : List ℕ → Names → Expression → Type 0
ExprUsed source names e = AreGranted source (wants_of names e) → Below names.next (slots_of source names e)

abbrev Kinds : List ℕ → Names → Type 0
Kinds source names = (kind : Kind) × KindUsed source names kind

abbrev Exprs : List ℕ → Names → Type 0
Exprs source names = (e : Expression) × ExprUsed source names e

abbrev kind_parts : (source : List ℕ) (names : Names) → ExprKind-F Span (Unit {0}) (Kinds source names) (Exprs source names) → ExprKind-F Span (Unit {0}) Kind Expression
kind_parts source names = map-ExprKind Span (Unit {0}) (Kinds source names) (Exprs source names) Kind Expression (λ k. k.0) (λ e. e.0)

abbrev kind_lists : Names → ExprKind-F Span (Unit {0}) Kind Expression → ExprKind-F Span (Unit {0}) (List Want) (List Want)
kind_lists names = map-ExprKind Span (Unit {0}) Kind Expression (List Want) (List Want) (kind_wants_of names) (wants_of names)

abbrev kind_slots : List ℕ → Names → ExprKind-F Span (Unit {0}) Kind Expression → ExprKind-F Span (Unit {0}) (List Slot) (List Slot)
kind_slots source names = map-ExprKind Span (Unit {0}) Kind Expression (List Slot) (List Slot) (slots_of_kind source names) (slots_of source names)

list_used : (source : List ℕ) (names : Names) (es : List (Exprs source names))
    → AreGranted source (joined_wants (map (wants_of names) (map (λ e. e.0) es)))
    → Below names.next (joined (map (slots_of source names) (map (λ e. e.0) es)))
list_used source names [] h = none_below
list_used source names (e ∷ es) h =
    let r = apart source (wants_of names e.0) (joined_wants (map (wants_of names) (map (λ e. e.0) es))) h in
    both_below (e.1 r.0) (list_used source names es r.1)

two_used : (source : List ℕ) (names : Names) (x y : Exprs source names) → AreGranted source (wants_of names x.0 ++ wants_of names y.0)
    → Below names.next (slots_of source names x.0 ++ slots_of source names y.0)
two_used source names x y h =
    let r = apart source (wants_of names x.0) (wants_of names y.0) h in both_below (x.1 r.0) (y.1 r.1)

call_used : (source : List ℕ) (names : Names) (front : List Want) (es : List (Exprs source names))
    → AreGranted source (front ++ joined_wants (map (wants_of names) (map (λ e. e.0) es)))
    → Below names.next (joined (map (slots_of source names) (map (λ e. e.0) es)))
call_used source names front es h =
    list_used source names es (apart source front (joined_wants (map (wants_of names) (map (λ e. e.0) es))) h).1

step : (source : List ℕ) (names : Names) → Filled names.next names.known
    → (y : ExprKind-F Span (Unit {0}) (Kinds source names) (Exprs source names))
    → AreGranted source (kind_wants names (kind_lists names (kind_parts source names y)))
    → Below names.next (expression_kind_uses (layer (slot_at source names) (kind_slots source names (kind_parts source names y))))
step source names filled (ExprKind-F.Name span) h = slot_below source names span h.0.0 filled h.0.1
step source names filled (ExprKind-F.Unary op value) h = value.1 h
step source names filled (ExprKind-F.Binary op left right) h = two_used source names left right h
step source names filled (ExprKind-F.Length value) h = value.1 h
step source names filled (ExprKind-F.Reverse value) h = value.1 h
step source names filled (ExprKind-F.Split value at) h = two_used source names value at h
step source names filled (ExprKind-F.Index pair number) h = pair.1 h
step source names filled (ExprKind-F.Cast to value None) h =
    both_below (value.1 (apart source (wants_of names value.0) [] h).0) none_below
step source names filled (ExprKind-F.Cast to value (Some size)) h = two_used source names value size h
step source names filled (ExprKind-F.Call callee args) h = call_used source names (callee_wants callee) args h
step source names filled (ExprKind-F.New callee args) h = call_used source names (callee_wants callee) args h
step source names filled (ExprKind-F.Array items) h = list_used source names items h
step source names filled (ExprKind-F.LookAt look index) h = index.1 h
step source names filled _ h = none_below

early_used : (source : List ℕ) (names : Names) → Filled names.next names.known → (e : Expression) → ExprUsed source names e
early_used source names filled = ind-Expr Span (Unit {0}) (KindUsed source names) (ExprUsed source names)
    (λ x y is. subst (λ z. KindUsed source names (roll-ExprKind Span (Unit {0}) z)) is (λ h.
    let p = kind_parts source names y in
    let wants = fold-roll-ExprKind Span (Unit {0}) (List Want) (List Want) (kind_wants names) node_wants p in
    let slots = fold-roll-ExprKind Span (Unit {0}) (List Slot) (List Slot) (λ y. expression_kind_uses (layer (slot_at source names) y)) (λ e. node_uses (node e)) p in
    below_by slots (step source names filled y (subst (AreGranted source) wants h))))
    (λ x y is. subst (λ z. ExprUsed source names (roll-Expr Span (Unit {0}) z)) is (λ h.
    let e : Expr-F Span (Unit {0}) Kind Expression = record { kind = y.kind.0; ty = y.ty; span = y.span } in
    let wants = fold-roll-Expr Span (Unit {0}) (List Want) (List Want) (kind_wants names) node_wants e in
    let slots = fold-roll-Expr Span (Unit {0}) (List Slot) (List Slot) (λ y. expression_kind_uses (layer (slot_at source names) y)) (λ e. node_uses (node e)) e in
    below_by slots (y.kind.1 (subst (AreGranted source) wants h))))

expr_used : (source : List ℕ) (names : Names) → Filled names.next names.known → (e : Expression) (x : NamedExpr)
    → NamesExpr source names e x → Below names.next (expression_uses x)
expr_used source names filled e x h =
    below_by (ap (λ (x : NamedExpr). expression_uses x) h.1 ∙ fused (slot_at source names) expression_kind_uses node_uses e)
    (early_used source names filled e h.0)

-- ---- statements

more_filled : (count : ℕ) (name : List ℕ) (constant : Bool) (es : List Entry)
    → AllByRecursion (λ e. e.1.slot.0 < count) es
    → AllByRecursion (λ e. e.1.slot.0 < count + 1) (es ++ (name, variable count constant) ∷ [])
more_filled count name constant [] h = let within : count < count + 1 = omega arith in (within, tt)
more_filled count name constant (e ∷ es) h =
    let first = h.0 in
    let here : e.1.slot.0 < count + 1 = omega (arith, first) in
    (here, more_filled count name constant es h.1)

fill : (count : ℕ) (name : List ℕ) (constant : Bool) (known : List Entry) → Filled count known
    → Filled (count + 1) (known ++ (name, variable count constant) ∷ [])
fill count name constant known p = record { all = more_filled count name constant known p.all }

still : (count more : ℕ) (es : List Entry) → count ≤ more → AllByRecursion (λ e. e.1.slot.0 < count) es
    → AllByRecursion (λ e. e.1.slot.0 < more) es
still count more [] h k = tt
still count more (e ∷ es) h k =
    let first = k.0 in
    let here : e.1.slot.0 < more = omega (arith, first, h) in
    (here, still count more es h k.1)

later_filled : (count more : ℕ) (known : List Entry) → count ≤ more → Filled count known → Filled more known
later_filled count more known h p = record { all = still count more known h p.all }

-- numbers only rise
risen : {from to : ℕ} {slots : List (Definition Slot)} → Runs from slots to → from ≤ to
risen {from} {to} {slots} r = let size = r.size in omega (arith, size)

mutual
  stmt_used : {source : List ℕ} {names later : Names} {s : Statement} {t : NamedStmt} → NamesStmt source names s t later
      → Filled names.next names.known → Filled later.next later.known × Below later.next (uses t)
  stmt_used {source = source} (scopes.define names ty constant name place e x span new h) filled =
      let more : names.next ≤ names.next + 1 = omega arith in (
        fill names.next (text_at source name) constant names.known filled,
        below_by (at_define kind_uses stmt_uses ty constant (slot names.next) place x span) (wider more (expr_used source names filled e x h)),
      )
  stmt_used {source = source} (scopes.pair names middle left right e x span is new new' h) filled =
      let rise = ap (λ (n : Names). n.next) is in
      let more : names.next ≤ middle.next + 1 = omega (arith, rise) in
      let between : Filled middle.next middle.known = subst (λ (n : Names). Filled n.next n.known) (sym is) (fill names.next (text_at source left.name) false names.known filled) in (
        fill middle.next (text_at source right.name) false middle.known between,
        below_by (at_pair kind_uses stmt_uses (slotted left names.next) (slotted right middle.next) x span) (wider more (expr_used source names filled e x h)),
      )
  stmt_used {source = source} (scopes.assign names name e x span free h) filled =
      (filled, below_by (at_assign kind_uses stmt_uses (slot_at source names name) x span) (both_below (slot_below source names name free.0 filled free.1) (expr_used source names filled e x h)))
  stmt_used {source = source} (scopes.time names e x span h) filled =
      (filled, below_by (at_time kind_uses stmt_uses x span) (expr_used source names filled e x h))
  stmt_used {source = source} (scopes.age names e x span h) filled =
      (filled, below_by (at_age kind_uses stmt_uses x span) (expr_used source names filled e x h))
  stmt_used {source = source} (scopes.require names e x span h) filled =
      (filled, below_by (at_require kind_uses stmt_uses x span) (expr_used source names filled e x h))
  stmt_used {source = source} (scopes.if_only names inner e x ss ts span h k) filled =
      let r = all_used k filled in
      let more = risen (all_run k) in (
        later_filled names.next inner.next names.known more filled,
        below_by (at_if kind_uses stmt_uses x ts None span) (both_below (wider more (expr_used source names filled e x h)) (both_below r.1 none_below)),
      )
  stmt_used {source = source} (scopes.if_else names inner inner' e x ss ss' ts ts' span h k m) filled =
      let r = all_used k filled in
      let more = risen (all_run k) in
      let between = later_filled names.next inner.next names.known more filled in
      let r' = all_used m between in
      let more' = risen (all_run m) in
      let both : names.next ≤ inner'.next = omega (arith, more, more') in (
        later_filled names.next inner'.next names.known both filled,
        below_by (at_if kind_uses stmt_uses x ts (Some ts') span)
            (both_below (wider both (expr_used source names filled e x h)) (both_below (wider more' r.1) r'.1)),
      )

  all_used : {source : List ℕ} {names later : Names} {ss : List Statement} {ts : List NamedStmt} → NamesAll source names ss ts later
      → Filled names.next names.known → Filled later.next later.known × Below later.next (joined (map uses ts))
  all_used (scopes.done names) filled = (filled, none_below)
  all_used (scopes.step names middle later s ss t ts h hs) filled =
      let one = stmt_used h filled in
      let rest = all_used hs one.0 in
      (rest.0, both_below (wider (risen (all_run hs)) one.1) rest.1)

-- ---- functions and the contract

params_fill : {source : List ℕ} {names later : Names} {ps : List (Param Span)} {qs : List (Param Slot)} → NamesParams source names ps qs later
    → Filled names.next names.known → Filled later.next later.known
params_fill (scopes.no_param names) filled = filled
params_fill {source = source} (scopes.next_param names later p ps qs new rest) filled =
    params_fill rest (fill names.next (text_at source p.name) false names.known filled)

functions_used : {source : List ℕ} {first names later : Names} {fs : List FunctionTree} {gs : List NamedFunction} (count : ℕ)
    → first.next ≡ count → Filled first.next first.known → NamesFunctions source first names fs gs later
    → AllByRecursion (λ g. AllByRecursion (λ s. s.0 < count + length (function_definitions g)) (function_uses g)) gs
functions_used count is filled (scopes.no_function functions) = tt
functions_used {first = first} count is filled (scopes.next_function functions later inner last name span ps qs ss ts fs gs new params body rest) =
    let r = all_used body (params_fill params filled) in
    let defined = param_definitions qs ++ joined (map definitions ts) in
    let size = (further (params_run params) (all_run body)).size in
    let within : last.next ≤ count + length defined = omega (arith, size, is) in
    ((wider within r.1).all, functions_used count is filled rest)

pub slots_defined : (source : List ℕ) (tree : Tree) (t : NamedTree) → IsNamed source tree t → HasSlotsDefined t
slots_defined source _ _ (scopes.contract ctor functions name span pragmas ps qs f fs gs admitted params calls) =
    let start : Filled 0 [] = record { all = tt } in
    let size : length (param_definitions qs) ≡ length qs = length-map qs (λ (q : Param Slot). definition q.name q.place) in
    let count = (params_run params).size in
    functions_used (length qs) (omega (arith, size, count)) (params_fill params start) calls
