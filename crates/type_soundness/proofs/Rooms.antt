-- The room of a run has places for what is named and typed.
use Rattle.std.proofs.Common.{◌≡◌, ◌∙◌, ℕ, zero, suc, ◌+◌, ◌<◌, ◌≤◌, Bool, true, false, ◌&&◌, List, [], ◌∷◌, ◌++◌, map, Some, None, refl, sym, ap, subst, arith}
use Rattle.std.specs.Prelude.{slice_get}
use Rattle.std.specs.List.{AllByRecursion}
use Rattle.std.proofs.lemmas.Bool.{lt-ltb, ltb-true, le-leb}
use Rattle.cash_base.specs.declared.place.Span.{Span}
use Rattle.cash_base.specs.declared.place.Slot.{Slot}
use Rattle.cash_base.specs.Source.{text_at}
use Rattle.cash_tree.specs.declared.Ty.{Ty}
use Rattle.cash_tree.specs.declared.Param.{Param}
use Rattle.cash_tree.specs.declared.StmtKind.TheOpen.{StmtKind-F, Stmt-F}
use Rattle.cash_tree.specs.declared.StmtKind.TheViews.{roll-StmtKind}
use Rattle.cash_tree.specs.declared.StmtKind.TheFolds.{fold-roll-Stmt, fold-roll-StmtKind, map-StmtKind}
use Rattle.cash_tree.specs.Nodes.{joined, kind_values, values, tree_values, nodes, AreSmall, most_nodes}
use Rattle.name_scopes.specs.declared.scope.Variable.{Variable}
use Rattle.name_scopes.specs.Names.{Names, no_names, opened, most_params, most_functions, most_definitions, look, has_room as may_declare, slot, slot_of, slot_at, declared, with_variable, after as scopes_after}
use Rattle.cash_names.specs.Outline.{Statement, Tree, NamedTree, FunctionTree, NamedFunction, slotted}
use Rattle.cash_names.specs.Scopes as scopes
use Rattle.cash_names.specs.Scopes.{NamesStmt, NamesAll, NamesParams, NamesFunctions, IsNamed}
use Rattle.cash_names.proofs.TreeKept.{tree_small}
use Rattle.type_tables.specs.Tables.{TypedExpr, Env as Types}
use Rattle.type_check.specs.Shapes.{NamedExpr, NamedStmt, TypedStmt, TypedStmtKind, stmt_of, with_params}
use Rattle.type_check.specs.Outline.{TypedFunction, TypedContract, function_of, contract_of}
use Rattle.type_check.specs.Typing.{TypesStmt, TypesRun, TypesFunction, TypesFunctions}
use Rattle.type_check.proofs.Laws.{are_alike}
use Rattle.source_meaning.specs.Runnable.{has_place, node_count, is_small, all_of, kind_fits, node_fits, has_room, kind_has_room, params_have_room}
use Rattle.type_soundness.specs.Room.{ContractsHaveRoom}
use Rattle.type_soundness.proofs.Scopes.{found_below}
use Rattle.type_soundness.proofs.Parts.{StmtParts, stmt_parts, run_parts, TypedLayer, kind_values_of, holds_values}
use Rattle.type_soundness.proofs.Whole.{function_parts, functions_parts, contract_parts}

-- ---- tests

both : (a b : Bool) → a ≡ true → b ≡ true → (a && b) ≡ true
both a b p q = ap (λ c. c && b) p ∙ q

placed : (s : Slot) (limit : ℕ) → s.0 < limit → limit ≤ 160 → has_place s ≡ true
placed s limit less small = lt-ltb s.0 160 (omega (arith, less, small))

small : (e : TypedExpr) → nodes e ≤ most_nodes → is_small e ≡ true
unfolding node_count
small e few = le-leb (nodes e) most_nodes few

-- ---- names

-- the names in scope have slots below the next one, and slots stay below the room's number of places
record Fitted (names : Names) : Type 0 where
  below : (q : List ℕ) (v : Variable) → look q names ≡ Some v → v.slot.0 < names.next
  next : names.next ≤ names.limit
  limit : names.limit ≤ 160

-- after more names
record Roomy (names later : Names) (room : Bool) : Type 0 where
  fitted : Fitted later
  rise : names.next ≤ later.next
  same : later.limit ≡ names.limit
  holds : room ≡ true

declares : (names : Names) (name : List ℕ) (constant : Bool) → Fitted names → may_declare names ≡ true → Fitted (declared name constant names)
declares names name constant h free = record {
  below = λ q v is. found_below names.next q name constant names.known (h.below q) v is;
  next = (let less = ltb-true names.next names.limit free in omega (arith, less));
  limit = h.limit;
}

-- ---- a typed statement by its layer

has_room_by : (layer : TypedLayer) (span : Span)
    → has_room (stmt_of Ty (roll-StmtKind Slot Ty layer) span)
    ≡ kind_fits (map-StmtKind Slot Ty TypedStmtKind TypedStmt Bool Bool kind_has_room has_room layer)
unfolding has_room kind_has_room
has_room_by layer span =
    let whole : Stmt-F Slot Ty TypedStmtKind TypedStmt = record { kind = roll-StmtKind Slot Ty layer; span = span } in
    fold-roll-Stmt Slot Ty Bool Bool kind_fits node_fits whole ∙ fold-roll-StmtKind Slot Ty Bool Bool kind_fits node_fits layer

abbrev stmt_at : TypedLayer → Span → TypedStmt
stmt_at layer span = stmt_of Ty (roll-StmtKind Slot Ty layer) span

fits_by : (layer : TypedLayer) (span : Span) (t : TypedStmt) → t ≡ stmt_at layer span
    → kind_fits (map-StmtKind Slot Ty TypedStmtKind TypedStmt Bool Bool kind_has_room has_room layer) ≡ true → has_room t ≡ true
fits_by layer span t is h = ap has_room is ∙ has_room_by layer span ∙ h

small_in : (layer : TypedLayer) (span : Span) (t : TypedStmt) → t ≡ stmt_at layer span → AreSmall (values t)
    → AreSmall (kind_values (map-StmtKind Slot Ty TypedStmtKind TypedStmt (List TypedExpr) (List TypedExpr) kind_values_of values layer))
small_in layer span t is h = subst AreSmall (ap values is ∙ holds_values layer span) h

small_apart : (xs ys : List TypedExpr) → AreSmall (xs ++ ys) → AreSmall xs × AreSmall ys
small_apart [] ys h = (tt, h)
small_apart (x ∷ xs) ys h = let r = small_apart xs ys h.1 in ((h.0, r.0), r.1)

-- ---- statements

define_room : (names : Names) (types : Types) (name : List ℕ) (constant : Bool) (w : Ty) (place : Span) (e : NamedExpr) (span : Span) (t : TypedStmt) (after : Types)
    → Fitted names → may_declare names ≡ true → StmtParts types (StmtKind-F.Define w constant (slot names.next) place e) span t after → AreSmall (values t)
    → Roomy names (declared name constant names) (has_room t)
unfolding roll-StmtKind denote.Hole.Carrier.roll
define_room names types name constant w place e span t after h free p few =
    let x = p.parts.0.x in
    let layer : TypedLayer = StmtKind-F.Define w constant (slot names.next) place x in
    let is : t ≡ stmt_at layer span = p.is ∙ ap (λ k. stmt_of Ty k span) p.parts.0.is in
    let inside = small_in layer span t is few in
    let less = ltb-true names.next names.limit free in
    record {
      fitted = declares names name constant h free;
      rise = omega arith;
      same = refl;
      holds = fits_by layer span t is (both (has_place (slot names.next)) (is_small x) (placed (slot names.next) names.limit less h.limit) (small x inside.0));
    }

pair_room : (source : List ℕ) (names : Names) (types : Types) (left right : Param Span) (e : NamedExpr) (span : Span) (t : TypedStmt) (after : Types)
    → Fitted names → may_declare names ≡ true → may_declare (with_variable source left.name names) ≡ true
    → StmtParts types (StmtKind-F.Pair (slotted left names.next) (slotted right (names.next + 1)) e) span t after → AreSmall (values t)
    → Roomy names (with_variable source right.name (with_variable source left.name names)) (has_room t)
unfolding roll-StmtKind denote.Hole.Carrier.roll
pair_room source names types left right e span t after h free free' p few =
    let x = p.parts.0.x in
    let n = names.next in
    let layer : TypedLayer = StmtKind-F.Pair (slotted left n) (slotted right (n + 1)) x in
    let is : t ≡ stmt_at layer span = p.is ∙ ap (λ k. stmt_of Ty k span) p.parts.0.is in
    let inside = small_in layer span t is few in
    let middle = with_variable source left.name names in
    let less = ltb-true n names.limit free in
    let less' = ltb-true (n + 1) names.limit free' in
    let first = declares names (text_at source left.name) false h free in
    record {
      fitted = declares middle (text_at source right.name) false first free';
      rise = omega arith;
      same = refl;
      holds = fits_by layer span t is (both (has_place (slot n)) (has_place (slot (n + 1)) && is_small x) (placed (slot n) names.limit less h.limit)
          (both (has_place (slot (n + 1))) (is_small x) (placed (slot (n + 1)) names.limit less' h.limit) (small x inside.0)));
    }

assign_room : (names : Names) (types : Types) (name : Slot) (e : NamedExpr) (span : Span) (t : TypedStmt) (after : Types)
    → Fitted names → name.0 < names.next → StmtParts types (StmtKind-F.Assign name e) span t after → AreSmall (values t) → Roomy names names (has_room t)
unfolding roll-StmtKind denote.Hole.Carrier.roll
assign_room names types name e span t after h known p few =
    let x = p.parts.0.x in
    let layer : TypedLayer = StmtKind-F.Assign name x in
    let is : t ≡ stmt_at layer span = p.is ∙ ap (λ k. stmt_of Ty k span) p.parts.0.is in
    let inside = small_in layer span t is few in
    let next = h.next in
    let less : name.0 < names.limit = omega (arith, known, next) in
    record { fitted = h; rise = omega arith; same = refl; holds = fits_by layer span t is (both (has_place name) (is_small x) (placed name names.limit less h.limit) (small x inside.0)) }

time_room : (names : Names) (types : Types) (e : NamedExpr) (span : Span) (t : TypedStmt) (after : Types)
    → Fitted names → StmtParts types (StmtKind-F.Time e) span t after → AreSmall (values t) → Roomy names names (has_room t)
unfolding roll-StmtKind denote.Hole.Carrier.roll
time_room names types e span t after h p few =
    let x = p.parts.0.x in
    let layer : TypedLayer = StmtKind-F.Time x in
    let is : t ≡ stmt_at layer span = p.is ∙ ap (λ k. stmt_of Ty k span) p.parts.0.is in
    record { fitted = h; rise = omega arith; same = refl; holds = fits_by layer span t is (small x (small_in layer span t is few).0) }

age_room : (names : Names) (types : Types) (e : NamedExpr) (span : Span) (t : TypedStmt) (after : Types)
    → Fitted names → StmtParts types (StmtKind-F.Age e) span t after → AreSmall (values t) → Roomy names names (has_room t)
unfolding roll-StmtKind denote.Hole.Carrier.roll
age_room names types e span t after h p few =
    let x = p.parts.0.x in
    let layer : TypedLayer = StmtKind-F.Age x in
    let is : t ≡ stmt_at layer span = p.is ∙ ap (λ k. stmt_of Ty k span) p.parts.0.is in
    record { fitted = h; rise = omega arith; same = refl; holds = fits_by layer span t is (small x (small_in layer span t is few).0) }

require_room : (names : Names) (types : Types) (e : NamedExpr) (span : Span) (t : TypedStmt) (after : Types)
    → Fitted names → StmtParts types (StmtKind-F.Require e) span t after → AreSmall (values t) → Roomy names names (has_room t)
unfolding roll-StmtKind denote.Hole.Carrier.roll
require_room names types e span t after h p few =
    let x = p.parts.0.x in
    let layer : TypedLayer = StmtKind-F.Require x in
    let is : t ≡ stmt_at layer span = p.is ∙ ap (λ k. stmt_of Ty k span) p.parts.0.is in
    record { fitted = h; rise = omega arith; same = refl; holds = fits_by layer span t is (small x (small_in layer span t is few).0) }

-- after a block, whose names end with it
ended : (names inner : Names) → Fitted names → Fitted inner → names.next ≤ inner.next → Fitted (scopes_after names inner)
ended names inner h k rise = record {
  below = λ q v is. let less = h.below q v is in omega (arith, less, rise);
  next = k.next;
  limit = k.limit;
}

mutual
  unfolding roll-StmtKind denote.Hole.Carrier.roll

  stmt_room : (source : List ℕ) (names later : Names) (st : Statement) (named : NamedStmt) (types : Types) (t : TypedStmt) (after : Types)
      → NamesStmt source names st named later → Fitted names → TypesStmt types named t after → AreSmall (values t) → Roomy names later (has_room t)
  stmt_room source _ _ _ _ types t after (scopes.define names w constant name place e x span new h) fitted typed few =
      define_room names types (text_at source name) constant w place x span t after fitted new.1
      (stmt_parts types (StmtKind-F.Define w constant (slot names.next) place x) span t after typed) few
  stmt_room source _ _ _ _ types t after (scopes.pair names middle left right e x span is new new' h) fitted typed few =
      let next : middle.next ≡ names.next + 1 = ap (λ (n : Names). n.next) is in
      let parts = stmt_parts types (StmtKind-F.Pair (slotted left names.next) (slotted right middle.next) x) span t after typed in
      let aligned : StmtParts types (StmtKind-F.Pair (slotted left names.next) (slotted right (names.next + 1)) x) span t after =
      subst (λ m. StmtParts types (StmtKind-F.Pair (slotted left names.next) (slotted right m) x) span t after) next parts in
      let free : may_declare (with_variable source left.name names) ≡ true = ap may_declare (sym is) ∙ new'.1 in
      subst (λ m. Roomy names (with_variable source right.name m) (has_room t)) (sym is)
      (pair_room source names types left right x span t after fitted new.1 free aligned few)
  stmt_room source _ _ _ _ types t after (scopes.assign names name e x span free h) fitted typed few =
      let found = fitted.below (text_at source name) free.0 free.1 in
      let known : (slot_at source names name).0 < names.next = subst (λ (a : Slot). a.0 < names.next) (sym (ap slot_of free.1)) found in
      assign_room names types (slot_at source names name) x span t after fitted known
      (stmt_parts types (StmtKind-F.Assign (slot_at source names name) x) span t after typed) few
  stmt_room source _ _ _ _ types t after (scopes.time names e x span h) fitted typed few =
      time_room names types x span t after fitted (stmt_parts types (StmtKind-F.Time x) span t after typed) few
  stmt_room source _ _ _ _ types t after (scopes.age names e x span h) fitted typed few =
      age_room names types x span t after fitted (stmt_parts types (StmtKind-F.Age x) span t after typed) few
  stmt_room source _ _ _ _ types t after (scopes.require names e x span h) fitted typed few =
      require_room names types x span t after fitted (stmt_parts types (StmtKind-F.Require x) span t after typed) few
  stmt_room source _ _ _ _ types t after (scopes.if_only names inner e x ss ts span h k) fitted typed few =
      let p = stmt_parts types (StmtKind-F.If x ts None) span t after typed in
      let y = p.parts.x in
      let us = p.parts.ts in
      let layer : TypedLayer = StmtKind-F.If y us None in
      let is : t ≡ stmt_at layer span = p.is ∙ ap (λ k. stmt_of Ty k span) p.parts.is in
      let inside = small_in layer span t is few in
      let body = all_room source names inner ss ts types us after k fitted p.parts.body (small_apart (joined (map values us)) [] inside.1).0 in
      record {
        fitted = ended names inner fitted body.fitted body.rise;
        rise = body.rise;
        same = body.same;
        holds = fits_by layer span t is (both (is_small y) (all_of (map has_room us) && true) (small y inside.0) (both (all_of (map has_room us)) true body.holds refl));
      }
  stmt_room source _ _ _ _ types t after (scopes.if_else names inner inner' e x ss ss' ts ts' span h k k') fitted typed few =
      let p = stmt_parts types (StmtKind-F.If x ts (Some ts')) span t after typed in
      let y = p.parts.x in
      let us = p.parts.ts in
      let vs = p.parts.vs in
      let layer : TypedLayer = StmtKind-F.If y us (Some vs) in
      let is : t ≡ stmt_at layer span = p.is ∙ ap (λ k. stmt_of Ty k span) p.parts.is in
      let inside = small_in layer span t is few in
      let apart = small_apart (joined (map values us)) (joined (map values vs)) inside.1 in
      let body = all_room source names inner ss ts types us p.parts.middle k fitted p.parts.body apart.0 in
      let between = ended names inner fitted body.fitted body.rise in
      let other = all_room source (scopes_after names inner) inner' ss' ts' p.parts.middle vs after k' between p.parts.other apart.1 in
      let rise = body.rise in
      let rise' = other.rise in
      record {
        fitted = ended (scopes_after names inner) inner' between other.fitted other.rise;
        rise = omega (arith, rise, rise');
        same = other.same ∙ body.same;
        holds = fits_by layer span t is (both (is_small y) (all_of (map has_room us) && all_of (map has_room vs)) (small y inside.0)
            (both (all_of (map has_room us)) (all_of (map has_room vs)) body.holds other.holds));
      }

  all_room : (source : List ℕ) (names later : Names) (st : List Statement) (named : List NamedStmt) (types : Types) (ts : List TypedStmt) (after : Types)
      → NamesAll source names st named later → Fitted names → TypesRun types named ts after → AreSmall (joined (map values ts)) → Roomy names later (all_of (map has_room ts))
  all_room source _ _ _ _ types ts after (scopes.done names) fitted typed few =
      let p = run_parts types [] ts after typed in
      record { fitted = fitted; rise = omega arith; same = refl; holds = ap (λ us. all_of (map has_room us)) p.0 }
  all_room source _ _ _ _ types ts after (scopes.step names middle later st sts named nameds h hs) fitted typed few =
      let p = run_parts types (named ∷ nameds) ts after typed in
      let whole : AreSmall (values p.t ++ joined (map values p.rest)) = subst (λ us. AreSmall (joined (map values us))) p.is few in
      let apart = small_apart (values p.t) (joined (map values p.rest)) whole in
      let first = stmt_room source names middle st named types p.t p.middle h fitted p.first apart.0 in
      let rest = all_room source middle later sts nameds p.middle p.rest after hs first.fitted p.others apart.1 in
      let rise = first.rise in
      let rise' = rest.rise in
      record {
        fitted = rest.fitted;
        rise = omega (arith, rise, rise');
        same = rest.same ∙ first.same;
        holds = ap (λ us. all_of (map has_room us)) p.is ∙ both (has_room p.t) (all_of (map has_room p.rest)) first.holds rest.holds;
      }

-- ---- parameters and functions

params_room : (source : List ℕ) (names later : Names) (ps : List (Param Span)) (qs : List (Param Slot)) → NamesParams source names ps qs later → Fitted names
    → Roomy names later (params_have_room qs)
params_room source _ _ _ _ (scopes.no_param names) h = record { fitted = h; rise = omega arith; same = refl; holds = refl }
params_room source _ _ _ _ (scopes.next_param names later p ps qs new rest) h =
    let less = ltb-true names.next names.limit new.1 in
    let others = params_room source (with_variable source p.name names) later ps qs rest (declares names (text_at source p.name) false h new.1) in
    let rise = others.rise in
    record {
      fitted = others.fitted;
      rise = omega (arith, rise);
      same = others.same;
      holds = both (has_place (slot names.next)) (params_have_room qs) (placed (slot names.next) names.limit less h.limit) others.holds;
    }

record HasPlaces (g : TypedFunction) : Type 0 where
  args : params_have_room g.params ≡ true
  body : all_of (map has_room g.body) ≡ true

-- more names may be declared, up to the room's number of places
opens : (names : Names) (room : ℕ) → Fitted names → names.next + room ≤ 160 → Fitted (opened room names)
opens names room h within = record { below = h.below; next = omega arith; limit = within }

abbrev function_values : TypedFunction → List TypedExpr
function_values g = joined (map values g.body)

function_room : (source : List ℕ) (first inner last : Names) (types : Types) (f : NamedFunction) (g : TypedFunction) (ps : List (Param Span)) (ss : List Statement)
    → NamesParams source first ps f.params inner → NamesAll source (opened most_definitions inner) ss f.body last → Fitted first → first.limit ≤ 32
    → TypesFunction types f g → AreSmall (function_values g) → HasPlaces g
function_room source first inner last types f g ps ss params body h low typed few =
    let p = function_parts types f g typed in
    let small : AreSmall (joined (map values p.body)) = subst (λ (g : TypedFunction). AreSmall (function_values g)) (sym p.is) few in
    let own = params_room source first inner ps f.params params h in
    let same = own.same in
    let next = own.fitted.next in
    let more = opens inner most_definitions own.fitted (omega (arith, same, next, low)) in
    let runs = all_room source (opened most_definitions inner) last ss f.body (with_params f.params types) p.body p.after body more p.runs small in
    subst HasPlaces p.is (record { args = own.holds; body = runs.holds })

functions_room : (source : List ℕ) (first names later : Names) (types : Types) (fs : List FunctionTree) (named : List NamedFunction) (gs : List TypedFunction)
    → NamesFunctions source first names fs named later → Fitted first → first.limit ≤ 32 → TypesFunctions types named gs → AreSmall (joined (map function_values gs))
    → AllByRecursion HasPlaces gs
functions_room source first _ _ types _ _ gs (scopes.no_function names) h low typed few = subst (AllByRecursion HasPlaces) (sym (functions_parts types [] gs typed)) tt
functions_room source first _ _ types _ _ gs (scopes.next_function functions later inner last name span ps qs ss ts fs named new params body others) h low typed few =
    let f = scopes.function_of name span qs ts in
    let p = functions_parts types (f ∷ named) gs typed in
    let whole : AreSmall (function_values p.g ++ joined (map function_values p.rest)) = subst (λ gs. AreSmall (joined (map function_values gs))) p.is few in
    let apart = small_apart (function_values p.g) (joined (map function_values p.rest)) whole in
    let one = function_room source first inner last types f p.g ps ss params body h low p.first apart.0 in
    let rest = functions_room source first (with_variable source name functions) later types fs named p.rest others h low p.others apart.1 in
    subst (AllByRecursion HasPlaces) (sym p.is) (one, rest)

record ContractPlaces (typed : TypedContract) : Type 0 where
  ctor : params_have_room typed.params ≡ true
  functions : AllByRecursion HasPlaces typed.functions

no_names_yet : Fitted (opened most_params no_names)
no_names_yet = record { below = λ q v is. (let no : None ≡ Some v = is in absurd cc); next = omega arith; limit = omega arith }

contract_room : (source : List ℕ) (tree : Tree) (c : NamedTree) (functions : List TypedFunction) → IsNamed source tree c
    → TypesFunctions (with_params c.params []) c.functions functions → AreSmall (joined (map function_values functions)) → ContractPlaces (contract_of c functions)
contract_room source _ _ functions (scopes.contract ctor later name span pragmas ps qs f fs gs admitted params calls) typed few =
    let own = params_room source (opened most_params no_names) ctor ps qs params no_names_yet in
    let same = own.same in
    let next = own.fitted.next in
    let low : ctor.next + most_params ≤ 32 = omega (arith, same, next) in
    record {
      ctor = own.holds;
      functions = functions_room source (opened most_params ctor) (opened most_functions no_names) later (with_params qs []) (f ∷ fs) gs functions calls
          (opens ctor most_params own.fitted (omega (arith, low))) low typed few;
    }

all_at : (gs : List TypedFunction) (at : ℕ) (g : TypedFunction) → AllByRecursion HasPlaces gs → slice_get gs at ≡ Some g → HasPlaces g
all_at [] at g all is = absurd cc
all_at (h ∷ gs) zero g all is = let same : h ≡ g = cc in subst HasPlaces same all.0
all_at (h ∷ gs) (suc at) g all is = all_at gs at g all.1 is

abbrev PlacesIfSmall : TypedContract → Type 0
PlacesIfSmall typed = AreSmall (tree_values typed) → ContractPlaces typed

pub contracts_have_room : ContractsHaveRoom
contracts_have_room source tree named typed names types few place f found =
    let p = contract_parts named typed types in
    let inside = (are_alike named typed types).small (tree_small source tree named names few) in
    let all = (subst PlacesIfSmall p.is (λ small. contract_room source tree named p.functions names p.has_types small)) inside in
    let own = all_at typed.functions place f all.functions found in
    record {
      function = f;
      found = found;
      ctor_count = refl;
      arg_count = refl;
      ctor_room = all.ctor;
      arg_room = own.args;
      body_room = own.body;
    }
