-- Statements that are named and typed are as they should be.
use Rattle.std.proofs.Common.{◌≡◌, ◌∙◌, ap, sym, subst, refl, ℕ, ◌+◌, ◌<◌, ◌≤◌, ◌==◌, Bool, true, false, List, [], ◌∷◌, ◌++◌, length, map, Some, None, Option, Ok, arith, append_assoc}
use Rattle.std.specs.Prelude.{◌&&◌, ◌||◌, not, nat_le, if◌then◌else◌}
use Rattle.std.specs.List.{list_any, list_all, AllByRecursion}
use Rattle.std.specs.Str.{bytes_eq}
use Rattle.std.proofs.lemmas.List.{append-nil, length-map, length-append, map-append}
use Rattle.std.proofs.lemmas.List.Folds.{list_any-append}
use Rattle.std.proofs.lemmas.Bool.{ltb-true, le-leb, and_parts, eqb-true}
use Rattle.std.proofs.lemmas.Bool.Decides.{nat_tests}
use Rattle.cash_base.specs.declared.place.Span.{Span}
use Rattle.cash_base.specs.declared.place.Slot.{Slot}
use Rattle.cash_base.specs.Source.{text_at}
use Rattle.cash_tree.specs.declared.Ty.{Ty}
use Rattle.cash_tree.specs.declared.Ty.TheVariants as ty
use Rattle.cash_tree.specs.declared.Ty.TheOpen.{Ty-F}
use Rattle.cash_tree.specs.declared.Ty.TheViews.{out-Ty}
use Rattle.cash_tree.specs.declared.Param.{Param}
use Rattle.cash_tree.specs.declared.StmtKind.TheVariants as stmts
use Rattle.cash_tree.specs.declared.StmtKind.TheOpen.{StmtKind-F}
use Rattle.cash_tree.specs.declared.StmtKind.TheViews.{roll-StmtKind}
use Rattle.cash_tree.specs.declared.StmtKind.TheFolds.{map-StmtKind}
use Rattle.cash_tree.specs.Nodes.{joined, kind_values, values, nodes, most_nodes}
use Rattle.name_scopes.specs.declared.scope.Variable.{Variable}
use Rattle.name_scopes.specs.Names.{Names, Entry, find, look, has_room, slot, slot_of, slot_at, declared, variable, with_variable, after as scopes_after}
use Rattle.cash_names.specs.Expressions.{Expression}
use Rattle.cash_names.specs.Outline.{Statement, slotted}
use Rattle.cash_names.specs.Scopes as scopes
use Rattle.cash_names.specs.Scopes.{NamesExpr, NamesStmt, NamesAll}
use Rattle.cash_names.specs.Definitions.{expression_uses}
use Rattle.type_tables.specs.declared.rules.Binding.{Binding}
use Rattle.type_tables.specs.Tables.{TypedExpr, Env as Types, is_single, suits, pair_layer, pair_suits, type_at}
use Rattle.type_check.specs.Shapes.{NamedExpr, NamedStmt, TypedStmt, TypedStmtKind, stmt_of, with_name}
use Rattle.type_check.specs.Typing.{HasType, TypesStmt, TypesRun}
use Rattle.source_meaning.specs.Runnable.{node_count, all_of}
use Rattle.type_check.proofs.Typed.{ok_bind}
use Rattle.type_soundness.proofs.Holds.{TyLayer}
use Rattle.type_soundness.proofs.Types.{suited}
use Rattle.type_soundness.proofs.Scopes.{single_of}
use Rattle.type_soundness.proofs.Parts.{StmtParts, stmt_parts, run_parts, TypedLayer, kind_values_of, holds_values}
use Rattle.slot_code.specs.Shape.{has}
use Rattle.slot_expressions.specs.Ready.{Known-names, any_name, is_ready}
use Rattle.slot_expressions.specs.Pieces.{in_scope}
use Rattle.slot_lowering.specs.Scoped.{Part, value_scoped, is_new, is_split, part_of, part_of_kind, all_names, all_scoped, has_values, has_values_kind}
use Rattle.slot_lowering.proofs.ScopedSteps as scoped
use Rattle.lowering_laws.proofs.Own as own
use Rattle.lowering_laws.specs.Laws.{nodes_fit, AreSingleNames}
use Rattle.lowering_laws.proofs.Singles.{is_array, is_array_layer, is_pair, is_pair_layer, no_array, single_int, suits_single}
use Rattle.lowering_laws.proofs.Facts.{Asked, Fine}
use Rattle.lowering_laws.proofs.Readied.{fine}
use Rattle.lowering_laws.proofs.Known.{Sees, named_known, uses_kept}

both : (a b : Bool) → a ≡ true → b ≡ true → (a && b) ≡ true
both a b is also = ap (λ c. c && b) is ∙ also

-- ---- names in scope

-- the slots of the names in scope
abbrev pub slots : Names → List Slot
slots names = map (λ (e : Entry). e.1.slot) names.known

abbrev pub SingleTypes : Types → Type 0
SingleTypes types = AllByRecursion (λ (b : Binding). is_single b.ty ≡ true) types

pub record InScope (names : Names) (types : Types) : Type 0 where
  pub below : (other : Slot) → has other (slots names) ≡ true → other.0 < names.next
  pub count : length names.known ≤ names.next
  pub next : names.next ≤ names.limit
  pub limit : names.limit ≤ 160
  pub single : SingleTypes types

single_by : (t : Bool) (own rest : Ty) → is_single own ≡ true → is_single rest ≡ true → is_single (if t then own else rest) ≡ true
single_by true own rest is also = is
single_by false own rest is also = also

single_names : (types : Types) → SingleTypes types → AreSingleNames types
single_names [] h at = single_int
single_names (b ∷ types) h at = single_by (b.slot.0 == at.0) b.ty (type_at at types) h.0 (single_names types h.1 at)

single_more : (types : Types) (at : Slot) (t : Ty) → SingleTypes types → is_single t ≡ true → SingleTypes (with_name at t types)
single_more [] at t h is = (is, tt)
single_more (b ∷ types) at t h is = (h.0, single_more types at t h.1 is)

or_left : (a b : Bool) → a ≡ true → (a || b) ≡ true
or_left a b is = ap (λ c. c || b) is

or_right : (a b : Bool) → b ≡ true → (a || b) ≡ true
or_right true b is = refl
or_right false b is = is

same_slot : (n : ℕ) → (n == n) ≡ true
same_slot n = grind (arith, nat_tests)

by_name : (t : Bool) (first v : Variable) (rest : Option Variable) (more : List Slot) → (rest ≡ Some v → has v.slot more ≡ true) → (if t then Some first else rest) ≡ Some v → has v.slot (first.slot ∷ more) ≡ true
by_name true first v rest more later is =
    let one : first ≡ v = cc in
    or_left (first.slot.0 == v.slot.0) (has v.slot more) (ap (λ (w : Variable). w.slot.0 == v.slot.0) one ∙ same_slot v.slot.0)
by_name false first v rest more later is = or_right (first.slot.0 == v.slot.0) (has v.slot more) (later is)

found : (name : List ℕ) (known : List Entry) (v : Variable) → find name known ≡ Some v → has v.slot (map (λ (e : Entry). e.1.slot) known) ≡ true
found name [] v is = absurd cc
found name (e ∷ known) v is = by_name (bytes_eq name e.0) e.1 v (find name known) (map (λ (e : Entry). e.1.slot) known) (λ more. found name known v more) is

sees : (source : List ℕ) (names : Names) → Sees source names (in_scope (slots names))
sees source names span v is = found (text_at source span) names.known v is

-- ---- values

pub record Good (x : TypedExpr) : Type 0 where
  pub small : nodes x ≤ most_nodes
  pub fit : nodes_fit x ≡ true

all_any : (us : List Slot) → list_all any_name us ≡ true
all_any [] = refl
all_any (u ∷ us) = all_any us

counted : (x : TypedExpr) → nodes x ≤ most_nodes → nat_le (node_count x) most_nodes ≡ true
unfolding node_count
counted x few = le-leb (nodes x) most_nodes few

record ValueFits (x : TypedExpr) (around : List Slot) : Type 0 where
  scoped : value_scoped x around ≡ true
  ready : is_ready any_name x ≡ true

value_fits : (source : List ℕ) (names : Names) (types : Types) (e : Expression) (nx : NamedExpr) (x : TypedExpr) → InScope names types → NamesExpr source names e nx → HasType types None nx x → is_array x.ty ≡ false → Good x
    → ValueFits x (slots names)
value_fits source names types e nx x h named typed no_array_type good =
    let single = single_names types h.single in
    let known = in_scope (slots names) in
    let uses : list_all known (expression_uses x) ≡ true = ap (list_all known) (uses_kept types None nx x typed) ∙ named_known source names known (sees source names) e nx named in record {
      scoped = both (is_ready known x) (nat_le (node_count x) most_nodes)
          ((fine known types single None nx x typed).value no_array_type (record { names = uses; fits = good.fit })) (counted x good.small);
      ready = (fine any_name types single None nx x typed).value no_array_type (record { names = all_any (expression_uses x); fits = good.fit });
    }

-- ---- one name more

never_itself : (n : ℕ) → n < n → ⊥
never_itself n less = absurd (grind (arith, less))

new_slot : (names : Names) (types : Types) → InScope names types → has_room names ≡ true → is_new (slot names.next) (slots names) ≡ true
new_slot names types h free =
    let less : names.next < names.limit = ltb-true names.next names.limit free in
    let count = h.count in
    let limit = h.limit in
    let here : length (slots names ++ slot names.next ∷ []) ≡ length names.known + 1 = length-append (slots names) (slot names.next ∷ []) ∙ ap (λ n. n + 1) (length-map names.known (λ (e : Entry). e.1.slot)) in
    both (not (has (slot names.next) (slots names))) (nat_le (length (slots names ++ slot names.next ∷ [])) 160)
    (not_there (has (slot names.next) (slots names)) (λ there. never_itself names.next (h.below (slot names.next) there)))
    (le-leb (length (slots names ++ slot names.next ∷ [])) 160 (omega (arith, less, count, limit, here)))
  where
    not_there : (b : Bool) → (b ≡ true → ⊥) → not b ≡ true
    not_there true never = absurd (never refl)
    not_there false never = refl

pub declared_slots : (names : Names) (name : List ℕ) (constant : Bool) → slots (declared name constant names) ≡ slots names ++ slot names.next ∷ []
declared_slots names name constant = map-append (λ (e : Entry). e.1.slot) names.known ((name, variable names.next constant) ∷ [])

by_last : (n k : ℕ) (a : Bool) → (a ≡ true → k < n) → (a || ((n == k) || false)) ≡ true → k < n + 1
by_last n k true less is = let here : k < n = less refl in omega (arith, here)
by_last n k false less is = by_own (n == k) refl is
  where
    by_own : (b : Bool) → (n == k) ≡ b → (b || false) ≡ true → k < n + 1
    by_own true same also = let equal : n ≡ k = eqb-true n k same in omega (arith, equal)
    by_own false same also = absurd cc

pub declares : (names : Names) (types : Types) (name : List ℕ) (constant : Bool) (t : Ty) → InScope names types → has_room names ≡ true → is_single t ≡ true
    → InScope (declared name constant names) (with_name (slot names.next) t types)
declares names types name constant t h free is =
    let less : names.next < names.limit = ltb-true names.next names.limit free in
    let count = h.count in record {
      below = λ other there.
          by_last names.next other.0 (has other (slots names)) (λ before. h.below other before)
          (sym (ap (has other) (declared_slots names name constant) ∙ list_any-append (λ (s : Slot). s.0 == other.0) (slots names) (slot names.next ∷ [])) ∙ there);
      count = (let more : length (names.known ++ (name, variable names.next constant) ∷ []) ≡ length names.known + 1 = length-append names.known ((name, variable names.next constant) ∷ []) in omega (arith, count, more));
      next = omega (arith, less);
      limit = h.limit;
      single = single_more types (slot names.next) t h.single is;
    }

-- ---- a statement

-- a statement that is as it should be, and the names in scope behind it
pub record StmtFits (names later : Names) (types after : Types) (t : TypedStmt) : Type 0 where
  pub scope : InScope later after
  pub rise : names.next ≤ later.next
  pub same : later.limit ≡ names.limit
  pub slots_are : slots later ≡ slots names ++ (part_of t).names
  pub scoped : (part_of t).scoped (slots names) ≡ true
  pub ready : has_values t ≡ true

-- by its part and its values
by_part : (names later : Names) (types after : Types) (t : TypedStmt) (p : Part) → part_of t ≡ p → InScope later after → names.next ≤ later.next → later.limit ≡ names.limit → slots later ≡ slots names ++ p.names
    → p.scoped (slots names) ≡ true → has_values t ≡ true → StmtFits names later types after t
by_part names later types after t p is scope rise same slots_are fits ready = record {
  scope = scope;
  rise = rise;
  same = same;
  slots_are = slots_are ∙ ap (λ (q : Part). slots names ++ q.names) (sym is);
  scoped = ap (λ (q : Part). q.scoped (slots names)) is ∙ fits;
  ready = ready;
}

abbrev stmt_at : TypedLayer → Span → TypedStmt
stmt_at layer span = stmt_of Ty (roll-StmtKind Slot Ty layer) span

good_in : (layer : TypedLayer) (span : Span) (t : TypedStmt) → t ≡ stmt_at layer span → AllByRecursion Good (values t)
    → AllByRecursion Good (kind_values (map-StmtKind Slot Ty TypedStmtKind TypedStmt (List TypedExpr) (List TypedExpr) kind_values_of values layer))
good_in layer span t is h = subst (AllByRecursion Good) (ap values is ∙ holds_values layer span) h

abbrev Kind : TypedStmt → TypedStmtKind
Kind t = t.kind

define_fits : (source : List ℕ) (names : Names) (types : Types) (name : Span) (constant : Bool) (w : Ty) (place : Span) (e : Expression) (nx : NamedExpr) (span : Span) (t : TypedStmt) (after : Types)
    → InScope names types → has_room names ≡ true → NamesExpr source names e nx → StmtParts types (StmtKind-F.Define w constant (slot names.next) place nx) span t after → AllByRecursion Good (values t)
    → StmtFits names (declared (text_at source name) constant names) types after t
unfolding roll-StmtKind denote.Hole.Carrier.roll
define_fits source names types name constant w place e nx span t after h free named p good =
    let x = p.parts.0.x in
    let layer : TypedLayer = StmtKind-F.Define w constant (slot names.next) place x in
    let is : t ≡ stmt_at layer span = p.is ∙ ap (λ k. stmt_of Ty k span) p.parts.0.is in
    let inside = good_in layer span t is good in
    let kind_is : t.kind ≡ stmts.Define w constant (slot names.next) place x = ap Kind is in
    let single : is_single w ≡ true = single_of w x.ty (suited span w x.ty tt p.parts.0.allowed) in
    let value = value_fits source names types e nx x h named p.parts.0.has_type (no_array x.ty (suits_single span w x.ty tt p.parts.0.allowed)) inside.0 in
    by_part names (declared (text_at source name) constant names) types after t _ (scoped.whole_part t ∙ ap part_of_kind kind_is ∙ scoped.define_part w constant (slot names.next) place x)
    (subst (InScope (declared (text_at source name) constant names)) p.parts.1 (declares names types (text_at source name) constant w h free single))
    (omega arith) refl (declared_slots names (text_at source name) constant)
    (both (value_scoped x (slots names)) (is_new (slot names.next) (slots names)) value.scoped (new_slot names types h free))
    (own.whole_is t ∙ ap has_values_kind kind_is ∙ own.define_is w constant (slot names.next) place x ∙ value.ready)

assign_fits : (source : List ℕ) (names : Names) (types : Types) (name : Span) (e : Expression) (nx : NamedExpr) (span : Span) (t : TypedStmt) (after : Types) (v : Variable)
    → InScope names types → look (text_at source name) names ≡ Some v → NamesExpr source names e nx → StmtParts types (StmtKind-F.Assign (slot_at source names name) nx) span t after → AllByRecursion Good (values t)
    → StmtFits names names types after t
unfolding roll-StmtKind denote.Hole.Carrier.roll
assign_fits source names types name e nx span t after v h there named p good =
    let x = p.parts.0.x in
    let target = slot_at source names name in
    let layer : TypedLayer = StmtKind-F.Assign target x in
    let is : t ≡ stmt_at layer span = p.is ∙ ap (λ k. stmt_of Ty k span) p.parts.0.is in
    let inside = good_in layer span t is good in
    let kind_is : t.kind ≡ stmts.Assign target x = ap Kind is in
    let value = value_fits source names types e nx x h named p.parts.0.has_type (no_array x.ty (suits_single span (type_at target types) x.ty tt p.parts.0.allowed)) inside.0 in
    let known : has target (slots names) ≡ true = ap (λ o. has (slot_of o) (slots names)) there ∙ found (text_at source name) names.known v there in
    by_part names names types after t _ (scoped.whole_part t ∙ ap part_of_kind kind_is ∙ scoped.assign_part target x)
    (subst (InScope names) p.parts.1 h) (omega arith) refl (sym (append-nil (slots names)))
    (both (value_scoped x (slots names)) (has target (slots names)) value.scoped known)
    (own.whole_is t ∙ ap has_values_kind kind_is ∙ own.assign_is target x ∙ value.ready)

time_fits : (source : List ℕ) (names : Names) (types : Types) (e : Expression) (nx : NamedExpr) (span : Span) (t : TypedStmt) (after : Types)
    → InScope names types → NamesExpr source names e nx → StmtParts types (StmtKind-F.Time nx) span t after → AllByRecursion Good (values t) → StmtFits names names types after t
unfolding roll-StmtKind denote.Hole.Carrier.roll
time_fits source names types e nx span t after h named p good =
    let x = p.parts.0.x in
    let layer : TypedLayer = StmtKind-F.Time x in
    let is : t ≡ stmt_at layer span = p.is ∙ ap (λ k. stmt_of Ty k span) p.parts.0.is in
    let kind_is : t.kind ≡ stmts.Time x = ap Kind is in
    let value = value_fits source names types e nx x h named p.parts.0.has_type (no_array x.ty (suits_single span ty.Int x.ty tt p.parts.0.allowed)) (good_in layer span t is good).0 in
    by_part names names types after t _ (scoped.whole_part t ∙ ap part_of_kind kind_is ∙ scoped.time_part x)
    (subst (InScope names) p.parts.1 h) (omega arith) refl (sym (append-nil (slots names))) value.scoped
    (own.whole_is t ∙ ap has_values_kind kind_is ∙ own.time_is x ∙ value.ready)

age_fits : (source : List ℕ) (names : Names) (types : Types) (e : Expression) (nx : NamedExpr) (span : Span) (t : TypedStmt) (after : Types)
    → InScope names types → NamesExpr source names e nx → StmtParts types (StmtKind-F.Age nx) span t after → AllByRecursion Good (values t) → StmtFits names names types after t
unfolding roll-StmtKind denote.Hole.Carrier.roll
age_fits source names types e nx span t after h named p good =
    let x = p.parts.0.x in
    let layer : TypedLayer = StmtKind-F.Age x in
    let is : t ≡ stmt_at layer span = p.is ∙ ap (λ k. stmt_of Ty k span) p.parts.0.is in
    let kind_is : t.kind ≡ stmts.Age x = ap Kind is in
    let value = value_fits source names types e nx x h named p.parts.0.has_type (no_array x.ty (suits_single span ty.Int x.ty tt p.parts.0.allowed)) (good_in layer span t is good).0 in
    by_part names names types after t _ (scoped.whole_part t ∙ ap part_of_kind kind_is ∙ scoped.age_part x)
    (subst (InScope names) p.parts.1 h) (omega arith) refl (sym (append-nil (slots names))) value.scoped
    (own.whole_is t ∙ ap has_values_kind kind_is ∙ own.age_is x ∙ value.ready)

require_fits : (source : List ℕ) (names : Names) (types : Types) (e : Expression) (nx : NamedExpr) (span : Span) (t : TypedStmt) (after : Types)
    → InScope names types → NamesExpr source names e nx → StmtParts types (StmtKind-F.Require nx) span t after → AllByRecursion Good (values t) → StmtFits names names types after t
unfolding roll-StmtKind denote.Hole.Carrier.roll
require_fits source names types e nx span t after h named p good =
    let x = p.parts.0.x in
    let layer : TypedLayer = StmtKind-F.Require x in
    let is : t ≡ stmt_at layer span = p.is ∙ ap (λ k. stmt_of Ty k span) p.parts.0.is in
    let kind_is : t.kind ≡ stmts.Require x = ap Kind is in
    let value = value_fits source names types e nx x h named p.parts.0.has_type (no_array x.ty (suits_single span ty.Bool x.ty tt p.parts.0.allowed)) (good_in layer span t is good).0 in
    by_part names names types after t _ (scoped.whole_part t ∙ ap part_of_kind kind_is ∙ scoped.require_part x)
    (subst (InScope names) p.parts.1 h) (omega arith) refl (sym (append-nil (slots names))) value.scoped
    (own.whole_is t ∙ ap has_values_kind kind_is ∙ own.require_is x ∙ value.ready)

-- ---- definitions of two names

record PairOf (left right t : Ty) : Type 0 where
  pair : is_pair t ≡ true
  no_array_type : is_array t ≡ false
  first : is_single left ≡ true
  second : is_single right ≡ true

pair_by : (span : Span) (left right t : Ty) (layer : TyLayer) → out-Ty t ≡ layer → pair_layer span left right t layer ≡ Ok tt → PairOf left right t
pair_by span left right t (Ty-F.Pair l r) at e =
    let p = ok_bind (suits span left l) (λ u. suits span right r) tt e in record {
      pair = ap is_pair_layer at;
      no_array_type = ap is_array_layer at;
      first = single_of left l (suited span left l p.0 p.1);
      second = single_of right r (suited span right r tt p.2);
    }
pair_by span left right t Ty-F.Int at e = absurd cc
pair_by span left right t Ty-F.Bool at e = absurd cc
pair_by span left right t Ty-F.Text at e = absurd cc
pair_by span left right t Ty-F.Bytes at e = absurd cc
pair_by span left right t (Ty-F.BytesN n) at e = absurd cc
pair_by span left right t Ty-F.Pubkey at e = absurd cc
pair_by span left right t Ty-F.Sig at e = absurd cc
pair_by span left right t Ty-F.Datasig at e = absurd cc
pair_by span left right t (Ty-F.Array item) at e = absurd cc

pair_of : (span : Span) (left right t : Ty) → pair_suits span left right t ≡ Ok tt → PairOf left right t
unfolding pair_suits
pair_of span left right t e = pair_by span left right t (out-Ty t) refl e

pair_fits : (source : List ℕ) (names : Names) (types : Types) (left right : Param Span) (e : Expression) (nx : NamedExpr) (span : Span) (t : TypedStmt) (after : Types)
    → InScope names types → has_room names ≡ true → has_room (with_variable source left.name names) ≡ true → NamesExpr source names e nx
    → StmtParts types (StmtKind-F.Pair (slotted left names.next) (slotted right (names.next + 1)) nx) span t after → AllByRecursion Good (values t)
    → StmtFits names (with_variable source right.name (with_variable source left.name names)) types after t
unfolding roll-StmtKind denote.Hole.Carrier.roll
pair_fits source names types left right e nx span t after h free more named p good =
    let x = p.parts.0.x in
    let n = names.next in
    let l : Slot = slot n in
    let r : Slot = slot (n + 1) in
    let a = slotted left n in
    let b = slotted right (n + 1) in
    let middle = with_variable source left.name names in
    let last = with_variable source right.name middle in
    let layer : TypedLayer = StmtKind-F.Pair a b x in
    let is : t ≡ stmt_at layer span = p.is ∙ ap (λ k. stmt_of Ty k span) p.parts.0.is in
    let kind_is : t.kind ≡ stmts.Pair a b x = ap Kind is in
    let q = pair_of span left.ty right.ty x.ty p.parts.0.allowed in
    let inside = good_in layer span t is good in
    let value = value_fits source names types e nx x h named p.parts.0.has_type q.no_array_type inside.0 in
    let split : is_split x ≡ true = (fine any_name types (single_names types h.single) None nx x p.parts.0.has_type).pair q.pair in
    let first = declares names types (text_at source left.name) false left.ty h free q.first in
    let between : slots middle ≡ slots names ++ l ∷ [] = declared_slots names (text_at source left.name) false in
    let second : is_new r (slots names ++ l ∷ []) ≡ true = ap (is_new r) (sym between) ∙ new_slot middle (with_name l left.ty types) first more in
    by_part names last types after t _ (scoped.whole_part t ∙ ap part_of_kind kind_is ∙ scoped.pair_part a b x)
    (subst (InScope last) p.parts.1 (declares middle (with_name l left.ty types) (text_at source right.name) false right.ty first more q.second))
    (omega arith) refl
    (declared_slots middle (text_at source right.name) false ∙ ap (λ s. s ++ r ∷ []) between ∙ append_assoc (slots names) (l ∷ []) (r ∷ []))
    (both (is_split x) (value_scoped x (slots names) && (is_new l (slots names) && is_new r (slots names ++ l ∷ []))) split
    (both (value_scoped x (slots names)) (is_new l (slots names) && is_new r (slots names ++ l ∷ [])) value.scoped
    (both (is_new l (slots names)) (is_new r (slots names ++ l ∷ [])) (new_slot names types h free) second)))
    (own.whole_is t ∙ ap has_values_kind kind_is ∙ own.pair_is a b x ∙ both (is_split x) (is_ready any_name x) split value.ready)

-- ---- blocks

pub record BodyFits (names later : Names) (after : Types) (ts : List TypedStmt) : Type 0 where
  pub scope : InScope later after
  pub rise : names.next ≤ later.next
  pub same : later.limit ≡ names.limit
  pub slots_are : slots later ≡ slots names ++ all_names (map part_of ts)
  pub scoped : all_scoped (map part_of ts) (slots names) ≡ true
  pub ready : all_of (map has_values ts) ≡ true

-- behind a block, whose names end with it
ended : (names inner : Names) (types after : Types) → InScope names types → InScope inner after → names.next ≤ inner.next → InScope (scopes_after names inner) after
ended names inner types after h k rise =
    let count = h.count in record {
      below = λ other there. let less = h.below other there in omega (arith, less, rise);
      count = omega (arith, count, rise);
      next = k.next;
      limit = k.limit;
      single = k.single;
    }

pub good_apart : (xs ys : List TypedExpr) → AllByRecursion Good (xs ++ ys) → AllByRecursion Good xs × AllByRecursion Good ys
good_apart [] ys h = (tt, h)
good_apart (x ∷ xs) ys h = let r = good_apart xs ys h.1 in ((h.0, r.0), r.1)

test_fits : (source : List ℕ) (names : Names) (types : Types) (e : Expression) (nx : NamedExpr) (x : TypedExpr) (span : Span) → InScope names types → NamesExpr source names e nx → HasType types None nx x → suits span ty.Bool x.ty ≡ Ok tt → Good x
    → ValueFits x (slots names)
test_fits source names types e nx x span h named typed allowed good = value_fits source names types e nx x h named typed (no_array x.ty (suits_single span ty.Bool x.ty tt allowed)) good

mutual
  unfolding roll-StmtKind denote.Hole.Carrier.roll

  pub stmt_fits : (source : List ℕ) (names later : Names) (st : Statement) (named : NamedStmt) (types : Types) (t : TypedStmt) (after : Types)
      → NamesStmt source names st named later → InScope names types → TypesStmt types named t after → AllByRecursion Good (values t) → StmtFits names later types after t
  stmt_fits source _ _ _ _ types t after (scopes.define names w constant name place e x span new h) here typed good =
      define_fits source names types name constant w place e x span t after here new.1 h (stmt_parts types (StmtKind-F.Define w constant (slot names.next) place x) span t after typed) good
  stmt_fits source _ _ _ _ types t after (scopes.pair names middle left right e x span is new next h) here typed good =
      let at : middle.next ≡ names.next + 1 = ap (λ (n : Names). n.next) is in
      let parts = stmt_parts types (StmtKind-F.Pair (slotted left names.next) (slotted right middle.next) x) span t after typed in
      let aligned : StmtParts types (StmtKind-F.Pair (slotted left names.next) (slotted right (names.next + 1)) x) span t after =
      subst (λ m. StmtParts types (StmtKind-F.Pair (slotted left names.next) (slotted right m) x) span t after) at parts in
      let free : has_room (with_variable source left.name names) ≡ true = ap has_room (sym is) ∙ next.1 in
      subst (λ m. StmtFits names (with_variable source right.name m) types after t) (sym is)
      (pair_fits source names types left right e x span t after here new.1 free h aligned good)
  stmt_fits source _ _ _ _ types t after (scopes.assign names name e x span free h) here typed good =
      assign_fits source names types name e x span t after free.0 here free.1 h (stmt_parts types (StmtKind-F.Assign (slot_at source names name) x) span t after typed) good
  stmt_fits source _ _ _ _ types t after (scopes.time names e x span h) here typed good =
      time_fits source names types e x span t after here h (stmt_parts types (StmtKind-F.Time x) span t after typed) good
  stmt_fits source _ _ _ _ types t after (scopes.age names e x span h) here typed good =
      age_fits source names types e x span t after here h (stmt_parts types (StmtKind-F.Age x) span t after typed) good
  stmt_fits source _ _ _ _ types t after (scopes.require names e x span h) here typed good =
      require_fits source names types e x span t after here h (stmt_parts types (StmtKind-F.Require x) span t after typed) good
  stmt_fits source _ _ _ _ types t after (scopes.if_only names inner e x ss ts span h k) here typed good =
      let p = stmt_parts types (StmtKind-F.If x ts None) span t after typed in
      let y = p.parts.x in
      let us = p.parts.ts in
      let layer : TypedLayer = StmtKind-F.If y us None in
      let is : t ≡ stmt_at layer span = p.is ∙ ap (λ k. stmt_of Ty k span) p.parts.is in
      let kind_is : t.kind ≡ stmts.If y us None = ap Kind is in
      let inside = good_in layer span t is good in
      let body = all_fits source names inner ss ts types us after k here p.parts.body (good_apart (joined (map values us)) [] inside.1).0 in
      let test = test_fits source names types e x y span here h p.parts.has_type p.parts.allowed inside.0 in
      by_part names (scopes_after names inner) types after t _ (scoped.whole_part t ∙ ap part_of_kind kind_is ∙ scoped.if_only_part y us)
      (ended names inner types after here body.scope body.rise) body.rise body.same (sym (append-nil (slots names)))
      (both (value_scoped y (slots names)) (all_scoped (map part_of us) (slots names) && true) test.scoped (both (all_scoped (map part_of us) (slots names)) true body.scoped refl))
      (own.whole_is t ∙ ap has_values_kind kind_is ∙ own.if_only_is y us ∙ both (is_ready any_name y) (all_of (map has_values us) && true) test.ready (both (all_of (map has_values us)) true body.ready refl))
  stmt_fits source _ _ _ _ types t after (scopes.if_else names inner inner' e x ss ss' ts ts' span h k k') here typed good =
      let p = stmt_parts types (StmtKind-F.If x ts (Some ts')) span t after typed in
      let y = p.parts.x in
      let us = p.parts.ts in
      let vs = p.parts.vs in
      let layer : TypedLayer = StmtKind-F.If y us (Some vs) in
      let is : t ≡ stmt_at layer span = p.is ∙ ap (λ k. stmt_of Ty k span) p.parts.is in
      let kind_is : t.kind ≡ stmts.If y us (Some vs) = ap Kind is in
      let inside = good_in layer span t is good in
      let both_good = good_apart (joined (map values us)) (joined (map values vs)) inside.1 in
      let body = all_fits source names inner ss ts types us p.parts.middle k here p.parts.body both_good.0 in
      let between = ended names inner types p.parts.middle here body.scope body.rise in
      let other = all_fits source (scopes_after names inner) inner' ss' ts' p.parts.middle vs after k' between p.parts.other both_good.1 in
      let test = test_fits source names types e x y span here h p.parts.has_type p.parts.allowed inside.0 in
      let rise = body.rise in
      let rise' = other.rise in
      by_part names (scopes_after (scopes_after names inner) inner') types after t _ (scoped.whole_part t ∙ ap part_of_kind kind_is ∙ scoped.if_else_part y us vs)
      (ended (scopes_after names inner) inner' p.parts.middle after between other.scope other.rise) (omega (arith, rise, rise')) (other.same ∙ body.same) (sym (append-nil (slots names)))
      (both (value_scoped y (slots names)) (all_scoped (map part_of us) (slots names) && all_scoped (map part_of vs) (slots names)) test.scoped
      (both (all_scoped (map part_of us) (slots names)) (all_scoped (map part_of vs) (slots names)) body.scoped other.scoped))
      (own.whole_is t ∙ ap has_values_kind kind_is ∙ own.if_else_is y us vs
      ∙ both (is_ready any_name y) (all_of (map has_values us) && all_of (map has_values vs)) test.ready (both (all_of (map has_values us)) (all_of (map has_values vs)) body.ready other.ready))

  pub all_fits : (source : List ℕ) (names later : Names) (st : List Statement) (named : List NamedStmt) (types : Types) (ts : List TypedStmt) (after : Types)
      → NamesAll source names st named later → InScope names types → TypesRun types named ts after → AllByRecursion Good (joined (map values ts)) → BodyFits names later after ts
  all_fits source _ _ _ _ types ts after (scopes.done names) here typed good =
      let p = run_parts types [] ts after typed in
      subst (BodyFits names names after) (sym p.0) (record {
        scope = subst (InScope names) p.1 here;
        rise = omega arith;
        same = refl;
        slots_are = sym (append-nil (slots names));
        scoped = refl;
        ready = refl;
      })
  all_fits source _ _ _ _ types ts after (scopes.step names middle later st sts named nameds h hs) here typed good =
      let p = run_parts types (named ∷ nameds) ts after typed in
      let whole : AllByRecursion Good (values p.t ++ joined (map values p.rest)) = subst (λ us. AllByRecursion Good (joined (map values us))) p.is good in
      let apart = good_apart (values p.t) (joined (map values p.rest)) whole in
      let first = stmt_fits source names middle st named types p.t p.middle h here p.first apart.0 in
      let rest = all_fits source middle later sts nameds p.middle p.rest after hs first.scope p.others apart.1 in
      let rise = first.rise in
      let rise' = rest.rise in
      subst (BodyFits names later after) (sym p.is) (record {
        scope = rest.scope;
        rise = omega (arith, rise, rise');
        same = rest.same ∙ first.same;
        slots_are = rest.slots_are ∙ ap (λ s. s ++ all_names (map part_of p.rest)) first.slots_are ∙ append_assoc (slots names) (part_of p.t).names (all_names (map part_of p.rest));
        scoped = both ((part_of p.t).scoped (slots names)) (all_scoped (map part_of p.rest) (slots names ++ (part_of p.t).names)) first.scoped
            (ap (all_scoped (map part_of p.rest)) (sym first.slots_are) ∙ rest.scoped);
        ready = both (has_values p.t) (all_of (map has_values p.rest)) first.ready rest.ready;
      })
