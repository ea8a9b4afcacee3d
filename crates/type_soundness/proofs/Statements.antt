-- What statements leave are values of the types of names, and no failure is that an operand is no number.
use Rattle.std.proofs.Common.{◌≡◌, ◌∙◌, ℕ, ◌+◌, ◌<◌, ◌≤◌, Bool, true, false, cond, List, [], ◌∷◌, ◌++◌, map, Some, None, Result, Ok, Err, refl, sym, ap, subst, arith}
use Rattle.std.specs.Prelude.{unwrap_or}
use Rattle.std.specs.List.{AllByRecursion}
use Rattle.cash_base.specs.declared.fault.Cause.{Cause}
use Rattle.cash_base.specs.declared.fault.Cause.TheVariants.{CheckFailed}
use Rattle.cash_base.specs.declared.place.Span.{Span}
use Rattle.cash_base.specs.declared.place.Slot.{Slot}
use Rattle.cash_base.specs.Failing.{◌>>=◌}
use Rattle.cash_base.specs.Number.{truth_of}
use Rattle.cash_base.specs.Source.{text_at}
use Rattle.tx_context.specs.World.{World, IsWorld}
use Rattle.tx_context.specs.Lookup.{time_outcome, age_outcome}
use Rattle.cash_tree.specs.declared.Ty.{Ty}
use Rattle.cash_tree.specs.declared.Ty.TheVariants as ty
use Rattle.cash_tree.specs.declared.Ty.TheOpen.{Ty-F}
use Rattle.cash_tree.specs.declared.Ty.TheViews.{out-Ty}
use Rattle.cash_tree.specs.declared.Param.{Param}
use Rattle.cash_tree.specs.declared.StmtKind.TheOpen.{StmtKind-F}
use Rattle.cash_tree.specs.declared.StmtKind.TheViews.{roll-StmtKind}
use Rattle.cash_tree.specs.declared.StmtKind.TheFolds.{map-StmtKind}
use Rattle.cash_tree.specs.Nodes.{joined, kind_values, values}
use Rattle.name_scopes.specs.declared.scope.Variable.{Variable}
use Rattle.name_scopes.specs.Names.{Names, look, slot, slot_of, slot_at, declared, with_variable, after as scopes_after}
use Rattle.cash_names.specs.Outline.{Statement, slotted}
use Rattle.cash_names.specs.Scopes as scopes
use Rattle.cash_names.specs.Scopes.{NamesStmt, NamesAll}
use Rattle.type_tables.specs.Tables.{TypedExpr, fits, suits, is_single, type_at, pair_suits, pair_layer, Env as Types}
use Rattle.type_check.specs.Shapes.{NamedExpr, NamedStmt, TypedStmt, TypedStmtKind, stmt_of, with_name}
use Rattle.type_check.specs.Typing.{HasType, TypesStmt, TypesRun}
use Rattle.type_check.proofs.Typed.{ok_bind}
use Rattle.source_meaning.specs.declared.outcome.Failure.{Failure}
use Rattle.source_meaning.specs.Meaning.{Env, Given, Doing, left_of, right_of, with_value, element, value_of, in_turn, block, passed, stmt_kind_step, kind_leaves, env_after}
use Rattle.type_soundness.specs.Literals.{holds_bytes}
use Rattle.type_soundness.proofs.Calm.{Calm}
use Rattle.type_soundness.proofs.Holds.{Laws, TyLayer, is_loose, LayerHolds, Holds, HoldsGiven, Good, bind, element_good, loose}
use Rattle.type_soundness.proofs.Types.{suited, stands_for}
use Rattle.type_soundness.proofs.Looks.{time_calm, age_calm}
use Rattle.type_soundness.proofs.Operators.{int_of}
use Rattle.type_soundness.proofs.Calls.{Sound}
use Rattle.type_soundness.proofs.Expressions.{expression_sound}
use Rattle.type_soundness.proofs.Scopes.{Scope, Grows, own_type, declares, Agrees, set_value, widened, left_block, single_of}
use Rattle.type_soundness.proofs.Parts.{StmtParts, stmt_parts, run_parts, TypedLayer, leaves, kind_values_of, holds_values, apart}

-- the world of a run, and what holds of operations
pub record Setting : Type 0 where
  pub laws : Laws
  pub world : World
  pub is_world : IsWorld world

abbrev pub AllBytes : List TypedExpr → Type 0
AllBytes xs = AllByRecursion (λ x. holds_bytes x ≡ true) xs

-- from the names before to those after
pub record Runs (names : Names) (types : Types) (later : Names) (after : Types) (doing : Doing) : Type 0 where
  pub grows : Grows names.next types later after
  pub good : (values : Env) → Agrees names.next types values → Good (Agrees later.next after) (doing values)

sound : (s : Setting) (n : ℕ) (types : Types) (values : Env) (e : NamedExpr) (x : TypedExpr) → Agrees n types values → HasType types None e x → holds_bytes x ≡ true
    → Sound s.world values x
sound s n types values e x h typed bytes = expression_sound s.laws s.world s.is_world values types h.holds None e x typed bytes

-- the element of an expression, and then this
then_run : (s : Setting) (n m : ℕ) (types later : Types) (values : Env) (e : NamedExpr) (x : TypedExpr) (f : List ℕ → Result Env Failure) → Agrees n types values
    → HasType types None e x → holds_bytes x ≡ true → ((a : List ℕ) → Holds (out-Ty x.ty) a → Good (Agrees m later) (f a))
    → Good (Agrees m later) (element (value_of s.world values x) >>= f)
then_run s n m types later values e x f h typed bytes more =
    bind (Holds (out-Ty x.ty)) (Agrees m later) (element (value_of s.world values x)) f
    (element_good (out-Ty x.ty) (value_of s.world values x) (sound s n types values e x h typed bytes).value) more

-- ---- the same names after as before

same_names : (names : Names) (types : Types) → Scope names types → Grows names.next types names types
same_names names types h = record { more = omega arith; kept = λ at less. refl; scope = h }

passed_good : (P : Env → Type 0) (span : Span) (o : Result (Unit {0}) Cause) (values : Env) → Calm o → P values → Good P (passed span o values)
passed_good P span (Ok u) values calm h = h
passed_good P span (Err cause) values calm h = calm

checked_good : (P : Env → Type 0) (span : Span) (t : Bool) (values : Env) → P values
    → Good P (cond t (Ok values) (Err (record { span = span; cause = CheckFailed })))
checked_good P span true values h = h
checked_good P span false values h = refl

-- ---- definitions

-- one more name with its value
pub defined : (names : Names) (types : Types) (values : Env) (name : List ℕ) (constant : Bool) (t : Ty) (e : List ℕ) → Grows names.next types (declared name constant names) (with_name (slot names.next) t types)
    → type_at (slot names.next) (with_name (slot names.next) t types) ≡ t → Agrees names.next types values → Holds (out-Ty t) e
    → Agrees (names.next + 1) (with_name (slot names.next) t types) (with_value (slot names.next) e values)
defined names types values name constant t e grows own h value =
    let n = names.next in
    let wide = widened n (n + 1) types (with_name (slot n) t types) values h (omega arith) grows.kept grows.scope.single in
    set_value (n + 1) (with_name (slot n) t types) values (slot n) e wide (omega arith)
    (subst (λ (u : Ty). Holds (out-Ty u) e) (sym own) value)

-- the parts of what two names are given
record PairParts (left right t : Ty) : Type 0 where
  first : Ty
  second : Ty
  is : out-Ty t ≡ Ty-F.Pair first second
  left_fits : fits left first ≡ true
  right_fits : fits right second ≡ true

pair_by : (span : Span) (left right t : Ty) (layer : TyLayer) → out-Ty t ≡ layer → pair_layer span left right t layer ≡ Ok tt → PairParts left right t
pair_by span left right t (Ty-F.Pair l r) same e =
    let p = ok_bind (suits span left l) (λ u. suits span right r) tt e in
    record { first = l; second = r; is = same; left_fits = suited span left l p.0 p.1; right_fits = suited span right r tt p.2 }
pair_by span left right t Ty-F.Int same e = let no : ⊥ = cc in absurd no
pair_by span left right t Ty-F.Bool same e = let no : ⊥ = cc in absurd no
pair_by span left right t Ty-F.Text same e = let no : ⊥ = cc in absurd no
pair_by span left right t Ty-F.Bytes same e = let no : ⊥ = cc in absurd no
pair_by span left right t (Ty-F.BytesN n) same e = let no : ⊥ = cc in absurd no
pair_by span left right t Ty-F.Pubkey same e = let no : ⊥ = cc in absurd no
pair_by span left right t Ty-F.Sig same e = let no : ⊥ = cc in absurd no
pair_by span left right t Ty-F.Datasig same e = let no : ⊥ = cc in absurd no
pair_by span left right t (Ty-F.Array item) same e = let no : ⊥ = cc in absurd no

pair_typed : (span : Span) (left right t : Ty) → pair_suits span left right t ≡ Ok tt → PairParts left right t
unfolding pair_suits
pair_typed span left right t e = pair_by span left right t (out-Ty t) refl e

-- both parts of a split are values of the names' types
both_hold : (left right t : Ty) (given : Given) → PairParts left right t → HoldsGiven (out-Ty t) given → Holds (out-Ty left) (left_of given) × Holds (out-Ty right) (right_of given)
both_hold left right t given p h =
    let any : (is_loose (out-Ty p.first) ≡ true) × (is_loose (out-Ty p.second) ≡ true) = subst (λ layer. LayerHolds layer (left_of given)) p.is h.left.fits in (
      record { fits = stands_for left p.first (left_of given) p.left_fits (loose (out-Ty p.first) (left_of given) any.0); element = h.left.element },
      record { fits = stands_for right p.second (right_of given) p.right_fits (loose (out-Ty p.second) (right_of given) any.1); element = h.right },
    )

-- ---- statements, by their layers

abbrev doing_of : World → TypedLayer → Span → Doing
doing_of world layer span =
    stmt_kind_step world (map-StmtKind Slot Ty TypedStmtKind TypedStmt (Span → Doing) Doing (kind_leaves world) (env_after world) layer) span

abbrev stmt_at : TypedLayer → Span → TypedStmt
stmt_at layer span = stmt_of Ty (roll-StmtKind Slot Ty layer) span

finish : (s : Setting) (names : Names) (types : Types) (later : Names) (after : Types) (layer : TypedLayer) (span : Span) (t : TypedStmt) → t ≡ stmt_at layer span
    → Runs names types later after (doing_of s.world layer span) → Runs names types later after (env_after s.world t)
finish s names types later after layer span t is h =
    subst (Runs names types later after) (sym (ap (env_after s.world) is ∙ leaves s.world layer span)) h

abbrev layer_values : TypedLayer → List TypedExpr
layer_values layer = kind_values (map-StmtKind Slot Ty TypedStmtKind TypedStmt (List TypedExpr) (List TypedExpr) kind_values_of values layer)

bytes_in : (layer : TypedLayer) (span : Span) (t : TypedStmt) → t ≡ stmt_at layer span → AllBytes (values t) → AllBytes (layer_values layer)
bytes_in layer span t is bytes = subst AllBytes (ap values is ∙ holds_values layer span) bytes

define_runs : (s : Setting) (names : Names) (types : Types) (name : List ℕ) (constant : Bool) (w : Ty) (place : Span) (e : NamedExpr) (span : Span) (t : TypedStmt) (after : Types)
    → Scope names types → StmtParts types (StmtKind-F.Define w constant (slot names.next) place e) span t after → AllBytes (values t)
    → Runs names types (declared name constant names) after (env_after s.world t)
unfolding roll-StmtKind denote.Hole.Carrier.roll
define_runs s names types name constant w place e span t after scope p bytes =
    let simple = p.parts.0 in
    let x = simple.x in
    let n = names.next in
    let layer : TypedLayer = StmtKind-F.Define w constant (slot n) place x in
    let is : t ≡ stmt_at layer span = p.is ∙ ap (λ k. stmt_of Ty k span) simple.is in
    let fit = suited span w x.ty tt simple.allowed in
    let grows = declares names types name constant w scope (single_of w x.ty fit) in
    let own = own_type names types w scope in
    let inside = bytes_in layer span t is bytes in
    let runs : Runs names types (declared name constant names) (with_name (slot n) w types) (doing_of s.world layer span) = record {
      grows = grows;
      good = λ values h. then_run s n (n + 1) types (with_name (slot n) w types) values e x _ h simple.has_type inside.0 (λ a value.
          defined names types values name constant w a grows own h (record { fits = stands_for w x.ty a fit value.fits; element = value.element }));
    } in
    finish s names types (declared name constant names) after layer span t is
    (subst (λ a. Runs names types (declared name constant names) a (doing_of s.world layer span)) p.parts.1 runs)

pair_runs : (s : Setting) (source : List ℕ) (names : Names) (types : Types) (left right : Param Span) (e : NamedExpr) (span : Span) (t : TypedStmt) (after : Types)
    → Scope names types → StmtParts types (StmtKind-F.Pair (slotted left names.next) (slotted right (names.next + 1)) e) span t after → AllBytes (values t)
    → Runs names types (with_variable source right.name (with_variable source left.name names)) after (env_after s.world t)
unfolding roll-StmtKind denote.Hole.Carrier.roll
pair_runs s source names types left right e span t after scope p bytes =
    let simple = p.parts.0 in
    let x = simple.x in
    let n = names.next in
    let layer : TypedLayer = StmtKind-F.Pair (slotted left n) (slotted right (n + 1)) x in
    let is : t ≡ stmt_at layer span = p.is ∙ ap (λ k. stmt_of Ty k span) simple.is in
    let parts = pair_typed span left.ty right.ty x.ty simple.allowed in
    let middle = with_variable source left.name names in
    let between = with_name (slot n) left.ty types in
    let later = with_name (slot (n + 1)) right.ty between in
    let first = declares names types (text_at source left.name) false left.ty scope (single_of left.ty parts.first parts.left_fits) in
    let second = declares middle between (text_at source right.name) false right.ty first.scope (single_of right.ty parts.second parts.right_fits) in
    let inside = bytes_in layer span t is bytes in
    let runs : Runs names types (with_variable source right.name middle) later (doing_of s.world layer span) = record {
      grows = record {
        more = omega arith;
        kept = λ at less. second.kept at (omega (arith, less)) ∙ first.kept at less;
        scope = second.scope;
      };
      good = λ values h. bind (HoldsGiven (out-Ty x.ty)) (Agrees (n + 1 + 1) later) (value_of s.world values x) _ (sound s n types values e x h simple.has_type inside.0).value (λ given value.
          let both = both_hold left.ty right.ty x.ty given parts value in
          let one = defined names types values (text_at source left.name) false left.ty (left_of given) first (own_type names types left.ty scope) h both.0 in
          defined middle between (with_value (slot n) (left_of given) values) (text_at source right.name) false right.ty (right_of given) second
          (own_type middle between right.ty first.scope) one both.1);
    } in
    finish s names types (with_variable source right.name middle) after layer span t is
    (subst (λ a. Runs names types (with_variable source right.name middle) a (doing_of s.world layer span)) p.parts.1 runs)

assign_runs : (s : Setting) (names : Names) (types : Types) (name : Slot) (e : NamedExpr) (span : Span) (t : TypedStmt) (after : Types)
    → Scope names types → name.0 < names.next → StmtParts types (StmtKind-F.Assign name e) span t after → AllBytes (values t)
    → Runs names types names after (env_after s.world t)
unfolding roll-StmtKind denote.Hole.Carrier.roll
assign_runs s names types name e span t after scope known p bytes =
    let simple = p.parts.0 in
    let x = simple.x in
    let n = names.next in
    let layer : TypedLayer = StmtKind-F.Assign name x in
    let is : t ≡ stmt_at layer span = p.is ∙ ap (λ k. stmt_of Ty k span) simple.is in
    let fit = suited span (type_at name types) x.ty tt simple.allowed in
    let inside = bytes_in layer span t is bytes in
    let runs : Runs names types names types (doing_of s.world layer span) = record {
      grows = same_names names types scope;
      good = λ values h. then_run s n n types types values e x _ h simple.has_type inside.0 (λ a value.
          set_value n types values name a h known (record { fits = stands_for (type_at name types) x.ty a fit value.fits; element = value.element }));
    } in
    finish s names types names after layer span t is (subst (λ a. Runs names types names a (doing_of s.world layer span)) p.parts.1 runs)

time_runs : (s : Setting) (names : Names) (types : Types) (e : NamedExpr) (span : Span) (t : TypedStmt) (after : Types)
    → Scope names types → StmtParts types (StmtKind-F.Time e) span t after → AllBytes (values t) → Runs names types names after (env_after s.world t)
unfolding roll-StmtKind denote.Hole.Carrier.roll
time_runs s names types e span t after scope p bytes =
    let simple = p.parts.0 in
    let x = simple.x in
    let n = names.next in
    let layer : TypedLayer = StmtKind-F.Time x in
    let is : t ≡ stmt_at layer span = p.is ∙ ap (λ k. stmt_of Ty k span) simple.is in
    let fit = suited span ty.Int x.ty tt simple.allowed in
    let inside = bytes_in layer span t is bytes in
    let runs : Runs names types names types (doing_of s.world layer span) = record {
      grows = same_names names types scope;
      good = λ values h. then_run s n n types types values e x _ h simple.has_type inside.0 (λ a value.
          passed_good (Agrees n types) span (time_outcome s.world.context a) values (time_calm s.world.context a (int_of x.ty a fit value)) h);
    } in
    finish s names types names after layer span t is (subst (λ a. Runs names types names a (doing_of s.world layer span)) p.parts.1 runs)

age_runs : (s : Setting) (names : Names) (types : Types) (e : NamedExpr) (span : Span) (t : TypedStmt) (after : Types)
    → Scope names types → StmtParts types (StmtKind-F.Age e) span t after → AllBytes (values t) → Runs names types names after (env_after s.world t)
unfolding roll-StmtKind denote.Hole.Carrier.roll
age_runs s names types e span t after scope p bytes =
    let simple = p.parts.0 in
    let x = simple.x in
    let n = names.next in
    let layer : TypedLayer = StmtKind-F.Age x in
    let is : t ≡ stmt_at layer span = p.is ∙ ap (λ k. stmt_of Ty k span) simple.is in
    let fit = suited span ty.Int x.ty tt simple.allowed in
    let inside = bytes_in layer span t is bytes in
    let runs : Runs names types names types (doing_of s.world layer span) = record {
      grows = same_names names types scope;
      good = λ values h. then_run s n n types types values e x _ h simple.has_type inside.0 (λ a value.
          passed_good (Agrees n types) span (age_outcome s.world.context a) values (age_calm s.world.context a (int_of x.ty a fit value)) h);
    } in
    finish s names types names after layer span t is (subst (λ a. Runs names types names a (doing_of s.world layer span)) p.parts.1 runs)

require_runs : (s : Setting) (names : Names) (types : Types) (e : NamedExpr) (span : Span) (t : TypedStmt) (after : Types)
    → Scope names types → StmtParts types (StmtKind-F.Require e) span t after → AllBytes (values t) → Runs names types names after (env_after s.world t)
unfolding roll-StmtKind denote.Hole.Carrier.roll
require_runs s names types e span t after scope p bytes =
    let simple = p.parts.0 in
    let x = simple.x in
    let n = names.next in
    let layer : TypedLayer = StmtKind-F.Require x in
    let is : t ≡ stmt_at layer span = p.is ∙ ap (λ k. stmt_of Ty k span) simple.is in
    let inside = bytes_in layer span t is bytes in
    let runs : Runs names types names types (doing_of s.world layer span) = record {
      grows = same_names names types scope;
      good = λ values h. then_run s n n types types values e x _ h simple.has_type inside.0 (λ a value.
          checked_good (Agrees n types) span (truth_of a) values h);
    } in
    finish s names types names after layer span t is (subst (λ a. Runs names types names a (doing_of s.world layer span)) p.parts.1 runs)

-- ---- blocks

-- the names of a block end with it
block_grows : (n : ℕ) (types : Types) (names inner : Names) (middle : Types) → n ≤ names.next → ((q : List ℕ) (v : Variable) → look q names ≡ Some v → v.slot.0 < names.next)
    → names.next ≤ inner.next → Grows n types inner middle → Grows n types (scopes_after names inner) middle
block_grows n types names inner middle within below rise g = record {
  more = g.more;
  kept = g.kept;
  scope = record {
    below = λ q v is. let less = below q v is in omega (arith, less, rise);
    single = g.scope.single;
    unbound = g.scope.unbound;
  };
}

-- what a block leaves behind it
block_good : (n m : ℕ) (types middle final : Types) (values : Env) (doings : List Doing) → Agrees n types values → n ≤ m → ((at : Slot) → is_single (type_at at final) ≡ true)
    → ((at : Slot) → at.0 < n → type_at at middle ≡ type_at at final) → Good (λ run. (at : Slot) → at.0 < n → Holds (out-Ty (type_at at middle)) (unwrap_or (run at) [])) (in_turn doings values)
    → Good (Agrees m final) (block doings values)
block_good n m types middle final values doings h more single same good =
    bind (λ run. (at : Slot) → at.0 < n → Holds (out-Ty (type_at at middle)) (unwrap_or (run at) [])) (Agrees m final) (in_turn doings values) _ good (λ run holds.
    left_block n m types final values run h more single (λ at less.
    subst (λ (u : Ty). Holds (out-Ty u) (unwrap_or (run at) [])) (same at less) (holds at less)))

weaker : {A : Type 0} (P Q : A → Type 0) (r : Result A Failure) → Good P r → ((x : A) → P x → Q x) → Good Q r
weaker P Q (Ok x) h more = more x h
weaker P Q (Err failure) h more = h

picked_good : (P : Env → Type 0) (test : Bool) (first second : List Doing) (env : Env) → Good P (block first env) → Good P (block second env)
    → Good P (block (cond test first second) env)
picked_good P true first second env y n = y
picked_good P false first second env y n = n

mutual
  unfolding roll-StmtKind denote.Hole.Carrier.roll

  stmt_runs : (s : Setting) (source : List ℕ) (names later : Names) (st : Statement) (named : NamedStmt) (types : Types) (t : TypedStmt) (after : Types)
      → NamesStmt source names st named later → Scope names types → TypesStmt types named t after → AllBytes (values t) → Runs names types later after (env_after s.world t)
  stmt_runs s source _ _ _ _ types t after (scopes.define names w constant name place e x span new h) scope typed bytes =
      define_runs s names types (text_at source name) constant w place x span t after scope
      (stmt_parts types (StmtKind-F.Define w constant (slot names.next) place x) span t after typed) bytes
  stmt_runs s source _ _ _ _ types t after (scopes.pair names middle left right e x span is new new' h) scope typed bytes =
      let next : middle.next ≡ names.next + 1 = ap (λ (n : Names). n.next) is in
      let parts = stmt_parts types (StmtKind-F.Pair (slotted left names.next) (slotted right middle.next) x) span t after typed in
      let aligned : StmtParts types (StmtKind-F.Pair (slotted left names.next) (slotted right (names.next + 1)) x) span t after =
      subst (λ m. StmtParts types (StmtKind-F.Pair (slotted left names.next) (slotted right m) x) span t after) next parts in
      subst (λ m. Runs names types (with_variable source right.name m) after (env_after s.world t)) (sym is)
      (pair_runs s source names types left right x span t after scope aligned bytes)
  stmt_runs s source _ _ _ _ types t after (scopes.assign names name e x span free h) scope typed bytes =
      let found = scope.below (text_at source name) free.0 free.1 in
      let known : (slot_at source names name).0 < names.next = subst (λ (a : Slot). a.0 < names.next) (sym (ap slot_of free.1)) found in
      assign_runs s names types (slot_at source names name) x span t after scope known
      (stmt_parts types (StmtKind-F.Assign (slot_at source names name) x) span t after typed) bytes
  stmt_runs s source _ _ _ _ types t after (scopes.time names e x span h) scope typed bytes =
      time_runs s names types x span t after scope (stmt_parts types (StmtKind-F.Time x) span t after typed) bytes
  stmt_runs s source _ _ _ _ types t after (scopes.age names e x span h) scope typed bytes =
      age_runs s names types x span t after scope (stmt_parts types (StmtKind-F.Age x) span t after typed) bytes
  stmt_runs s source _ _ _ _ types t after (scopes.require names e x span h) scope typed bytes =
      require_runs s names types x span t after scope (stmt_parts types (StmtKind-F.Require x) span t after typed) bytes
  stmt_runs s source _ _ _ _ types t after (scopes.if_only names inner e x ss ts span h k) scope typed bytes =
      let p = stmt_parts types (StmtKind-F.If x ts None) span t after typed in
      let alone = p.parts in
      let y = alone.x in
      let n = names.next in
      let m = inner.next in
      let layer : TypedLayer = StmtKind-F.If y alone.ts None in
      let is : t ≡ stmt_at layer span = p.is ∙ ap (λ k. stmt_of Ty k span) alone.is in
      let inside = bytes_in layer span t is bytes in
      let body = all_runs s source names inner ss ts types alone.ts after k scope alone.body (apart _ (joined (map values alone.ts)) [] inside.1).0 in
      let grows = block_grows n types names inner after (omega arith) scope.below body.grows.more body.grows in
      let doings = map (env_after s.world) alone.ts in
      finish s names types (scopes_after names inner) after layer span t is (record {
        grows = grows;
        good = λ values agrees. then_run s n m types after values x y _ agrees alone.has_type inside.0 (λ a value.
            picked_good (Agrees m after) (truth_of a) doings [] values
            (block_good n m types after after values doings agrees body.grows.more body.grows.scope.single (λ at less. refl)
            (weaker (Agrees m after) _ (in_turn doings values) (body.good values agrees) (λ run q at less. q.holds at)))
            (block_good n m types types after values [] agrees body.grows.more body.grows.scope.single (λ at less. sym (body.grows.kept at less))
            (λ at less. agrees.holds at)));
      })
  stmt_runs s source _ _ _ _ types t after (scopes.if_else names inner inner' e x ss ss' ts ts' span h k k') scope typed bytes =
      let p = stmt_parts types (StmtKind-F.If x ts (Some ts')) span t after typed in
      let both = p.parts in
      let y = both.x in
      let n = names.next in
      let m = inner'.next in
      let layer : TypedLayer = StmtKind-F.If y both.ts (Some both.vs) in
      let is : t ≡ stmt_at layer span = p.is ∙ ap (λ k. stmt_of Ty k span) both.is in
      let inside = bytes_in layer span t is bytes in
      let bytes' = apart _ (joined (map values both.ts)) (joined (map values both.vs)) inside.1 in
      let body = all_runs s source names inner ss ts types both.ts both.middle k scope both.body bytes'.0 in
      let outer = block_grows n types names inner both.middle (omega arith) scope.below body.grows.more body.grows in
      let other = all_runs s source (scopes_after names inner) inner' ss' ts' both.middle both.vs after k' outer.scope both.other bytes'.1 in
      let rise : n ≤ inner.next = body.grows.more in
      let rise' : inner.next ≤ m = other.grows.more in
      let kept : (at : Slot) → at.0 < n → type_at at after ≡ type_at at types = λ at less. other.grows.kept at (omega (arith, less, rise)) ∙ body.grows.kept at less in
      let first = map (env_after s.world) both.ts in
      let second = map (env_after s.world) both.vs in
      let single = other.grows.scope.single in
      finish s names types (scopes_after (scopes_after names inner) inner') after layer span t is (record {
        grows = record {
          more = omega (arith, rise, rise');
          kept = kept;
          scope = record {
            below = λ q v found. let less = scope.below q v found in omega (arith, less, rise, rise');
            single = single;
            unbound = other.grows.scope.unbound;
          };
        };
        good = λ values agrees. then_run s n m types after values x y _ agrees both.has_type inside.0 (λ a value.
            let wide = widened n inner.next types both.middle values agrees rise body.grows.kept body.grows.scope.single in
            picked_good (Agrees m after) (truth_of a) first second values
            (block_good n m types both.middle after values first agrees (omega (arith, rise, rise')) single (λ at less. sym (other.grows.kept at (omega (arith, less, rise))))
            (weaker (Agrees inner.next both.middle) _ (in_turn first values) (body.good values agrees) (λ run q at less. q.holds at)))
            (block_good n m types after after values second agrees (omega (arith, rise, rise')) single (λ at less. refl)
            (weaker (Agrees m after) _ (in_turn second values) (other.good values wide) (λ run q at less. q.holds at))));
      })

  pub all_runs : (s : Setting) (source : List ℕ) (names later : Names) (st : List Statement) (named : List NamedStmt) (types : Types) (ts : List TypedStmt) (after : Types)
      → NamesAll source names st named later → Scope names types → TypesRun types named ts after → AllBytes (joined (map values ts))
      → Runs names types later after (in_turn (map (env_after s.world) ts))
  all_runs s source _ _ _ _ types ts after (scopes.done names) scope typed bytes =
      let p = run_parts types [] ts after typed in
      let none : Runs names types names types (in_turn []) = record { grows = same_names names types scope; good = λ values h. h } in
      subst (λ a. Runs names types names a (in_turn (map (env_after s.world) ts))) p.1
      (subst (λ us. Runs names types names types (in_turn (map (env_after s.world) us))) (sym p.0) none)
  all_runs s source _ _ _ _ types ts after (scopes.step names middle later st sts named nameds h hs) scope typed bytes =
      let p = run_parts types (named ∷ nameds) ts after typed in
      let whole : AllBytes (values p.t ++ joined (map values p.rest)) = subst (λ us. AllBytes (joined (map values us))) p.is bytes in
      let split = apart _ (values p.t) (joined (map values p.rest)) whole in
      let first = stmt_runs s source names middle st named types p.t p.middle h scope p.first split.0 in
      let rest = all_runs s source middle later sts nameds p.middle p.rest after hs first.grows.scope p.others split.1 in
      let rise = first.grows.more in
      let rise' = rest.grows.more in
      let both : Runs names types later after (in_turn (map (env_after s.world) (p.t ∷ p.rest))) = record {
        grows = record {
          more = omega (arith, rise, rise');
          kept = λ at less. rest.grows.kept at (omega (arith, less, rise)) ∙ first.grows.kept at less;
          scope = rest.grows.scope;
        };
        good = λ values agrees. bind (Agrees middle.next p.middle) (Agrees later.next after) (env_after s.world p.t values) _ (first.good values agrees) (λ run q. rest.good run q);
      } in
      subst (λ us. Runs names types later after (in_turn (map (env_after s.world) us))) (sym p.is) both
