-- What each kind of statement leaves, by its line in the definition.
use Rattle.std.proofs.Common.{◌≡◌, ◌≤◌, ℕ, Bool, true, false, cond, List, [], map, ap, sym, ◌∙◌, refl, subst}
use Rattle.std.specs.Prelude.{Option, Some, None, Result, Ok, Err, ◌&&◌, if◌then◌else◌, is_some, unwrap_or, IsTrue}
use Rattle.std.proofs.Math.Path.{fun_ext}
use Rattle.std.proofs.lemmas.Bool.{leb-true}
use Rattle.cash_base.specs.declared.place.Span.{Span}
use Rattle.cash_base.specs.declared.place.Slot.{Slot}
use Rattle.cash_base.specs.Failing.{◌>>=◌}
use Rattle.cash_base.specs.Number.{truth_of}
use Rattle.tx_context.specs.World.{World}
use Rattle.tx_context.specs.Lookup.{time_outcome, age_outcome}
use Rattle.cash_tree.specs.declared.Ty.{Ty}
use Rattle.cash_tree.specs.declared.Param.{Param}
use Rattle.cash_tree.specs.declared.Stmt.{Stmt}
use Rattle.cash_tree.specs.declared.StmtKind.{StmtKind}
use Rattle.cash_tree.specs.declared.StmtKind.TheVariants as stmts
use Rattle.cash_tree.specs.declared.StmtKind.TheOpen.{StmtKind-F, Stmt-F}
use Rattle.cash_tree.specs.declared.StmtKind.TheViews.{roll-StmtKind}
use Rattle.cash_tree.specs.declared.StmtKind.TheFolds.{fold-roll-Stmt, fold-roll-StmtKind}
use Rattle.type_tables.specs.Tables.{TypedExpr}
use Rattle.meaning_room.specs.declared.outcome.Failure.{Failure}
use Rattle.meaning_room.specs.Names.{Held, env_of, has_element}
use Rattle.meaning_room.specs.Stack.{tested}
use Rattle.meaning_room.proofs.Places.{outside_marked}
use Rattle.meaning_room.specs.Meaning.{Env, Doing, outside, in_turn, with_value, element, left_of, right_of, value_of, passed, checked, block, stmt_kind_step, stmt_step, kind_leaves, env_after}
use Rattle.source_meaning.specs.Runnable.{has_place, node_count, is_small, all_of, kind_fits, node_fits, has_room, kind_has_room}

abbrev pub TypedStmt : Type 0
TypedStmt = Stmt Slot Ty

abbrev Layer : Type 0
Layer = StmtKind-F Slot Ty (StmtKind Slot Ty) TypedStmt

-- ---- what is left

pub whole_left : (world : World) (s : TypedStmt) (env : Env) → env_after world s env ≡ kind_leaves world s.kind s.span env
unfolding env_after kind_leaves
whole_left world s env =
    let layer : Stmt-F Slot Ty (StmtKind Slot Ty) TypedStmt = record { kind = s.kind; span = s.span } in
    ap (λ f. f env) (fold-roll-Stmt Slot Ty (Span → Doing) Doing (stmt_kind_step world) stmt_step layer)

pub define_leaves : (world : World) (t : Ty) (constant : Bool) (slot : Slot) (place : Span) (value : TypedExpr) (span : Span) (env : Env)
    → kind_leaves world (stmts.Define t constant slot place value) span env ≡ (element (value_of world env value) >>= λ e. Ok (with_value slot e env))
unfolding kind_leaves env_after roll-StmtKind denote.Hole.Carrier.roll
define_leaves world t constant slot place value span env =
    let layer : Layer = StmtKind-F.Define t constant slot place value in ap (λ f. f span env) (fold-roll-StmtKind Slot Ty (Span → Doing) Doing (stmt_kind_step world) stmt_step layer)

pub pair_leaves : (world : World) (left right : Param Slot) (value : TypedExpr) (span : Span) (env : Env)
    → kind_leaves world (stmts.Pair left right value) span env ≡ (value_of world env value >>= λ given. Ok (with_value right.name (right_of given) (with_value left.name (left_of given) env)))
unfolding kind_leaves env_after roll-StmtKind denote.Hole.Carrier.roll
pair_leaves world left right value span env =
    let layer : Layer = StmtKind-F.Pair left right value in ap (λ f. f span env) (fold-roll-StmtKind Slot Ty (Span → Doing) Doing (stmt_kind_step world) stmt_step layer)

pub assign_leaves : (world : World) (slot : Slot) (value : TypedExpr) (span : Span) (env : Env)
    → kind_leaves world (stmts.Assign slot value) span env ≡ (element (value_of world env value) >>= λ e. Ok (with_value slot e env))
unfolding kind_leaves env_after roll-StmtKind denote.Hole.Carrier.roll
assign_leaves world slot value span env =
    let layer : Layer = StmtKind-F.Assign slot value in ap (λ f. f span env) (fold-roll-StmtKind Slot Ty (Span → Doing) Doing (stmt_kind_step world) stmt_step layer)

pub time_leaves : (world : World) (value : TypedExpr) (span : Span) (env : Env)
    → kind_leaves world (stmts.Time value) span env ≡ (element (value_of world env value) >>= λ e. passed span (time_outcome world.context e) env)
unfolding kind_leaves env_after roll-StmtKind denote.Hole.Carrier.roll
time_leaves world value span env =
    let layer : Layer = StmtKind-F.Time value in ap (λ f. f span env) (fold-roll-StmtKind Slot Ty (Span → Doing) Doing (stmt_kind_step world) stmt_step layer)

pub age_leaves : (world : World) (value : TypedExpr) (span : Span) (env : Env)
    → kind_leaves world (stmts.Age value) span env ≡ (element (value_of world env value) >>= λ e. passed span (age_outcome world.context e) env)
unfolding kind_leaves env_after roll-StmtKind denote.Hole.Carrier.roll
age_leaves world value span env =
    let layer : Layer = StmtKind-F.Age value in ap (λ f. f span env) (fold-roll-StmtKind Slot Ty (Span → Doing) Doing (stmt_kind_step world) stmt_step layer)

pub require_leaves : (world : World) (value : TypedExpr) (span : Span) (env : Env)
    → kind_leaves world (stmts.Require value) span env ≡ (element (value_of world env value) >>= λ e. checked span e env)
unfolding kind_leaves env_after roll-StmtKind denote.Hole.Carrier.roll
require_leaves world value span env =
    let layer : Layer = StmtKind-F.Require value in ap (λ f. f span env) (fold-roll-StmtKind Slot Ty (Span → Doing) Doing (stmt_kind_step world) stmt_step layer)

pub if_only_leaves : (world : World) (test : TypedExpr) (ss : List TypedStmt) (span : Span) (env : Env)
    → kind_leaves world (stmts.If test ss None) span env ≡ (element (value_of world env test) >>= λ e. block (if truth_of e then map (env_after world) ss else []) env)
unfolding kind_leaves env_after roll-StmtKind denote.Hole.Carrier.roll
if_only_leaves world test ss span env =
    let layer : Layer = StmtKind-F.If test ss None in ap (λ f. f span env) (fold-roll-StmtKind Slot Ty (Span → Doing) Doing (stmt_kind_step world) stmt_step layer)

pub if_else_leaves : (world : World) (test : TypedExpr) (ss us : List TypedStmt) (span : Span) (env : Env)
    → kind_leaves world (stmts.If test ss (Some us)) span env ≡ (element (value_of world env test) >>= λ e. block (if truth_of e then map (env_after world) ss else map (env_after world) us) env)
unfolding kind_leaves env_after roll-StmtKind denote.Hole.Carrier.roll
if_else_leaves world test ss us span env =
    let layer : Layer = StmtKind-F.If test ss (Some us) in ap (λ f. f span env) (fold-roll-StmtKind Slot Ty (Span → Doing) Doing (stmt_kind_step world) stmt_step layer)

-- ---- blocks

still_there : (o : Option (List ℕ)) → cond (is_some o) o None ≡ o
still_there (Some e) = refl
still_there None = refl

-- a block without statements leaves all as it was
nothing_done : (env : Env) → block [] env ≡ Ok env
nothing_done env = ap Ok (fun_ext (λ slot. still_there (env slot)))

one_block : (r : Result (List ℕ) Failure) (t : Bool) (doings : List Doing) (env : Env) → tested r ≡ Ok t
    → (r >>= λ e. block (if truth_of e then doings else []) env) ≡ (if t then block doings env else Ok env)
one_block (Ok e) true doings env is = let same : truth_of e ≡ true = cc in ap (λ b. block (if b then doings else []) env) same
one_block (Ok e) false doings env is = let same : truth_of e ≡ false = cc in ap (λ b. block (if b then doings else []) env) same ∙ nothing_done env
one_block (Err failure) t doings env is = absurd cc

two_blocks : (r : Result (List ℕ) Failure) (t : Bool) (doings others : List Doing) (env : Env) → tested r ≡ Ok t
    → (r >>= λ e. block (if truth_of e then doings else others) env) ≡ (if t then block doings env else block others env)
two_blocks (Ok e) true doings others env is = let same : truth_of e ≡ true = cc in ap (λ b. block (if b then doings else others) env) same
two_blocks (Ok e) false doings others env is = let same : truth_of e ≡ false = cc in ap (λ b. block (if b then doings else others) env) same
two_blocks (Err failure) t doings others env is = absurd cc

test_failed : {A : Type 0} (r : Result (List ℕ) Failure) (failure : Failure) (next : List ℕ → Result A Failure) → tested r ≡ Err failure → (r >>= next) ≡ Err failure
test_failed (Ok e) failure next is = absurd cc
test_failed (Err other) failure next is = cc

-- where the test is true the first block is done
pub if_taken : (world : World) (test : TypedExpr) (ss : List TypedStmt) (o : Option (List TypedStmt)) (span : Span) (env : Env) (kind : StmtKind Slot Ty) (t : Bool)
    → kind ≡ stmts.If test ss o → tested (element (value_of world env test)) ≡ Ok t → t ≡ true → kind_leaves world kind span env ≡ block (map (env_after world) ss) env
if_taken world test ss None span env kind t is value truth =
    ap (λ k. kind_leaves world k span env) is ∙ if_only_leaves world test ss span env
    ∙ one_block (element (value_of world env test)) true (map (env_after world) ss) env (value ∙ ap Ok truth)
if_taken world test ss (Some us) span env kind t is value truth =
    ap (λ k. kind_leaves world k span env) is ∙ if_else_leaves world test ss us span env
    ∙ two_blocks (element (value_of world env test)) true (map (env_after world) ss) (map (env_after world) us) env (value ∙ ap Ok truth)

-- where it is false, nothing
pub if_passed : (world : World) (test : TypedExpr) (ss : List TypedStmt) (o : Option (List TypedStmt)) (span : Span) (env : Env) (kind : StmtKind Slot Ty) (t : Bool)
    → kind ≡ stmts.If test ss o → o ≡ None → tested (element (value_of world env test)) ≡ Ok t → t ≡ false → kind_leaves world kind span env ≡ Ok env
if_passed world test ss o span env kind t is none value truth =
    ap (λ k. kind_leaves world k span env) (is ∙ ap (stmts.If test ss) none) ∙ if_only_leaves world test ss span env
    ∙ one_block (element (value_of world env test)) false (map (env_after world) ss) env (value ∙ ap Ok truth)

-- ... or the other block
pub if_other : (world : World) (test : TypedExpr) (ss us : List TypedStmt) (o : Option (List TypedStmt)) (span : Span) (env : Env) (kind : StmtKind Slot Ty) (t : Bool)
    → kind ≡ stmts.If test ss o → o ≡ Some us → tested (element (value_of world env test)) ≡ Ok t → t ≡ false → kind_leaves world kind span env ≡ block (map (env_after world) us) env
if_other world test ss us o span env kind t is some value truth =
    ap (λ k. kind_leaves world k span env) (is ∙ ap (stmts.If test ss) some) ∙ if_else_leaves world test ss us span env
    ∙ two_blocks (element (value_of world env test)) false (map (env_after world) ss) (map (env_after world) us) env (value ∙ ap Ok truth)

pub if_fails : (world : World) (test : TypedExpr) (ss : List TypedStmt) (o : Option (List TypedStmt)) (span : Span) (env : Env) (kind : StmtKind Slot Ty) (failure : Failure)
    → kind ≡ stmts.If test ss o → tested (element (value_of world env test)) ≡ Err failure → kind_leaves world kind span env ≡ Err failure
if_fails world test ss None span env kind failure is value =
    ap (λ k. kind_leaves world k span env) is ∙ if_only_leaves world test ss span env
    ∙ test_failed (element (value_of world env test)) failure (λ e. block (if truth_of e then map (env_after world) ss else []) env) value
if_fails world test ss (Some us) span env kind failure is value =
    ap (λ k. kind_leaves world k span env) is ∙ if_else_leaves world test ss us span env
    ∙ test_failed (element (value_of world env test)) failure (λ e. block (if truth_of e then map (env_after world) ss else map (env_after world) us) env) value

-- a block, whose names are cut by a mark
pub block_cut : (doings : List Doing) (held : Held) (mark : List Bool) (mid new : Env) → in_turn doings (env_of held) ≡ Ok mid → mark ≡ held.0
    → new ≡ (λ slot. if has_element mark slot then mid slot else None) → block doings (env_of held) ≡ Ok new
block_cut doings held mark mid new done marked is =
    let ended : Result Env Failure → Result Env Failure = λ r. r >>= λ after. Ok (outside (env_of held) after) in
    let cut : List Bool → Env = λ m slot. if has_element m slot then mid slot else None in
    ap ended done ∙ ap Ok (outside_marked held mid ∙ ap cut (sym marked) ∙ sym is)

-- ---- its places

pub whole_has_room : (s : TypedStmt) → has_room s ≡ kind_has_room s.kind
unfolding has_room kind_has_room
whole_has_room s =
    let layer : Stmt-F Slot Ty (StmtKind Slot Ty) TypedStmt = record { kind = s.kind; span = s.span } in
    fold-roll-Stmt Slot Ty Bool Bool kind_fits node_fits layer

pub define_has_room : (t : Ty) (constant : Bool) (slot : Slot) (place : Span) (value : TypedExpr) → kind_has_room (stmts.Define t constant slot place value) ≡ (has_place slot && is_small value)
unfolding kind_has_room has_room roll-StmtKind denote.Hole.Carrier.roll
define_has_room t constant slot place value =
    let layer : Layer = StmtKind-F.Define t constant slot place value in fold-roll-StmtKind Slot Ty Bool Bool kind_fits node_fits layer

pub pair_has_room : (left right : Param Slot) (value : TypedExpr) → kind_has_room (stmts.Pair left right value) ≡ (has_place left.name && (has_place right.name && is_small value))
unfolding kind_has_room has_room roll-StmtKind denote.Hole.Carrier.roll
pair_has_room left right value =
    let layer : Layer = StmtKind-F.Pair left right value in fold-roll-StmtKind Slot Ty Bool Bool kind_fits node_fits layer

pub assign_has_room : (slot : Slot) (value : TypedExpr) → kind_has_room (stmts.Assign slot value) ≡ (has_place slot && is_small value)
unfolding kind_has_room has_room roll-StmtKind denote.Hole.Carrier.roll
assign_has_room slot value =
    let layer : Layer = StmtKind-F.Assign slot value in fold-roll-StmtKind Slot Ty Bool Bool kind_fits node_fits layer

pub time_has_room : (value : TypedExpr) → kind_has_room (stmts.Time value) ≡ (is_small value)
unfolding kind_has_room has_room roll-StmtKind denote.Hole.Carrier.roll
time_has_room value =
    let layer : Layer = StmtKind-F.Time value in fold-roll-StmtKind Slot Ty Bool Bool kind_fits node_fits layer

pub age_has_room : (value : TypedExpr) → kind_has_room (stmts.Age value) ≡ (is_small value)
unfolding kind_has_room has_room roll-StmtKind denote.Hole.Carrier.roll
age_has_room value =
    let layer : Layer = StmtKind-F.Age value in fold-roll-StmtKind Slot Ty Bool Bool kind_fits node_fits layer

pub require_has_room : (value : TypedExpr) → kind_has_room (stmts.Require value) ≡ (is_small value)
unfolding kind_has_room has_room roll-StmtKind denote.Hole.Carrier.roll
require_has_room value =
    let layer : Layer = StmtKind-F.Require value in fold-roll-StmtKind Slot Ty Bool Bool kind_fits node_fits layer

pub if_only_has_room : (test : TypedExpr) (ss : List TypedStmt) → kind_has_room (stmts.If test ss None) ≡ (is_small test && (all_of (map has_room ss) && true))
unfolding kind_has_room has_room roll-StmtKind denote.Hole.Carrier.roll
if_only_has_room test ss =
    let layer : Layer = StmtKind-F.If test ss None in fold-roll-StmtKind Slot Ty Bool Bool kind_fits node_fits layer

pub if_else_has_room : (test : TypedExpr) (ss us : List TypedStmt) → kind_has_room (stmts.If test ss (Some us)) ≡ (is_small test && (all_of (map has_room ss) && all_of (map has_room us)))
unfolding kind_has_room has_room roll-StmtKind denote.Hole.Carrier.roll
if_else_has_room test ss us =
    let layer : Layer = StmtKind-F.If test ss (Some us) in fold-roll-StmtKind Slot Ty Bool Bool kind_fits node_fits layer

both_hold : (a b : Bool) → IsTrue (a && b) → IsTrue a × IsTrue b
both_hold true b is = (refl, is)
both_hold false b is = absurd cc

node_places : (e : TypedExpr) → IsTrue (is_small e) → node_count e ≤ 1000
node_places e is = leb-true (node_count e) 1000 is

-- the test and the statements of the blocks have places
pub record IfPlaces (test : TypedExpr) (ss us : List TypedStmt) : Type 0 where
  pub test_fits : node_count test ≤ 1000
  pub block_fits : IsTrue (all_of (map has_room ss))
  pub other_fits : IsTrue (all_of (map has_room us))

if_places : (test : TypedExpr) (ss us : List TypedStmt) → IsTrue (is_small test && (all_of (map has_room ss) && all_of (map has_room us))) → IfPlaces test ss us
if_places test ss us room =
    let whole = both_hold (is_small test) (all_of (map has_room ss) && all_of (map has_room us)) room in
    let blocks = both_hold (all_of (map has_room ss)) (all_of (map has_room us)) whole.1 in
    record { test_fits = node_places test whole.0; block_fits = blocks.0; other_fits = blocks.1 }

pub of_if : (kind : StmtKind Slot Ty) (test : TypedExpr) (ss : List TypedStmt) (o : Option (List TypedStmt)) → kind ≡ stmts.If test ss o → IsTrue (kind_has_room kind) → IfPlaces test ss (unwrap_or o [])
of_if kind test ss None is room = if_places test ss [] (subst IsTrue (ap kind_has_room is ∙ if_only_has_room test ss) room)
of_if kind test ss (Some us) is room = if_places test ss us (subst IsTrue (ap kind_has_room is ∙ if_else_has_room test ss us) room)
