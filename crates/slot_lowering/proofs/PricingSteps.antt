-- What each kind of statement pays, by its line in the definition.
use Rattle.std.proofs.Common.{◌≡◌, ◌+◌, Bool, true, List, [], ◌∷◌, length, map, refl, sym, ap, ◌∙◌, subst, arith, length-append}
use Rattle.std.specs.Prelude.{Some, None}
use Rattle.cash_base.specs.declared.place.Span.{Span}
use Rattle.cash_base.specs.declared.place.Slot.{Slot}
use Rattle.cash_tree.specs.declared.Ty.{Ty}
use Rattle.cash_tree.specs.declared.Param.{Param}
use Rattle.cash_tree.specs.declared.ExprKind.{ExprKind}
use Rattle.cash_tree.specs.declared.ExprKind.TheOpen.{ExprKind-F}
use Rattle.cash_tree.specs.declared.ExprKind.TheViews.{out-ExprKind, roll-ExprKind, roll-out-ExprKind}
use Rattle.cash_tree.specs.declared.Stmt.{Stmt}
use Rattle.cash_tree.specs.declared.StmtKind.{StmtKind}
use Rattle.cash_tree.specs.declared.StmtKind.TheVariants as stmts
use Rattle.cash_tree.specs.declared.StmtKind.TheOpen.{StmtKind-F, Stmt-F}
use Rattle.cash_tree.specs.declared.StmtKind.TheViews.{out-StmtKind, roll-StmtKind, roll-out-StmtKind}
use Rattle.cash_tree.specs.declared.StmtKind.TheFolds.{fold-roll-Stmt, fold-roll-StmtKind}
use Rattle.type_tables.specs.Tables.{TypedExpr}
use Rattle.slot_expressions.specs.Room.{price, ◌⊕◌, one, two, price_of, price_at}
use Rattle.slot_expressions.proofs.RoomSteps.{split_priced}
use Rattle.slot_expressions.proofs.Lights.{Under}
use Rattle.slot_lowering.specs.Scoped.{Part, is_split, is_split_layer, part_of, part_of_kind}
use Rattle.slot_lowering.specs.Statements.{names_of}
use Rattle.slot_lowering.specs.Room.{Pays, charges, defined, if_pays, parts_price, pair_price, kind_pays, stmt_pays, pays_of, pays_at}
use Rattle.slot_lowering.proofs.ScopedSteps as scoped

abbrev TypedStmt : Type 0
TypedStmt = Stmt Slot Ty

abbrev Layer : Type 0
Layer = StmtKind-F Slot Ty (StmtKind Slot Ty) TypedStmt

abbrev Whole : Type 0
Whole = Stmt-F Slot Ty (StmtKind Slot Ty) TypedStmt

pub whole_pays : (s : TypedStmt) → pays_of s ≡ pays_at s.kind
unfolding pays_of pays_at
whole_pays s =
    let layer : Whole = record { kind = s.kind; span = s.span } in fold-roll-Stmt Slot Ty Pays Pays kind_pays stmt_pays layer

pub define_pays : (t : Ty) (constant : Bool) (slot : Slot) (place : Span) (value : TypedExpr) → pays_at (stmts.Define t constant slot place value) ≡ charges (price_of value) (price_of value) 1
unfolding pays_of pays_at roll-StmtKind denote.Hole.Carrier.roll
define_pays t constant slot place value =
    let layer : Layer = StmtKind-F.Define t constant slot place value in fold-roll-StmtKind Slot Ty Pays Pays kind_pays stmt_pays layer

pub pair_pays : (left right : Param Slot) (value : TypedExpr) → pays_at (stmts.Pair left right value) ≡ charges (pair_price value) (pair_price value) 2
unfolding pays_of pays_at roll-StmtKind denote.Hole.Carrier.roll
pair_pays left right value =
    let layer : Layer = StmtKind-F.Pair left right value in fold-roll-StmtKind Slot Ty Pays Pays kind_pays stmt_pays layer

pub assign_pays : (slot : Slot) (value : TypedExpr) → pays_at (stmts.Assign slot value) ≡ charges (price_of value ⊕ price 5 2) (price_of value ⊕ price 5 2) 0
unfolding pays_of pays_at roll-StmtKind denote.Hole.Carrier.roll
assign_pays slot value =
    let layer : Layer = StmtKind-F.Assign slot value in fold-roll-StmtKind Slot Ty Pays Pays kind_pays stmt_pays layer

pub time_pays : (value : TypedExpr) → pays_at (stmts.Time value) ≡ charges (price_of value ⊕ two) (price_of value ⊕ price 3 2) 0
unfolding pays_of pays_at roll-StmtKind denote.Hole.Carrier.roll
time_pays value =
    let layer : Layer = StmtKind-F.Time value in fold-roll-StmtKind Slot Ty Pays Pays kind_pays stmt_pays layer

pub age_pays : (value : TypedExpr) → pays_at (stmts.Age value) ≡ charges (price_of value ⊕ two) (price_of value ⊕ price 3 2) 0
unfolding pays_of pays_at roll-StmtKind denote.Hole.Carrier.roll
age_pays value =
    let layer : Layer = StmtKind-F.Age value in fold-roll-StmtKind Slot Ty Pays Pays kind_pays stmt_pays layer

pub require_pays : (value : TypedExpr) → pays_at (stmts.Require value) ≡ charges (price_of value ⊕ one) (price_of value) 0
unfolding pays_of pays_at roll-StmtKind denote.Hole.Carrier.roll
require_pays value =
    let layer : Layer = StmtKind-F.Require value in fold-roll-StmtKind Slot Ty Pays Pays kind_pays stmt_pays layer

pub if_only_pays : (test : TypedExpr) (ss : List TypedStmt) → pays_at (stmts.If test ss None) ≡ if_pays (price_of test) (map pays_of ss) None
unfolding pays_of pays_at roll-StmtKind denote.Hole.Carrier.roll
if_only_pays test ss =
    let layer : Layer = StmtKind-F.If test ss None in fold-roll-StmtKind Slot Ty Pays Pays kind_pays stmt_pays layer

pub if_else_pays : (test : TypedExpr) (ss us : List TypedStmt) → pays_at (stmts.If test ss (Some us)) ≡ if_pays (price_of test) (map pays_of ss) (Some (map pays_of us))
unfolding pays_of pays_at roll-StmtKind denote.Hole.Carrier.roll
if_else_pays test ss us =
    let layer : Layer = StmtKind-F.If test ss (Some us) in fold-roll-StmtKind Slot Ty Pays Pays kind_pays stmt_pays layer

-- ---- the names that are defined

counts : (kind : StmtKind Slot Ty) {p : Part} {q : Pays} → part_of_kind kind ≡ p → pays_at kind ≡ q → length p.names ≡ q.names → length (part_of_kind kind).names ≡ (pays_at kind).names
counts kind parts pays same =
    ap (λ (p : Part). length p.names) parts ∙ same ∙ sym (ap (λ (q : Pays). q.names) pays)

layer_counts : (layer : Layer) → length (part_of_kind (roll-StmtKind Slot Ty layer)).names ≡ (pays_at (roll-StmtKind Slot Ty layer)).names
unfolding roll-StmtKind denote.Hole.Carrier.roll
layer_counts (StmtKind-F.Define t constant slot place value) = counts _ (scoped.define_part t constant slot place value) (define_pays t constant slot place value) refl
layer_counts (StmtKind-F.Pair left right value) = counts _ (scoped.pair_part left right value) (pair_pays left right value) refl
layer_counts (StmtKind-F.Assign slot value) = counts _ (scoped.assign_part slot value) (assign_pays slot value) refl
layer_counts (StmtKind-F.Time value) = counts _ (scoped.time_part value) (time_pays value) refl
layer_counts (StmtKind-F.Age value) = counts _ (scoped.age_part value) (age_pays value) refl
layer_counts (StmtKind-F.Require value) = counts _ (scoped.require_part value) (require_pays value) refl
layer_counts (StmtKind-F.If test ss None) = counts _ (scoped.if_only_part test ss) (if_only_pays test ss) refl
layer_counts (StmtKind-F.If test ss (Some us)) = counts _ (scoped.if_else_part test ss us) (if_else_pays test ss us) refl

kind_counts : (kind : StmtKind Slot Ty) → length (part_of_kind kind).names ≡ (pays_at kind).names
kind_counts kind =
    let is = roll-out-StmtKind Slot Ty kind in
    ap (λ k. length (part_of_kind k).names) (sym is) ∙ layer_counts (out-StmtKind Slot Ty kind) ∙ ap (λ k. (pays_at k).names) is

stmt_counts : (s : TypedStmt) → length (part_of s).names ≡ (pays_of s).names
stmt_counts s =
    ap (λ (p : Part). length p.names) (scoped.whole_part s) ∙ kind_counts s.kind ∙ sym (ap (λ (q : Pays). q.names) (whole_pays s))

-- a block defines as many names as it pays for
pub names_counted : (body : List TypedStmt) → length (names_of body) ≡ defined (map pays_of body)
names_counted [] = refl
names_counted (s ∷ body) =
    length-append (part_of s).names (names_of body)
    ∙ ap (λ n. n + length (names_of body)) (stmt_counts s) ∙ ap (λ n. (pays_of s).names + n) (names_counted body)

-- ---- both parts of a split

split_layer : (layer : ExprKind-F Slot Ty (ExprKind Slot Ty) TypedExpr) → is_split_layer layer ≡ true → Under (price_at (roll-ExprKind Slot Ty layer)) (one ⊕ parts_price layer)
unfolding roll-ExprKind denote.Hole.Carrier.roll
split_layer (ExprKind-F.Split a b) is =
    subst (λ p. Under p (one ⊕ (one ⊕ price_of a ⊕ price_of b))) (sym (split_priced a b)) (record { bytes = omega arith; ops = omega arith })
split_layer _ is = absurd cc

pub split_pays : (e : TypedExpr) → is_split e ≡ true → Under (price_at e.kind) (one ⊕ pair_price e)
unfolding is_split pair_price
split_pays e is =
    subst (λ k. Under (price_at k) (one ⊕ pair_price e)) (roll-out-ExprKind Slot Ty e.kind) (split_layer (out-ExprKind Slot Ty e.kind) is)
