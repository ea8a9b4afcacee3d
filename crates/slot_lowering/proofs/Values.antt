-- The values of what is ready are ready, by the line of each kind of statement in the definition.
use Rattle.std.proofs.Common.{◌≡◌, Bool, true, List, [], ◌∷◌, ◌++◌, map, ap, sym, ◌∙◌, refl}
use Rattle.std.specs.Prelude.{Some, None, Option, unwrap_or, ◌&&◌}
use Rattle.cash_base.specs.declared.place.Span.{Span}
use Rattle.cash_base.specs.declared.place.Slot.{Slot}
use Rattle.cash_tree.specs.declared.Ty.{Ty}
use Rattle.cash_tree.specs.declared.Param.{Param}
use Rattle.cash_tree.specs.declared.ExprKind.{ExprKind}
use Rattle.cash_tree.specs.declared.ExprKind.TheVariants as exprs
use Rattle.cash_tree.specs.declared.ExprKind.TheOpen.{ExprKind-F}
use Rattle.cash_tree.specs.declared.ExprKind.TheViews.{out-ExprKind, roll-ExprKind, roll-out-ExprKind}
use Rattle.cash_tree.specs.declared.Stmt.{Stmt}
use Rattle.cash_tree.specs.declared.StmtKind.{StmtKind}
use Rattle.cash_tree.specs.declared.StmtKind.TheVariants as stmts
use Rattle.cash_tree.specs.declared.StmtKind.TheOpen.{StmtKind-F, Stmt-F}
use Rattle.cash_tree.specs.declared.StmtKind.TheViews.{roll-StmtKind}
use Rattle.cash_tree.specs.declared.StmtKind.TheFolds.{fold-roll-Stmt, fold-roll-StmtKind}
use Rattle.type_tables.specs.Tables.{TypedExpr}
use Rattle.source_meaning.specs.Runnable.{all_of}
use Rattle.slot_code.specs.declared.slots.SlotInstr.{SlotInstr}
use Rattle.slot_code.specs.declared.slots.SlotKind.TheVariants as kinds
use Rattle.slot_expressions.specs.declared.expressions.Width.TheVariants as widths
use Rattle.slot_expressions.specs.Ready.{any_name, is_ready, Ready}
use Rattle.slot_expressions.specs.Pieces.{LowersElement, LowersGiven, instruction}
use Rattle.slot_expressions.proofs.Readies.{whole_readies, split_first, split_second}
use Rattle.slot_expressions.proofs.Lowered.{lowers_split, lowers_given}
use Rattle.slot_expressions.proofs.Tests.{and_left, and_right}
use Rattle.slot_lowering.specs.Scoped.{is_split, is_split_layer, kind_ready, stmt_ready, has_values, has_values_kind, ReadyStmt, ReadyStmtKind, ReadyBody, IsSplit}

abbrev TypedStmt : Type 0
TypedStmt = Stmt Slot Ty

abbrev Layer : Type 0
Layer = StmtKind-F Slot Ty (StmtKind Slot Ty) TypedStmt

abbrev Whole : Type 0
Whole = Stmt-F Slot Ty (StmtKind Slot Ty) TypedStmt

-- ---- the lines of the definition

pub whole_is : (s : TypedStmt) → has_values s ≡ has_values_kind s.kind
unfolding has_values has_values_kind
whole_is s =
    let layer : Whole = record { kind = s.kind; span = s.span } in fold-roll-Stmt Slot Ty Bool Bool kind_ready stmt_ready layer

pub define_is : (t : Ty) (constant : Bool) (slot : Slot) (place : Span) (value : TypedExpr) → has_values_kind (stmts.Define t constant slot place value) ≡ is_ready any_name value
unfolding has_values has_values_kind roll-StmtKind denote.Hole.Carrier.roll
define_is t constant slot place value =
    let layer : Layer = StmtKind-F.Define t constant slot place value in fold-roll-StmtKind Slot Ty Bool Bool kind_ready stmt_ready layer

pub pair_is : (left right : Param Slot) (value : TypedExpr) → has_values_kind (stmts.Pair left right value) ≡ (is_split value && is_ready any_name value)
unfolding has_values has_values_kind roll-StmtKind denote.Hole.Carrier.roll
pair_is left right value =
    let layer : Layer = StmtKind-F.Pair left right value in fold-roll-StmtKind Slot Ty Bool Bool kind_ready stmt_ready layer

pub assign_is : (slot : Slot) (value : TypedExpr) → has_values_kind (stmts.Assign slot value) ≡ is_ready any_name value
unfolding has_values has_values_kind roll-StmtKind denote.Hole.Carrier.roll
assign_is slot value =
    let layer : Layer = StmtKind-F.Assign slot value in fold-roll-StmtKind Slot Ty Bool Bool kind_ready stmt_ready layer

pub time_is : (value : TypedExpr) → has_values_kind (stmts.Time value) ≡ is_ready any_name value
unfolding has_values has_values_kind roll-StmtKind denote.Hole.Carrier.roll
time_is value =
    let layer : Layer = StmtKind-F.Time value in fold-roll-StmtKind Slot Ty Bool Bool kind_ready stmt_ready layer

pub age_is : (value : TypedExpr) → has_values_kind (stmts.Age value) ≡ is_ready any_name value
unfolding has_values has_values_kind roll-StmtKind denote.Hole.Carrier.roll
age_is value =
    let layer : Layer = StmtKind-F.Age value in fold-roll-StmtKind Slot Ty Bool Bool kind_ready stmt_ready layer

pub require_is : (value : TypedExpr) → has_values_kind (stmts.Require value) ≡ is_ready any_name value
unfolding has_values has_values_kind roll-StmtKind denote.Hole.Carrier.roll
require_is value =
    let layer : Layer = StmtKind-F.Require value in fold-roll-StmtKind Slot Ty Bool Bool kind_ready stmt_ready layer

pub if_only_is : (test : TypedExpr) (ss : List TypedStmt) → has_values_kind (stmts.If test ss None) ≡ (is_ready any_name test && (all_of (map has_values ss) && true))
unfolding has_values has_values_kind roll-StmtKind denote.Hole.Carrier.roll
if_only_is test ss =
    let layer : Layer = StmtKind-F.If test ss None in fold-roll-StmtKind Slot Ty Bool Bool kind_ready stmt_ready layer

pub if_else_is : (test : TypedExpr) (ss us : List TypedStmt) → has_values_kind (stmts.If test ss (Some us)) ≡ (is_ready any_name test && (all_of (map has_values ss) && all_of (map has_values us)))
unfolding has_values has_values_kind roll-StmtKind denote.Hole.Carrier.roll
if_else_is test ss us =
    let layer : Layer = StmtKind-F.If test ss (Some us) in fold-roll-StmtKind Slot Ty Bool Bool kind_ready stmt_ready layer

-- ---- the values

pub whole_values : {s : TypedStmt} → ReadyStmt s → ReadyStmtKind s.kind
whole_values {s} h = record { is = sym (whole_is s) ∙ h.is }

pub define_value : {kind : StmtKind Slot Ty} {t : Ty} {constant : Bool} {slot : Slot} {place : Span} {value : TypedExpr} → kind ≡ stmts.Define t constant slot place value → ReadyStmtKind kind → Ready value
define_value {kind} {t} {constant} {slot} {place} {value} is h = record { is = sym (ap has_values_kind is ∙ define_is t constant slot place value) ∙ h.is }

pub pair_split : {kind : StmtKind Slot Ty} {left right : Param Slot} {value : TypedExpr} → kind ≡ stmts.Pair left right value → ReadyStmtKind kind → IsSplit value
pair_split {kind} {left} {right} {value} is h = record { is = and_left (is_split value) (is_ready any_name value) (sym (ap has_values_kind is ∙ pair_is left right value) ∙ h.is) }

pub pair_value : {kind : StmtKind Slot Ty} {left right : Param Slot} {value : TypedExpr} → kind ≡ stmts.Pair left right value → ReadyStmtKind kind → Ready value
pair_value {kind} {left} {right} {value} is h = record { is = and_right (is_split value) (is_ready any_name value) (sym (ap has_values_kind is ∙ pair_is left right value) ∙ h.is) }

pub assign_value : {kind : StmtKind Slot Ty} {slot : Slot} {value : TypedExpr} → kind ≡ stmts.Assign slot value → ReadyStmtKind kind → Ready value
assign_value {kind} {slot} {value} is h = record { is = sym (ap has_values_kind is ∙ assign_is slot value) ∙ h.is }

pub time_value : {kind : StmtKind Slot Ty} {value : TypedExpr} → kind ≡ stmts.Time value → ReadyStmtKind kind → Ready value
time_value {kind} {value} is h = record { is = sym (ap has_values_kind is ∙ time_is value) ∙ h.is }

pub age_value : {kind : StmtKind Slot Ty} {value : TypedExpr} → kind ≡ stmts.Age value → ReadyStmtKind kind → Ready value
age_value {kind} {value} is h = record { is = sym (ap has_values_kind is ∙ age_is value) ∙ h.is }

pub require_value : {kind : StmtKind Slot Ty} {value : TypedExpr} → kind ≡ stmts.Require value → ReadyStmtKind kind → Ready value
require_value {kind} {value} is h = record { is = sym (ap has_values_kind is ∙ require_is value) ∙ h.is }

-- the test and the statements of the blocks
pub record IfValues (e : TypedExpr) (ss us : List TypedStmt) : Type 0 where
  pub test : Ready e
  pub block : ReadyBody ss
  pub other : ReadyBody us

if_values : (test : TypedExpr) (ss us : List TypedStmt) → (is_ready any_name test && (all_of (map has_values ss) && all_of (map has_values us))) ≡ true → IfValues test ss us
if_values test ss us is =
    let blocks = and_right (is_ready any_name test) (all_of (map has_values ss) && all_of (map has_values us)) is in record {
      test = record { is = and_left (is_ready any_name test) (all_of (map has_values ss) && all_of (map has_values us)) is };
      block = record { is = and_left (all_of (map has_values ss)) (all_of (map has_values us)) blocks };
      other = record { is = and_right (all_of (map has_values ss)) (all_of (map has_values us)) blocks };
    }

pub of_if : (kind : StmtKind Slot Ty) (test : TypedExpr) (ss : List TypedStmt) (o : Option (List TypedStmt)) → kind ≡ stmts.If test ss o → ReadyStmtKind kind → IfValues test ss (unwrap_or o [])
of_if kind test ss None is h = if_values test ss [] (sym (ap has_values_kind is ∙ if_only_is test ss) ∙ h.is)
of_if kind test ss (Some us) is h = if_values test ss us (sym (ap has_values_kind is ∙ if_else_is test ss us) ∙ h.is)

-- ---- both parts of a split

split_layer : (layer : ExprKind-F Slot Ty (ExprKind Slot Ty) TypedExpr) → is_split_layer layer ≡ true → ((a b : TypedExpr) → roll-ExprKind Slot Ty layer ≡ exprs.Split a b → ⊥) → ⊥
unfolding roll-ExprKind denote.Hole.Carrier.roll
split_layer (ExprKind-F.Split a b) is other = other a b refl
split_layer _ is other = absurd cc

pub never_other : {e : TypedExpr} → IsSplit e → ((a b : TypedExpr) → e.kind ≡ exprs.Split a b → ⊥) → ⊥
unfolding is_split
never_other {e} h other =
    split_layer (out-ExprKind Slot Ty e.kind) h.is (λ a b is. other a b (sym (roll-out-ExprKind Slot Ty e.kind) ∙ is))

pub split_left : {e : TypedExpr} {a : TypedExpr} (b : TypedExpr) → e.kind ≡ exprs.Split a b → Ready e → Ready a
split_left b is h = split_first b is (whole_readies h)

pub split_right : {e : TypedExpr} (a : TypedExpr) {b : TypedExpr} → e.kind ≡ exprs.Split a b → Ready e → Ready b
split_right a is h = split_second a is (whole_readies h)

pub lowers_parts : {old mid far new : List SlotInstr} {checking : Span} {e : TypedExpr} {a b : TypedExpr} → e.kind ≡ exprs.Split a b
    → LowersElement old mid checking a → LowersElement mid far checking b → new ≡ far ++ instruction kinds.Split e.span checking ∷ []
    → LowersGiven old new checking e widths.Two
lowers_parts is ha hb grown = lowers_given (lowers_split is ha hb grown)
