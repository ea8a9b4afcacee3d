-- A node whose parts are replaced: its line in the table is the same.
use Rattle.std.proofs.Common.{◌≡◌, ◌∙◌, ap, sym, subst, refl, List, map}
use Rattle.std.specs.Prelude.{Option, Some, None}
use Rattle.cash_base.specs.declared.place.Span.{Span}
use Rattle.cash_base.specs.declared.place.Slot.{Slot}
use Rattle.cash_tree.specs.declared.ExprKind.TheOpen.{ExprKind-F}
use Rattle.cash_tree.specs.declared.ExprKind.TheFolds.{map-ExprKind}
use Rattle.cash_tree.specs.declared.StmtKind.TheOpen.{StmtKind-F}
use Rattle.cash_tree.specs.declared.StmtKind.TheFolds.{map-StmtKind}
use Rattle.type_tables.specs.Tables.{Env}
use Rattle.type_check.specs.Shapes as shapes
use Rattle.type_check.specs.Shapes.{Shape, StmtShape, Place, KindLayer, StmtLayer, shape, stmt_shape}

abbrev pub map_shape : {E F : Type 0} → (E → F) → Shape E → Shape F
map_shape f (shapes.leaf kind rule) = shapes.leaf kind rule
map_shape f (shapes.one a make rule) = shapes.one (f a) make rule
map_shape f (shapes.two a b make rule) = shapes.two (f a) (f b) make rule
map_shape f (shapes.many s es make rule) = shapes.many s (map f es) make rule

pub shape_map : {K E L F : Type 0} (g : K → L) (f : E → F) (layer : KindLayer K E) (span : Span) (place : Place)
    (env : Env)
    → shape (map-ExprKind Slot (Unit {0}) K E L F g f layer) span place env ≡ map_shape f (shape layer span place env)
shape_map g f (ExprKind-F.Int digits unit) span place env = refl
shape_map g f (ExprKind-F.Bool b) span place env = refl
shape_map g f (ExprKind-F.Hex bytes) span place env = refl
shape_map g f (ExprKind-F.Text bytes) span place env = refl
shape_map g f (ExprKind-F.Date seconds) span place env = refl
shape_map g f (ExprKind-F.Name slot) span place env = refl
shape_map g f (ExprKind-F.Unary op a) span place env = refl
shape_map g f (ExprKind-F.Binary op a b) span place env = refl
shape_map g f (ExprKind-F.Length a) span place env = refl
shape_map g f (ExprKind-F.Reverse a) span place env = refl
shape_map g f (ExprKind-F.Split a b) span place env = refl
shape_map g f (ExprKind-F.Index a number) span place env = refl
shape_map g f (ExprKind-F.Cast to a None) span place env = refl
shape_map g f (ExprKind-F.Cast to a (Some b)) span place env = refl
shape_map g f (ExprKind-F.Call callee args) span place env = refl
shape_map g f (ExprKind-F.New callee args) span place env = refl
shape_map g f (ExprKind-F.Array parts) span place env = refl
shape_map g f (ExprKind-F.Look0 look) span place env = refl
shape_map g f (ExprKind-F.LookAt look a) span place env = refl

abbrev pub map_stmt_shape : {S R : Type 0} → (S → R) → StmtShape S → StmtShape R
map_stmt_shape f (shapes.simple e make rule after) = shapes.simple e make rule after
map_stmt_shape f (shapes.branching e body None rule) = shapes.branching e (map f body) None rule
map_stmt_shape f (shapes.branching e body (Some others) rule) =
    shapes.branching e (map f body) (Some (map f others)) rule

pub stmt_shape_map : {K S L R : Type 0} (g : K → L) (f : S → R) (layer : StmtLayer K S) (span : Span) (env : Env)
    → stmt_shape (map-StmtKind Slot (Unit {0}) K S L R g f layer) span env
    ≡ map_stmt_shape f (stmt_shape layer span env)
stmt_shape_map g f (StmtKind-F.Define t constant name place e) span env = refl
stmt_shape_map g f (StmtKind-F.Pair left right e) span env = refl
stmt_shape_map g f (StmtKind-F.Assign name e) span env = refl
stmt_shape_map g f (StmtKind-F.Time e) span env = refl
stmt_shape_map g f (StmtKind-F.Age e) span env = refl
stmt_shape_map g f (StmtKind-F.Require e) span env = refl
stmt_shape_map g f (StmtKind-F.If test body None) span env = refl
stmt_shape_map g f (StmtKind-F.If test body (Some others)) span env = refl
