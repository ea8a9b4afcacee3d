-- What a tree wants of its names, in text order, and the tree with slots.
--
-- Which names are in scope at a place, and which slot each has, is told by the tree alone: nothing is refused here.
use Rattle.std.specs.Prelude.{ℕ, Bool, true, false, List, [], ◌∷◌, ◌++◌, map, Option, None, Some}
use Rattle.cash_base.specs.declared.place.Span.{Span}
use Rattle.cash_base.specs.declared.place.Slot.{Slot}
use Rattle.cash_tree.specs.declared.Param.{Param}
use Rattle.cash_tree.specs.declared.Function.{Function}
use Rattle.cash_tree.specs.declared.Contract.{Contract}
use Rattle.cash_tree.specs.declared.Stmt.{Stmt}
use Rattle.cash_tree.specs.declared.StmtKind.{StmtKind}
use Rattle.cash_tree.specs.declared.StmtKind.TheVariants as nodes
use Rattle.cash_tree.specs.declared.StmtKind.TheOpen.{StmtKind-F, Stmt-F}
use Rattle.cash_tree.specs.declared.StmtKind.TheFolds.{fold-Stmt}
use Rattle.name_scopes.specs.Names.{Names, no_names, opened, most_params, most_functions, most_definitions, slot, slot_at, declared, with_variable, after}
use Rattle.cash_base.specs.Source.{text_at}
use Rattle.name_scopes.specs.Wants.{Want, is_admitted, is_new, is_variable, has_function}
use Rattle.cash_names.specs.Expressions.{wants_of, with_slots}

-- a part of the tree
pub record Outline (A : Type 0) : Type 0 where
  -- what it wants, in text order
  pub wants : List Want
  -- what stands for it, with slots
  pub value : A

abbrev pub outline : {A : Type 0} → List Want → A → Outline A
outline wants value = record { wants = wants; value = value }

-- a part that may declare names, by those in scope in front of it: with it come those in scope after it
abbrev pub Scopes : Type 0 → Type 0
Scopes A = Names → Outline (A × Names)

-- one after the other: each sees the names of those before
abbrev pub run : {A : Type 0} → List (Scopes A) → Scopes (List A)
run [] names = outline [] ([], names)
run (part ∷ parts) names =
    let head = part names in
    let tail = run parts head.value.1 in
    outline (head.wants ++ tail.wants) (head.value.0 ∷ tail.value.0, tail.value.1)

-- ---- parameters

abbrev pub slotted : Param Span → ℕ → Param Slot
slotted p n = record { ty = p.ty; name = slot n; place = p.place }

abbrev pub param_outline : List ℕ → Param Span → Scopes (Param Slot)
param_outline source p names =
    outline (is_new names p.name ∷ []) (slotted p names.next, with_variable source p.name names)

-- ---- statements

abbrev pub Statement : Type 0
Statement = Stmt Span (Unit {0})

abbrev pub NamedStmt : Type 0
NamedStmt = Stmt Slot (Unit {0})

abbrev pub NamedStmtKind : Type 0
NamedStmtKind = StmtKind Slot (Unit {0})

-- a block's names end with it, and their slots are not given again
abbrev pub block : List (Scopes NamedStmt) → Scopes (List NamedStmt)
block parts names =
    let all = run parts names in outline all.wants (all.value.0, after names all.value.1)

-- the block after `else`, where there is one
abbrev pub other : Option (List (Scopes NamedStmt)) → Scopes (Option (List NamedStmt))
other None names = outline [] (None, names)
other (Some parts) names =
    let all = block parts names in outline all.wants (Some all.value.0, all.value.1)

abbrev pub stmt_kind_outline : List ℕ → StmtKind-F Span (Unit {0}) (Scopes NamedStmtKind) (Scopes NamedStmt)
    → Scopes NamedStmtKind
-- the name stands in front of the value, which is read before the name is in scope
stmt_kind_outline source (StmtKind-F.Define ty constant name place value) names =
    outline (is_new names name ∷ wants_of names value) (
      nodes.Define ty constant (slot names.next) place (with_slots (slot_at source names) value),
      declared (text_at source name) constant names,
    )
-- and so do two names, of which the right one isn't the left one
stmt_kind_outline source (StmtKind-F.Pair left right value) names =
    let middle = with_variable source left.name names in
    outline (is_new names left.name ∷ is_new middle right.name ∷ wants_of names value) (
      nodes.Pair (slotted left names.next) (slotted right middle.next) (with_slots (slot_at source names) value),
      with_variable source right.name middle,
    )
stmt_kind_outline source (StmtKind-F.Assign name value) names =
    outline (is_variable names name ∷ wants_of names value)
    (nodes.Assign (slot_at source names name) (with_slots (slot_at source names) value), names)
stmt_kind_outline source (StmtKind-F.Time value) names =
    outline (wants_of names value) (nodes.Time (with_slots (slot_at source names) value), names)
stmt_kind_outline source (StmtKind-F.Age value) names =
    outline (wants_of names value) (nodes.Age (with_slots (slot_at source names) value), names)
stmt_kind_outline source (StmtKind-F.Require value) names =
    outline (wants_of names value) (nodes.Require (with_slots (slot_at source names) value), names)
stmt_kind_outline source (StmtKind-F.If test yes_block no_block) names =
    let y = block yes_block names in
    let n = other no_block y.value.1 in
    outline (wants_of names test ++ (y.wants ++ n.wants))
    (nodes.If (with_slots (slot_at source names) test) y.value.0 n.value.0, n.value.1)

abbrev pub stmt_outline : Stmt-F Span (Unit {0}) (Scopes NamedStmtKind) (Scopes NamedStmt) → Scopes NamedStmt
stmt_outline s names =
    let kind = s.kind names in
    outline kind.wants (record { kind = kind.value.0; span = s.span }, kind.value.1)

abbrev pub outline_of : List ℕ → Statement → Scopes NamedStmt
outline_of source =
    fold-Stmt Span (Unit {0}) (Scopes NamedStmtKind) (Scopes NamedStmt) (stmt_kind_outline source) stmt_outline

-- ---- functions and the contract

abbrev pub FunctionTree : Type 0
FunctionTree = Function Span (Unit {0})

abbrev pub NamedFunction : Type 0
NamedFunction = Function Slot (Unit {0})

abbrev pub Tree : Type 0
Tree = Contract Span (Unit {0})

abbrev pub NamedTree : Type 0
NamedTree = Contract Slot (Unit {0})

-- A function, by the names in scope in front of the parameters of each function, and by the functions in front of it,
-- whose names are a table of their own.
abbrev pub function_outline : List ℕ → Names → FunctionTree → Scopes NamedFunction
function_outline source first f functions =
    let ps = run (map (param_outline source) f.params) first in
    let body = block (map (outline_of source) f.body) (opened most_definitions ps.value.1) in
    outline (is_new functions f.name ∷ (ps.wants ++ body.wants)) (
      record { name = f.name; span = f.span; params = ps.value.0; body = body.value.0 },
      with_variable source f.name functions,
    )

abbrev pub is_without : List FunctionTree → Bool
is_without [] = true
is_without (f ∷ fs) = false

-- Each function begins with the constructor's parameters. Whether there is a function is asked last.
abbrev pub outline_of_tree : List ℕ → Tree → Outline NamedTree
outline_of_tree source tree =
    let ctor = run (map (param_outline source) tree.params) (opened most_params no_names) in
    let first = opened most_params ctor.value.1 in
    let fs = run (map (function_outline source first) tree.functions) (opened most_functions no_names) in
    outline
    (map is_admitted tree.pragmas ++
    (ctor.wants ++ (fs.wants ++ has_function (is_without tree.functions) tree.span ∷ [])))
    (record {
      name = tree.name;
      span = tree.span;
      pragmas = tree.pragmas;
      params = ctor.value.0;
      functions = fs.value.0;
    })
