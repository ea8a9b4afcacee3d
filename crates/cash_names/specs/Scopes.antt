-- Which tree with slots names a tree: one constructor for each rule of scopes.
use Rattle.std.specs.Prelude.{◌≡◌, ℕ, Bool, List, [], ◌∷◌, map, Option, Some, None}
use Rattle.cash_base.specs.declared.place.Span.{Span}
use Rattle.cash_base.specs.declared.place.Slot.{Slot}
use Rattle.cash_tree.specs.declared.Ty.{Ty}
use Rattle.cash_tree.specs.declared.Constraint.{Constraint}
use Rattle.cash_tree.specs.declared.Param.{Param}
use Rattle.cash_tree.specs.declared.Function.{Function}
use Rattle.cash_tree.specs.declared.Contract.{Contract}
use Rattle.cash_tree.specs.declared.Stmt.{Stmt}
use Rattle.cash_tree.specs.declared.StmtKind.{StmtKind}
use Rattle.cash_tree.specs.declared.StmtKind.TheVariants as nodes
use Rattle.name_scopes.specs.declared.fault.NameFault.{NameFault}
use Rattle.name_scopes.specs.Names.{Names, no_names, opened, most_params, most_functions, most_definitions, slot, slot_at, declared, after, with_variable}
use Rattle.cash_base.specs.Source.{text_at}
use Rattle.name_scopes.specs.Wants.{is_admitted, is_new, is_variable, IsGranted, AreGranted, first_refused}
use Rattle.cash_names.specs.Expressions.{Expression, NamedExpr, wants_of, with_slots}
use Rattle.cash_names.specs.Outline.{Statement, NamedStmt, FunctionTree, NamedFunction, Tree, NamedTree, slotted, outline_of_tree}

-- Each name in an expression is in scope, each call is that of a built-in function or an instantiation, and the named
-- expression is the same with the slot of each name in its place.
abbrev pub NamesExpr : List ℕ → Names → Expression → NamedExpr → Type 0
NamesExpr source names e x = AreGranted source (wants_of names e) × (x ≡ with_slots (slot_at source names) e)

abbrev pub parsed : StmtKind Span (Unit {0}) → Span → Statement
parsed kind span = record { kind = kind; span = span }

abbrev pub named : StmtKind Slot (Unit {0}) → Span → NamedStmt
named kind span = record { kind = kind; span = span }

-- A statement, from the names in scope in front of it to those after it. Spans, places and types stay.
mutual
  pub data NamesStmt (source : List ℕ) : Names → Statement → NamedStmt → Names → Type 0 where
    -- the name is new, and its value is read before it is in scope
    define : (names : Names) (ty : Ty) (constant : Bool) (name place : Span) (e : Expression)
        (x : NamedExpr) (span : Span)
        → IsGranted source (is_new names name) → NamesExpr source names e x
        → NamesStmt source names (parsed (nodes.Define ty constant name place e) span)
        (named (nodes.Define ty constant (slot names.next) place x) span)
        (declared (text_at source name) constant names)
    -- the right name is new where the left one is in scope
    pair : (names middle : Names) (left right : Param Span) (e : Expression) (x : NamedExpr) (span : Span)
        → middle ≡ with_variable source left.name names
        → IsGranted source (is_new names left.name) → IsGranted source (is_new middle right.name)
        → NamesExpr source names e x
        → NamesStmt source names (parsed (nodes.Pair left right e) span)
        (named (nodes.Pair (slotted left names.next) (slotted right middle.next) x) span)
        (with_variable source right.name middle)
    assign : (names : Names) (name : Span) (e : Expression) (x : NamedExpr) (span : Span)
        → IsGranted source (is_variable names name) → NamesExpr source names e x
        → NamesStmt source names (parsed (nodes.Assign name e) span)
        (named (nodes.Assign (slot_at source names name) x) span) names
    time : (names : Names) (e : Expression) (x : NamedExpr) (span : Span) → NamesExpr source names e x
        → NamesStmt source names (parsed (nodes.Time e) span) (named (nodes.Time x) span) names
    age : (names : Names) (e : Expression) (x : NamedExpr) (span : Span) → NamesExpr source names e x
        → NamesStmt source names (parsed (nodes.Age e) span) (named (nodes.Age x) span) names
    require : (names : Names) (e : Expression) (x : NamedExpr) (span : Span) → NamesExpr source names e x
        → NamesStmt source names (parsed (nodes.Require e) span) (named (nodes.Require x) span) names
    if_only : (names inner : Names) (e : Expression) (x : NamedExpr) (ss : List Statement)
        (ts : List NamedStmt) (span : Span)
        → NamesExpr source names e x → NamesAll source names ss ts inner
        → NamesStmt source names (parsed (nodes.If e ss None) span) (named (nodes.If x ts None) span)
        (after names inner)
    if_else : (names inner inner' : Names) (e : Expression) (x : NamedExpr) (ss ss' : List Statement)
        (ts ts' : List NamedStmt) (span : Span)
        → NamesExpr source names e x → NamesAll source names ss ts inner
        → NamesAll source (after names inner) ss' ts' inner'
        → NamesStmt source names (parsed (nodes.If e ss (Some ss')) span) (named (nodes.If x ts (Some ts')) span)
        (after (after names inner) inner')

  -- each sees the names of those before
  pub data NamesAll (source : List ℕ) : Names → List Statement → List NamedStmt → Names → Type 0 where
    done : (names : Names) → NamesAll source names [] [] names
    step : (names middle later : Names) (s : Statement) (ss : List Statement) (t : NamedStmt) (ts : List NamedStmt)
        → NamesStmt source names s t middle → NamesAll source middle ss ts later
        → NamesAll source names (s ∷ ss) (t ∷ ts) later

-- each parameter is new where those before are in scope
pub data NamesParams (source : List ℕ) : Names → List (Param Span) → List (Param Slot) → Names → Type 0 where
  no_param : (names : Names) → NamesParams source names [] [] names
  next_param : (names later : Names) (p : Param Span) (ps : List (Param Span)) (qs : List (Param Slot))
      → IsGranted source (is_new names p.name) → NamesParams source (with_variable source p.name names) ps qs later
      → NamesParams source names (p ∷ ps) (slotted p names.next ∷ qs) later

abbrev pub function_of : {N : Type 0} → Span → Span → List (Param N) → List (Stmt N (Unit {0})) → Function N (Unit {0})
function_of name span params body = record { name = name; span = span; params = params; body = body }

-- A function's name is new among those of the functions before. After the names in scope in front of each function
-- come its parameters, and then those that its body defines.
pub data NamesFunctions (source : List ℕ) (first : Names) :
    Names → List FunctionTree → List NamedFunction → Names → Type 0 where
  no_function : (functions : Names) → NamesFunctions source first functions [] [] functions
  next_function : (functions later inner last : Names) (name span : Span) (ps : List (Param Span))
      (qs : List (Param Slot)) (ss : List Statement) (ts : List NamedStmt) (fs : List FunctionTree) (gs : List NamedFunction)
      → IsGranted source (is_new functions name) → NamesParams source first ps qs inner
      → NamesAll source (opened most_definitions inner) ss ts last
      → NamesFunctions source first (with_variable source name functions) fs gs later
      → NamesFunctions source first functions (function_of name span ps ss ∷ fs)
      (function_of name span qs ts ∷ gs) later

abbrev pub contract_of : {N : Type 0} → Span → Span → List Constraint → List (Param N)
    → List (Function N (Unit {0})) → Contract N (Unit {0})
contract_of name span pragmas params functions =
    record { name = name; span = span; pragmas = pragmas; params = params; functions = functions }

-- Each pragma admits the language's version, each function begins with the constructor's parameters, and there is one.
pub data IsNamed (source : List ℕ) : Tree → NamedTree → Type 0 where
  contract : (ctor functions : Names) (name span : Span) (pragmas : List Constraint) (ps : List (Param Span))
      (qs : List (Param Slot))
      (f : FunctionTree) (fs : List FunctionTree) (gs : List NamedFunction)
      → AreGranted source (map is_admitted pragmas) → NamesParams source (opened most_params no_names) ps qs ctor
      → NamesFunctions source (opened most_params ctor) (opened most_functions no_names) (f ∷ fs) gs functions
      → IsNamed source (contract_of name span pragmas ps (f ∷ fs)) (contract_of name span pragmas qs gs)

-- the first place in text order that is refused, with its fault; the last of them is that there is no function
abbrev pub first_name_fault : List ℕ → Tree → Option NameFault
first_name_fault source tree = first_refused source (outline_of_tree source tree).wants
