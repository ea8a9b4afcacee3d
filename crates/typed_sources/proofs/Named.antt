-- What follows of the expressions and parameters of a named tree, from those of its tree.
use Rattle.std.proofs.Common.{◌≡◌, ◌∙◌, ap, sym, subst, refl, ℕ, Bool, true, List, [], ◌∷◌, ◌++◌, map, Some, None}
use Rattle.std.specs.List.{AllByRecursion}
use Rattle.std.proofs.Math.Path.{fun_ext}
use Rattle.cash_base.specs.declared.place.Span.{Span}
use Rattle.cash_base.specs.declared.place.Slot.{Slot}
use Rattle.cash_tree.specs.declared.Ty.{Ty}
use Rattle.cash_tree.specs.declared.Param.{Param}
use Rattle.cash_tree.specs.declared.Function.{Function}
use Rattle.cash_tree.specs.declared.Expr.{Expr}
use Rattle.cash_tree.specs.declared.ExprKind.TheOpen.{ExprKind-F}
use Rattle.cash_tree.specs.declared.ExprKind.TheFolds.{fold-Expr}
use Rattle.cash_tree.specs.Nodes.{joined, kind_values, stmt_values, values, tree_values}
use Rattle.name_scopes.specs.Names.{Names, slot, slot_at, after as scopes_after}
use Rattle.cash_names.specs.Expressions.{Expression, NamedExpr, with_slots}
use Rattle.cash_names.specs.Outline.{Statement, NamedStmt, FunctionTree, NamedFunction, Tree, NamedTree, slotted}
use Rattle.cash_names.specs.Scopes as scopes
use Rattle.cash_names.specs.Scopes.{NamesExpr, NamesStmt, NamesAll, NamesParams, NamesFunctions, IsNamed}
use Rattle.cash_names.proofs.Kept.{layer, fused}
use Rattle.cash_names.proofs.Rows.{at_define, at_pair, at_assign, at_time, at_age, at_require, at_if}
use Rattle.type_soundness.proofs.Parts.{apart}
use Rattle.lowering_laws.specs.Laws.{kind_fits, node_fits, nodes_fit}
use Rattle.plain_trees.proofs.Trees.{TreeIs}
use Rattle.typed_sources.proofs.Spelled.{FitsGranted}

-- ---- casts and calls

fits_alike : (f : Span → Slot) (y : ExprKind-F Span (Unit {0}) Bool Bool) → kind_fits (layer f y) ≡ kind_fits y
fits_alike f (ExprKind-F.Cast to a None) = refl
fits_alike f (ExprKind-F.Cast to a (Some b)) = refl
fits_alike f _ = refl

slots_fit : (f : Span → Slot) (e : Expression) → nodes_fit (with_slots f e) ≡ nodes_fit e
unfolding nodes_fit
slots_fit f e =
    fused f kind_fits node_fits e
    ∙ ap (λ k. fold-Expr Span (Unit {0}) Bool Bool k node_fits e) (fun_ext (fits_alike f))

abbrev DoesFit : NamedExpr → Type 0
DoesFit x = nodes_fit x ≡ true

named_fits : (source : List ℕ) (names : Names) (e : Expression) (x : NamedExpr) → NamesExpr source names e x → FitsGranted source e → DoesFit x
named_fits source names e x h fits = ap nodes_fit h.1 ∙ slots_fit (slot_at source names) e ∙ fits names h.0

-- ---- statements

abbrev Before : List ℕ → List Expression → Type 0
Before source es = AllByRecursion (FitsGranted source) es

abbrev pub AllFit : List NamedExpr → Type 0
AllFit xs = AllByRecursion DoesFit xs

both_fit : (xs ys : List NamedExpr) → AllFit xs → AllFit ys → AllFit (xs ++ ys)
both_fit [] ys h k = k
both_fit (x ∷ xs) ys h k = (h.0, both_fit xs ys h.1 k)

-- from the one expression of a statement to that of the named one
one_fits : (source : List ℕ) (names : Names) (e : Expression) (x : NamedExpr) (es : List Expression) (xs : List NamedExpr) → NamesExpr source names e x
    → es ≡ e ∷ [] → xs ≡ x ∷ [] → Before source es → AllFit xs
one_fits source names e x es xs h before after all =
    let first : Before source (e ∷ []) = subst (Before source) before all in
    subst AllFit (sym after) (named_fits source names e x h first.0, tt)

rest_fits : (source : List ℕ) (es ys : List Expression) (xs zs : List NamedExpr) → (Before source es → AllFit xs) → (Before source ys → AllFit zs) → Before source (es ++ ys) → AllFit (xs ++ zs)
rest_fits source es ys xs zs f g all = let both = apart (FitsGranted source) es ys all in both_fit xs zs (f both.0) (g both.1)

mutual
  stmt_fits : (source : List ℕ) (names later : Names) (s : Statement) (t : NamedStmt) → NamesStmt source names s t later → Before source (values s) → AllFit (values t)
  stmt_fits source _ _ _ _ (scopes.define names w constant name place e x span new h) all =
      one_fits source names e x _ _ h (at_define kind_values stmt_values w constant name place e span) (at_define kind_values stmt_values w constant (slot names.next) place x span) all
  stmt_fits source _ _ _ _ (scopes.pair names middle left right e x span is new new' h) all =
      one_fits source names e x _ _ h (at_pair kind_values stmt_values left right e span) (at_pair kind_values stmt_values (slotted left names.next) (slotted right middle.next) x span) all
  stmt_fits source _ _ _ _ (scopes.assign names name e x span free h) all =
      one_fits source names e x _ _ h (at_assign kind_values stmt_values name e span) (at_assign kind_values stmt_values (slot_at source names name) x span) all
  stmt_fits source _ _ _ _ (scopes.time names e x span h) all =
      one_fits source names e x _ _ h (at_time kind_values stmt_values e span) (at_time kind_values stmt_values x span) all
  stmt_fits source _ _ _ _ (scopes.age names e x span h) all =
      one_fits source names e x _ _ h (at_age kind_values stmt_values e span) (at_age kind_values stmt_values x span) all
  stmt_fits source _ _ _ _ (scopes.require names e x span h) all =
      one_fits source names e x _ _ h (at_require kind_values stmt_values e span) (at_require kind_values stmt_values x span) all
  stmt_fits source _ _ _ _ (scopes.if_only names inner e x ss ts span h k) all =
      let before : Before source (e ∷ (joined (map values ss) ++ [])) = subst (Before source) (at_if kind_values stmt_values e ss None span) all in
      subst AllFit (sym (at_if kind_values stmt_values x ts None span)) (
        named_fits source names e x h before.0,
        rest_fits source (joined (map values ss)) [] (joined (map values ts)) [] (all_fit source names inner ss ts k) (λ none. tt) before.1,
      )
  stmt_fits source _ _ _ _ (scopes.if_else names inner inner' e x ss ss' ts ts' span h k m) all =
      let before : Before source (e ∷ (joined (map values ss) ++ joined (map values ss'))) = subst (Before source) (at_if kind_values stmt_values e ss (Some ss') span) all in
      subst AllFit (sym (at_if kind_values stmt_values x ts (Some ts') span)) (
        named_fits source names e x h before.0,
        rest_fits source (joined (map values ss)) (joined (map values ss')) (joined (map values ts)) (joined (map values ts')) (all_fit source names inner ss ts k)
            (all_fit source (scopes_after names inner) inner' ss' ts' m) before.1,
      )

  all_fit : (source : List ℕ) (names later : Names) (ss : List Statement) (ts : List NamedStmt) → NamesAll source names ss ts later → Before source (joined (map values ss)) → AllFit (joined (map values ts))
  all_fit source _ _ _ _ (scopes.done names) all = tt
  all_fit source _ _ _ _ (scopes.step names middle later s ss t ts h hs) all =
      rest_fits source (values s) (joined (map values ss)) (values t) (joined (map values ts)) (stmt_fits source names middle s t h) (all_fit source middle later ss ts hs) all

-- ---- functions and the contract

abbrev function_values : {N T : Type 0} → Function N T → List (Expr N T)
function_values f = joined (map values f.body)

functions_fit : (source : List ℕ) (first names later : Names) (fs : List FunctionTree) (gs : List NamedFunction) → NamesFunctions source first names fs gs later
    → Before source (joined (map function_values fs)) → AllFit (joined (map function_values gs))
functions_fit source first _ _ _ _ (scopes.no_function functions) all = tt
functions_fit source first _ _ _ _ (scopes.next_function functions later inner last name span ps qs ss ts fs gs new params body others) all =
    rest_fits source (joined (map values ss)) (joined (map function_values fs)) (joined (map values ts)) (joined (map function_values gs))
    (all_fit source _ last ss ts body) (functions_fit source first _ later fs gs others) all

-- each parameter has a type that is so
abbrev pub ParamsAre : {N : Type 0} → (Ty → Type 0) → List (Param N) → Type 0
ParamsAre R ps = AllByRecursion (λ p. R p.ty) ps

params_are : (R : Ty → Type 0) (source : List ℕ) (names later : Names) (ps : List (Param Span)) (qs : List (Param Slot)) → NamesParams source names ps qs later → ParamsAre R ps → ParamsAre R qs
params_are R source _ _ _ _ (scopes.no_param names) all = tt
params_are R source _ _ _ _ (scopes.next_param names later p ps qs new rest) all = (all.0, params_are R source _ later ps qs rest all.1)

functions_are : (R : Ty → Type 0) (source : List ℕ) (first names later : Names) (fs : List FunctionTree) (gs : List NamedFunction) → NamesFunctions source first names fs gs later
    → AllByRecursion (λ f. ParamsAre R f.params) fs → AllByRecursion (λ f. ParamsAre R f.params) gs
functions_are R source first _ _ _ _ (scopes.no_function functions) all = tt
functions_are R source first _ _ _ _ (scopes.next_function functions later inner last name span ps qs ss ts fs gs new params body others) all =
    (params_are R source first inner ps qs params all.0, functions_are R source first _ later fs gs others all.1)

-- the types of parameters are so, and casts and calls fit
pub record NamedIs (R : Ty → Type 0) (tree : NamedTree) : Type 0 where
  pub ctor : ParamsAre R tree.params
  pub args : AllByRecursion (λ f. ParamsAre R f.params) tree.functions
  pub fit : AllFit (tree_values tree)

pub tree_named : (R : Ty → Type 0) (source : List ℕ) (tree : Tree) (named : NamedTree) → IsNamed source tree named → TreeIs R (FitsGranted source) tree → NamedIs R named
tree_named R source _ _ (scopes.contract ctor functions name span pragmas ps qs f fs gs admitted params calls) is = record {
  ctor = params_are R source _ ctor ps qs params is.ctor;
  args = functions_are R source _ _ functions (f ∷ fs) gs calls is.args;
  fit = functions_fit source _ _ functions (f ∷ fs) gs calls is.all_values;
}
