-- Slots in place of names, and types on expressions, leave the literals and the types of parameters.
use Rattle.std.proofs.Common.{◌≡◌, ◌∙◌, ap, sym, subst, refl, ℕ, Bool, true, ◌&&◌, List, [], ◌∷◌, ◌++◌, map, Some, None}
use Rattle.std.specs.List.{list_all, AllByRecursion}
use Rattle.std.proofs.Math.Path.{fun_ext}
use Rattle.cash_base.specs.declared.place.Span.{Span}
use Rattle.cash_base.specs.declared.place.Slot.{Slot}
use Rattle.cash_tree.specs.declared.Ty.{Ty}
use Rattle.cash_tree.specs.declared.Param.{Param}
use Rattle.cash_tree.specs.declared.Function.{Function}
use Rattle.cash_tree.specs.declared.Expr.{Expr}
use Rattle.cash_tree.specs.declared.ExprKind.TheOpen.{ExprKind-F, Expr-F}
use Rattle.cash_tree.specs.declared.ExprKind.TheViews.{roll-Expr, roll-ExprKind}
use Rattle.cash_tree.specs.declared.ExprKind.TheFolds.{fold-Expr, ind-Expr, fold-roll-Expr, fold-roll-ExprKind, map-ExprKind}
use Rattle.cash_tree.specs.Nodes.{joined, kind_values, stmt_values, values, tree_values}
use Rattle.name_scopes.specs.Names.{Names, slot, slot_at, after as scopes_after}
use Rattle.cash_names.specs.Expressions.{Expression, NamedExpr, with_slots}
use Rattle.cash_names.specs.Outline.{Statement, NamedStmt, FunctionTree, NamedFunction, Tree, NamedTree, slotted}
use Rattle.cash_names.specs.Scopes as scopes
use Rattle.cash_names.specs.Scopes.{NamesExpr, NamesStmt, NamesAll, NamesParams, NamesFunctions, IsNamed}
use Rattle.cash_names.proofs.Kept.{layer, fused}
use Rattle.cash_names.proofs.Rows.{at_define, at_pair, at_assign, at_time, at_age, at_require, at_if}
use Rattle.type_tables.specs.Tables.{TypedExpr, Env as Types}
use Rattle.type_check.specs.Shapes.{TypedKind, NamedKind, KindLayer, with_params}
use Rattle.type_check.specs.Outline.{TypedFunction, TypedContract}
use Rattle.type_check.specs.Typing as rule
use Rattle.type_check.specs.Typing.{TypesFunctions, TypesContract}
use Rattle.type_check.specs.Untyped.{untyped, kind_untyped}
use Rattle.type_check.proofs.Kept.{untyped_kind, layer_kept, expr_kept}
use Rattle.type_check.proofs.Laws.{are_alike}
use Rattle.type_soundness.specs.Literals.{parts, spells_bytes, kind_spells, node_spells, holds_bytes, kind_holds_bytes, AreSingle, IsPlain}
use Rattle.type_soundness.specs.Plain.{ContractsStayPlain}
use Rattle.type_soundness.proofs.Parts.{apart}
use Rattle.type_soundness.proofs.View.{parts_mapped, spelling_mapped, kind_spelled}
use Rattle.type_soundness.proofs.Whole.{function_parts, contract_parts}

-- ---- slots

spells_alike : (f : Span → Slot) (y : ExprKind-F Span (Unit {0}) Bool Bool) → kind_spells (layer f y) ≡ kind_spells y
spells_alike f (ExprKind-F.Int digits unit) = refl
spells_alike f (ExprKind-F.Bool b) = refl
spells_alike f (ExprKind-F.Hex bytes) = refl
spells_alike f (ExprKind-F.Text bytes) = refl
spells_alike f (ExprKind-F.Date seconds) = refl
spells_alike f (ExprKind-F.Name name) = refl
spells_alike f (ExprKind-F.Unary op a) = refl
spells_alike f (ExprKind-F.Binary op a b) = refl
spells_alike f (ExprKind-F.Length a) = refl
spells_alike f (ExprKind-F.Reverse a) = refl
spells_alike f (ExprKind-F.Split a b) = refl
spells_alike f (ExprKind-F.Index a number) = refl
spells_alike f (ExprKind-F.Cast to a None) = refl
spells_alike f (ExprKind-F.Cast to a (Some b)) = refl
spells_alike f (ExprKind-F.Call callee args) = refl
spells_alike f (ExprKind-F.New callee args) = refl
spells_alike f (ExprKind-F.Array items) = refl
spells_alike f (ExprKind-F.Look0 look) = refl
spells_alike f (ExprKind-F.LookAt look a) = refl

slots_spell : (f : Span → Slot) (e : Expression) → holds_bytes (with_slots f e) ≡ holds_bytes e
unfolding holds_bytes
slots_spell f e =
    fused f kind_spells node_spells e
    ∙ ap (λ k. fold-Expr Span (Unit {0}) Bool Bool k node_spells e) (fun_ext (spells_alike f))

abbrev AllSpell : {N T : Type 0} → List (Expr N T) → Type 0
AllSpell es = AllByRecursion (λ e. holds_bytes e ≡ true) es

named_spells : (source : List ℕ) (names : Names) (e : Expression) (x : NamedExpr) → NamesExpr source names e x → holds_bytes e ≡ true → holds_bytes x ≡ true
named_spells source names e x h is = ap holds_bytes h.1 ∙ slots_spell (slot_at source names) e ∙ is

both_spell : {N T : Type 0} (xs ys : List (Expr N T)) → AllSpell xs → AllSpell ys → AllSpell (xs ++ ys)
both_spell [] ys h k = k
both_spell (x ∷ xs) ys h k = (h.0, both_spell xs ys h.1 k)

-- from the one expression of a statement to that of the named one
one_spells : (source : List ℕ) (names : Names) (e : Expression) (x : NamedExpr) (es : List Expression) (xs : List NamedExpr) → NamesExpr source names e x
    → es ≡ e ∷ [] → xs ≡ x ∷ [] → AllSpell es → AllSpell xs
one_spells source names e x es xs h before after all =
    let first : AllSpell (e ∷ []) = subst AllSpell before all in
    subst AllSpell (sym after) (named_spells source names e x h first.0, tt)

rest_spells : (es ys : List Expression) (xs zs : List NamedExpr) → (AllSpell es → AllSpell xs) → (AllSpell ys → AllSpell zs) → AllSpell (es ++ ys) → AllSpell (xs ++ zs)
rest_spells es ys xs zs f g all = let both = apart (λ e. holds_bytes e ≡ true) es ys all in both_spell xs zs (f both.0) (g both.1)

mutual
  stmt_spells : (source : List ℕ) (names later : Names) (s : Statement) (t : NamedStmt) → NamesStmt source names s t later → AllSpell (values s) → AllSpell (values t)
  stmt_spells source _ _ _ _ (scopes.define names w constant name place e x span new h) all =
      one_spells source names e x _ _ h (at_define kind_values stmt_values w constant name place e span) (at_define kind_values stmt_values w constant (slot names.next) place x span) all
  stmt_spells source _ _ _ _ (scopes.pair names middle left right e x span is new new' h) all =
      one_spells source names e x _ _ h (at_pair kind_values stmt_values left right e span) (at_pair kind_values stmt_values (slotted left names.next) (slotted right middle.next) x span) all
  stmt_spells source _ _ _ _ (scopes.assign names name e x span free h) all =
      one_spells source names e x _ _ h (at_assign kind_values stmt_values name e span) (at_assign kind_values stmt_values (slot_at source names name) x span) all
  stmt_spells source _ _ _ _ (scopes.time names e x span h) all =
      one_spells source names e x _ _ h (at_time kind_values stmt_values e span) (at_time kind_values stmt_values x span) all
  stmt_spells source _ _ _ _ (scopes.age names e x span h) all =
      one_spells source names e x _ _ h (at_age kind_values stmt_values e span) (at_age kind_values stmt_values x span) all
  stmt_spells source _ _ _ _ (scopes.require names e x span h) all =
      one_spells source names e x _ _ h (at_require kind_values stmt_values e span) (at_require kind_values stmt_values x span) all
  stmt_spells source _ _ _ _ (scopes.if_only names inner e x ss ts span h k) all =
      let before : AllSpell (e ∷ (joined (map values ss) ++ [])) = subst AllSpell (at_if kind_values stmt_values e ss None span) all in
      subst AllSpell (sym (at_if kind_values stmt_values x ts None span)) (
        named_spells source names e x h before.0,
        rest_spells (joined (map values ss)) [] (joined (map values ts)) [] (all_spells source names inner ss ts k) (λ none. tt) before.1,
      )
  stmt_spells source _ _ _ _ (scopes.if_else names inner inner' e x ss ss' ts ts' span h k m) all =
      let before : AllSpell (e ∷ (joined (map values ss) ++ joined (map values ss'))) = subst AllSpell (at_if kind_values stmt_values e ss (Some ss') span) all in
      subst AllSpell (sym (at_if kind_values stmt_values x ts (Some ts') span)) (
        named_spells source names e x h before.0,
        rest_spells (joined (map values ss)) (joined (map values ss')) (joined (map values ts)) (joined (map values ts')) (all_spells source names inner ss ts k)
            (all_spells source (scopes_after names inner) inner' ss' ts' m) before.1,
      )

  all_spells : (source : List ℕ) (names later : Names) (ss : List Statement) (ts : List NamedStmt) → NamesAll source names ss ts later → AllSpell (joined (map values ss)) → AllSpell (joined (map values ts))
  all_spells source _ _ _ _ (scopes.done names) all = tt
  all_spells source _ _ _ _ (scopes.step names middle later s ss t ts h hs) all =
      rest_spells (values s) (joined (map values ss)) (values t) (joined (map values ts)) (stmt_spells source names middle s t h) (all_spells source middle later ss ts hs) all

params_single : (source : List ℕ) (names later : Names) (ps : List (Param Span)) (qs : List (Param Slot)) → NamesParams source names ps qs later → AreSingle ps → AreSingle qs
params_single source _ _ _ _ (scopes.no_param names) all = tt
params_single source _ _ _ _ (scopes.next_param names later p ps qs new rest) all = (all.0, params_single source _ later ps qs rest all.1)

abbrev function_values : {N T : Type 0} → Function N T → List (Expr N T)
function_values f = joined (map values f.body)

functions_spell : (source : List ℕ) (first names later : Names) (fs : List FunctionTree) (gs : List NamedFunction) → NamesFunctions source first names fs gs later
    → AllSpell (joined (map function_values fs)) → AllSpell (joined (map function_values gs))
functions_spell source first _ _ _ _ (scopes.no_function functions) all = tt
functions_spell source first _ _ _ _ (scopes.next_function functions later inner last name span ps qs ss ts fs gs new params body others) all =
    rest_spells (joined (map values ss)) (joined (map function_values fs)) (joined (map values ts)) (joined (map function_values gs))
    (all_spells source _ last ss ts body) (functions_spell source first _ later fs gs others) all

functions_single : (source : List ℕ) (first names later : Names) (fs : List FunctionTree) (gs : List NamedFunction) → NamesFunctions source first names fs gs later
    → AllByRecursion (λ f. AreSingle f.params) fs → AllByRecursion (λ f. AreSingle f.params) gs
functions_single source first _ _ _ _ (scopes.no_function functions) all = tt
functions_single source first _ _ _ _ (scopes.next_function functions later inner last name span ps qs ss ts fs gs new params body others) all =
    (params_single source first inner ps qs params all.0, functions_single source first _ later fs gs others all.1)

named_plain : (source : List ℕ) (tree : Tree) (named : NamedTree) → IsNamed source tree named → IsPlain tree → IsPlain named
named_plain source _ _ (scopes.contract ctor functions name span pragmas ps qs f fs gs admitted params calls) plain = record {
  ctor = params_single source _ ctor ps qs params plain.ctor;
  args = functions_single source _ _ functions (f ∷ fs) gs calls plain.args;
  literals = functions_spell source _ _ functions (f ∷ fs) gs calls plain.literals;
}

-- ---- types

abbrev KindAlike : TypedKind → Type 0
KindAlike k = kind_holds_bytes k ≡ kind_holds_bytes (untyped_kind k)

abbrev Alike : TypedExpr → Type 0
Alike x = holds_bytes x ≡ holds_bytes (untyped x)

abbrev Kinds : Type 0
Kinds = (k : TypedKind) × KindAlike k

abbrev Exprs : Type 0
Exprs = (x : TypedExpr) × Alike x

abbrev exprs_of : List Exprs → List TypedExpr
exprs_of xs = map (λ x. x.0) xs

abbrev kind_parts : ExprKind-F Slot Ty Kinds Exprs → ExprKind-F Slot Ty TypedKind TypedExpr
kind_parts = map-ExprKind Slot Ty Kinds Exprs TypedKind TypedExpr (λ k. k.0) (λ x. x.0)

each_step : (xs : List Exprs) → list_all (λ b. b) (map holds_bytes (exprs_of xs)) ≡ list_all (λ b. b) (map holds_bytes (map untyped (exprs_of xs)))
each_step [] = refl
each_step (x ∷ xs) =
    ap (λ b. b && list_all (λ b. b) (map holds_bytes (exprs_of xs))) x.1 ∙ ap (λ b. holds_bytes (untyped x.0) && b) (each_step xs)

unrolled : (layer : KindLayer NamedKind NamedExpr) → kind_holds_bytes (roll-ExprKind Slot (Unit {0}) layer)
    ≡ (spells_bytes layer && list_all (λ b. b) (map holds_bytes (parts layer)))
unfolding kind_holds_bytes holds_bytes
unrolled layer =
    fold-roll-ExprKind Slot (Unit {0}) Bool Bool kind_spells node_spells layer
    ∙ ap (λ b. b && list_all (λ c. c) (parts (map-ExprKind Slot (Unit {0}) NamedKind NamedExpr Bool Bool kind_holds_bytes holds_bytes layer))) (spelling_mapped kind_holds_bytes holds_bytes layer)
    ∙ ap (λ bs. spells_bytes layer && list_all (λ c. c) bs) (parts_mapped kind_holds_bytes holds_bytes layer)

kind_step : (y : ExprKind-F Slot Ty Kinds Exprs)
    → (spells_bytes (kind_parts y) && list_all (λ b. b) (map holds_bytes (parts (kind_parts y))))
    ≡ kind_holds_bytes (kind_untyped (map-ExprKind Slot Ty TypedKind TypedExpr NamedKind NamedExpr untyped_kind untyped (kind_parts y)))
unfolding roll-ExprKind denote.Hole.Carrier.roll
kind_step (ExprKind-F.Int digits unit) =
    let l : KindLayer NamedKind NamedExpr = ExprKind-F.Int digits unit in ap (λ c. spells_bytes l && c) (each_step []) ∙ sym (unrolled l)
kind_step (ExprKind-F.Bool b) =
    let l : KindLayer NamedKind NamedExpr = ExprKind-F.Bool b in ap (λ c. spells_bytes l && c) (each_step []) ∙ sym (unrolled l)
kind_step (ExprKind-F.Hex bytes) =
    let l : KindLayer NamedKind NamedExpr = ExprKind-F.Hex bytes in ap (λ c. spells_bytes l && c) (each_step []) ∙ sym (unrolled l)
kind_step (ExprKind-F.Text bytes) =
    let l : KindLayer NamedKind NamedExpr = ExprKind-F.Text bytes in ap (λ c. spells_bytes l && c) (each_step []) ∙ sym (unrolled l)
kind_step (ExprKind-F.Date seconds) =
    let l : KindLayer NamedKind NamedExpr = ExprKind-F.Date seconds in ap (λ c. spells_bytes l && c) (each_step []) ∙ sym (unrolled l)
kind_step (ExprKind-F.Name slot) =
    let l : KindLayer NamedKind NamedExpr = ExprKind-F.Name slot in ap (λ c. spells_bytes l && c) (each_step []) ∙ sym (unrolled l)
kind_step (ExprKind-F.Unary op a) =
    let l : KindLayer NamedKind NamedExpr = ExprKind-F.Unary op (untyped a.0) in ap (λ c. spells_bytes l && c) (each_step (a ∷ [])) ∙ sym (unrolled l)
kind_step (ExprKind-F.Binary op a b) =
    let l : KindLayer NamedKind NamedExpr = ExprKind-F.Binary op (untyped a.0) (untyped b.0) in ap (λ c. spells_bytes l && c) (each_step (a ∷ b ∷ [])) ∙ sym (unrolled l)
kind_step (ExprKind-F.Length a) =
    let l : KindLayer NamedKind NamedExpr = ExprKind-F.Length (untyped a.0) in ap (λ c. spells_bytes l && c) (each_step (a ∷ [])) ∙ sym (unrolled l)
kind_step (ExprKind-F.Reverse a) =
    let l : KindLayer NamedKind NamedExpr = ExprKind-F.Reverse (untyped a.0) in ap (λ c. spells_bytes l && c) (each_step (a ∷ [])) ∙ sym (unrolled l)
kind_step (ExprKind-F.Split a b) =
    let l : KindLayer NamedKind NamedExpr = ExprKind-F.Split (untyped a.0) (untyped b.0) in ap (λ c. spells_bytes l && c) (each_step (a ∷ b ∷ [])) ∙ sym (unrolled l)
kind_step (ExprKind-F.Index a number) =
    let l : KindLayer NamedKind NamedExpr = ExprKind-F.Index (untyped a.0) number in ap (λ c. spells_bytes l && c) (each_step (a ∷ [])) ∙ sym (unrolled l)
kind_step (ExprKind-F.Cast to a None) =
    let l : KindLayer NamedKind NamedExpr = ExprKind-F.Cast to (untyped a.0) None in ap (λ c. spells_bytes l && c) (each_step (a ∷ [])) ∙ sym (unrolled l)
kind_step (ExprKind-F.Cast to a (Some b)) =
    let l : KindLayer NamedKind NamedExpr = ExprKind-F.Cast to (untyped a.0) (Some (untyped b.0)) in ap (λ c. spells_bytes l && c) (each_step (a ∷ b ∷ [])) ∙ sym (unrolled l)
kind_step (ExprKind-F.Call callee xs) =
    let l : KindLayer NamedKind NamedExpr = ExprKind-F.Call callee (map untyped (exprs_of xs)) in ap (λ c. spells_bytes l && c) (each_step xs) ∙ sym (unrolled l)
kind_step (ExprKind-F.New callee xs) =
    let l : KindLayer NamedKind NamedExpr = ExprKind-F.New callee (map untyped (exprs_of xs)) in ap (λ c. spells_bytes l && c) (each_step xs) ∙ sym (unrolled l)
kind_step (ExprKind-F.Array xs) =
    let l : KindLayer NamedKind NamedExpr = ExprKind-F.Array (map untyped (exprs_of xs)) in ap (λ c. spells_bytes l && c) (each_step xs) ∙ sym (unrolled l)
kind_step (ExprKind-F.Look0 look) =
    let l : KindLayer NamedKind NamedExpr = ExprKind-F.Look0 look in ap (λ c. spells_bytes l && c) (each_step []) ∙ sym (unrolled l)
kind_step (ExprKind-F.LookAt look a) =
    let l : KindLayer NamedKind NamedExpr = ExprKind-F.LookAt look (untyped a.0) in ap (λ c. spells_bytes l && c) (each_step (a ∷ [])) ∙ sym (unrolled l)

kind_alike : (y : ExprKind-F Slot Ty Kinds Exprs) → KindAlike (roll-ExprKind Slot Ty (kind_parts y))
kind_alike y = kind_spelled (kind_parts y) ∙ kind_step y ∙ ap kind_holds_bytes (sym (layer_kept (kind_parts y)))

types_spell : (x : TypedExpr) → Alike x
unfolding holds_bytes kind_holds_bytes
types_spell = ind-Expr Slot Ty KindAlike Alike
    (λ x y is. subst (λ z. KindAlike (roll-ExprKind Slot Ty z)) is (kind_alike y))
    (λ x y is. subst (λ z. Alike (roll-Expr Slot Ty z)) is (
    let layer : Expr-F Slot Ty TypedKind TypedExpr = record { kind = y.kind.0; ty = y.ty; span = y.span } in
    let bare : Expr-F Slot (Unit {0}) NamedKind NamedExpr = record { kind = untyped_kind y.kind.0; ty = tt; span = y.span } in
    fold-roll-Expr Slot Ty Bool Bool kind_spells node_spells layer ∙ y.kind.1
    ∙ sym (fold-roll-Expr Slot (Unit {0}) Bool Bool kind_spells node_spells bare)
    ∙ ap holds_bytes (sym (expr_kept (untyped_kind y.kind.0) y.kind.0 y.span y.ty refl))))

all_typed : (xs : List TypedExpr) → AllSpell (map untyped xs) → AllSpell xs
all_typed [] all = tt
all_typed (x ∷ xs) all = (types_spell x ∙ all.0, all_typed xs all.1)

typed_single : (types : Types) (fs : List NamedFunction) (gs : List TypedFunction) → TypesFunctions types fs gs → AllByRecursion (λ f. AreSingle f.params) fs
    → AllByRecursion (λ f. AreSingle f.params) gs
typed_single types _ _ rule.no_more all = tt
typed_single types _ _ (rule.one_more f fs g gs h hs) all =
    let p = function_parts types f g h in
    (subst (λ (g : TypedFunction). AreSingle g.params) p.is all.0, typed_single types fs gs hs all.1)

abbrev SingleIn : NamedTree → TypedContract → Type 0
SingleIn c typed = AreSingle typed.params × AllByRecursion (λ f. AreSingle f.params) typed.functions

typed_plain : (c : NamedTree) (typed : TypedContract) → TypesContract c typed → IsPlain c → IsPlain typed
typed_plain c typed h plain =
    let p = contract_parts c typed h in
    let single : SingleIn c typed = subst (SingleIn c) p.is (plain.ctor, typed_single (with_params c.params []) c.functions p.functions p.has_types plain.args) in
    record {
      ctor = single.0;
      args = single.1;
      literals = all_typed (tree_values typed) (subst AllSpell (are_alike c typed h).expressions plain.literals);
    }

pub contracts_stay_plain : ContractsStayPlain
contracts_stay_plain source tree named typed names types plain = typed_plain named typed types (named_plain source tree named names plain)
