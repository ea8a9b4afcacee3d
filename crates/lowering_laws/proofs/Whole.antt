-- Contracts that are parsed, named and typed are lowered.
use Rattle.std.proofs.Common.{◌≡◌, ◌∙◌, ap, sym, subst, refl, ℕ, zero, suc, ◌+◌, ◌<◌, ◌≤◌, ◌==◌, Bool, true, false, List, [], ◌∷◌, ◌++◌, length, map, Some, None, arith, append_assoc}
use Rattle.std.specs.Prelude.{◌&&◌, nat_le, IsTrue}
use Rattle.std.specs.List.{list_all, AllByRecursion}
use Rattle.std.proofs.lemmas.List.{append-nil}
use Rattle.std.proofs.lemmas.Bool.{le-leb, eq-eqb, eqb-true, and_parts}
use Rattle.cash_base.specs.declared.place.Span.{Span}
use Rattle.cash_base.specs.declared.place.Slot.{Slot}
use Rattle.cash_base.specs.Source.{text_at}
use Rattle.cash_tree.specs.declared.Ty.{Ty}
use Rattle.cash_tree.specs.declared.Param.{Param}
use Rattle.cash_tree.specs.Nodes.{joined, values, tree_values, nodes, most_nodes, AreSmall}
use Rattle.name_scopes.specs.Names.{Names, no_names, opened, most_params, most_functions, most_definitions, has_room, slot, declared, with_variable}
use Rattle.cash_names.specs.Outline.{Statement, Tree, NamedTree, FunctionTree, NamedFunction, slotted}
use Rattle.cash_names.specs.Scopes as scopes
use Rattle.cash_names.specs.Scopes.{NamesAll, NamesParams, NamesFunctions, IsNamed}
use Rattle.cash_names.proofs.TreeKept.{tree_small}
use Rattle.type_tables.specs.Tables.{TypedExpr, Env as Types, is_single}
use Rattle.type_check.specs.Shapes.{TypedStmt, with_name, with_params}
use Rattle.type_check.specs.Outline.{TypedFunction, TypedContract, function_of, contract_of}
use Rattle.type_check.specs.Typing as rule
use Rattle.type_check.specs.Typing.{TypesRun, TypesFunction, TypesFunctions, TypesContract}
use Rattle.type_check.specs.Ends as named
use Rattle.type_check.proofs.Laws.{are_alike}
use Rattle.type_soundness.specs.Literals.{AreSingle, IsPlain}
use Rattle.type_soundness.proofs.Whole.{functions_parts, contract_parts}
use Rattle.slot_code.specs.Shape.{has, first_slots}
use Rattle.source_meaning.specs.Runnable.{all_of}
use Rattle.slot_lowering.specs.Scoped.{has_values, ends_rightly}
use Rattle.slot_lowering.specs.Statements.{is_scoped}
use Rattle.slot_lowering.specs.Functions.{in_slots, function_fits, contract_fits, CanLower}
use Rattle.lowering_laws.specs.Laws.{nodes_fit, NodesFit, ContractsAreLowered}
use Rattle.lowering_laws.proofs.Statements.{slots, InScope, Good, good_apart, declares, declared_slots, all_fits}
use Rattle.lowering_laws.proofs.Ending.{body_ends}

both : (a b : Bool) → a ≡ true → b ≡ true → (a && b) ≡ true
both a b is also = ap (λ c. c && b) is ∙ also

-- ---- parameters

record ParamsFit (names later : Names) (types : Types) (qs : List (Param Slot)) : Type 0 where
  scope : InScope later (with_params qs types)
  next : later.next ≡ names.next + length qs
  same : later.limit ≡ names.limit
  numbered : in_slots names.next qs ≡ true
  slots_are : slots later ≡ slots names ++ map (λ (p : Param Slot). p.name) qs

params_fit : (source : List ℕ) (names later : Names) (types : Types) (ps : List (Param Span)) (qs : List (Param Slot)) → NamesParams source names ps qs later → InScope names types → AreSingle qs → ParamsFit names later types qs
params_fit source _ _ types _ _ (scopes.no_param names) h single = record {
  scope = h;
  next = omega arith;
  same = refl;
  numbered = refl;
  slots_are = sym (append-nil (slots names));
}
params_fit source _ _ types _ _ (scopes.next_param names later p ps qs new rest) h single =
    let n = names.next in
    let own = declares names types (text_at source p.name) false p.ty h new.1 single.0 in
    let r = params_fit source (with_variable source p.name names) later (with_name (slot n) p.ty types) ps qs rest own single.1 in
    let more = r.next in record {
      scope = r.scope;
      next = omega (arith, more);
      same = r.same;
      numbered = both (n == n) (in_slots (n + 1) qs) (eq-eqb n n refl) r.numbered;
      slots_are = r.slots_are ∙ ap (λ s. s ++ map (λ (p : Param Slot). p.name) qs) (declared_slots names (text_at source p.name) false)
          ∙ append_assoc (slots names) (slot n ∷ []) (map (λ (p : Param Slot). p.name) qs);
    }

-- slots in order from a number on
first_more : (n m : ℕ) (qs : List (Param Slot)) → in_slots n qs ≡ true → n + length qs ≡ m → first_slots m ≡ first_slots n ++ map (λ (p : Param Slot). p.name) qs
first_more n m [] is count = let same : m ≡ n = omega (arith, count) in ap first_slots same ∙ sym (append-nil (first_slots n))
first_more n m (q ∷ qs) is count =
    let parts = and_parts (q.name.0 == n) (in_slots (n + 1) qs) is in
    let at : q.name.0 ≡ n = eqb-true q.name.0 n parts.0 in
    let next : n + 1 ≡ suc n = omega arith in
    let left : suc n + length qs ≡ m = omega (arith, count) in
    first_more (suc n) m qs (ap (λ k. in_slots k qs) (sym next) ∙ parts.1) left
    ∙ append_assoc (first_slots n) (record { 0 = n } ∷ []) (map (λ (p : Param Slot). p.name) qs)
    ∙ ap (λ k. first_slots n ++ (slot k ∷ map (λ (p : Param Slot). p.name) qs)) (sym at)

-- ---- functions

opens : (names : Names) (types : Types) (room : ℕ) → InScope names types → names.next + room ≤ 160 → InScope (opened room names) types
opens names types room h within = record { below = h.below; count = h.count; next = omega arith; limit = within; single = h.single }

abbrev function_values : TypedFunction → List TypedExpr
function_values g = joined (map values g.body)

record FunctionParts (types : Types) (f : NamedFunction) (g : TypedFunction) : Type 0 where
  body : List TypedStmt
  after : Types
  runs : TypesRun (with_params f.params types) f.body body after
  ends : named.ends_rightly f.body ≡ true
  is : function_of f body ≡ g

function_parts : (types : Types) (f : NamedFunction) (g : TypedFunction) → TypesFunction types f g → FunctionParts types f g
function_parts types _ _ (rule.function f body after h ends) = record { body = body; after = after; runs = h; ends = ends; is = refl }

function_is : (source : List ℕ) (ctor inner last : Names) (types : Types) (ctors : List (Param Slot)) (f : NamedFunction) (g : TypedFunction) (ps : List (Param Span)) (ss : List Statement)
    → NamesParams source (opened most_params ctor) ps f.params inner → NamesAll source (opened most_definitions inner) ss f.body last → InScope (opened most_params ctor) types
    → slots ctor ≡ first_slots (length ctors) → ctor.next ≡ length ctors → length ctors ≤ 16 → TypesFunction types f g → AreSingle f.params → AllByRecursion Good (function_values g) → function_fits (length ctors) g ≡ true
function_is source ctor inner last types ctors f g ps ss params body here ctor_slots ctor_next few typed single good =
    let p = function_parts types f g typed in
    let c = length ctors in
    let own = params_fit source (opened most_params ctor) inner types ps f.params params here single in
    let next = own.next in
    let limit = own.same in
    let inside = own.scope.next in
    let low : c + length f.params ≤ 32 = omega (arith, next, limit, inside, ctor_next, few) in
    let within : inner.next + most_definitions ≤ 160 = omega (arith, next, ctor_next, low) in
    let more = opens inner (with_params f.params types) most_definitions own.scope within in
    let small : AllByRecursion Good (joined (map values p.body)) = subst (λ (h : TypedFunction). AllByRecursion Good (function_values h)) (sym p.is) good in
    let b = all_fits source (opened most_definitions inner) last ss f.body (with_params f.params types) p.body p.after body more p.runs small in
    let numbered : in_slots c f.params ≡ true = ap (λ k. in_slots k f.params) (sym ctor_next) ∙ own.numbered in
    let all : slots inner ≡ first_slots (c + length f.params) = own.slots_are ∙ ap (λ s. s ++ map (λ (p : Param Slot). p.name) f.params) ctor_slots ∙ sym (first_more c (c + length f.params) f.params numbered refl) in
    subst (λ (h : TypedFunction). function_fits c h ≡ true) p.is
    (both (in_slots c f.params && nat_le (c + length f.params) 160) (all_of (map has_values p.body) && (is_scoped p.body (first_slots (c + length f.params)) && ends_rightly p.body))
    (both (in_slots c f.params) (nat_le (c + length f.params) 160) numbered (le-leb (c + length f.params) 160 (omega (arith, low))))
    (both (all_of (map has_values p.body)) (is_scoped p.body (first_slots (c + length f.params)) && ends_rightly p.body) b.ready
    (both (is_scoped p.body (first_slots (c + length f.params))) (ends_rightly p.body) (ap (is_scoped p.body) (sym all) ∙ b.scoped) (body_ends (with_params f.params types) f.body p.body p.after p.runs p.ends))))

functions_are : (source : List ℕ) (ctor functions later : Names) (types : Types) (ctors : List (Param Slot)) (fs : List FunctionTree) (ns : List NamedFunction) (gs : List TypedFunction)
    → NamesFunctions source (opened most_params ctor) functions fs ns later → InScope (opened most_params ctor) types → slots ctor ≡ first_slots (length ctors) → ctor.next ≡ length ctors → length ctors ≤ 16
    → TypesFunctions types ns gs → AllByRecursion (λ (g : TypedFunction). AreSingle g.params) gs → AllByRecursion Good (joined (map function_values gs)) → list_all (function_fits (length ctors)) gs ≡ true
functions_are source ctor _ _ types ctors _ _ gs (scopes.no_function functions) here slots_are next few typed single good = ap (list_all (function_fits (length ctors))) (functions_parts types [] gs typed)
functions_are source ctor _ _ types ctors _ _ gs (scopes.next_function functions later inner last name span ps qs ss ts fs ns new params body others) here slots_are next few typed single good =
    let f = scopes.function_of name span qs ts in
    let p = functions_parts types (f ∷ ns) gs typed in
    let whole : AllByRecursion Good (function_values p.g ++ joined (map function_values p.rest)) = subst (λ gs. AllByRecursion Good (joined (map function_values gs))) p.is good in
    let apart = good_apart (function_values p.g) (joined (map function_values p.rest)) whole in
    let singles : AllByRecursion (λ (g : TypedFunction). AreSingle g.params) (p.g ∷ p.rest) = subst (AllByRecursion (λ (g : TypedFunction). AreSingle g.params)) p.is single in
    let q = function_parts types f p.g p.first in
    let own : AreSingle qs = subst (λ (g : TypedFunction). AreSingle g.params) (sym q.is) singles.0 in
    ap (list_all (function_fits (length ctors))) p.is
    ∙ both (function_fits (length ctors) p.g) (list_all (function_fits (length ctors)) p.rest)
    (function_is source ctor inner last types ctors f p.g ps ss params body here slots_are next few p.first own apart.0)
    (functions_are source ctor (with_variable source name functions) later types ctors fs ns p.rest others here slots_are next few p.others singles.1 apart.1)

nothing_yet : InScope (opened most_params no_names) []
nothing_yet = record {
  below = λ other there. absurd (let never : false ≡ true = there in cc);
  count = omega arith;
  next = omega arith;
  limit = omega arith;
  single = tt;
}

contract_is : (source : List ℕ) (tree : Tree) (c : NamedTree) (functions : List TypedFunction) → IsNamed source tree c → TypesFunctions (with_params c.params []) c.functions functions
    → IsPlain (contract_of c functions) → AllByRecursion Good (joined (map function_values functions)) → contract_fits (contract_of c functions) ≡ true
contract_is source _ _ functions (scopes.contract ctor later name span pragmas ps qs f fs gs admitted params calls) typed plain good =
    let own = params_fit source (opened most_params no_names) ctor [] ps qs params nothing_yet plain.ctor in
    let next = own.next in
    let same = own.same in
    let inside = own.scope.next in
    let count : ctor.next ≡ length qs = omega (arith, next) in
    let few : length qs ≤ 16 = omega (arith, count, same, inside) in
    let ctor_slots : slots ctor ≡ first_slots (length qs) = own.slots_are ∙ sym (first_more 0 (length qs) qs own.numbered (omega arith)) in
    both (in_slots 0 qs) (list_all (function_fits (length qs)) functions) own.numbered
    (functions_are source ctor (opened most_functions no_names) later (with_params qs []) qs (f ∷ fs) gs functions calls
    (opens ctor (with_params qs []) most_params own.scope (omega (arith, count, few))) ctor_slots count few typed plain.args good)

goods : (xs : List TypedExpr) → AreSmall xs → AllByRecursion (λ e. IsTrue (nodes_fit e)) xs → AllByRecursion Good xs
goods [] small fit = tt
goods (x ∷ xs) small fit = (record { small = small.0; fit = fit.0 }, goods xs small.1 fit.1)

pub contracts_are_lowered : ContractsAreLowered
contracts_are_lowered source tree c typed named_is types few plain fit =
    let p = contract_parts c typed types in
    let small = (are_alike c typed types).small (tree_small source tree c named_is few) in
    let whole : AreSmall (tree_values (contract_of c p.functions)) → IsPlain (contract_of c p.functions) → NodesFit (contract_of c p.functions) → CanLower (contract_of c p.functions) =
    λ s i n. record { is = contract_is source tree c p.functions named_is p.has_types i (goods (joined (map function_values p.functions)) s n) } in
    (subst (λ (t : TypedContract). AreSmall (tree_values t) → IsPlain t → NodesFit t → CanLower t) p.is whole) small plain fit
