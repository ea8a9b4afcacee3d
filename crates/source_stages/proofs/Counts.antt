-- How many parameters and functions a named contract has, and so a contract with types.
use Rattle.std.proofs.Common.{◌≡◌, refl, sym, subst, ℕ, ◌+◌, ◌<◌, ◌≤◌, List, [], ◌∷◌, length, map, arith}
use Rattle.std.specs.List.{AllByRecursion}
use Rattle.std.proofs.lemmas.Bool.{ltb-true}
use Rattle.std.proofs.lemmas.List.{length-map}
use Rattle.cash_base.specs.declared.place.Span.{Span}
use Rattle.cash_base.specs.declared.place.Slot.{Slot}
use Rattle.cash_tree.specs.declared.Param.{Param}
use Rattle.cash_tree.specs.declared.Function.{Function}
use Rattle.name_scopes.specs.Names.{Names}
use Rattle.cash_names.specs.Outline.{FunctionTree, NamedFunction, Tree, NamedTree}
use Rattle.cash_names.specs.Scopes as scopes
use Rattle.cash_names.specs.Scopes.{NamesParams, NamesFunctions, IsNamed}
use Rattle.type_check.specs.Outline.{TypedFunction, TypedContract}
use Rattle.type_check.specs.Untyped.{untyped_function, untyped_contract}
use Rattle.source_stages.specs.Accepted.{IsCounted}

-- so many names may still be declared, and each takes a place
params_counted : {source : List ℕ} {names later : Names} {ps : List (Param Span)} {qs : List (Param Slot)} → NamesParams source names ps qs later → names.next ≤ names.limit → names.next + length qs ≤ names.limit
params_counted (scopes.no_param names) within = omega (arith, within)
params_counted (scopes.next_param names later p ps qs new rest) within =
    let room : names.next < names.limit = ltb-true names.next names.limit new.1 in
    let more = params_counted rest (omega (arith, room)) in
    omega (arith, more)

functions_counted : {source : List ℕ} {first names later : Names} {fs : List FunctionTree} {gs : List NamedFunction} → NamesFunctions source first names fs gs later → names.next ≤ names.limit
    → names.next + length gs ≤ names.limit
functions_counted (scopes.no_function functions) within = omega (arith, within)
functions_counted (scopes.next_function functions later inner last name span ps qs ss ts fs gs new params body rest) within =
    let room : functions.next < functions.limit = ltb-true functions.next functions.limit new.1 in
    let more = functions_counted rest (omega (arith, room)) in
    omega (arith, more)

abbrev HasFew : {T : Type 0} → Function Slot T → Type 0
HasFew f = length f.params ≤ 16

inputs_counted : {source : List ℕ} {first names later : Names} {fs : List FunctionTree} {gs : List NamedFunction} → NamesFunctions source first names fs gs later → first.limit ≡ first.next + 16
    → AllByRecursion HasFew gs
inputs_counted (scopes.no_function functions) is = tt
inputs_counted {first = first} (scopes.next_function functions later inner last name span ps qs ss ts fs gs new params body rest) is =
    let few = params_counted params (omega (arith, is)) in
    (omega (arith, few, is), inputs_counted rest is)

-- a tree with a function has one in its named tree
some_named : {source : List ℕ} {first names later : Names} {f : FunctionTree} {fs : List FunctionTree} {gs : List NamedFunction} → NamesFunctions source first names (f ∷ fs) gs later → 1 ≤ length gs
some_named (scopes.next_function functions later inner last name span ps qs ss ts fs gs new params body rest) = omega arith

tree_counted : {source : List ℕ} {tree : Tree} {named : NamedTree} → IsNamed source tree named → IsCounted named
tree_counted (scopes.contract ctor functions name span pragmas ps qs f fs gs admitted params calls) =
    let few = params_counted params (omega arith) in
    let calls_few = functions_counted calls (omega arith) in
    record {
      few_params = omega (arith, few);
      some_function = some_named calls;
      few_functions = omega (arith, calls_few);
      few_inputs = inputs_counted calls refl;
    }

-- ---- with types

functions_few : (fs : List TypedFunction) → AllByRecursion HasFew (map untyped_function fs) → AllByRecursion HasFew fs
functions_few [] all = tt
functions_few (f ∷ fs) all = (all.0, functions_few fs all.1)

contract_counted : (c : TypedContract) → IsCounted (untyped_contract c) → IsCounted c
contract_counted c h =
    let size = length-map c.functions untyped_function in
    let some = h.some_function in
    let few = h.few_functions in
    record {
      few_params = h.few_params;
      some_function = omega (arith, size, some);
      few_functions = omega (arith, size, few);
      few_inputs = functions_few c.functions h.few_inputs;
    }

pub typed_counted : {source : List ℕ} {tree : Tree} {named : NamedTree} (c : TypedContract) → IsNamed source tree named → untyped_contract c ≡ named → IsCounted c
typed_counted c h kept = contract_counted c (subst (λ (t : NamedTree). IsCounted t) (sym kept) (tree_counted h))
