-- Of whole contracts, and of expressions in the words of the definition.
use Rattle.std.proofs.Common.{◌≡◌, ◌≢◌, ◌∙◌, ℕ, zero, suc, ◌+◌, Bool, true, false, List, [], ◌∷◌, ◌++◌, map, Some, None, Result, Ok, Err, refl, sym, ap, subst, arith}
use Rattle.std.specs.Prelude.{unwrap_or, slice_get}
use Rattle.std.specs.List.{AllByRecursion}
use Rattle.cash_base.specs.declared.fault.Cause.{Cause}
use Rattle.cash_base.specs.declared.fault.Cause.TheVariants.{NotANumber}
use Rattle.cash_base.specs.declared.place.Span.{Span}
use Rattle.cash_base.specs.declared.place.Slot.{Slot}
use Rattle.cash_base.specs.Source.{text_at}
use Rattle.tx_context.specs.World.{World}
use Rattle.cash_tree.specs.declared.Ty.{Ty}
use Rattle.cash_tree.specs.declared.Ty.TheVariants as ty
use Rattle.cash_tree.specs.declared.Ty.TheOpen.{Ty-F}
use Rattle.cash_tree.specs.declared.Ty.TheViews.{out-Ty}
use Rattle.cash_tree.specs.declared.Param.{Param}
use Rattle.cash_tree.specs.Nodes.{joined, values}
use Rattle.name_scopes.specs.Names.{Names, no_names, opened, most_params, most_functions, most_definitions, slot, with_variable}
use Rattle.cash_names.specs.Outline.{Statement, Tree, NamedTree, FunctionTree, NamedFunction}
use Rattle.cash_names.specs.Scopes as scopes
use Rattle.cash_names.specs.Scopes.{NamesAll, NamesParams, NamesFunctions, IsNamed}
use Rattle.type_tables.specs.Tables.{TypedExpr, is_single, is_single_layer, type_at, Env as Types}
use Rattle.type_check.specs.Shapes.{TypedStmt, with_name, with_params}
use Rattle.type_check.specs.Outline.{NamedContract, TypedFunction, TypedContract, function_of, contract_of}
use Rattle.type_check.specs.Typing as rule
use Rattle.type_check.specs.Typing.{TypesRun, TypesFunction, TypesFunctions, TypesContract}
use Rattle.source_meaning.specs.declared.outcome.Failure.{Failure}
use Rattle.source_meaning.specs.declared.outcome.SourceOutcome.TheVariants.{Failed}
use Rattle.source_meaning.specs.Meaning.{Env, Given, Value, left_of, right_of, no_values, with_value, with_values, value_of, in_turn, env_after, ended}
use Rattle.source_meaning.specs.Fits.{LayerFits, LayerGivenFits}
use Rattle.type_soundness.specs.Literals.{AreSingle, IsPlain}
use Rattle.type_soundness.specs.Sound.{IsValue, ValueFits, ExpressionsFit, AreValues, RunsFindNumbers}
use Rattle.type_soundness.proofs.Calm.{is_no_number}
use Rattle.type_soundness.proofs.Holds.{Laws, TyLayer, is_loose, LayerHolds, Holds, Good, GoodValue}
use Rattle.type_soundness.proofs.Types.{out_int}
use Rattle.type_soundness.proofs.Expressions.{expression_sound}
use Rattle.type_soundness.proofs.Scopes.{Scope, Grows, own_type, declares, Agrees, nothing_holds}
use Rattle.type_soundness.proofs.Parts.{apart}
use Rattle.type_soundness.proofs.Statements.{Setting, AllBytes, defined, all_runs}

-- ---- expressions

loose_fits : (layer : TyLayer) (e : List ℕ) → is_loose layer ≡ true → LayerFits layer e
loose_fits Ty-F.Int e is = let no : ⊥ = cc in absurd no
loose_fits Ty-F.Bool e is = let no : ⊥ = cc in absurd no
loose_fits Ty-F.Text e is = tt
loose_fits Ty-F.Bytes e is = tt
loose_fits (Ty-F.BytesN n) e is = tt
loose_fits Ty-F.Pubkey e is = tt
loose_fits Ty-F.Sig e is = tt
loose_fits Ty-F.Datasig e is = tt
loose_fits (Ty-F.Array item) e is = tt
loose_fits (Ty-F.Pair left right) e is = tt

given_fits : (layer : TyLayer) (given : Given) → LayerHolds layer (left_of given) → LayerGivenFits layer given
given_fits Ty-F.Int given h = h
given_fits Ty-F.Bool given h = h
given_fits Ty-F.Text given h = tt
given_fits Ty-F.Bytes given h = tt
given_fits (Ty-F.BytesN n) given h = tt
given_fits Ty-F.Pubkey given h = tt
given_fits Ty-F.Sig given h = tt
given_fits Ty-F.Datasig given h = tt
given_fits (Ty-F.Array item) given h = tt
given_fits (Ty-F.Pair left right) given h = (loose_fits (out-Ty left) (left_of given) h.0, loose_fits (out-Ty right) (right_of given) h.1)

holds_of : (layer : TyLayer) (e : List ℕ) → is_single_layer layer ≡ true → LayerFits layer e → LayerHolds layer e
holds_of Ty-F.Int e is h = h
holds_of Ty-F.Bool e is h = h
holds_of Ty-F.Text e is h = tt
holds_of Ty-F.Bytes e is h = tt
holds_of (Ty-F.BytesN n) e is h = tt
holds_of Ty-F.Pubkey e is h = tt
holds_of Ty-F.Sig e is h = tt
holds_of Ty-F.Datasig e is h = tt
holds_of (Ty-F.Array item) e is h = tt
holds_of (Ty-F.Pair left right) e is h = let no : ⊥ = cc in absurd no

value_holds : (t : Ty) (e : List ℕ) → is_single t ≡ true → IsValue t e → Holds (out-Ty t) e
value_holds t e one h = record { fits = holds_of (out-Ty t) e one h.fits; element = h.element }

differs : (cause : Cause) → is_no_number cause ≡ false → cause ≢ NotANumber
differs cause calm is = let no : true ≡ false = sym (ap is_no_number is) ∙ calm in absurd cc

value_fits : (t : Ty) (value : Value) → GoodValue (out-Ty t) value → ValueFits t value
value_fits t (Ok given) h = given_fits (out-Ty t) given h.left.fits
value_fits t (Err failure) h = differs failure.cause h

pub expressions_fit : Laws → ExpressionsFit
expressions_fit laws world w types values names place e x typed bytes =
    value_fits x.ty (value_of world values x)
    (expression_sound laws world w values types (λ slot. value_holds (type_at slot types) (unwrap_or (values slot) []) (names.single slot) (names.value slot)) place e x typed bytes).value

-- ---- parameters

record ParamsGiven (names : Names) (types : Types) (later : Names) (after : Types) (give : Env → Env) : Type 0 where
  grows : Grows names.next types later after
  agrees : (values : Env) → Agrees names.next types values → Agrees later.next after (give values)

params_given : (source : List ℕ) (names later : Names) (ps : List (Param Span)) (qs : List (Param Slot)) (types : Types) (es : List (List ℕ)) → NamesParams source names ps qs later
    → Scope names types → AreSingle qs → AreValues qs es → ParamsGiven names types later (with_params qs types) (with_values qs es)
params_given source _ _ _ _ types [] (scopes.no_param names) scope single values =
    record { grows = record { more = omega arith; kept = λ at less. refl; scope = scope }; agrees = λ values h. h }
params_given source _ _ _ _ types (e ∷ es) (scopes.no_param names) scope single values = elim values [ ]
params_given source _ _ _ _ types [] (scopes.next_param names later p ps qs new rest) scope single values = elim values [ ]
params_given source _ _ _ _ types (e ∷ es) (scopes.next_param names later p ps qs new rest) scope single values =
    let n = names.next in
    let between = with_name (slot n) p.ty types in
    let first = declares names types (text_at source p.name) false p.ty scope single.0 in
    let others = params_given source (with_variable source p.name names) later ps qs between es rest first.scope single.1 values.1 in
    let rise = first.more in
    let rise' = others.grows.more in
    record {
      grows = record {
        more = omega (arith, rise, rise');
        kept = λ at less. others.grows.kept at (omega (arith, less)) ∙ first.kept at less;
        scope = others.grows.scope;
      };
      agrees = λ before h. others.agrees (with_value (slot n) e before)
          (defined names types before (text_at source p.name) false p.ty e first (own_type names types p.ty scope) h (value_holds p.ty e single.0 values.0));
    }

-- ---- functions

pub record FunctionParts (types : Types) (f : NamedFunction) (g : TypedFunction) : Type 0 where
  pub body : List TypedStmt
  pub after : Types
  pub runs : TypesRun (with_params f.params types) f.body body after
  pub is : function_of f body ≡ g

pub function_parts : (types : Types) (f : NamedFunction) (g : TypedFunction) → TypesFunction types f g → FunctionParts types f g
function_parts types _ _ (rule.function f body after h ends) = record { body = body; after = after; runs = h; is = refl }

pub record FunctionsMore (types : Types) (f : NamedFunction) (fs : List NamedFunction) (gs : List TypedFunction) : Type 0 where
  pub g : TypedFunction
  pub rest : List TypedFunction
  pub is : gs ≡ g ∷ rest
  pub first : TypesFunction types f g
  pub others : TypesFunctions types fs rest

abbrev pub FunctionsParts : Types → List NamedFunction → List TypedFunction → Type 0
FunctionsParts types [] gs = gs ≡ []
FunctionsParts types (f ∷ fs) gs = FunctionsMore types f fs gs

pub functions_parts : (types : Types) (fs : List NamedFunction) (gs : List TypedFunction) → TypesFunctions types fs gs → FunctionsParts types fs gs
functions_parts types _ _ rule.no_more = refl
functions_parts types _ _ (rule.one_more f fs g gs h hs) = record { g = g; rest = gs; is = refl; first = h; others = hs }

-- a run of a function, from the values of the constructor's parameters
abbrev RunOf : World → Env → List (List ℕ) → TypedFunction → Result Env Failure
RunOf world ctor args g = in_turn (map (env_after world) g.body) (with_values g.params args ctor)

abbrev IsGood : World → Env → TypedFunction → Type 0
IsGood world ctor g = (args : List (List ℕ)) → AreValues g.params args → Good (λ values. Unit {0}) (RunOf world ctor args g)

any_good : (P : Env → Type 0) (r : Result Env Failure) → Good P r → Good (λ values. Unit {0}) r
any_good P (Ok values) h = tt
any_good P (Err failure) h = h

function_good : (s : Setting) (source : List ℕ) (first inner last : Names) (types : Types) (ctor : Env) (f : NamedFunction) (g : TypedFunction) (ps : List (Param Span)) (ss : List Statement)
    → NamesParams source first ps f.params inner → NamesAll source (opened most_definitions inner) ss f.body last → Scope first types → Agrees first.next types ctor
    → AreSingle f.params → TypesFunction types f g → AllBytes (joined (map values g.body)) → IsGood s.world ctor g
function_good s source first inner last types ctor f g ps ss params body scope agrees single typed bytes =
    let p = function_parts types f g typed in
    let h : AllBytes (joined (map values p.body)) = subst (λ (g : TypedFunction). AllBytes (joined (map values g.body))) (sym p.is) bytes in
    subst (IsGood s.world ctor) p.is (λ args fit.
    let given = params_given source first inner ps f.params types args params scope single fit in
    let opens : Scope (opened most_definitions inner) (with_params f.params types) =
    record { below = given.grows.scope.below; single = given.grows.scope.single; unbound = given.grows.scope.unbound } in
    let runs = all_runs s source (opened most_definitions inner) last ss f.body (with_params f.params types) p.body p.after body opens p.runs h in
    any_good (Agrees last.next p.after) (RunOf s.world ctor args (function_of f p.body)) (runs.good (with_values f.params args ctor) (given.agrees ctor agrees)))

abbrev function_values : TypedFunction → List TypedExpr
function_values g = joined (map values g.body)

functions_good : (s : Setting) (source : List ℕ) (first names later : Names) (types : Types) (ctor : Env) (fs : List FunctionTree) (named : List NamedFunction) (gs : List TypedFunction)
    → NamesFunctions source first names fs named later → Scope first types → Agrees first.next types ctor → TypesFunctions types named gs
    → AllByRecursion (λ f. AreSingle f.params) gs → AllBytes (joined (map function_values gs)) → AllByRecursion (IsGood s.world ctor) gs
functions_good s source first _ _ types ctor _ _ gs (scopes.no_function names) scope agrees typed single bytes =
    subst (AllByRecursion (IsGood s.world ctor)) (sym (functions_parts types [] gs typed)) tt
functions_good s source first _ _ types ctor _ _ gs (scopes.next_function functions later inner last name span ps qs ss ts fs named new params body others) scope agrees typed single bytes =
    let f = scopes.function_of name span qs ts in
    let p = functions_parts types (f ∷ named) gs typed in
    let q = function_parts types f p.g p.first in
    let whole : AllBytes (function_values p.g ++ joined (map function_values p.rest)) = subst (λ gs. AllBytes (joined (map function_values gs))) p.is bytes in
    let parts = apart _ (function_values p.g) (joined (map function_values p.rest)) whole in
    let each : AllByRecursion (λ f. AreSingle f.params) (p.g ∷ p.rest) = subst (AllByRecursion (λ f. AreSingle f.params)) p.is single in
    let own : AreSingle qs = subst (λ (g : TypedFunction). AreSingle g.params) (sym q.is) each.0 in
    let one = function_good s source first inner last types ctor f p.g ps ss params body scope agrees own p.first parts.0 in
    let rest = functions_good s source first (with_variable source name functions) later types ctor fs named p.rest others scope agrees p.others each.1 parts.1 in
    subst (AllByRecursion (IsGood s.world ctor)) (sym p.is) (one, rest)

-- ---- contracts

good_at : {A : Type 0} (P : A → Type 0) (xs : List A) (at : ℕ) (x : A) → AllByRecursion P xs → slice_get xs at ≡ Some x → P x
good_at P [] at x all is = absurd cc
good_at P (y ∷ ys) zero x all is = let same : y ≡ x = cc in subst P same all.0
good_at P (y ∷ ys) (suc at) x all is = good_at P ys at x all.1 is

never : (r : Result Env Failure) (span : Span) → Good (λ values. Unit {0}) r → ended r ≢ Failed span NotANumber
never (Ok values) span h is = absurd cc
never (Err failure) span h is = let same : failure.cause ≡ NotANumber = cc in differs failure.cause h same

no_names_yet : (room : ℕ) → Scope (opened room no_names) []
no_names_yet room = record {
  below = λ q v is. let no : None ≡ Some v = is in absurd cc;
  single = λ at. ap is_single_layer out_int;
  unbound = λ at past more. refl;
}

nothing_given : (room : ℕ) → Agrees (opened room no_names).next [] no_values
nothing_given room = record { holds = λ at. nothing_holds ty.Int (ap is_single_layer out_int); none = λ at past. refl }

pub record ContractParts (c : NamedContract) (typed : TypedContract) : Type 0 where
  pub functions : List TypedFunction
  pub has_types : TypesFunctions (with_params c.params []) c.functions functions
  pub is : contract_of c functions ≡ typed

pub contract_parts : (c : NamedContract) (typed : TypedContract) → TypesContract c typed → ContractParts c typed
contract_parts _ _ (rule.contract c functions h) = record { functions = functions; has_types = h; is = refl }

contract_good : (s : Setting) (source : List ℕ) (tree : Tree) (c : NamedTree) (functions : List TypedFunction) → IsNamed source tree c → TypesFunctions (with_params c.params []) c.functions functions
    → IsPlain (contract_of c functions) → (ctor : List (List ℕ)) → AreValues c.params ctor → AllByRecursion (IsGood s.world (with_values c.params ctor no_values)) functions
contract_good s source _ _ functions (scopes.contract ctor later name span pragmas ps qs f fs gs admitted params calls) typed plain elements fit =
    let given = params_given source (opened most_params no_names) ctor ps qs [] elements params (no_names_yet most_params) plain.ctor fit in
    let opens : Scope (opened most_params ctor) (with_params qs []) =
    record { below = given.grows.scope.below; single = given.grows.scope.single; unbound = given.grows.scope.unbound } in
    functions_good s source (opened most_params ctor) (opened most_functions no_names) later (with_params qs []) (with_values qs elements no_values) (f ∷ fs) gs functions calls
    opens (given.agrees no_values (nothing_given most_params)) typed plain.args plain.literals

abbrev ContractIsGood : World → TypedContract → Type 0
ContractIsGood world typed =
    IsPlain typed → (ctor : List (List ℕ)) → AreValues typed.params ctor → AllByRecursion (IsGood world (with_values typed.params ctor no_values)) typed.functions

whole_contract : (s : Setting) (source : List ℕ) (tree : Tree) (c : NamedTree) (typed : TypedContract) → IsNamed source tree c → TypesContract c typed → ContractIsGood s.world typed
whole_contract s source tree c typed named types =
    let p = contract_parts c typed types in
    subst (ContractIsGood s.world) p.is (λ plain ctor fit. contract_good s source tree c p.functions named p.has_types plain ctor fit)

pub runs_find_numbers : Laws → RunsFindNumbers
runs_find_numbers laws source tree named typed names types plain world w ctor fit place f found args values span =
    let s : Setting = record { laws = laws; world = world; is_world = w } in
    let all = whole_contract s source tree named typed names types plain ctor fit in
    never (RunOf world (with_values typed.params ctor no_values) args f) span (good_at (IsGood world (with_values typed.params ctor no_values)) typed.functions place f all found args values)
