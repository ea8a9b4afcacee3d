-- The contract of an accepted source fits.
use Rattle.std.proofs.Common.{◌≡◌, ◌∙◌, ap, sym, subst, refl, ℕ, true, List, [], ◌∷◌, length, map, None}
use Rattle.std.specs.List.{AllByRecursion}
use Rattle.std.proofs.lemmas.Bool.{and_from}
use Rattle.cash_base.specs.declared.place.Slot.{Slot}
use Rattle.cash_base.specs.Number.{IsBytes}
use Rattle.cash_base.specs.Source.{AreInside}
use Rattle.cash_tree.specs.declared.Ty.{Ty}
use Rattle.cash_tree.specs.declared.Param.{Param}
use Rattle.cash_tree.specs.declared.Function.{Function}
use Rattle.cash_tree.specs.declared.Contract.{Contract}
use Rattle.cash_tree.specs.declared.Token.{Token}
use Rattle.cash_tree.specs.Nodes.{AreSmall, tree_values}
use Rattle.cash_tree.specs.Spans.{nothing, tree_spans}
use Rattle.cash_symbols.specs.Lexemes.{Lexeme, lexemes}
use Rattle.cash_symbols.specs.DepthRules.{first_too_deep}
use Rattle.cash_parser.specs.Files.{Tree, SpellsFile}
use Rattle.cash_parser.specs.Names.{NamesHave, IsTextAt}
use Rattle.cash_names.specs.Outline.{NamedTree}
use Rattle.type_check.specs.Untyped.{untyped_contract}
use Rattle.type_check.specs.Laws.{ContractsStay}
use Rattle.type_soundness.specs.Literals.{IsPlain}
use Rattle.type_soundness.specs.Plain.{ContractsStayPlain}
use Rattle.artifact_json.specs.Artifact.{AbiParam, AbiCall, have_named_types, take_named_types}
use Rattle.artifact_json.specs.Types.{is_named_type}
use Rattle.lowering_laws.specs.Laws.{NodesFit, ContractsAreLowered}
use Rattle.plain_trees.proofs.Trees.{tree_spelled}
use Rattle.source_stages.specs.Stages.{IsAccepted}
use Rattle.source_stages.specs.Accepted.{IsCounted}
use Rattle.typed_sources.specs.Fits.{HasNamedTypes, Fits}
use Rattle.typed_sources.proofs.Bytes.{text_is_bytes}
use Rattle.typed_sources.proofs.Symbols.{IsNamedSymbol, lexemes_named}
use Rattle.typed_sources.proofs.Spelled.{FitsGranted, fits_follow}
use Rattle.typed_sources.proofs.Named.{ParamsAre, AllFit, tree_named}
use Rattle.typed_sources.proofs.Typed.{all_typed, functions_typed}

-- ---- named types

abbrev IsNamed : Ty → Type 0
IsNamed ty = is_named_type ty ≡ true

abbrev TypesIn : {T : Type 0} → Contract Slot T → Type 0
TypesIn {T} c = ParamsAre IsNamed c.params × AllByRecursion (λ (f : Function Slot T). ParamsAre IsNamed f.params) c.functions

params_described : (param : Param Slot → AbiParam) → ((p : Param Slot) → (param p).ty ≡ p.ty) → (ps : List (Param Slot)) → ParamsAre IsNamed ps → have_named_types (map param ps) ≡ true
params_described param same [] all = refl
params_described param same (p ∷ ps) all =
    and_from (is_named_type (param p).ty) (have_named_types (map param ps)) (ap is_named_type (same p) ∙ all.0) (params_described param same ps all.1)

calls_described : (param : Param Slot → AbiParam) (call : Function Slot Ty → AbiCall) → ((p : Param Slot) → (param p).ty ≡ p.ty) → ((f : Function Slot Ty) → (call f).inputs ≡ map param f.params)
    → (fs : List (Function Slot Ty)) → AllByRecursion (λ (f : Function Slot Ty). ParamsAre IsNamed f.params) fs → take_named_types (map call fs) ≡ true
calls_described param call same inputs [] all = refl
calls_described param call same inputs (f ∷ fs) all =
    and_from (have_named_types (call f).inputs) (take_named_types (map call fs)) (ap have_named_types (inputs f) ∙ params_described param same f.params all.0)
    (calls_described param call same inputs fs all.1)

types_named : (c : Contract Slot Ty) → TypesIn c → HasNamedTypes c
types_named c all = λ param call same inputs.
    and_from (have_named_types (map param c.params)) (take_named_types (map call c.functions)) (params_described param same c.params all.0)
    (calls_described param call same inputs c.functions all.1)

-- ---- the contract

-- what is known of accepted contracts, of trees, and of what names, types and lowering make of them
pub record Laws : Type 0 where
  pub counted : (source : List ℕ) (c : Contract Slot Ty) → IsAccepted source c → IsCounted c
  pub inside : (source : List ℕ) (c : Contract Slot Ty) → IsAccepted source c → AreInside (length source) (tree_spans nothing c)
  pub texts : (source : List ℕ) (c : Contract Slot Ty) → IsAccepted source c → NamesHave (IsTextAt source) c
  pub small : (ts : List Lexeme) (tree : Tree) → SpellsFile ts tree → first_too_deep ts ≡ None → AreSmall (tree_values tree)
  pub plain : (source : List ℕ) (tokens : List Token) (tree : Tree) → IsBytes source → SpellsFile (lexemes source tokens) tree → IsPlain tree
  pub plain_stays : ContractsStayPlain
  pub stays : ContractsStay
  pub lowered : ContractsAreLowered

pub contract_fits : Laws → (source : List ℕ) (c : Contract Slot Ty) → IsAccepted source c → Fits source c
contract_fits laws source c accepted =
    let resolved = accepted.resolved in
    let parsed = resolved.parsed in
    let tree = resolved.tree in
    let named = accepted.named in
    let types = accepted.types.0 in
    let spelled = tree_spelled IsNamedSymbol IsNamed (FitsGranted source) (λ ty is. is) (fits_follow source) parsed.spelled (lexemes_named source parsed.tokens) in
    let own = tree_named IsNamed source tree named resolved.names spelled in
    let alike = laws.stays named c types in
    let fit : NodesFit c = all_typed (tree_values c) (subst AllFit alike.expressions own.fit) in
    let bytes = text_is_bytes source parsed.cut.text.utf8 in
    let plain = laws.plain_stays source tree named c resolved.names types (laws.plain source parsed.tokens tree bytes parsed.spelled) in
    let small = laws.small (lexemes source parsed.tokens) tree parsed.spelled parsed.shallow in
    let counted = laws.counted source c accepted in
    let untyped : TypesIn (untyped_contract c) = subst (λ (t : NamedTree). TypesIn t) (sym alike.shape) (own.ctor, own.args) in
    record {
      can_lower = laws.lowered source tree named c resolved.names types small plain fit;
      few_params = counted.few_params;
      some_function = counted.some_function;
      few_functions = counted.few_functions;
      few_inputs = counted.few_inputs;
      types = types_named c (untyped.0, functions_typed IsNamed c.functions untyped.1);
      inside = laws.inside source c accepted;
      own = λ len inside. inside.1.0;
      names = laws.texts source c accepted;
    }
