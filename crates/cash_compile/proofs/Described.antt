-- What a program tells of its contract.
use Rattle.std.proofs.Common.{◌≡◌, ℕ, ◌≤◌, List, [], ◌∷◌, length, map, refl, ap, ◌∙◌, arith}
use Rattle.std.specs.List.{AllByRecursion}
use Rattle.std.specs.Str.{IsUtf8}
use Rattle.std.specs.Str.Lossy.{utf8_lossy}
use Rattle.std.proofs.lemmas.Str.{utf8_lossy-IsUtf8}
use Rattle.std.proofs.lemmas.List.{length-map}
use Rattle.cash_base.specs.declared.place.Slot.{Slot}
use Rattle.cash_base.specs.declared.place.Span.{Span}
use Rattle.cash_base.specs.Source.{text_at}
use Rattle.cash_tree.specs.declared.Ty.{Ty}
use Rattle.cash_tree.specs.declared.Param.{Param}
use Rattle.cash_tree.specs.declared.Contract.{Contract}
use Rattle.cash_tree.specs.declared.Function.{Function}
use Rattle.cash_parser.specs.Names.{ParamsHave, FunctionHas, NamesHave, IsTextAt}
use Rattle.span_map.specs.declared.SpanRow.{SpanRow}
use Rattle.artifact_json.specs.Artifact.{Artifact, AbiParam, AbiCall}
use Rattle.cash_compile.specs.Describes.{described_param, described_function, lossy_at, DescribesBy, Describes}

params_told : (source : List ℕ) (params : List (Param Slot)) → ParamsHave (IsTextAt source) params
    → map (described_param (lossy_at source)) params ≡ map (described_param (text_at source)) params
params_told source [] all = refl
params_told source (param ∷ params) all =
    let name : lossy_at source param.place ≡ text_at source param.place = utf8_lossy-IsUtf8 (text_at source param.place) all.0 in
    let head : described_param (lossy_at source) param ≡ described_param (text_at source) param =
    ap (λ (n : List ℕ). record { name = n; ty = param.ty }) name in
    ap (λ (a : AbiParam). a ∷ map (described_param (lossy_at source)) params) head
    ∙ ap (λ (as_ : List AbiParam). described_param (text_at source) param ∷ as_) (params_told source params all.1)

functions_told : (source : List ℕ) (functions : List (Function Slot Ty)) → AllByRecursion (FunctionHas (IsTextAt source)) functions
    → map (described_function (lossy_at source)) functions ≡ map (described_function (text_at source)) functions
functions_told source [] all = refl
functions_told source (f ∷ functions) all =
    let name : lossy_at source f.name ≡ text_at source f.name = utf8_lossy-IsUtf8 (text_at source f.name) all.0.0 in
    let head : described_function (lossy_at source) f ≡ described_function (text_at source) f =
    ap (λ (n : List ℕ). record { name = n; inputs = map (described_param (lossy_at source)) f.params }) name
    ∙ ap (λ (is : List AbiParam). record { name = text_at source f.name; inputs = is }) (params_told source f.params all.0.1) in
    ap (λ (a : AbiCall). a ∷ map (described_function (lossy_at source)) functions) head
    ∙ ap (λ (as_ : List AbiCall). described_function (text_at source) f ∷ as_) (functions_told source functions all.1)

-- names are words, so that nothing in them is replaced
pub described : (source : List ℕ) (contract : Contract Slot Ty) (program : Artifact) (rows : List SpanRow) → NamesHave (IsTextAt source) contract
    → DescribesBy (lossy_at source) source contract program rows → Describes source contract program rows
described source contract program rows words h = record {
  source = h.source;
  name = h.name ∙ utf8_lossy-IsUtf8 (text_at source contract.name) words.0;
  ctor = h.ctor ∙ params_told source contract.params words.1;
  abi = h.abi ∙ functions_told source contract.functions words.2;
  placed = h.placed;
  each = h.each;
  inside = h.inside;
}

pub text_kept : (source text : List ℕ) → IsUtf8 source → text ≡ utf8_lossy source → text ≡ source
text_kept source text utf8 is = is ∙ utf8_lossy-IsUtf8 source utf8

-- each function has as few inputs as parameters
pub few_inputs : (name_at : Span → List ℕ) (fs : List (Function Slot Ty)) → AllByRecursion (λ (f : Function Slot Ty). length f.params ≤ 16) fs
    → AllByRecursion (λ (f : AbiCall). length f.inputs ≤ 16) (map (described_function name_at) fs)
few_inputs name_at [] all = tt
few_inputs name_at (f ∷ fs) all =
    let size = length-map f.params (described_param name_at) in
    let few = all.0 in
    (omega (arith, size, few), few_inputs name_at fs all.1)
