-- The program of a compiled source has as many parameters as its contract.
use Rattle.std.proofs.Common.{◌≡◌, ℕ, true, false, Bool, List, [], ◌∷◌, length, map, refl, ap, ◌∙◌, subst, sym}
use Rattle.std.specs.Prelude.{IsTrue, ◌&&◌}
use Rattle.std.proofs.lemmas.Bool.{eq-eqb}
use Rattle.std.proofs.lemmas.List.{length-map}
use Rattle.cash_base.specs.Source.{text_at}
use Rattle.cash_base.specs.declared.place.Slot.{Slot}
use Rattle.cash_base.specs.declared.place.Span.{Span}
use Rattle.cash_tree.specs.declared.Ty.{Ty}
use Rattle.cash_tree.specs.declared.Contract.{Contract}
use Rattle.cash_tree.specs.declared.Function.{Function}
use Rattle.artifact_json.specs.Artifact.{Artifact}
use Rattle.cash_compile.specs.Describes.{described_param, described_function}
use Rattle.cash_compile.specs.Compile.{IsCompiled}
use Rattle.spend_meaning.specs.Meant.{take_as_many, has_parameters_of}

both : (a b : Bool) → a ≡ true → b ≡ true → (a && b) ≡ true
both true true is also = refl
both true false is also = absurd cc
both false b is also = absurd cc

as_many : (name_at : Span → List ℕ) (functions : List (Function Slot Ty)) → take_as_many (map (described_function name_at) functions) functions ≡ true
as_many name_at [] = refl
as_many name_at (f ∷ fs) =
    both _ _ (eq-eqb (length (map (described_param name_at) f.params)) (length f.params) (length-map f.params (described_param name_at))) (as_many name_at fs)

pub parameters_told : (source : List ℕ) (contract : Contract Slot Ty) (program : Artifact) → IsCompiled source contract program
    → IsTrue (has_parameters_of program contract)
parameters_told source contract program h =
    let describes = h.correct.describes in
    both _ _
    (eq-eqb (length program.ctor) (length contract.params)
    (ap length describes.ctor ∙ length-map contract.params (described_param (text_at source))))
    (subst (λ abi. take_as_many abi contract.functions ≡ true) (sym describes.abi) (as_many (text_at source) contract.functions))
