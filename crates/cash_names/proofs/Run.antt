-- Parts that declare names, one after the other.
use Rattle.std.proofs.Common.{◌≡◌, ◌∙◌, ap, sym, ℕ, List, [], ◌∷◌, ◌++◌, map, append_assoc}
use Rattle.std.specs.Prelude.{Ok}
use Rattle.std.proofs.lemmas.List.{append-nil}
use Rattle.name_scopes.specs.Names.{Names}
use Rattle.cash_names.specs.Outline.{Outline, Scopes, run}
use Rattle.name_scopes.specs.Uses.{Answer, Running}
use Rattle.cash_names.specs.Reading.{run_from}
use Rattle.name_scopes.proofs.Granted.{judged, both}

abbrev pub verdict : {A : Type 0} → List ℕ → Outline A → Answer A
verdict source o = judged source o.wants o.value

-- a part is read as its outline says
abbrev pub AgreesAt : {X A : Type 0} → List ℕ → (X → Running A) → (X → Scopes A) → X → Type 0
AgreesAt source read outlined x = (names : Names) → read x names ≡ verdict source (outlined x names)

-- all of several
abbrev pub AllAgree : {X A : Type 0} → List ℕ → (X → Running A) → (X → Scopes A) → List X → Type 0
AllAgree source read outlined [] = Unit {0}
AllAgree source read outlined (x ∷ xs) = AgreesAt source read outlined x × AllAgree source read outlined xs

pub run_agrees : {X A : Type 0} (source : List ℕ) (read : X → Running A) (outlined : X → Scopes A) (xs : List X)
    → AllAgree source read outlined xs → (done : List A) (names : Names)
    → run_from done (map read xs) names
    ≡ judged source (run (map outlined xs) names).wants (done ++ (run (map outlined xs) names).value.0, (run (map outlined xs) names).value.1)
run_agrees source read outlined [] h done names = ap (λ l. Ok (l, names)) (sym (append-nil done))
run_agrees source read outlined (x ∷ xs) h done names =
    let head = outlined x names in
    let tail = run (map outlined xs) head.value.1 in
    both source (read x names) head.wants head.value (λ y. run_from (done ++ y.0 ∷ []) (map read xs) y.1) tail.wants (done ++ head.value.0 ∷ tail.value.0, tail.value.1) (h.0 names)
    (run_agrees source read outlined xs h.1 (done ++ head.value.0 ∷ []) head.value.1 ∙ ap (λ l. judged source tail.wants (l, tail.value.1)) (append_assoc done (head.value.0 ∷ []) tail.value.0))

pub all_agree : {X A : Type 0} (source : List ℕ) (read : X → Running A) (outlined : X → Scopes A)
    → ((x : X) → AgreesAt source read outlined x) → (xs : List X) → AllAgree source read outlined xs
all_agree source read outlined h [] = tt
all_agree source read outlined h (x ∷ xs) = (h x, all_agree source read outlined h xs)
