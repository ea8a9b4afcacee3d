-- Elements that are pushed, the last first.
use Rattle.std.proofs.Common.{◌≡◌, ℕ, Bool, true, List, [], ◌∷◌, ◌++◌, length, map, reverse, ap, ◌∙◌}
use Rattle.std.specs.Prelude.{◌&&◌}
use Rattle.std.proofs.lemmas.List.{map-append, reverse-append, length-map}
use Rattle.std.proofs.lemmas.List.Folds.{list_all-append}
use Rattle.std.proofs.lemmas.Grind.{flat_map-append}
use Rattle.script_codec.specs.declared.instr.Instr.{Instr}
use Rattle.script_codec.specs.Spelling.{is_instruction, are_instructions, spelling, spellings}
use Rattle.script_codec.specs.Reading.{push}

-- with one more that has a spelling
pub more_spelled : (code : List Instr) (instr : Instr) → are_instructions code ≡ true → is_instruction instr ≡ true
    → are_instructions (code ++ instr ∷ []) ≡ true
more_spelled code instr spelled more =
    list_all-append is_instruction code (instr ∷ []) ∙ ap (λ (t : Bool). t && (is_instruction instr && true)) spelled
    ∙ ap (λ (t : Bool). t && true) more

pub counted : {A : Type 0} (f : A → List ℕ) (xs : List A) → length (map f xs) ≡ length xs
counted f xs = length-map xs f

-- the last of a list is the first of the list that is turned round
pub last_first : {A B : Type 0} (f : A → B) (xs : List A) (x : A)
    → reverse (map f (xs ++ x ∷ [])) ≡ f x ∷ reverse (map f xs)
last_first f xs x = ap (λ (ys : List _). reverse ys) (map-append f xs (x ∷ [])) ∙ reverse-append (map f xs) (f x ∷ [])

-- one more in front is pushed last
pub first_last : (e : List ℕ) (es : List (List ℕ)) → map push (reverse (e ∷ es)) ≡ map push (reverse es) ++ push e ∷ []
first_last e es =
    ap (λ (ys : List (List ℕ)). map push ys) (reverse-append (e ∷ []) es) ∙ map-append push (reverse es) (e ∷ [])

-- two parts of a script
pub joined : (first second : List Instr) → spellings (first ++ second) ≡ spellings first ++ spellings second
joined first second = flat_map-append spelling first second
