-- How many bytes a push of an element has at most.
use Rattle.std.proofs.Common.{ℕ, ◌+◌, ◌≤◌, List, [], ◌∷◌, ◌++◌, length, ap, ◌∙◌, arith}
use Rattle.std.proofs.lemmas.List.{length-append}
use Rattle.std.proofs.lemmas.Grind.{flat_map-append}
use Rattle.script_codec.proofs.Sizes.{push_size}
use Rattle.script_codec.specs.declared.instr.Instr.{Instr}
use Rattle.script_codec.specs.Reading.{push}
use Rattle.script_codec.specs.Spelling.{spelling, spellings, minimal_push}

-- code with one more push
pub more_size : (code : List Instr) (e : List ℕ) → length e ≤ 520
    → length (spellings (code ++ push e ∷ [])) ≤ length (spellings code) + 523
more_size code e size =
    let whole = ap length (flat_map-append spelling code (push e ∷ [])) ∙ length-append (spellings code) (minimal_push e ++ []) in
    let last = length-append (minimal_push e) [] in
    let most = push_size e in
    omega (arith, whole, last, most, size)
