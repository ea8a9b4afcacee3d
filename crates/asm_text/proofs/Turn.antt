-- The instructions of words, one by one.
use Rattle.std.proofs.Common.{◌≡◌, ℕ, ◌+◌, List, [], ◌∷◌, ◌++◌, Result, Ok, Err, refl, sym, ap, ◌∙◌, append_assoc, append-nil}
use Rattle.cash_base.specs.Failing.{◌>>=◌}
use Rattle.script_codec.specs.declared.instr.Instr.{Instr}
use Rattle.asm_text.specs.declared.fault.AsmFault.{AsmFault}
use Rattle.asm_text.specs.Assembly.{word_instruction, code_from}
use Rattle.asm_text.specs.Reading.{after}

in_turn : (front : List Instr) (instr : Instr) (read : Result (List Instr) AsmFault)
    → after front (read >>= λ code. Ok (instr ∷ code)) ≡ after (front ++ instr ∷ []) read
in_turn front instr (Ok code) = ap (λ (all : List Instr). Ok all) (sym (append_assoc front (instr ∷ []) code))
in_turn front instr (Err fault) = refl

pub after_nothing : (read : Result (List Instr) AsmFault) → after [] read ≡ read
after_nothing (Ok code) = refl
after_nothing (Err fault) = refl

abbrev with_more : ℕ → List (List ℕ) → Result Instr AsmFault → Result (List Instr) AsmFault
with_more number more read = read >>= λ instr. code_from (number + 1) more >>= λ code. Ok (instr ∷ code)

-- a word is read, and then the others
pub word_read : (front : List Instr) (number : ℕ) (all : List (List ℕ)) (word : List ℕ) (more : List (List ℕ))
    (instr : Instr) → all ≡ word ∷ more → word_instruction number word ≡ Ok instr
    → after front (code_from number all) ≡ after (front ++ instr ∷ []) (code_from (number + 1) more)
word_read front number all word more instr is read =
    ap (λ (ws : List (List ℕ)). after front (code_from number ws)) is
    ∙ ap (λ (r : Result Instr AsmFault). after front (with_more number more r)) read
    ∙ in_turn front instr (code_from (number + 1) more)

-- the first word is refused
pub word_refused : (front : List Instr) (number : ℕ) (all : List (List ℕ)) (word : List ℕ) (more : List (List ℕ))
    (fault : AsmFault) → all ≡ word ∷ more → word_instruction number word ≡ Err fault → after front (code_from number all) ≡ Err fault
word_refused front number all word more fault is read =
    ap (λ (ws : List (List ℕ)). after front (code_from number ws)) is
    ∙ ap (λ (r : Result Instr AsmFault). after front (with_more number more r)) read

-- no word is left
pub all_read : (front : List Instr) (number : ℕ) (all : List (List ℕ)) → all ≡ [] → after front (code_from number all) ≡ Ok front
all_read front number all is =
    ap (λ (ws : List (List ℕ)). after front (code_from number ws)) is ∙ ap (λ (code : List Instr). Ok code) (append-nil front)
