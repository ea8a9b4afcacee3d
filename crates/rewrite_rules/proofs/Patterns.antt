-- A test of an instruction of a window says what it asks for.
use Rattle.std.proofs.Common.{◌≡◌, ℕ, true, List, [], ◌∷◌, map, ◌↔◌, IsTrue, refl, ap, ◌∙◌}
use Rattle.std.proofs.lemmas.Bool.{and_parts, and_from, false≢true}
use Rattle.std.proofs.lemmas.Bool.Decides.{Decides-eqb}
use Rattle.std.proofs.lemmas.Slice.Eq.{bytes_eq-Decides}
use Rattle.script_codec.specs.declared.instr.Instr.{Instr}
use Rattle.script_codec.specs.declared.instr.Instr.TheVariants.{Push, Do}
use Rattle.script_codec.specs.declared.spans.Spanned.{Spanned}
use Rattle.script_codec.specs.Reading.{push}
use Rattle.rewrite_rules.specs.declared.rewriting.Pattern.{Pattern}
use Rattle.rewrite_rules.specs.declared.rewriting.Pattern.TheVariants.{Zero, One, Two, Does}
use Rattle.rewrite_rules.specs.Fitting.{instr_of, fits, all_fit}

bytes_of : Instr → List ℕ
bytes_of (Push e) = e.items
bytes_of (Do opcode) = []

byte_of : Instr → ℕ
byte_of (Push e) = 0
byte_of (Do opcode) = opcode.0

fits_soundly : (p : Pattern) (i : Instr) → fits p i ≡ true → i ≡ instr_of p
fits_soundly Zero (Push e) h = ap push ((bytes_eq-Decides e.items []).0 h)
fits_soundly One (Push e) h = ap push ((bytes_eq-Decides e.items (1 ∷ [])).0 h)
fits_soundly Two (Push e) h = ap push ((bytes_eq-Decides e.items (2 ∷ [])).0 h)
fits_soundly (Does other) (Push e) h = absurd (false≢true h)
fits_soundly Zero (Do opcode) h = absurd (false≢true h)
fits_soundly One (Do opcode) h = absurd (false≢true h)
fits_soundly Two (Do opcode) h = absurd (false≢true h)
fits_soundly (Does other) (Do opcode) h = ap (λ b. Do (record { 0 = b })) ((Decides-eqb opcode.0 other.0).0 h)

fits_itself : (p : Pattern) → fits p (instr_of p) ≡ true
fits_itself Zero = refl
fits_itself One = refl
fits_itself Two = refl
fits_itself (Does other) = (Decides-eqb other.0 other.0).1 refl

-- the first of two lists that are alike, and the others
first_alike : {A : Type 0} {x y : A} {xs ys : List A} → x ∷ xs ≡ y ∷ ys → x ≡ y
first_alike {A} {x} e = ap (first_or x) e
  where
    first_or : {A : Type 0} → A → List A → A
    first_or z [] = z
    first_or z (w ∷ ws) = w

others_alike : {A : Type 0} {x y : A} {xs ys : List A} → x ∷ xs ≡ y ∷ ys → xs ≡ ys
others_alike e = ap others e
  where
    others : {A : Type 0} → List A → List A
    others [] = []
    others (w ∷ ws) = ws

all_fit_soundly : (rows : List Spanned) (ps : List Pattern) → all_fit rows ps ≡ true → map (λ r. r.instr) rows ≡ map instr_of ps
all_fit_soundly [] [] h = refl
all_fit_soundly [] (p ∷ ps) h = absurd (false≢true h)
all_fit_soundly (r ∷ rows) [] h = absurd (false≢true h)
all_fit_soundly (r ∷ rows) (p ∷ ps) h =
    let q = and_parts (fits p r.instr) (all_fit rows ps) h in
    ap (λ i. i ∷ map (λ r. r.instr) rows) (fits_soundly p r.instr q.0) ∙ ap (λ l. instr_of p ∷ l) (all_fit_soundly rows ps q.1)

all_fit_fully : (rows : List Spanned) (ps : List Pattern) → map (λ r. r.instr) rows ≡ map instr_of ps → all_fit rows ps ≡ true
all_fit_fully [] [] e = refl
all_fit_fully [] (p ∷ ps) e = cc
all_fit_fully (r ∷ rows) [] e = cc
all_fit_fully (r ∷ rows) (p ∷ ps) e =
    and_from (fits p r.instr) (all_fit rows ps) (ap (fits p) (first_alike e) ∙ fits_itself p) (all_fit_fully rows ps (others_alike e))

pub all_fit_exactly : (rows : List Spanned) (ps : List Pattern) → IsTrue (all_fit rows ps) ↔ map (λ r. r.instr) rows ≡ map instr_of ps
all_fit_exactly rows ps = (all_fit_soundly rows ps, all_fit_fully rows ps)
