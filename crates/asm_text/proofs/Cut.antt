-- Where the first word of a text ends.
use Rattle.std.proofs.Common.{◌≡◌, ℕ, suc, ◌+◌, ◌<◌, Bool, true, false, cond, List, [], ◌∷◌, length, take, drop, Option, Some, None, refl, sym, ap, subst, ◌∙◌, arith}
use Rattle.std.specs.List.{position_from}
use Rattle.std.specs.Prelude.{IfSome}
use Rattle.script_codec.specs.Words.{is_blank, in_front, pieces, not_empty, words}
use Rattle.asm_text.specs.Cutting.{begins_blank}

-- a blank stands at a place, counted from i, and ends the first piece there
record IsCut (bytes : List ℕ) (all : List (List ℕ)) (i at : ℕ) : Type 0 where
  pub k : ℕ
  pub is : at ≡ i + k
  pub within : k < length bytes
  pub cut : all ≡ take k bytes ∷ pieces (drop (k + 1) bytes)

abbrev or_zero : Option ℕ → ℕ
or_zero (Some n) = n
or_zero None = 0

cut_step : (t : Bool) (byte : ℕ) (bytes : List ℕ) (i at : ℕ)
    → (position_from is_blank (i + 1) bytes ≡ Some at → IsCut bytes (pieces bytes) (i + 1) at)
    → cond t (Some i) (position_from is_blank (i + 1) bytes) ≡ Some at
    → IsCut (byte ∷ bytes) (cond t ([] ∷ pieces bytes) (in_front byte (pieces bytes))) i at
cut_step true byte bytes i at later found =
    let same : i ≡ at = ap or_zero found in
    record { k = 0; is = omega arith; within = omega arith; cut = refl }
cut_step false byte bytes i at later found =
    let is_cut = later found in
    let is : at ≡ (i + 1) + is_cut.k = is_cut.is in
    let within : is_cut.k < length bytes = is_cut.within in
    let after_it : suc (is_cut.k + 1) ≡ suc is_cut.k + 1 = omega arith in
    let cut : in_front byte (pieces bytes) ≡ (byte ∷ take is_cut.k bytes) ∷ pieces (drop (suc is_cut.k + 1) (byte ∷ bytes)) =
    ap (in_front byte) is_cut.cut
    ∙ ap (λ (n : ℕ). (byte ∷ take is_cut.k bytes) ∷ pieces (drop n (byte ∷ bytes))) after_it in
    record { k = suc is_cut.k; is = omega arith; within = omega arith; cut = cut }

cut_at : (bytes : List ℕ) (i at : ℕ) → position_from is_blank i bytes ≡ Some at → IsCut bytes (pieces bytes) i at
cut_at [] i at found = absurd cc
cut_at (byte ∷ bytes) i at found =
    cut_step (is_blank byte) byte bytes i at (λ later. cut_at bytes (i + 1) at later) found

-- the first word ends at the first blank
word_cut : (bytes : List ℕ) (at : ℕ) → begins_blank bytes ≡ false → position_from is_blank 0 bytes ≡ Some at
    → (at < length bytes) × (words bytes ≡ take at bytes ∷ words (drop (at + 1) bytes))
word_cut [] at front found = absurd cc
word_cut (byte ∷ bytes) at front found =
    let later : position_from is_blank 1 bytes ≡ Some at =
    ap (λ (t : Bool). cond t (Some 0) (position_from is_blank 1 bytes)) (sym front) ∙ found in
    let is_cut = cut_at bytes 1 at later in
    let is_at : at ≡ 1 + is_cut.k = is_cut.is in
    let within : is_cut.k < length bytes = is_cut.within in
    let is : suc is_cut.k ≡ at = omega arith in
    let after_it : suc (is_cut.k + 1) ≡ suc is_cut.k + 1 = omega arith in
    let whole : words (byte ∷ bytes) ≡ (byte ∷ take is_cut.k bytes) ∷ words (drop (suc is_cut.k + 1) (byte ∷ bytes)) =
    ap (λ (t : Bool). not_empty (cond t ([] ∷ pieces bytes) (in_front byte (pieces bytes)))) front
    ∙ ap (λ (ps : List (List ℕ)). not_empty (in_front byte ps)) is_cut.cut
    ∙ ap (λ (n : ℕ). (byte ∷ take is_cut.k bytes) ∷ words (drop n (byte ∷ bytes))) after_it in
    let inside : suc is_cut.k < length (byte ∷ bytes) = omega arith in
    subst (λ (n : ℕ). (n < length (byte ∷ bytes))
    × (words (byte ∷ bytes) ≡ take n (byte ∷ bytes) ∷ words (drop (n + 1) (byte ∷ bytes)))) is
    (inside, whole)

pub within_of : (bytes : List ℕ) (found : Option ℕ) → begins_blank bytes ≡ false → found ≡ position_from is_blank 0 bytes
    → IfSome found (λ at. at < length bytes)
within_of bytes (Some at) front is = (word_cut bytes at front (sym is)).0
within_of bytes None front is = tt

pub ended_of : (bytes : List ℕ) (found : Option ℕ) → begins_blank bytes ≡ false → found ≡ position_from is_blank 0 bytes
    → IfSome found (λ at. words bytes ≡ take at bytes ∷ words (drop (at + 1) bytes))
ended_of bytes (Some at) front is = (word_cut bytes at front (sym is)).1
ended_of bytes None front is = tt

-- ---- no blank

open_step : (t : Bool) (byte : ℕ) (bytes : List ℕ) (i : ℕ)
    → (position_from is_blank (i + 1) bytes ≡ None → pieces bytes ≡ bytes ∷ [])
    → cond t (Some i) (position_from is_blank (i + 1) bytes) ≡ None
    → cond t ([] ∷ pieces bytes) (in_front byte (pieces bytes)) ≡ (byte ∷ bytes) ∷ []
open_step true byte bytes i later found = absurd cc
open_step false byte bytes i later found = ap (in_front byte) (later found)

open_pieces : (bytes : List ℕ) (i : ℕ) → position_from is_blank i bytes ≡ None → pieces bytes ≡ bytes ∷ []
open_pieces [] i found = refl
open_pieces (byte ∷ bytes) i found =
    open_step (is_blank byte) byte bytes i (λ later. open_pieces bytes (i + 1) later) found

-- with no blank all is one word
pub word_open : (bytes : List ℕ) → 0 < length bytes → position_from is_blank 0 bytes ≡ None → words bytes ≡ bytes ∷ []
word_open [] some found = absurd (omega arith)
word_open (byte ∷ bytes) some found = ap not_empty (open_pieces (byte ∷ bytes) 0 found)

-- a blank in front is passed over
pub blank_skipped : (byte : ℕ) (bytes : List ℕ) → is_blank byte ≡ true → words (byte ∷ bytes) ≡ words bytes
blank_skipped byte bytes is = ap (λ (t : Bool). not_empty (cond t ([] ∷ pieces bytes) (in_front byte (pieces bytes)))) is
