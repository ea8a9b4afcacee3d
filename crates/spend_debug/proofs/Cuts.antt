-- Where the first line of a file ends.
use Rattle.std.proofs.Common.{◌≡◌, ℕ, suc, ◌+◌, ◌<◌, ◌==◌, Bool, true, false, cond, List, [], ◌∷◌, ◌++◌, length, take, drop, Option, Some, None, Result, Ok, Err, refl, sym, ap, subst, ◌∙◌, arith, append_assoc}
use Rattle.std.specs.List.{position_from}
use Rattle.std.specs.Prelude.{IfSome}
use Rattle.cash_base.specs.Failing.{◌>>=◌}
use Rattle.spend_debug.specs.SpendLines.{Line, lines, in_front, line_element, elements_of, after}
use Rattle.spend_debug.specs.declared.spend_lines.LineFault.{LineFault}

abbrev pub is_line_feed : ℕ → Bool
is_line_feed byte = byte == 0x0a

abbrev pub whole : List ℕ → Line
whole text = record { text = text; ended = true }

abbrev pub rest_of : List ℕ → Line
rest_of text = record { text = text; ended = false }

-- a line feed stands at a place, counted from i, and ends the first line there
record IsCut (bytes : List ℕ) (all : List Line) (i at : ℕ) : Type 0 where
  pub k : ℕ
  pub is : at ≡ i + k
  pub within : k < length bytes
  pub cut : all ≡ whole (take k bytes) ∷ lines (drop (k + 1) bytes)

abbrev or_zero : Option ℕ → ℕ
or_zero (Some n) = n
or_zero None = 0

cut_step : (t : Bool) (byte : ℕ) (bytes : List ℕ) (i at : ℕ)
    → (position_from is_line_feed (i + 1) bytes ≡ Some at → IsCut bytes (lines bytes) (i + 1) at)
    → cond t (Some i) (position_from is_line_feed (i + 1) bytes) ≡ Some at
    → IsCut (byte ∷ bytes) (cond t (whole [] ∷ lines bytes) (in_front byte (lines bytes))) i at
cut_step true byte bytes i at later found =
    let same : i ≡ at = ap or_zero found in
    record { k = 0; is = omega arith; within = omega arith; cut = refl }
cut_step false byte bytes i at later found =
    let is_cut = later found in
    let is : at ≡ (i + 1) + is_cut.k = is_cut.is in
    let within : is_cut.k < length bytes = is_cut.within in
    let after_it : suc (is_cut.k + 1) ≡ suc is_cut.k + 1 = omega arith in
    let cut : in_front byte (lines bytes)
    ≡ whole (byte ∷ take is_cut.k bytes) ∷ lines (drop (suc is_cut.k + 1) (byte ∷ bytes)) =
    ap (in_front byte) is_cut.cut
    ∙ ap (λ (n : ℕ). whole (byte ∷ take is_cut.k bytes) ∷ lines (drop n (byte ∷ bytes))) after_it in
    record { k = suc is_cut.k; is = omega arith; within = omega arith; cut = cut }

cut_at : (bytes : List ℕ) (i at : ℕ) → position_from is_line_feed i bytes ≡ Some at → IsCut bytes (lines bytes) i at
cut_at [] i at found = absurd cc
cut_at (byte ∷ bytes) i at found =
    cut_step (byte == 0x0a) byte bytes i at (λ later. cut_at bytes (i + 1) at later) found

-- the first line ends at the first line feed
pub first_ended : (bytes : List ℕ) (at : ℕ) → position_from is_line_feed 0 bytes ≡ Some at
    → (at < length bytes) × (lines bytes ≡ whole (take at bytes) ∷ lines (drop (at + 1) bytes))
first_ended bytes at found =
    let is_cut = cut_at bytes 0 at found in
    let from : at ≡ 0 + is_cut.k = is_cut.is in
    let is : is_cut.k ≡ at = omega arith in
    subst (λ (k : ℕ). (k < length bytes) × (lines bytes ≡ whole (take k bytes) ∷ lines (drop (k + 1) bytes))) is
    (is_cut.within, is_cut.cut)

pub within_of : (bytes : List ℕ) (found : Option ℕ) → found ≡ position_from is_line_feed 0 bytes
    → IfSome found (λ at. at < length bytes)
within_of bytes (Some at) is = (first_ended bytes at (sym is)).0
within_of bytes None is = tt

pub ended_of : (bytes : List ℕ) (found : Option ℕ) → found ≡ position_from is_line_feed 0 bytes
    → IfSome found (λ at. lines bytes ≡ whole (take at bytes) ∷ lines (drop (at + 1) bytes))
ended_of bytes (Some at) is = (first_ended bytes at (sym is)).1
ended_of bytes None is = tt

-- ---- no line feed

open_step : (t : Bool) (byte : ℕ) (bytes : List ℕ) (i : ℕ)
    → (position_from is_line_feed (i + 1) bytes ≡ None → in_front byte (lines bytes) ≡ rest_of (byte ∷ bytes) ∷ [])
    → cond t (Some i) (position_from is_line_feed (i + 1) bytes) ≡ None
    → cond t (whole [] ∷ lines bytes) (in_front byte (lines bytes)) ≡ rest_of (byte ∷ bytes) ∷ []
open_step true byte bytes i later found = absurd cc
open_step false byte bytes i later found = later found

open_lines : (byte : ℕ) (bytes : List ℕ) (i : ℕ) → position_from is_line_feed i (byte ∷ bytes) ≡ None
    → lines (byte ∷ bytes) ≡ rest_of (byte ∷ bytes) ∷ []
open_lines byte [] i found = open_step (byte == 0x0a) byte [] i (λ none. refl) found
open_lines byte (next ∷ bytes) i found =
    open_step (byte == 0x0a) byte (next ∷ bytes) i (λ later. ap (in_front byte) (open_lines next bytes (i + 1) later))
    found

-- with no line feed all is one line that isn't ended
pub first_open : (bytes : List ℕ) → 0 < length bytes → position_from is_line_feed 0 bytes ≡ None
    → lines bytes ≡ rest_of bytes ∷ []
first_open [] some found = absurd (omega arith)
first_open (byte ∷ bytes) some found = open_lines byte bytes 0 found

-- ---- the elements of lines, one by one

in_turn : (front : List (List ℕ)) (e : List ℕ) (read : Result (List (List ℕ)) LineFault)
    → after front (read >>= λ elements. Ok (e ∷ elements)) ≡ after (front ++ e ∷ []) read
in_turn front e (Ok elements) = ap (λ (all : List (List ℕ)). Ok all) (sym (append_assoc front (e ∷ []) elements))
in_turn front e (Err fault) = refl

pub after_nothing : (read : Result (List (List ℕ)) LineFault) → after [] read ≡ read
after_nothing (Ok elements) = refl
after_nothing (Err fault) = refl

abbrev with_further : List Line → Result (List ℕ) LineFault → Result (List (List ℕ)) LineFault
with_further further read = read >>= λ element. elements_of further >>= λ elements. Ok (element ∷ elements)

-- a line is read, and then the further ones
pub line_read : (front : List (List ℕ)) (all : List Line) (line : Line) (further : List Line) (e : List ℕ)
    → all ≡ line ∷ further
    → line_element line ≡ Ok e → after front (elements_of all) ≡ after (front ++ e ∷ []) (elements_of further)
line_read front all line further e is read =
    ap (λ (ls : List Line). after front (elements_of ls)) is
    ∙ ap (λ (r : Result (List ℕ) LineFault). after front (with_further further r)) read
    ∙ in_turn front e (elements_of further)

-- the first line is refused
pub line_refused : (all : List Line) (line : Line) (further : List Line) (fault : LineFault) → all ≡ line ∷ further
    → line_element line ≡ Err fault → elements_of all ≡ Err fault
line_refused all line further fault is read =
    ap (λ (ls : List Line). elements_of ls) is ∙ ap (λ (r : Result (List ℕ) LineFault). with_further further r) read

-- it is read, and a further one is refused
pub later_refused : (all : List Line) (line : Line) (further : List Line) (e : List ℕ) (fault : LineFault)
    → all ≡ line ∷ further
    → line_element line ≡ Ok e → elements_of further ≡ Err fault → elements_of all ≡ Err fault
later_refused all line further e fault is read later =
    ap (λ (ls : List Line). elements_of ls) is ∙ ap (λ (r : Result (List ℕ) LineFault). with_further further r) read
    ∙ ap (λ (r : Result (List (List ℕ)) LineFault). r >>= λ elements. Ok (e ∷ elements)) later
