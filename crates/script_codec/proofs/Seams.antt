-- How a reading goes on after an instruction.
use Rattle.std.proofs.Common.{◌≡◌, ℕ, zero, suc, ◌+◌, ◌-◌, ◌≤◌, Bool, true, false, leb, cond, List, [], ◌∷◌, length, take, drop, refl, sym, ap, ◌∙◌, arith, Some, Ok, Err}
use Rattle.std.proofs.lemmas.List.{drop-drop, drop_all, length-drop, length-take}
use Rattle.std.proofs.lemmas.Bool.{leb-true}
use Rattle.std.proofs.lemmas.Bool.Decides.{nat_tests}
use Rattle.script_codec.specs.declared.reading.RawInstr.{RawInstr}
use Rattle.script_codec.specs.Reading.{Whole, CutOff, length_size, pushed_size, piece_of, size_after, reading_after, reading}
use Rattle.script_codec.specs.Places.{placed, instruction_at, raw_in, ReadsAs, LiesIn}

-- the bytes that belong to the instruction before are passed over
pub reading_after-drop : (left : ℕ) (bytes : List ℕ) → reading_after left bytes ≡ reading (drop left bytes)
unfolding reading_after
reading_after-drop zero bytes = refl
reading_after-drop (suc left) [] = refl
reading_after-drop (suc left) (byte ∷ bytes) = reading_after-drop left bytes

pub reading_nil : reading [] ≡ []
unfolding reading_after
reading_nil = refl

-- a reading is its first piece and the reading of what stands after
pub reading_cons : (opcode : ℕ) (after : List ℕ) → reading (opcode ∷ after) ≡ piece_of opcode after ∷ reading (drop (size_after opcode after) after)
unfolding reading_after
reading_cons opcode after = ap (λ more. piece_of opcode after ∷ more) (reading_after-drop (size_after opcode after) after)

-- so many bytes after the first of the rest
drop_after : (script : List ℕ) (at n opcode : ℕ) (after : List ℕ) → drop at script ≡ opcode ∷ after → drop (at + 1 + n) script ≡ drop n after
drop_after script at n opcode after e =
    let all : at + (1 + n) ≡ at + 1 + n = omega arith in
    let step : 1 + n ≡ suc n = omega arith in
    ap (λ k. drop k script) (sym all) ∙ sym (drop-drop (1 + n) at script) ∙ ap (λ k. drop k (drop at script)) step ∙ ap (drop (suc n)) e

-- the reading from a place on begins with the instruction there
reads_from : (script : List ℕ) (at : ℕ) (rest : List ℕ) → drop at script ≡ rest → ReadsAs script at (placed at rest)
reads_from script at [] e = ap reading e ∙ reading_nil
reads_from script at (opcode ∷ after) e = by_test (leb (size_after opcode after) (length after)) refl
  where
    size : ℕ
    size = size_after opcode after

    start : ℕ
    start = length_size opcode

    pushed : List ℕ
    pushed = take (pushed_size opcode after) (drop start after)

    instr : RawInstr
    instr = record { opcode = opcode; from = at + 1 + start; to = at + 1 + size }

    same : raw_in script instr ≡ record { opcode = opcode; pushed = pushed }
    same =
        let many : at + 1 + size - (at + 1 + start) ≡ pushed_size opcode after = omega arith in
        ap (λ n. record { opcode = opcode; pushed = take n (drop (at + 1 + start) script) }) many ∙ ap (λ bytes. record { opcode = opcode; pushed = take (pushed_size opcode after) bytes }) (drop_after script at start opcode after e)

    by_test : (t : Bool) → leb size (length after) ≡ t → ReadsAs script at (cond t (Ok (Some (instr, at + 1 + size))) (Err (record { at = at })))
    by_test true test =
        ap reading e ∙ reading_cons opcode after ∙ ap (λ t. cond t (Whole (record { opcode = opcode; pushed = pushed })) CutOff ∷ reading (drop size after)) test ∙ ap (λ raw. Whole raw ∷ reading (drop size after)) (sym same) ∙ ap (λ bytes. Whole (raw_in script instr) ∷ reading bytes) (sym (drop_after script at size opcode after e))
    by_test false test =
        let long : length after ≤ size = grind (arith, nat_tests, test) in
        ap reading e ∙ reading_cons opcode after ∙ ap (λ t. cond t (Whole (record { opcode = opcode; pushed = pushed })) CutOff ∷ reading (drop size after)) test ∙ ap (λ bytes. CutOff ∷ reading bytes) (drop_all size after long) ∙ ap (λ more. CutOff ∷ more) reading_nil

pub reads_as : (script : List ℕ) (at : ℕ) → ReadsAs script at (instruction_at script at)
reads_as script at = reads_from script at (drop at script) refl

lies_from : (script : List ℕ) (at : ℕ) (rest : List ℕ) → at + length rest ≤ length script → LiesIn script at (placed at rest)
lies_from script at [] h = tt
lies_from script at (opcode ∷ after) h = by_test (leb (size_after opcode after) (length after)) refl
  where
    start : ℕ
    start = at + 1 + length_size opcode

    end : ℕ
    end = at + 1 + size_after opcode after

    by_test : (t : Bool) → leb (size_after opcode after) (length after) ≡ t → LiesIn script at (cond t (Ok (Some (record { opcode = opcode; from = start; to = end }, end))) (Err (record { at = at })))
    by_test true test =
        let fits : size_after opcode after ≤ length after = leb-true _ _ test in
        let pushed : length (take (end - start) (drop start script)) ≡ end - start = simp (length-take, length-drop) (omega (arith, h, fits)) in
        (omega arith, omega arith, refl, omega (arith, h, fits), omega (arith, pushed))
    by_test false test = tt

pub lies_in : (script : List ℕ) (at : ℕ) → at ≤ length script → LiesIn script at (instruction_at script at)
lies_in script at h = lies_from script at (drop at script) (simp length-drop (omega (arith, h)))
