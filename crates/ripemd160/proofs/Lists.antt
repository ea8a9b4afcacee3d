-- Lists cut in pieces of one size, and bytes written piece by piece.
use Rattle.std.proofs.Common.{◌≡◌, ℕ, zero, suc, ◌+◌, ◌*◌, ◌<◌, ◌≤◌, List, ◌∷◌, ◌++◌, length, take, drop, slice_index, refl, ap, ◌∙◌, arith, zero-add, suc-mul, rules, append_assoc}
use Rattle.std.proofs.lemmas.List.{take-append-le, drop-append-le, drop-drop, drop_more, length-drop}
use Rattle.std.proofs.lemmas.Slice.{take-put_mid}
use borrow.Rule.Slice.PartMut.{put_mid}
use Rattle.std.specs.Int.{w32, to_le_bytes}
use Rattle.std.specs.List.{flat_map}
use Rattle.std.specs.Simd.{first_chunks}

-- pieces of a list, and of what follows it
pub first_chunks-append : {A : Type 0} (n k j : ℕ) (xs ys : List A) → k * n ≤ length xs
    → first_chunks n (k + j) (xs ++ ys) ≡ first_chunks n k xs ++ first_chunks n j (drop (k * n) xs ++ ys)
first_chunks-append n zero j xs ys h = rw zero-add (search rules)
first_chunks-append n (suc k) j xs ys h =
    let within : n ≤ length xs = omega (arith, suc-mul k n) in
    let left : k * n ≤ length (drop n xs) = omega (arith, suc-mul k n, length-drop n xs) in
    let front : take n (xs ++ ys) ≡ take n xs = take-append-le n xs ys within in
    let back : drop n (xs ++ ys) ≡ drop n xs ++ ys = drop-append-le n xs ys within in
    let one_more : suc k + j ≡ suc (k + j) = omega arith in
    let past : drop (k * n) (drop n xs) ≡ drop (suc k * n) xs =
    drop-drop (k * n) n xs ∙ ap (λ (i : ℕ). drop i xs) (omega (arith, suc-mul k n)) in
    rw (one_more, front, back, first_chunks-append n k j (drop n xs) ys left, past) refl

-- the bytes of one more word
pub bytes_more : (bytes words ys whole : List ℕ) (i k : ℕ) → i < length words → 4 * i ≤ length bytes
    → ys ≡ to_le_bytes w32 (slice_index words i)
    → take (4 * i) bytes ++ flat_map (to_le_bytes w32) (drop i words) ≡ whole
    → take (4 * (i + 1)) (put_mid (4 * i) k bytes ys) ++ flat_map (to_le_bytes w32) (drop (i + 1) words) ≡ whole
bytes_more bytes words ys whole i k within fits written so_far =
    let four : length ys ≡ 4 = rw written refl in
    let front : take (4 * (i + 1)) (put_mid (4 * i) k bytes ys) ≡ take (4 * i) bytes ++ ys =
    take-put_mid (4 * i) k bytes ys (4 * (i + 1)) (omega arith) fits in
    let next : drop i words ≡ slice_index words i ∷ drop (i + 1) words = drop_more words i 0 within in
    rw (front, written, append_assoc) (rw next at so_far)
