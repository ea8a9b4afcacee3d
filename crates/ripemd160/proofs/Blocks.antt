-- What the code has made of a block, and of the end of a message, against the definition.
use Rattle.std.proofs.Common.{◌≡◌, ℕ, suc, ◌+◌, ◌-◌, ◌*◌, ◌/◌, ◌%◌, ◌^◌, ◌≤◌, List, [], ◌∷◌, ◌++◌, length, take, drop, map, fold, replicate, set, refl, sym, ap, ◌∙◌, arith, append_assoc, append-nil}
use Rattle.std.proofs.lemmas.List.{take_all, drop_all, take_at, set_at, drop-replicate, replicate-append-replicate, length-append, length-drop, length-replicate}
use Rattle.std.proofs.lemmas.List.Sums.{fold-append}
use Rattle.std.proofs.lemmas.Slice.{take-put_mid}
use borrow.Rule.Slice.PartMut.{put_mid}
use Rattle.std.specs.Int.{w32, w64, from_le_bytes, to_le_bytes}
use Rattle.std.specs.List.{flat_map}
use Rattle.std.specs.Simd.{first_chunks}
use Rattle.ripemd160.specs.declared.compress.State.{State}
use Rattle.ripemd160.specs.declared.compress.TheConstants.{LEFT, RIGHT}
use Rattle.ripemd160.specs.Ripemd160.{words_of, left_table, right_table, line, joined, compressed, padding, blocks_of, padded_message}
use Rattle.ripemd160.specs.Rounds.{steps_of}
use Rattle.ripemd160.proofs.Lists.{first_chunks-append}

-- the code's tables are those of the definition
pub left_steps : flat_map steps_of LEFT ≡ left_table
unfolding left_table
left_steps = refl

pub right_steps : flat_map steps_of RIGHT ≡ right_table
unfolding right_table
right_steps = refl

-- the words of a block, once all are read
pub words_all : (words : List ℕ) (quads : List (List ℕ)) (block : List ℕ) → length words ≡ 16 → length quads ≡ 16
    → take 16 words ++ map (from_le_bytes w32) (drop 16 quads) ≡ map (from_le_bytes w32) quads
    → quads ≡ first_chunks 4 16 block → words ≡ words_of block
unfolding words_of
words_all words quads block sixteen long read cut =
    let none : drop 16 quads ≡ [] = drop_all 16 quads (omega arith) in
    let all : take 16 words ≡ words = take_all 16 words (omega arith) in
    let same : words ≡ map (from_le_bytes w32) quads = rw (none, append-nil, all) at read in
    same ∙ ap (map (from_le_bytes w32)) cut

-- the two lines of a block, joined
pub joined_lines : (block words : List ℕ) (h left right next : State) → words ≡ words_of block → left ≡ line left_table words h
    → right ≡ line right_table words h → next ≡ joined h left right → next ≡ compressed h block
unfolding compressed
joined_lines block words h left right next is_words is_left is_right is_next =
    rw (is_next, is_left, is_right, is_words) refl

-- a list, written over the front of m zeros, then one byte, z zeros and more bytes
pub closed_bytes : (rest bits : List ℕ) (x m r j a k e z y : ℕ) → r ≡ length rest → j ≡ r → a ≡ r + 1 + z → e ≡ a + length bits
    → m ≡ a + y → take e (put_mid a k (set (rest ++ drop j (replicate m 0)) r x) bits) ≡ rest ++ (x ∷ replicate z 0 ++ bits)
closed_bytes rest bits x m r j a k e z y at from after end room =
    let left : m - j ≡ suc (z + y) = omega arith in
    let zeros : drop {A = ℕ} j (replicate m 0) ≡ 0 ∷ replicate (z + y) 0 = rw (drop-replicate, left) refl in
    let front : List ℕ = rest ++ x ∷ replicate z 0 in
    let written : set (rest ++ drop j (replicate m 0)) r x ≡ front ++ replicate y 0 =
    rw (zeros, set_at rest 0 (replicate (z + y) 0) x r (sym at), ← replicate-append-replicate {A = ℕ} z y 0)
    (sym (append_assoc rest (x ∷ replicate z 0) (replicate y 0))) in
    let long : length front ≡ a = omega (arith, length-append rest (x ∷ replicate z 0), length-replicate {A = ℕ} z 0) in
    let within : a ≤ length (front ++ replicate y 0) = omega (arith, length-append front (replicate y 0)) in
    rw (written, take-put_mid a k (front ++ replicate y 0) bits e end within, take_at front (replicate y 0) a long)
    (append_assoc rest (x ∷ replicate z 0) bits)

-- the buffer with the rest of a message, the byte 0x80 and the length at the end of a block
pub last_bytes : (rest ys zs : List ℕ) (n r j a k e : ℕ) → ys ≡ rest → zs ≡ to_le_bytes w64 (8 * n % 2 ^ 64)
    → length rest ≡ n % 64 → r ≡ length rest → j ≡ r → e ≡ r + 1 + (119 - r) % 64 + 8 → e ≡ a + 8
    → take e (put_mid a k (set (ys ++ drop j (replicate 128 0)) r 0x80) zs) ≡ rest ++ padding n
last_bytes rest ys zs n r j a k e is_rest is_bits used at from end field =
    let z : ℕ = (119 - n % 64) % 64 in
    let same : n % 64 ≡ r = omega arith in
    let after : a ≡ r + 1 + z = rw same (omega arith) in
    rw (is_rest, is_bits)
    (closed_bytes rest (to_le_bytes w64 (8 * n % 2 ^ 64)) 0x80 128 r j a k e z (128 - a) at from after field (omega arith))

-- the whole pieces of a list with another after it, and then the pieces of the rest
pub blocks_of-append : (m rest p : List ℕ) → rest ≡ drop (length m / 64 * 64) m
    → blocks_of (m ++ p) ≡ first_chunks 64 (length m / 64) m ++ blocks_of (rest ++ p)
blocks_of-append m rest p is_rest =
    let k : ℕ = length m / 64 in
    let after : List ℕ = drop (k * 64) m ++ p in
    let long : length after ≡ length m - k * 64 + length p =
    length-append (drop (k * 64) m) p ∙ ap (λ (n : ℕ). n + length p) (length-drop (k * 64) m) in
    let count : length (m ++ p) / 64 ≡ k + length after / 64 = omega (arith, length-append m p) in
    rw (is_rest, count) (first_chunks-append 64 k (length after / 64) m p (omega arith))

-- the whole blocks of a message, and then the blocks of its rest with the padding
pub whole_message : (m rest : List ℕ) (blocks : List (List ℕ)) (start state next : State) → state ≡ fold compressed start blocks
    → next ≡ fold compressed state (blocks_of (rest ++ padding (length m)))
    → blocks ≡ first_chunks 64 (length m / 64) m → rest ≡ drop (length m / 64 * 64) m
    → next ≡ fold compressed start (blocks_of (padded_message m))
whole_message m rest blocks start state next is_state is_next is_blocks is_rest =
    let cut : blocks_of (padded_message m) ≡ blocks ++ blocks_of (rest ++ padding (length m)) =
    blocks_of-append m rest (padding (length m)) is_rest
    ∙ ap (λ (b : List (List ℕ)). b ++ blocks_of (rest ++ padding (length m))) (sym is_blocks) in
    is_next
    ∙ ap (λ (h : State). fold compressed h (blocks_of (rest ++ padding (length m)))) is_state
    ∙ sym (fold-append compressed start blocks (blocks_of (rest ++ padding (length m))))
    ∙ ap (fold compressed start) (sym cut)
