-- Digests are bytes.
use Rattle.std.proofs.Common.{◌≡◌, ℕ, zero, suc, ◌*◌, ◌≤◌, List, [], ◌∷◌, ◌++◌, length, refl, arith, length-append, slice_index}
use Rattle.std.specs.Int.{w32, to_be_bytes, to_le_bytes}
use Rattle.std.specs.List.{flat_map}
use Rattle.cash_base.specs.Element.{IsElement}
use Rattle.cash_base.specs.Number.{IsBytes}
use Rattle.ripemd160.specs.Ripemd160.{ripemd160, bytes_of}
use Rattle.ripemd160.specs.declared.compress.State.{State}
use Rattle.sha1.specs.Sha1 as first
use Rattle.sha2.specs.Sha256 as second

pub IsBytes-append : (xs ys : List ℕ) → IsBytes xs → IsBytes ys → IsBytes (xs ++ ys)
IsBytes-append [] ys a b = b
IsBytes-append (x ∷ xs) ys a b = (a.0, IsBytes-append xs ys a.1 b)

IsBytes-be : (n : ℕ) → IsBytes (to_be_bytes w32 n)
IsBytes-be n = (omega arith, (omega arith, (omega arith, (omega arith, tt))))

IsBytes-le : (n : ℕ) → IsBytes (to_le_bytes w32 n)
IsBytes-le n = (omega arith, (omega arith, (omega arith, (omega arith, tt))))

-- bytes, and so many
record HasBytes (count : ℕ) (e : List ℕ) : Type 0 where
  bytes : IsBytes e
  count_is : length e ≡ count

appended : (n : ℕ) (xs ys : List ℕ) → HasBytes (4 * n) xs → IsBytes ys → length ys ≡ 4 → HasBytes (4 * suc n) (xs ++ ys)
appended n xs ys a b four = record {
  bytes = IsBytes-append xs ys a.bytes b;
  count_is = let before = a.count_is in omega (arith, before, four, length-append xs ys);
}

small : (count : ℕ) (e : List ℕ) → count ≤ 520 → HasBytes count e → IsElement e
small count e few h = record { size = (let is = h.count_is in omega (arith, few, is)); bytes = h.bytes }

sha1_bytes : (h : List ℕ) (n : ℕ) → HasBytes (4 * n) (first.digest_bytes h n)
unfolding first.digest_bytes
sha1_bytes h zero = record { bytes = tt; count_is = refl }
sha1_bytes h (suc n) = appended n (first.digest_bytes h n) _ (sha1_bytes h n) (IsBytes-be (slice_index h n)) refl

sha256_bytes : (h : List ℕ) (n : ℕ) → HasBytes (4 * n) (second.digest_bytes h n)
unfolding second.digest_bytes
sha256_bytes h zero = record { bytes = tt; count_is = refl }
sha256_bytes h (suc n) = appended n (second.digest_bytes h n) _ (sha256_bytes h n) (IsBytes-be (slice_index h n)) refl

words_bytes : (words : List ℕ) → HasBytes (4 * length words) (flat_map (to_le_bytes w32) words)
words_bytes [] = record { bytes = tt; count_is = refl }
words_bytes (w ∷ words) =
    let ih = words_bytes words in
    record {
      bytes = IsBytes-append (to_le_bytes w32 w) (flat_map (to_le_bytes w32) words) (IsBytes-le w) ih.bytes;
      count_is = let rest = ih.count_is in omega (arith, rest, length-append (to_le_bytes w32 w) (flat_map (to_le_bytes w32) words));
    }

state_bytes : (h : State) → HasBytes 20 (bytes_of h)
state_bytes h = words_bytes (h.a ∷ h.b ∷ h.c ∷ h.d ∷ h.e ∷ [])

pub ripemd160-IsElement : (m : List ℕ) → IsElement (ripemd160 m)
unfolding ripemd160
ripemd160-IsElement m = small 20 _ (omega arith) (state_bytes _)

pub sha1-IsElement : (m : List ℕ) → IsElement (first.sha1 m)
unfolding first.sha1
sha1-IsElement m = small 20 _ (omega arith) (sha1_bytes _ 5)

pub sha256-IsElement : (m : List ℕ) → IsElement (second.sha256 m)
unfolding second.sha256
sha256-IsElement m = small 32 _ (omega arith) (sha256_bytes _ 8)
