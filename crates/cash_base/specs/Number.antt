-- Script numbers, as the Bitcoin Cash specification has them: little-endian, with a sign in the highest bit of the
-- last byte. Elements stand here as their bytes.
use Rattle.std.specs.Prelude.{ℕ, zero, suc, ◌+◌, ◌*◌, ◌/◌, ◌%◌, ◌<◌, ◌==◌, Bool, true, false, not, ◌&&◌, ◌||◌, nat_le, nat_lt, if◌then◌else◌, List, [], ◌∷◌, length, ℤ, pos, neg_ℤ, unsigned_abs, Option, Some, None}
use Rattle.std.specs.Int.{is_negative}
use Rattle.std.specs.List.{AllByRecursion}

-- each is a byte
abbrev pub IsBytes : List ℕ → Type 0
IsBytes e = AllByRecursion (λ b. b < 256) e

-- the whole number, without its sign: the bytes as powers of 256, the last without its highest bit
abbrev pub magnitude : List ℕ → ℕ
magnitude [] = 0
magnitude (b ∷ []) = b % 128
magnitude (b ∷ c ∷ bs) = b + 256 * magnitude (c ∷ bs)

-- the highest bit of the last byte
abbrev pub has_sign : List ℕ → Bool
has_sign [] = false
has_sign (b ∷ []) = nat_le 128 b
has_sign (b ∷ c ∷ bs) = has_sign (c ∷ bs)

-- The empty element is minimal. Any other is where its last byte is neither 00 nor 80, or where the byte before the
-- last has its highest bit set.
abbrev pub is_minimal : List ℕ → Bool
is_minimal [] = true
is_minimal (b ∷ []) = not (b % 128 == 0)
is_minimal (a ∷ b ∷ []) = not (b % 128 == 0) || nat_le 128 a
is_minimal (a ∷ b ∷ c ∷ bs) = is_minimal (b ∷ c ∷ bs)

-- the number of the sign and the magnitude
abbrev pub signed : Bool → ℕ → ℤ
signed negative n = if negative then neg_ℤ (pos n) else pos n

-- the number of an element of at most 8 bytes that is minimal
abbrev pub number_of : List ℕ → Option ℤ
number_of e = if nat_le (length e) 8 && is_minimal e then Some (signed (has_sign e) (magnitude e)) else None

-- so many digits to the base 256 at most, the lowest first and the highest not zero
unfoldable pub digits : ℕ → ℕ → List ℕ
digits zero n = []
digits (suc places) n = if n == 0 then [] else (n % 256) ∷ digits places (n / 256)

-- the sign goes into the highest bit of the last byte, or into a byte of its own where that bit is taken
abbrev pub with_sign : Bool → List ℕ → List ℕ
with_sign negative [] = []
with_sign negative (b ∷ []) =
    let sign = if negative then 128 else 0 in if nat_lt b 128 then (b + sign) ∷ [] else b ∷ sign ∷ []
with_sign negative (b ∷ c ∷ bs) = b ∷ with_sign negative (c ∷ bs)

-- the one minimal element of a number between -(2^63 - 1) and 2^63 - 1
abbrev pub minimal_bytes : ℤ → List ℕ
minimal_bytes n = with_sign (is_negative n) (digits 8 (unsigned_abs n))

-- False exactly where all bytes are 00, or all but the last are 00 and the last is 80.
abbrev pub truth_of : List ℕ → Bool
truth_of [] = false
truth_of (b ∷ []) = not (b % 128 == 0)
truth_of (b ∷ c ∷ bs) = not (b == 0) || truth_of (c ∷ bs)
