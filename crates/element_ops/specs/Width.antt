-- Elements as whole numbers of any width: a magnitude, little-endian, and a sign in the highest bit of the last byte.
use Rattle.std.specs.Prelude.{◌≡◌, ℕ, zero, suc, ◌-◌, ◌<◌, ◌≤◌, true, ◌/◌, ◌%◌, ◌==◌, if◌then◌else◌, List, [], ◌∷◌, ◌++◌, length, replicate}
use Rattle.cash_base.specs.Number.{magnitude, has_sign, is_minimal, digits, with_sign, IsBytes}

-- The shortest element with the same sign and magnitude. A magnitude of zero gives the empty element.
abbrev pub shortest : List ℕ → List ℕ
shortest e = with_sign (has_sign e) (digits (length e) (magnitude e))

-- exactly so many digits to the base 256, the lowest first
unfoldable pub places : ℕ → ℕ → List ℕ
places zero n = []
places (suc k) n = (n % 256) ∷ places k (n / 256)

-- The element of so many bytes with the same sign and magnitude, for a width that the shortest has room in. A magnitude
-- of zero has no sign.
abbrev pub of_width : ℕ → List ℕ → List ℕ
of_width width e = with_sign (has_sign (shortest e)) (places width (magnitude e))

-- s has the sign and the magnitude of e, in the least bytes; a magnitude of zero has no sign.
pub record IsShortestOf (e s : List ℕ) : Type 0 where
  pub bytes : IsBytes s
  pub magnitude_is : magnitude s ≡ magnitude e
  pub sign_is : 0 < magnitude e → has_sign s ≡ has_sign e
  pub minimal : is_minimal s ≡ true
  pub shorter : length s ≤ length e

-- w has so many bytes, and the sign and the magnitude of the element whose shortest form is s
pub record HasWidth (width : ℕ) (s w : List ℕ) : Type 0 where
  pub bytes : IsBytes w
  pub count : length w ≡ width
  pub magnitude_is : magnitude w ≡ magnitude s
  pub sign_is : has_sign w ≡ has_sign s

-- ---- parts of the code

-- the bytes without the highest bit of the last
abbrev pub without_sign : List ℕ → List ℕ
without_sign [] = []
without_sign (b ∷ []) = (b % 128) ∷ []
without_sign (b ∷ c ∷ bs) = b ∷ without_sign (c ∷ bs)

-- a digit in front of those, and none where all would be zero
abbrev pub digit_before : ℕ → List ℕ → List ℕ
digit_before b [] = if b == 0 then [] else b ∷ []
digit_before b (c ∷ cs) = b ∷ c ∷ cs

-- no zeros at the end
abbrev pub trimmed : List ℕ → List ℕ
trimmed [] = []
trimmed (b ∷ bs) = digit_before b (trimmed bs)

-- zeros at the end, up to a width
abbrev pub padded : ℕ → List ℕ → List ℕ
padded width bs = bs ++ replicate (width - length bs) 0
