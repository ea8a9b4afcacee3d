-- The table of names, gone over by the checker.
use Rattle.std.proofs.Common.{◌≡◌, ℕ, zero, suc, ◌+◌, ◌-◌, ◌<◌, ◌≤◌, ◌==◌, Bool, true, false, not, ◌&&◌, eqb, cond, List, [], ◌∷◌, ◌++◌, Option, Some, None, refl, sym, ap, subst, arith, ◌⊎◌, inl, inr}
use Rattle.std.specs.List.{list_all, filter, range_with_len}
use Rattle.std.specs.Str.{bytes_eq}
use Rattle.std.proofs.lemmas.Bool.{and_parts, eqb-true, cases_lt}
use Rattle.std.proofs.lemmas.Slice.Eq.{bytes_eq-Decides}
use Rattle.script_codec.specs.Spelling.{own_opcode}
use Rattle.script_codec.proofs.Own.{Owns, owned}
use Rattle.script_codec.specs.Words.{is_blank}
use Rattle.script_codec.specs.Names.{named_opcodes, name_in, opcode_in, name_of, opcode_named, has_name}

abbrev Row : Type 0
Row = ℕ × List ℕ

-- of all bytes these have a name
pub bytes_named : filter has_name (range_with_len 0 256)
    ≡ 0x00 ∷ 0x4f ∷ (range_with_len 0x51 0x6c ++ range_with_len 0xc0 0x0e)
unfolding named_opcodes
bytes_named = refl

-- ---- a test of each row holds of what is found

found_by_opcode : (test : Row → Bool) (rows : List Row) (opcode : ℕ) (name : List ℕ) → list_all test rows ≡ true
    → name_in rows opcode ≡ Some name → test (opcode, name) ≡ true
found_by_opcode test [] opcode name all found = absurd cc
found_by_opcode test (row ∷ rows) opcode name all found =
    by_test (found_by_opcode test rows opcode name parts.1) (eqb opcode row.0) refl found
  where
    parts : (test row ≡ true) × (list_all test rows ≡ true)
    parts = and_parts (test row) (list_all test rows) all

    by_test : (name_in rows opcode ≡ Some name → test (opcode, name) ≡ true) → (t : Bool) → eqb opcode row.0 ≡ t
        → cond t (Some row.1) (name_in rows opcode) ≡ Some name → test (opcode, name) ≡ true
    by_test later true same is =
        let opcode_is : opcode ≡ row.0 = eqb-true opcode row.0 same in
        let name_is : row.1 ≡ name = cc in
        subst (λ (o : ℕ). test (o, name) ≡ true) (sym opcode_is)
        (subst (λ (n : List ℕ). test (row.0, n) ≡ true) name_is parts.0)
    by_test later false other is = later is

found_by_name : (test : Row → Bool) (rows : List Row) (name : List ℕ) (opcode : ℕ) → list_all test rows ≡ true
    → opcode_in rows name ≡ Some opcode → test (opcode, name) ≡ true
found_by_name test [] name opcode all found = absurd cc
found_by_name test (row ∷ rows) name opcode all found =
    by_test (found_by_name test rows name opcode parts.1) (bytes_eq name row.1) refl found
  where
    parts : (test row ≡ true) × (list_all test rows ≡ true)
    parts = and_parts (test row) (list_all test rows) all

    by_test : (opcode_in rows name ≡ Some opcode → test (opcode, name) ≡ true) → (t : Bool) → bytes_eq name row.1 ≡ t
        → cond t (Some row.0) (opcode_in rows name) ≡ Some opcode → test (opcode, name) ≡ true
    by_test later true same is =
        let name_is : name ≡ row.1 = (bytes_eq-Decides name row.1).0 same in
        let opcode_is : row.0 ≡ opcode = cc in
        subst (λ (n : List ℕ). test (opcode, n) ≡ true) (sym name_is)
        (subst (λ (o : ℕ). test (o, row.1) ≡ true) opcode_is parts.0)
    by_test later false other is = later is

-- ---- a name has one opcode, and an opcode one name

abbrev is_number : ℕ → Option ℕ → Bool
is_number n (Some m) = n == m
is_number n None = false

number_is : (n : ℕ) (found : Option ℕ) → is_number n found ≡ true → found ≡ Some n
number_is n (Some m) same = ap (λ (k : ℕ). Some k) (sym (eqb-true n m same))
number_is n None same = absurd cc

abbrev is_name : List ℕ → Option (List ℕ) → Bool
is_name name (Some other) = bytes_eq name other
is_name name None = false

name_is : (name : List ℕ) (found : Option (List ℕ)) → is_name name found ≡ true → found ≡ Some name
name_is name (Some other) same = ap (λ (n : List ℕ). Some n) (sym ((bytes_eq-Decides name other).0 same))
name_is name None same = absurd cc

opcodes_back : list_all (λ row. is_number row.0 (opcode_named row.1)) named_opcodes ≡ true
unfolding named_opcodes
opcodes_back = refl

names_back : list_all (λ row. is_name row.1 (name_of row.0)) named_opcodes ≡ true
unfolding named_opcodes
names_back = refl

pub opcode_back : (opcode : ℕ) (name : List ℕ) → name_of opcode ≡ Some name → opcode_named name ≡ Some opcode
opcode_back opcode name found =
    number_is opcode (opcode_named name)
    (found_by_opcode (λ row. is_number row.0 (opcode_named row.1)) named_opcodes opcode name opcodes_back found)

pub name_back : (name : List ℕ) (opcode : ℕ) → opcode_named name ≡ Some opcode → name_of opcode ≡ Some name
name_back name opcode found =
    name_is name (name_of opcode)
    (found_by_name (λ row. is_name row.1 (name_of row.0)) named_opcodes name opcode names_back found)

-- ---- a name is one word

names_unbroken : list_all (λ row. list_all (λ byte. not (is_blank byte)) row.1) named_opcodes ≡ true
unfolding named_opcodes
names_unbroken = refl

pub name_unbroken : (opcode : ℕ) (name : List ℕ) → name_of opcode ≡ Some name
    → list_all (λ byte. not (is_blank byte)) name ≡ true
name_unbroken opcode name found =
    found_by_opcode (λ row. list_all (λ byte. not (is_blank byte)) row.1) named_opcodes opcode name names_unbroken found

-- ---- an element's own opcode has a name

abbrev all_below : (ℕ → Bool) → ℕ → Bool
all_below test zero = true
all_below test (suc n) = test n && all_below test n

below : (test : ℕ → Bool) (n k : ℕ) → all_below test n ≡ true → k < n → test k ≡ true
below test zero k all less = absurd (omega arith)
below test (suc n) k all less = by_case (below test n k parts.1) (cases_lt k n)
  where
    parts : (test n ≡ true) × (all_below test n ≡ true)
    parts = and_parts (test n) (all_below test n) all

    by_case : (k < n → test k ≡ true) → (k < n) ⊎ (n ≤ k) → test k ≡ true
    by_case lower (inl under) = lower under
    by_case lower (inr top) =
        let same : n ≡ k = omega arith in
        subst (λ (m : ℕ). test m ≡ true) same parts.0

small_named : all_below (λ k. has_name (0x51 + k)) 16 ≡ true
unfolding named_opcodes
small_named = refl

empty_named : has_name 0 ≡ true
unfolding named_opcodes
empty_named = refl

minus_named : has_name 0x4f ≡ true
unfolding named_opcodes
minus_named = refl

pub own_named : (e : List ℕ) (opcode : ℕ) → own_opcode e ≡ Some opcode → has_name opcode ≡ true
own_named e opcode own = by_case (owned e opcode own)
  where
    by_case : Owns e opcode → has_name opcode ≡ true
    by_case (inl empty) = subst (λ (o : ℕ). has_name o ≡ true) (sym empty.0) empty_named
    by_case (inr (inl minus)) = subst (λ (o : ℕ). has_name o ≡ true) (sym minus.0) minus_named
    by_case (inr (inr small)) =
        let above : 0x50 < opcode = small.0 in
        let few : opcode ≤ 0x60 = small.1 in
        let is : 0x51 + (opcode - 0x51) ≡ opcode = omega arith in
        let less : opcode - 0x51 < 16 = omega arith in
        subst (λ (o : ℕ). has_name o ≡ true) is (below (λ k. has_name (0x51 + k)) 16 (opcode - 0x51) small_named less)
