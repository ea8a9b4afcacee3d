-- Elements that have an opcode of their own.
use Rattle.std.proofs.Common.{◌≡◌, ℕ, ◌+◌, ◌-◌, ◌<◌, ◌≤◌, Bool, true, false, ◌&&◌, leb, eqb, cond, List, [], ◌∷◌, Option, Some, None, refl, sym, ap, arith, ◌⊎◌, inl, inr}
use Rattle.std.proofs.lemmas.Bool.Decides.{nat_tests}
use Rattle.script_codec.specs.Spelling.{own_opcode}

-- OP_0, OP_1NEGATE, and OP_1 to OP_16, each with its element
abbrev pub Owns : List ℕ → ℕ → Type 0
Owns e opcode =
    ((opcode ≡ 0) × (e ≡ []))
    ⊎ (((opcode ≡ 0x4f) × (e ≡ 0x81 ∷ []))
    ⊎ ((0x50 < opcode) × (opcode ≤ 0x60) × (e ≡ (opcode - 0x50) ∷ [])))

abbrev number_in : Option ℕ → ℕ
number_in (Some n) = n
number_in None = 0

one_byte : (byte opcode : ℕ) (small minus : Bool) → (leb 1 byte && leb byte 16) ≡ small → eqb byte 0x81 ≡ minus
    → cond small (Some (0x50 + byte)) (cond minus (Some 0x4f) None) ≡ Some opcode → Owns (byte ∷ []) opcode
one_byte byte opcode true minus s m is =
    let same : 0x50 + byte ≡ opcode = ap number_in is in
    let first : 1 ≤ byte = grind (arith, nat_tests, s) in
    let few : byte ≤ 16 = grind (arith, nat_tests, s) in
    let back : byte ≡ opcode - 0x50 = omega arith in
    inr (inr (omega arith, omega arith, ap (λ (b : ℕ). b ∷ []) back))
one_byte byte opcode false true s m is =
    let same : 0x4f ≡ opcode = ap number_in is in
    let byte_is : byte ≡ 0x81 = grind (arith, nat_tests, m) in
    inr (inl (sym same, ap (λ (b : ℕ). b ∷ []) byte_is))
one_byte byte opcode false false s m is = absurd cc

pub owned : (e : List ℕ) (opcode : ℕ) → own_opcode e ≡ Some opcode → Owns e opcode
owned [] opcode is = inl (sym (ap number_in is), refl)
owned (byte ∷ []) opcode is = one_byte byte opcode (leb 1 byte && leb byte 16) (eqb byte 0x81) refl refl is
owned (a ∷ b ∷ more) opcode is = absurd cc
