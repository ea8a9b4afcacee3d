-- How large the numbers in a script are, and how long its pushes.
use Rattle.std.proofs.Common.{ℕ, ◌+◌, ◌/◌, ◌%◌, ◌^◌, ◌<◌, ◌≤◌, Bool, true, false, cond, List, [], ◌∷◌, length, Option, Some, None, arith, lit<}
use Rattle.cash_base.specs.Push.{push_prefix}
use Rattle.std.specs.Prelude.{nat_le}
use Rattle.std.proofs.Math.Nat.{pow-le-pow_right}
use Rattle.std.proofs.lemmas.List.{length-append}
use Rattle.script_codec.specs.Spelling.{own_opcode, push_by, minimal_push}

-- a number of three bytes
pub below_three : (m k : ℕ) → k ≤ 3 → m < 256 ^ k → m < 2 ^ 24
below_three m k short h =
    let base : 0 < 256 = lit< tt in
    let raised : 256 ^ k ≤ 256 ^ 3 = pow-le-pow_right base short in
    omega (arith, h, raised)

shorter : (t : Bool) (x y : List ℕ) (n : ℕ) → length x ≤ n → length y ≤ n → length (cond t x y) ≤ n
shorter true x y n a b = a
shorter false x y n a b = b

prefix_size : (n : ℕ) → length (push_prefix n) ≤ 3
prefix_size n =
    let three : List ℕ = 0x4d ∷ (n % 256) ∷ (n / 256) ∷ [] in
    let two : List ℕ = 0x4c ∷ n ∷ [] in
    shorter (nat_le n 75) (n ∷ []) (cond (nat_le n 255) two three) 3 (omega arith) (shorter (nat_le n 255) two three 3 (omega arith) (omega arith))

-- at most three bytes stand in front of what is pushed
pub push_size : (e : List ℕ) → length (minimal_push e) ≤ length e + 3
push_size e = by_own (own_opcode e)
  where
    by_own : (o : Option ℕ) → length (push_by o e) ≤ length e + 3
    by_own (Some opcode) = omega arith
    by_own None =
        let front = prefix_size (length e) in
        let whole = length-append (push_prefix (length e)) e in
        omega (arith, front, whole)
