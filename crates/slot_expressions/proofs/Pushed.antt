-- A chunk behind its prefix is an element, where it has at most 517 bytes.
use Rattle.std.proofs.Common.{◌≡◌, ◌≤◌, ℕ, ◌+◌, ◌/◌, ◌%◌, Bool, true, false, List, [], ◌∷◌, length, Ok, Err, sym, ap, ◌∙◌, arith, length-append}
use Rattle.std.specs.Prelude.{nat_le, if◌then◌else◌}
use Rattle.std.proofs.lemmas.Bool.Decides.{nat_tests}
use Rattle.cash_base.specs.declared.fault.Cause.{Cause}
use Rattle.cash_base.specs.declared.fault.Cause.TheVariants.{Oversize}
use Rattle.cash_base.specs.Push.{push_prefix}
use Rattle.element_ops.specs.declared.op.Op2.TheVariants.{Cat}
use Rattle.element_ops.specs.Operation.{result2}
use Rattle.form_tables.specs.Forms.{pushed_chunk}

prefix_by : (b c : Bool) (x y z : List ℕ) → length x ≤ 3 → length y ≤ 3 → length z ≤ 3 → length (if b then x else (if c then y else z)) ≤ 3
prefix_by true c x y z one two three = one
prefix_by false true x y z one two three = two
prefix_by false false x y z one two three = three

prefix_short : (n : ℕ) → length (push_prefix n) ≤ 3
prefix_short n = prefix_by (nat_le n 75) (nat_le n 255) (n ∷ []) (0x4c ∷ n ∷ []) (0x4d ∷ (n % 256) ∷ (n / 256) ∷ []) (omega arith) (omega arith) (omega arith)

fits : (bytes : List ℕ) → length bytes ≤ 517 → nat_le (length {A = ℕ} [] + length (pushed_chunk bytes)) 520 ≡ true
fits bytes short =
    let whole = length-append (push_prefix (length bytes)) bytes in
    let prefix = prefix_short (length bytes) in
    let sum : length {A = ℕ} [] + length (pushed_chunk bytes) ≤ 520 = omega (arith, whole, prefix, short) in grind (arith, nat_tests, sum)

put : (bytes : List ℕ) → length bytes ≤ 517 → result2 Cat [] (pushed_chunk bytes) ≡ Ok (pushed_chunk bytes)
put bytes short = ap (λ b. if b then Ok (pushed_chunk bytes) else Err Oversize) (fits bytes short)

pub whole_chunk : (bytes : List ℕ) {e : List ℕ} → length bytes ≤ 517 → result2 Cat [] (pushed_chunk bytes) ≡ Ok e → e ≡ pushed_chunk bytes
whole_chunk bytes {e} short is = let same : Ok (pushed_chunk bytes) ≡ Ok e = sym (put bytes short) ∙ is in cc

pub never_long : (bytes : List ℕ) {cause : Cause} → length bytes ≤ 517 → result2 Cat [] (pushed_chunk bytes) ≡ Err cause → ⊥
never_long bytes {cause} short is = let same : Ok (pushed_chunk bytes) ≡ Err cause = sym (put bytes short) ∙ is in absurd cc
