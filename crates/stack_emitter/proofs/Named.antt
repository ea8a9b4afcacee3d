-- Which opcodes have a name.
use Rattle.std.proofs.Common.{◌≡◌, ℕ, zero, suc, ◌<◌, Bool, true, false, not, subst, refl, arith}
use Rattle.std.specs.Prelude.{◌&&◌, ◌||◌, ◌==◌, nat_lt}
use Rattle.std.proofs.lemmas.Bool.{false≢true, and_parts, and_from, eqb-true, eqb-false, ltb-true}
use Rattle.script_codec.specs.Names.{named_opcodes, has_name, is_named}
use Rattle.script_codec.specs.declared.instr.Instr.TheVariants.{Do}
use Rattle.stack_emitter.specs.Codes.{is_in_names}

abbrev all_below : (ℕ → Bool) → ℕ → Bool
all_below f zero = true
all_below f (suc n) = f n && all_below f n

one_below : (f : ℕ → Bool) (m n : ℕ) → n < m → all_below f m ≡ true → f n ≡ true
one_below f zero n lt h = absurd (omega (arith, lt))
one_below f (suc m) n lt h =
    let parts = and_parts (f m) (all_below f m) h in by (m == n) refl parts.0 (one_below f m n) parts.1
  where
    by : (b : Bool) → (m == n) ≡ b → f m ≡ true → (n < m → all_below f m ≡ true → f n ≡ true) → all_below f m ≡ true → f n ≡ true
    by true e at more all = subst (λ k. f k ≡ true) (eqb-true m n e) at
    by false e at more all = more (let d = eqb-false m n e in omega (arith, lt, d)) all

abbrev agrees : ℕ → Bool
agrees n = not (is_in_names n) || has_name n

all_agree : all_below agrees 206 ≡ true
unfolding named_opcodes
all_agree = refl

below : (n : ℕ) → (nat_lt n 0xbd || (nat_lt 0xbf n && nat_lt n 0xce)) ≡ true → n < 206
below n h = by (nat_lt n 0xbd) refl h
  where
    by : (b : Bool) → nat_lt n 0xbd ≡ b → (b || (nat_lt 0xbf n && nat_lt n 0xce)) ≡ true → n < 206
    by true e k = let l = ltb-true n 0xbd e in omega (arith, l)
    by false e k = ltb-true n 0xce (and_parts (nat_lt 0xbf n) (nat_lt n 0xce) k).1

pub op_named : (opcode : ℕ) → is_in_names opcode ≡ true → is_named (Do (record { 0 = opcode })) ≡ true
op_named n h =
    let parts = and_parts (nat_lt 0x60 n) (nat_lt n 0xbd || (nat_lt 0xbf n && nat_lt n 0xce)) h in
    and_from (nat_lt 0x60 n) (has_name n) parts.0 (by (is_in_names n) h (one_below agrees 206 n (below n parts.1) all_agree))
  where
    by : (b : Bool) → b ≡ true → (not b || has_name n) ≡ true → has_name n ≡ true
    by true e k = k
    by false e k = absurd (false≢true e)
