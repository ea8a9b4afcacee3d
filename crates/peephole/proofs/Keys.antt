-- What a replacement leaves of the opcodes that count, and of the numbers of keys before checks of several signatures.
use Rattle.std.proofs.Common.{◌≡◌, ℕ, ◌+◌, ◌≤◌, Bool, true, false, not, ◌&&◌, ◌||◌, cond, List, [], ◌∷◌, ◌++◌, length, refl, sym, ap, ◌∙◌, subst, arith}
use Rattle.std.specs.List.{list_all}
use Rattle.std.proofs.lemmas.Bool.{and_parts, and_from, false≢true}
use Rattle.script_codec.specs.declared.instr.Instr.{Instr}
use Rattle.script_codec.specs.declared.instr.Instr.TheVariants.{Push, Do}
use Rattle.bch_vm.specs.Law.{asks_for_keys, pushes_key_count, are_keys_known}
use Rattle.rewrite_rules.specs.Law.{may_be_added, keeps_checks, opcodes_in, ends_in_opcode}
use Rattle.peephole.specs.Counts.{weight_of, keys_by, keys_asked, opcodes_counted, KeepsKeys}

-- behind code: whether its last pushes a number of keys, and which
abbrev known_behind : Bool → List Instr → Bool
known_behind known [] = known
known_behind known (instr ∷ code) = known_behind (pushes_key_count instr) code

abbrev keys_behind : ℕ → List Instr → ℕ
keys_behind keys [] = keys
keys_behind keys (instr ∷ code) = keys_behind (keys_by instr) code

and_turned : (a b c : Bool) → ((a && b) && c) ≡ (a && (b && c))
and_turned true b c = refl
and_turned false b c = refl

known_append : (known : Bool) (a b : List Instr)
    → are_keys_known known (a ++ b) ≡ (are_keys_known known a && are_keys_known (known_behind known a) b)
known_append known [] b = refl
known_append known (i ∷ a) b =
    ap (λ t. (known || not (asks_for_keys i)) && t) (known_append (pushes_key_count i) a b)
    ∙ sym (and_turned (known || not (asks_for_keys i)) (are_keys_known (pushes_key_count i) a) (are_keys_known (known_behind (pushes_key_count i) a) b))

counted_append : (keys : ℕ) (a b : List Instr)
    → opcodes_counted keys (a ++ b) ≡ opcodes_counted keys a + opcodes_counted (keys_behind keys a) b
counted_append keys [] b = omega arith
counted_append keys (i ∷ a) b = let h = counted_append (keys_by i) a b in omega (arith, h)

-- behind an opcode
known_none : (known : Bool) (code : List Instr) → ends_in_opcode code ≡ true → known_behind known code ≡ false
known_none known [] h = absurd (false≢true h)
known_none known (Push e ∷ []) h = absurd (false≢true h)
known_none known (Do opcode ∷ []) h = refl
known_none known (Push e ∷ i ∷ code) h = known_none (pushes_key_count (Push e)) (i ∷ code) h
known_none known (Do opcode ∷ i ∷ code) h = known_none (pushes_key_count (Do opcode)) (i ∷ code) h

keys_none : (keys : ℕ) (code : List Instr) → ends_in_opcode code ≡ true → keys_behind keys code ≡ 0
keys_none keys [] h = absurd (false≢true h)
keys_none keys (Push e ∷ []) h = absurd (false≢true h)
keys_none keys (Do opcode ∷ []) h = refl
keys_none keys (Push e ∷ i ∷ code) h = keys_none (keys_by (Push e)) (i ∷ code) h
keys_none keys (Do opcode ∷ i ∷ code) h = keys_none (keys_by (Do opcode)) (i ∷ code) h

-- where no number of keys stands before
known_more : (known : Bool) (code : List Instr) → are_keys_known false code ≡ true → are_keys_known known code ≡ true
known_more known [] h = refl
known_more true (i ∷ code) h = (and_parts (not (asks_for_keys i)) (are_keys_known (pushes_key_count i) code) h).1
known_more false (i ∷ code) h = h

asked_none : (keys : ℕ) (instr : Instr) → not (asks_for_keys instr) ≡ true → keys_asked keys instr ≡ 0
asked_none keys instr h = by (asks_for_keys instr) h
  where
    by : (b : Bool) → not b ≡ true → cond b keys 0 ≡ 0
    by true h = absurd (false≢true h)
    by false h = refl

counted_none : (keys : ℕ) (code : List Instr) → are_keys_known false code ≡ true → opcodes_counted keys code ≡ opcodes_counted 0 code
counted_none keys [] h = refl
counted_none keys (i ∷ code) h =
    let q = (and_parts (not (asks_for_keys i)) (are_keys_known (pushes_key_count i) code) h).0 in
    ap (λ n. weight_of i + n + opcodes_counted (keys_by i) code) (asked_none keys i q ∙ sym (asked_none 0 i q))

-- the opcodes alone, and the keys of the first
opcodes_within : (keys : ℕ) (code : List Instr) → opcodes_in code ≤ opcodes_counted keys code
opcodes_within keys [] = omega arith
opcodes_within keys (Push e ∷ code) = let h = opcodes_within (keys_by (Push e)) code in omega (arith, h)
opcodes_within keys (Do opcode ∷ code) = let h = opcodes_within (keys_by (Do opcode)) code in omega (arith, h)

first_within : (keys : ℕ) (instr : Instr) (code : List Instr)
    → opcodes_in (instr ∷ code) + keys_asked keys instr ≤ opcodes_counted keys (instr ∷ code)
first_within keys (Push e) code = let h = opcodes_within (keys_by (Push e)) code in omega (arith, h)
first_within keys (Do opcode) code = let h = opcodes_within (keys_by (Do opcode)) code in omega (arith, h)

-- ---- a replacement

asked_alike : (keys : ℕ) (instr by : Instr) → (not (asks_for_keys by) || asks_for_keys instr) ≡ true → keys_asked keys by ≤ keys_asked keys instr
asked_alike keys instr by h = go (asks_for_keys by) (asks_for_keys instr) h
  where
    go : (a b : Bool) → (not a || b) ≡ true → cond a keys 0 ≤ cond b keys 0
    go true true h = omega arith
    go true false h = absurd (false≢true h)
    go false b h = omega arith

may_ask : (known a b : Bool) → (known || not a) ≡ true → (not b || a) ≡ true → (known || not b) ≡ true
may_ask true a b h k = refl
may_ask false true b h k = absurd (false≢true h)
may_ask false false true h k = absurd (false≢true k)
may_ask false false false h k = refl

pub rule_keys : (before after rest : List Instr) (known : Bool) (keys : ℕ) → length after ≤ 1 → ends_in_opcode before ≡ true
    → keeps_checks before after ≡ true → list_all may_be_added after ≡ true → opcodes_in after ≤ opcodes_in before
    → are_keys_known known (before ++ rest) ≡ true
    → KeepsKeys known keys (before ++ rest) (after ++ rest)
rule_keys [] after rest known keys one last checks added few h = absurd (false≢true last)
rule_keys (i ∷ before) [] rest known keys one last checks added few h =
    let parts = and_parts (are_keys_known known (i ∷ before)) (are_keys_known (known_behind known (i ∷ before)) rest)
    (sym (known_append known (i ∷ before) rest) ∙ h) in
    let none = subst (λ k. are_keys_known k rest ≡ true) (known_none known (i ∷ before) last) parts.1 in
    let whole = counted_append keys (i ∷ before) rest in
    let behind = ap (λ k. opcodes_counted k rest) (keys_none keys (i ∷ before) last) in
    let alone = counted_none keys rest none in
    record {
      checks = known_more known rest none;
      counted = omega (arith, whole, behind, alone);
    }
rule_keys (i ∷ before) (Push e ∷ []) rest known keys one last checks added few h = absurd (false≢true added)
rule_keys (i ∷ before) (Do opcode ∷ []) rest known keys one last checks added few h =
    let parts = and_parts (are_keys_known known (i ∷ before)) (are_keys_known (known_behind known (i ∷ before)) rest)
    (sym (known_append known (i ∷ before) rest) ∙ h) in
    let none = subst (λ k. are_keys_known k rest ≡ true) (known_none known (i ∷ before) last) parts.1 in
    let first = and_parts (known || not (asks_for_keys i)) (are_keys_known (pushes_key_count i) before) parts.0 in
    let whole = counted_append keys (i ∷ before) rest in
    let behind = ap (λ k. opcodes_counted k rest) (keys_none keys (i ∷ before) last) in
    let within = first_within keys i before in
    let asked = asked_alike keys i (Do opcode) checks in
    record {
      checks = and_from (known || not (asks_for_keys (Do opcode))) (are_keys_known false rest)
          (may_ask known (asks_for_keys i) (asks_for_keys (Do opcode)) first.0 checks) none;
      counted = omega (arith, whole, behind, within, asked, few);
    }
rule_keys (i ∷ before) (j ∷ k ∷ after) rest known keys one last checks added few h = absurd (omega arith)

-- ---- what stands before

pub keys_after : (front a b : List Instr) → ((known : Bool) (keys : ℕ) → are_keys_known known a ≡ true → KeepsKeys known keys a b)
    → (known : Bool) (keys : ℕ) → are_keys_known known (front ++ a) ≡ true → KeepsKeys known keys (front ++ a) (front ++ b)
keys_after front a b x known keys h =
    let parts = and_parts (are_keys_known known front) (are_keys_known (known_behind known front) a) (sym (known_append known front a) ∙ h) in
    let k = x (known_behind known front) (keys_behind keys front) parts.1 in
    let before = counted_append keys front a in
    let after = counted_append keys front b in
    let few = k.counted in
    record {
      checks = known_append known front b ∙ and_from (are_keys_known known front) (are_keys_known (known_behind known front) b) parts.0 k.checks;
      counted = omega (arith, before, after, few);
    }
