-- All that is promised of tidied code.
use Rattle.std.proofs.Common.{◌≡◌, ◌==◌, ℕ, zero, suc, ◌<◌, nat_lt, Bool, true, false, not, ◌&&◌, ◌||◌, List, refl, sym, ap, ◌∙◌, subst, arith}
use Rattle.std.specs.List.{list_any}
use Rattle.std.proofs.lemmas.Bool.{and_parts, and_from, eqb-true, eqb-false, ltb-true, false≢true}
use Rattle.script_codec.specs.declared.instr.Instr.{Instr}
use Rattle.script_codec.specs.declared.instr.Instr.TheVariants.{Push, Do}
use Rattle.script_codec.specs.declared.spans.Spanned.{Spanned}
use Rattle.script_codec.specs.Names.{named_opcodes, has_name, is_named}
use Rattle.script_codec.specs.Spelling.{is_instruction}
use Rattle.opcode_table.specs.declared.rows.Row.{Row}
use Rattle.opcode_table.specs.declared.rows.Row.TheVariants.{Never, Opens, Flips, Closes, Lays, Fetches, Separates, Does, DoesAndVerifies}
use Rattle.opcode_table.specs.Table.{row_of}
use Rattle.bch_vm.specs.Board.{is_condition}
use Rattle.spend_laws.proofs.Spelled.{Laws}
use Rattle.run_laws.specs.Underneath.{counts_elements}
use Rattle.selector.specs.Pieces.{is_opcode}
use Rattle.selector.specs.Place.{row_separates, separates, is_unseparated}
use Rattle.row_runs.specs.Rows.{instructions}
use Rattle.rewrite_rules.specs.Rows.{row_is_plain, is_plain}
use Rattle.rewrite_rules.specs.Law.{may_be_added, outer_opcodes}
use Rattle.peephole.specs.Tidy.{IsTidy, Tidied}
use Rattle.peephole.proofs.Counted.{counted_is}
use Rattle.peephole.proofs.Located.{scripts}

-- ---- what may be added passes these tests

abbrev outer : ℕ → Bool
outer opcode = list_any (λ other. opcode == other) outer_opcodes

record Added (opcode : ℕ) : Type 0 where
  above : nat_lt 0x60 opcode ≡ true
  inner : not (outer opcode) ≡ true
  plain : is_plain (Do (record { 0 = opcode })) ≡ true
  below : nat_lt opcode 0xbd ≡ true

added : (opcode : ℕ) → may_be_added (Do (record { 0 = opcode })) ≡ true → Added opcode
added opcode h =
    let last = and_parts _ (nat_lt opcode 0xbd) h in
    let counts = and_parts _ (not (counts_elements (Do (record { 0 = opcode })))) last.0 in
    let plain = and_parts _ (is_plain (Do (record { 0 = opcode }))) counts.0 in
    let first = and_parts (nat_lt 0x60 opcode) (not (outer opcode)) plain.0 in
    record { above = first.0; inner = first.1; plain = plain.1; below = last.1 }

row_plain : (row : Row) → row_is_plain row ≡ true → not (row_separates row) ≡ true
row_plain (Never cause) h = refl
row_plain (Opens sense) h = refl
row_plain Flips h = refl
row_plain Closes h = refl
row_plain Lays h = refl
row_plain Fetches h = refl
row_plain Separates h = absurd (false≢true h)
row_plain (Does deed) h = refl
row_plain (DoesAndVerifies deed) h = refl

not_separated : (instr : Instr) → may_be_added instr ≡ true → not (separates instr) ≡ true
not_separated (Push e) h = refl
not_separated (Do opcode) h =
    row_plain (row_of opcode.0) (and_parts (not (is_condition opcode.0)) (row_is_plain (row_of opcode.0)) (added opcode.0 h).plain).1

an_instruction : (instr : Instr) → may_be_added instr ≡ true → is_instruction instr ≡ true
an_instruction (Push e) h = refl
an_instruction (Do opcode) h = (added opcode.0 h).above

none_of : (byte : ℕ) → outer byte ≡ true → (instr : Instr) → may_be_added instr ≡ true → not (is_opcode byte instr) ≡ true
none_of byte is (Push e) h = refl
none_of byte is (Do opcode) h =
    by (opcode.0 == byte) refl (added opcode.0 h).inner
  where
    by : (t : Bool) → (opcode.0 == byte) ≡ t → not (outer opcode.0) ≡ true → not t ≡ true
    by true e inner = absurd (false≢true (sym (ap not (ap outer (eqb-true opcode.0 byte e) ∙ is)) ∙ inner))
    by false e inner = refl

-- each opcode of these has a name
abbrev all_named : ℕ → Bool
all_named zero = true
all_named (suc n) = (nat_lt n 0x61 || has_name n) && all_named n

named_so_far : (m n : ℕ) → n < m → all_named m ≡ true → (nat_lt n 0x61 || has_name n) ≡ true
named_so_far zero n less h = absurd (omega (arith, less))
named_so_far (suc m) n less h =
    let parts = and_parts (nat_lt m 0x61 || has_name m) (all_named m) h in
    by (m == n) refl parts.0 (λ before. named_so_far m n before parts.1)
  where
    by : (b : Bool) → (m == n) ≡ b → (nat_lt m 0x61 || has_name m) ≡ true → (n < m → (nat_lt n 0x61 || has_name n) ≡ true)
        → (nat_lt n 0x61 || has_name n) ≡ true
    by true e at more = subst (λ k. (nat_lt k 0x61 || has_name k) ≡ true) (eqb-true m n e) at
    by false e at more = let other = eqb-false m n e in more (omega (arith, less, other))

names : all_named 0xbd ≡ true
unfolding named_opcodes
names = refl

has_one : (n : ℕ) → nat_lt 0x60 n ≡ true → (nat_lt n 0x61 || has_name n) ≡ true → has_name n ≡ true
has_one n above h = by (nat_lt n 0x61) refl h
  where
    by : (b : Bool) → nat_lt n 0x61 ≡ b → (b || has_name n) ≡ true → has_name n ≡ true
    by true e k = absurd (let low = ltb-true n 0x61 e in let high = ltb-true 0x60 n above in omega (arith, low, high))
    by false e k = k

named : (instr : Instr) → may_be_added instr ≡ true → is_named instr ≡ true
named (Push e) h = refl
named (Do opcode) h =
    let a = added opcode.0 h in
    and_from (nat_lt 0x60 opcode.0) (has_name opcode.0) a.above
    (has_one opcode.0 a.above (named_so_far 0xbd opcode.0 (ltb-true opcode.0 0xbd a.below) names))

-- ---- the whole

pub whole : Laws → (before after : List Spanned) → IsTidy before after → is_unseparated (instructions before) ≡ true → Tidied before after
whole laws before after t first =
    let x = t.stands in
    let second = x.added (λ instr. not (separates instr)) not_separated first in
    record {
      tidy = t;
      unseparated = second;
      runs = scripts before after x first second;
      counted = λ are known.
          let spelled = x.added is_instruction an_instruction are in
          let keys = x.keys false 0 known in
          let few = keys.counted in
          let one = counted_is laws (instructions before) are in
          let two = counted_is laws (instructions after) spelled in
          (spelled, keys.checks, omega (arith, few, one, two));
      named = λ are. x.added is_named named are;
      added = λ byte is none. x.added (λ instr. not (is_opcode byte instr)) (none_of byte is) none;
    }
