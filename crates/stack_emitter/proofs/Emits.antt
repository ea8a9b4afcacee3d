-- What the emitter adds follows the slot code.
use Rattle.std.proofs.Common.{◌≡◌, ℕ, ◌+◌, ◌^◌, ◌<◌, ◌≤◌, Bool, true, false, cond, List, [], ◌∷◌, ◌++◌, length, drop, Some, None, pos, refl, sym, ap, ◌∙◌, subst, arith, append_assoc, append-nil}
use Rattle.cash_base.specs.declared.place.Slot.{Slot}
use Rattle.cash_base.specs.declared.place.Span.{Span}
use Rattle.cash_base.specs.Number.{minimal_bytes}
use Rattle.script_codec.specs.declared.spans.Spanned.{Spanned}
use Rattle.script_codec.specs.Reading.{push}
use Rattle.opcode_table.specs.declared.rows.Deed.TheVariants.{Copies, Moves, Stays}
use Rattle.opcode_table.specs.Table.{rows}
use Rattle.slot_code.specs.Shape.{Operand, has}
use Rattle.slot_liveness.specs.Counts.{is_slot, place_of, less}
use Rattle.std.specs.Prelude.{◌||◌}
use Rattle.row_runs.specs.Rows.{row}
use Rattle.stack_emitter.specs.Places.{Spot, spot}
use Rattle.stack_emitter.specs.declared.emit.Emitter.{Emitter}
use Rattle.stack_emitter.specs.Codes.{IsOpcode}
use Rattle.stack_emitter.specs.Correct.{Follows, Adds, nothing, lit_deed, get_deed, drop_deed, keep_deed, lower_deed, store_deed}
use Rattle.stack_emitter.proofs.Steps.{op, push_follows, plain_row, op_plain, adds_by, adds_then, adds_nothing}
use Rattle.stack_emitter.proofs.Works.{drop_table, nip_table, drop_follows, right_follows_at}
use Rattle.stack_emitter.proofs.Moves.{inside, get_follows, take_follows, discard_follows, define_follows, lower_follows}

-- ---- the opcodes

pub pick_opcode : IsOpcode 0x79 Copies
unfolding rows
pick_opcode = record { row = refl; plain = refl }

pub roll_opcode : IsOpcode 0x7a Moves
unfolding rows
roll_opcode = record { row = refl; plain = refl }

pub drop_opcode : IsOpcode 0x75 drop_table
unfolding rows
drop_opcode = record { row = refl; plain = refl }

pub nip_opcode : IsOpcode 0x77 nip_table
unfolding rows
nip_opcode = record { row = refl; plain = refl }

pub nop_opcode : IsOpcode 0x61 Stays
unfolding rows
nop_opcode = record { row = refl; plain = refl }

-- ---- rows in turn

pub two_rows : (old mid new : List Spanned) (a b : Spanned) → mid ≡ old ++ a ∷ [] → new ≡ mid ++ b ∷ [] → new ≡ old ++ a ∷ b ∷ []
two_rows old mid new a b first second = second ∙ ap (λ l. l ++ b ∷ []) first ∙ append_assoc old (a ∷ []) (b ∷ [])

pub three_rows : (old mid later new : List Spanned) (a b c : Spanned) → mid ≡ old ++ a ∷ [] → later ≡ mid ++ b ∷ [] → new ≡ later ++ c ∷ []
    → new ≡ old ++ a ∷ b ∷ c ∷ []
three_rows old mid later new a b c first second third =
    third ∙ ap (λ l. l ++ c ∷ []) (two_rows old mid later a b first second) ∙ append_assoc old (a ∷ b ∷ []) (c ∷ [])

pub pushed_row : (old new : List Spanned) (e bytes : List ℕ) (d c : Span) → new ≡ old ++ row (push e) d c ∷ [] → e ≡ bytes → new ≡ old ++ row (push bytes) d c ∷ []
pushed_row old new e bytes d c code same = code ∙ ap (λ b. old ++ row (push b) d c ∷ []) same

pub one_gone : (known : List Operand) → length known ≡ 1 → drop 1 known ≡ []
one_gone [] h = absurd (omega (arith, h))
one_gone (k ∷ []) h = refl
one_gone (k ∷ l ∷ known) h = absurd (omega (arith, h))

-- ---- a literal

pub emits_lit : (old mid new : Emitter) (e : List ℕ) (doing checking : Span) → mid.code.items ≡ old.code.items ++ row (push e) doing checking ∷ []
    → mid.place ≡ old.place → new.code ≡ mid.code → new.place ≡ spot (Some e ∷ old.place.operands) old.place.slots → Adds doing checking old new (lit_deed e)
emits_lit old mid new e doing checking code same code' place =
    adds_by doing checking old new (row (push e) doing checking ∷ []) (lit_deed e) (spot (Some e ∷ old.place.operands) old.place.slots)
    (ap (λ c. c.items) code' ∙ code) place
    (push_follows e doing checking (lit_deed e) old.place _ (λ world s rest conditions fits. ((refl, fits), refl)))
    (plain_row (push e) doing checking [] refl refl)

-- ---- reads

small_index : (n : ℕ) → n < 32768 → n < 2 ^ 63
small_index n h = omega (arith, h)

module _ (old : Emitter) (slot : Slot) (n : ℕ) (below : (i : ℕ) × (place_of slot old.place.slots ≡ Some i) × (n ≡ length old.place.operands + i)) (room : length old.place.operands + length old.place.slots < 32768) where
  pub few : n < 32768
  few = let i = inside slot old.place.slots below.0 below.1 in let e = below.2 in omega (arith, i, e, room)

  index_row : Span → Span → Spanned
  index_row d c = row (push (minimal_bytes (pos n))) d c

  pub gets : (new : Emitter) (d c : Span) → new.code.items ≡ old.code.items ++ row (push (minimal_bytes (pos n))) d c ∷ row (op 0x79) d c ∷ []
      → new.place ≡ spot (None ∷ old.place.operands) old.place.slots → Adds d c old new (get_deed slot)
  gets new d c code place =
      adds_by d c old new _ (get_deed slot) (spot (None ∷ old.place.operands) old.place.slots) code place
      (get_follows slot below.0 n old.place below.1 below.2 (small_index n few) 0x79 d c pick_opcode)
      (plain_row (push (minimal_bytes (pos n))) d c (row (op 0x79) d c ∷ []) refl (op_plain 0x79 d c [] refl refl))

  pub takes : (new : Emitter) (d c : Span) → new.code.items ≡ old.code.items ++ row (push (minimal_bytes (pos n))) d c ∷ row (op 0x7a) d c ∷ []
      → new.place ≡ spot (None ∷ old.place.operands) (less slot old.place.slots) → Adds d c old new (get_deed slot)
  takes new d c code place =
      adds_by d c old new _ (get_deed slot) (spot (None ∷ old.place.operands) (less slot old.place.slots)) code place
      (take_follows slot below.0 n old.place below.1 below.2 (small_index n few) 0x7a d c roll_opcode)
      (plain_row (push (minimal_bytes (pos n))) d c (row (op 0x7a) d c ∷ []) refl (op_plain 0x7a d c [] refl refl))

  pub discards : (new : Emitter) (c : Span)
      → new.code.items ≡ old.code.items ++ row (push (minimal_bytes (pos n))) c c ∷ row (op 0x7a) c c ∷ row (op 0x75) c c ∷ []
      → new.place ≡ spot old.place.operands (less slot old.place.slots) → Adds c c old new nothing
  discards new c code place =
      adds_by c c old new _ nothing (spot old.place.operands (less slot old.place.slots)) code place
      (discard_follows slot below.0 n old.place below.1 below.2 (small_index n few) 0x7a 0x75 c roll_opcode drop_opcode)
      (plain_row (push (minimal_bytes (pos n))) c c (row (op 0x7a) c c ∷ row (op 0x75) c c ∷ []) refl
      (op_plain 0x7a c c (row (op 0x75) c c ∷ []) refl (op_plain 0x75 c c [] refl refl)))

-- ---- drops and definitions

pub emits_drop : (old new : Emitter) (checking doing : Span) → 1 ≤ length old.place.operands → new.code.items ≡ old.code.items ++ row (op 0x75) checking checking ∷ []
    → new.place ≡ spot (drop 1 old.place.operands) old.place.slots → Adds checking checking old new (drop_deed doing)
emits_drop old new checking doing few code place =
    adds_by checking checking old new _ (drop_deed doing) (spot (drop 1 old.place.operands) old.place.slots) code place
    (drop_follows 0x75 doing checking checking old.place few drop_opcode) (op_plain 0x75 checking checking [] refl refl)

pub emits_define : (old new : Emitter) (slot : Slot) (doing checking : Span) → length old.place.operands ≡ 1 → has slot old.place.slots ≡ false
    → new.code ≡ old.code → new.place ≡ spot [] (slot ∷ old.place.slots) → Adds checking checking old new (store_deed true slot doing)
emits_define old new slot doing checking one fresh code place =
    adds_by checking checking old new [] (store_deed true slot doing) (spot [] (slot ∷ old.place.slots)) (ap (λ c. c.items) code ∙ sym (append-nil old.code.items)) place
    (define_follows slot doing old.place one fresh) refl

pub stored : (checking : Span) (old new : Emitter) (kept : Bool) (slot : Slot) → kept ≡ true
    → ((doing checking : Span) → Adds checking checking old new (store_deed true slot doing)) → (doing : Span) → Adds checking checking old new (store_deed kept slot doing)
stored checking old new kept slot e x doing = subst (λ b. Adds checking checking old new (store_deed b slot doing)) (sym e) (x doing checking)

pub stored_again : (checking : Span) (old mid new : Emitter) (later : Bool) (slot : Slot) → later ≡ true → Adds checking checking old mid nothing
    → ((doing checking : Span) → Adds checking checking mid new (store_deed true slot doing)) → (doing : Span) → Adds checking checking old new (store_deed later slot doing)
stored_again checking old mid new later slot e x y doing =
    subst (λ b. Adds checking checking old new (store_deed b slot doing)) (sym e)
    (adds_then checking checking old mid new nothing (store_deed true slot doing) x (y doing checking))

pub not_stored : (checking : Span) (old new : Emitter) (kept : Bool) (slot : Slot) → kept ≡ false
    → ((doing : Span) → Adds checking checking old new (drop_deed doing)) → (doing : Span) → Adds checking checking old new (store_deed kept slot doing)
not_stored checking old new kept slot e x doing = subst (λ b. Adds checking checking old new (store_deed b slot doing)) (sym e) (x doing)

pub adds_none : (checking : Span) (e : Emitter) → Adds checking checking e e nothing
adds_none checking e = adds_nothing checking checking e

-- ---- two operands

pub two_gone : (known : List Operand) → length known ≡ 2 → drop 2 known ≡ []
two_gone [] h = absurd (omega (arith, h))
two_gone (k ∷ []) h = absurd (omega (arith, h))
two_gone (k ∷ l ∷ []) h = refl
two_gone (k ∷ l ∷ m ∷ known) h = absurd (omega (arith, h))

pub drops_lower : (old new : Emitter) (checking doing : Span) → length old.place.operands ≡ 2
    → new.code.items ≡ old.code.items ++ row (op 0x77) checking checking ∷ [] → new.place ≡ spot (None ∷ []) old.place.slots
    → Adds checking checking old new (keep_deed true doing)
drops_lower old new checking doing two code place =
    adds_by checking checking old new _ (keep_deed true doing) (spot (None ∷ drop 2 old.place.operands) old.place.slots) code
    (place ∙ ap (λ l. spot (None ∷ l) old.place.slots) (sym (two_gone old.place.operands two)))
    (dropped_lower doing checking old.place (omega (arith, two))) (op_plain 0x77 checking checking [] refl refl)
  where
    dropped_lower : (d c : Span) (p : Spot) → 2 ≤ length p.operands → Follows (row (op 0x77) c c ∷ []) (keep_deed true d) p (spot (None ∷ drop 2 p.operands) p.slots)
    dropped_lower d c p few = right_follows_at 0x77 d c c p few nip_opcode

pub defines_lower : (old new : Emitter) (slot : Slot) (doing checking : Span) → length old.place.operands ≡ 2 → has slot old.place.slots ≡ false
    → new.code ≡ old.code → new.place ≡ spot (None ∷ []) (slot ∷ old.place.slots) → Adds checking checking old new (lower_deed true slot doing)
defines_lower old new slot doing checking two fresh code place =
    adds_by checking checking old new [] (lower_deed true slot doing) (spot (None ∷ []) (slot ∷ old.place.slots)) (ap (λ c. c.items) code ∙ sym (append-nil old.code.items)) place
    (lower_follows slot doing old.place two fresh) refl

pub stored_lower : (checking : Span) (old new : Emitter) (kept : Bool) (slot : Slot) → kept ≡ true
    → ((doing checking : Span) → Adds checking checking old new (lower_deed true slot doing)) → (doing : Span) → Adds checking checking old new (lower_deed kept slot doing)
stored_lower checking old new kept slot e x doing = subst (λ b. Adds checking checking old new (lower_deed b slot doing)) (sym e) (x doing checking)

pub lower_dropped : (checking : Span) (old new : Emitter) (kept : Bool) (slot : Slot) → kept ≡ false
    → ((doing : Span) → Adds checking checking old new (keep_deed true doing)) → (doing : Span) → Adds checking checking old new (lower_deed kept slot doing)
lower_dropped checking old new kept slot e x doing = subst (λ b. Adds checking checking old new (lower_deed b slot doing)) (sym e) (x doing)

-- where neither stands the right slot doesn't stand above the left
pub still_fresh : (left right : Slot) (slots : List Slot) (kept : Bool) → is_slot right left ≡ false → has right slots ≡ false
    → has right (cond kept (left ∷ slots) slots) ≡ false
still_fresh left right slots true differ fresh = ap (λ b. b || has right slots) differ ∙ fresh
still_fresh left right slots false differ fresh = fresh
