-- Each form's code puts its value.
use Rattle.std.proofs.Common.{◌≡◌, ◌≤◌, ℕ, ℤ, ◌+◌, ◌*◌, ◌==◌, Bool, true, false, List, [], ◌∷◌, ◌++◌, length, map, pos, Result, Ok, Err, refl, sym, ap, ◌∙◌, subst, arith, append_assoc}
use Rattle.std.proofs.lemmas.List.{append-nil}
use Rattle.std.specs.Prelude.{◌&&◌, Option, Some, None, if◌then◌else◌, unwrap_or, not}
use Rattle.cash_base.specs.declared.fault.Cause.TheVariants.{NumberRange}
use Rattle.cash_base.specs.declared.place.Span.{Span}
use Rattle.cash_base.specs.declared.place.Slot.{Slot}
use Rattle.cash_base.specs.declared.look.Look0.{Look0}
use Rattle.cash_base.specs.declared.look.LookAt.{LookAt}
use Rattle.cash_base.specs.Failing.{◌>>=◌}
use Rattle.cash_base.specs.Number.{minimal_bytes}
use Rattle.element_ops.specs.declared.op.Op1.{Op1}
use Rattle.element_ops.specs.declared.op.Op1.TheVariants.{Size, Reverse, Not, NonZero, ToNumber}
use Rattle.element_ops.specs.declared.op.Op2.{Op2}
use Rattle.element_ops.specs.declared.op.Op2.TheVariants.{Cat, Pad}
use Rattle.element_ops.specs.declared.op.Op3.{Op3}
use Rattle.element_ops.specs.Operand.{number_element, truth_element}
use Rattle.element_ops.specs.Operation.{Outcome, result1, result2, result3, split_parts}
use Rattle.tx_context.specs.World.{World}
use Rattle.tx_context.specs.Lookup.{sized, context_value, indexed_value}
use Rattle.tx_context.specs.Verdict.{single_verdict}
use Rattle.tx_context.specs.declared.verdict.Kind.TheVariants.{Single, DataSig}
use Rattle.cash_tree.specs.declared.Ty.{Ty}
use Rattle.cash_tree.specs.declared.UnaryOp.{UnaryOp}
use Rattle.cash_tree.specs.declared.BinaryOp.{BinaryOp}
use Rattle.cash_tree.specs.declared.Builtin.{Builtin}
use Rattle.cash_tree.specs.declared.Callee.{Callee}
use Rattle.cash_tree.specs.declared.Callee.TheVariants.{Known}
use Rattle.cash_tree.specs.declared.ExprKind.{ExprKind}
use Rattle.cash_tree.specs.declared.ExprKind.TheVariants as exprs
use Rattle.cash_tree.specs.Nodes.{joined, total}
use Rattle.cash_tree.specs.Spans.{callee_spans}
use Rattle.type_tables.specs.declared.rules.CastEffect.{CastEffect}
use Rattle.type_tables.specs.declared.rules.CastEffect.TheVariants as effects
use Rattle.type_tables.specs.Tables.{TypedExpr, cast_effect}
use Rattle.form_tables.specs.declared.forms.BinaryForm.{BinaryForm}
use Rattle.form_tables.specs.declared.forms.BinaryForm.TheVariants as binary
use Rattle.form_tables.specs.declared.forms.CallForm.TheVariants as forms
use Rattle.form_tables.specs.declared.forms.Lock.{Lock}
use Rattle.form_tables.specs.declared.forms.Lock.TheVariants as locks
use Rattle.form_tables.specs.Forms.{unary_op, is_int, binary_form, binary_result, call_form, cast_result, lock_back, lock_front, verdict_result}
use Rattle.source_meaning.specs.declared.outcome.Failure.{Failure}
use Rattle.source_meaning.specs.Meaning.{Env, Value, Given, One as GivenOne, Two as GivenTwo, applied, at_span, element, locked, form_value, call_value, kind_gives, value_of, node_of, left_of, right_of, part_at}
use Rattle.source_meaning.specs.Runnable.{node_count, kind_count}
use Rattle.source_meaning.proofs.Steps as source
use Rattle.slot_code.specs.declared.slots.SlotInstr.{SlotInstr}
use Rattle.slot_code.specs.declared.slots.SlotKind.TheVariants as kinds
use Rattle.slot_code.specs.Meaning.{State, state, act_of, run_of}
use Rattle.slot_code.specs.Shape.{Operand, puts, reads, value as work, shapes_at}
use Rattle.slot_code.proofs.Steps as steps
use Rattle.slot_expressions.specs.declared.expressions.Width.{Width}
use Rattle.slot_expressions.specs.declared.expressions.Width.TheVariants as widths
use Rattle.slot_expressions.specs.Room.{Price, price, ◌⊕◌, nothing, one, two, push_of, op1_price, binary_price, cast_price, form_price, call_price, priced, price_of, price_at}
use Rattle.slot_expressions.specs.Ready.{Known-names, any_name, is_cast, is_ready, is_ready_kind, form_ready, call_ready, ready_node, ReadyKind}
use Rattle.slot_expressions.specs.Pieces.{Code, Lowers, LowersForm, LowersCall, LowersElement, LowersGiven, Stands, Light, instruction, in_scope, given_on, as_wide}
use Rattle.slot_expressions.specs.Spans.{SpannedBy, own_spans, own_spans_at}
use Rattle.slot_expressions.specs.Reads.{Gets, gets_at, named, names_in, names_at, call_names}
use Rattle.slot_expressions.specs.Rows.{IsLiteral, lit, binary_rows, cast_rows, part_rows}
use Rattle.slot_expressions.proofs.ReadySteps as ready
use Rattle.slot_expressions.proofs.RoomSteps as room
use Rattle.slot_expressions.proofs.SpanSteps as spanned
use Rattle.slot_expressions.proofs.NameSteps as naming
use Rattle.slot_expressions.proofs.ReadRows as rows
use Rattle.slot_expressions.proofs.ReadRows.{gets_none, gets_as, gets_both, gets_more, gets_row}
use Rattle.slot_expressions.proofs.Spanning.{Covers, covers_as, covers_then, covers_cons, covers_kind, covers_first, covers_rest, covers_left, covers_right, spanned_none, spanned_in, spanned_both, spanned_two, spanned_row, spanned_own}
use Rattle.slot_expressions.proofs.Lights.{Under, under, light_as, light_both, light_row, light_then, light_part, op1_weighs, unary_price, lit_weighs, number_is, sized_is, truth_is}
use Rattle.slot_expressions.proofs.Puts.{bind_bind, bind_two, at_span_then, run_append, run_one, puts_as, puts_both}
use Rattle.slot_expressions.proofs.Standing.{stands_both, stands_most, stands_op, stands_get, stands_split, begins_more}
use Rattle.slot_expressions.proofs.Tests.{and_left, and_right, and_intro}
use Rattle.slot_expressions.proofs.Single.{Acts0, code_op1, code_op2, code_put, code_row, code_of, code_as, code_most, code_ready, lowers, lowers0, lowers1, lowers2, lowers3, grown1, grown2}
use Rattle.slot_expressions.proofs.Acts.{row_done, lit_acts, get_acts, look0_acts, do1_acts, look_at_acts, do2_acts, check_sig_acts, do3_acts, check_data_acts, keep_acts}

some_more : (n m : ℕ) → n ≡ m + 1 → m ≤ n
some_more n m is = omega (arith, is)

pub bytes_acts : (bytes : List ℕ) (doing checking : Span) → Acts0 (instruction (lit bytes) doing checking) (λ world env. Ok bytes)
bytes_acts bytes doing checking = lit_acts (record { items = bytes }) doing checking

pub bytes_stand : (bytes : List ℕ) → shapes_at (lit bytes) ≡ work (puts (Some bytes))
bytes_stand bytes = steps.lit_stands (record { items = bytes })

-- ---- literals

literal : {old new : List SlotInstr} {checking span : Span} {kind : ExprKind Slot Ty} {outcome : Outcome}
    → ((world : World) (env : Env) → kind_gives world env kind span ≡ applied span outcome) → 1 ≤ kind_count kind
    → ((bytes : List ℕ) → outcome ≡ Ok bytes → price_at kind ≡ push_of bytes) → own_spans_at kind ≡ [] → names_at kind ≡ []
    → IsLiteral old new outcome span checking → Lowers old new checking kind span widths.One
literal {old} {new} {checking} {span} {kind} {outcome} gives some prices alone unread h = record {
  lowered = lowers0 span (λ world env. kind_gives world env kind span) (λ known. is_ready_kind known kind) (kind_count kind)
      (lit h.bytes) (Some h.bytes) (λ world env. Ok h.bytes) (bytes_acts h.bytes span checking) (bytes_stand h.bytes)
      (λ world env. gives world env ∙ ap (applied span) h.is) some (push_of h.bytes) (lit_weighs h.bytes) (under (prices h.bytes h.is))
      (steps.lit_spans (record { items = h.bytes })) (covers_kind kind span alone) (rows.lit_gets (record { items = h.bytes })) unread h.grown;
}

pub lowers_int : {old new : List SlotInstr} {checking span : Span} {kind : ExprKind Slot Ty} {digits unit : ℕ} → kind ≡ exprs.Int digits unit
    → IsLiteral old new (number_element (pos (digits * unit))) span checking → Lowers old new checking kind span widths.One
lowers_int {old} {new} {checking} {span} {kind} {digits} {unit} is h =
    literal (λ world env. ap (λ k. kind_gives world env k span) is ∙ source.int_gives world env digits unit span)
    (omega (arith, ap kind_count is ∙ source.int_counted digits unit))
    (λ bytes spelled. ap price_at is ∙ room.int_priced digits unit ∙ ap push_of (number_is (pos (digits * unit)) bytes spelled)) (ap own_spans_at is ∙ spanned.int_spanned digits unit)
    (ap names_at is ∙ naming.int_named digits unit) h

pub lowers_bool : {old new : List SlotInstr} {checking span : Span} {kind : ExprKind Slot Ty} {b : Bool} → kind ≡ exprs.Bool b
    → IsLiteral old new (truth_element b) span checking → Lowers old new checking kind span widths.One
lowers_bool {old} {new} {checking} {span} {kind} {b} is h =
    literal (λ world env. ap (λ k. kind_gives world env k span) is ∙ source.bool_gives world env b span)
    (omega (arith, ap kind_count is ∙ source.bool_counted b))
    (λ bytes spelled. ap price_at is ∙ room.bool_priced b ∙ truth_is b bytes spelled) (ap own_spans_at is ∙ spanned.bool_spanned b)
    (ap names_at is ∙ naming.bool_named b) h

pub lowers_hex : {old new : List SlotInstr} {checking span : Span} {kind : ExprKind Slot Ty} {bytes : List ℕ} → kind ≡ exprs.Hex bytes
    → IsLiteral old new (sized bytes) span checking → Lowers old new checking kind span widths.One
lowers_hex {old} {new} {checking} {span} {kind} {bytes} is h =
    literal (λ world env. ap (λ k. kind_gives world env k span) is ∙ source.hex_gives world env bytes span)
    (omega (arith, ap kind_count is ∙ source.hex_counted bytes))
    (λ out spelled. ap price_at is ∙ room.hex_priced bytes ∙ ap push_of (sized_is bytes out spelled)) (ap own_spans_at is ∙ spanned.hex_spanned bytes)
    (ap names_at is ∙ naming.hex_named bytes) h

pub lowers_text : {old new : List SlotInstr} {checking span : Span} {kind : ExprKind Slot Ty} {bytes : List ℕ} → kind ≡ exprs.Text bytes
    → IsLiteral old new (sized bytes) span checking → Lowers old new checking kind span widths.One
lowers_text {old} {new} {checking} {span} {kind} {bytes} is h =
    literal (λ world env. ap (λ k. kind_gives world env k span) is ∙ source.text_gives world env bytes span)
    (omega (arith, ap kind_count is ∙ source.text_counted bytes))
    (λ out spelled. ap price_at is ∙ room.text_priced bytes ∙ ap push_of (sized_is bytes out spelled)) (ap own_spans_at is ∙ spanned.text_spanned bytes)
    (ap names_at is ∙ naming.text_named bytes) h

pub lowers_date : {old new : List SlotInstr} {checking span : Span} {kind : ExprKind Slot Ty} {seconds : ℤ} → kind ≡ exprs.Date seconds
    → IsLiteral old new (number_element seconds) span checking → Lowers old new checking kind span widths.One
lowers_date {old} {new} {checking} {span} {kind} {seconds} is h =
    literal (λ world env. ap (λ k. kind_gives world env k span) is ∙ source.date_gives world env seconds span)
    (omega (arith, ap kind_count is ∙ source.date_counted seconds))
    (λ bytes spelled. ap price_at is ∙ room.date_priced seconds ∙ ap push_of (number_is seconds bytes spelled)) (ap own_spans_at is ∙ spanned.date_spanned seconds)
    (ap names_at is ∙ naming.date_named seconds) h

-- ---- names, and what the transaction has

pub lowers_name : {old new : List SlotInstr} {checking span : Span} {kind : ExprKind Slot Ty} {slot : Slot} → kind ≡ exprs.Name slot
    → new ≡ old ++ instruction (kinds.Get slot) span checking ∷ [] → Lowers old new checking kind span widths.One
lowers_name {old} {new} {checking} {span} {kind} {slot} is grown = record {
  lowered = lowers {v = λ world env. Ok (unwrap_or (env slot) [])} {own = λ known. known slot} (λ world env. kind_gives world env kind span) (λ known. is_ready_kind known kind) (kind_count kind) grown
      (code_row (kinds.Get slot) span None (work (reads slot)) (get_acts slot span checking) (steps.get_stands slot) refl
      (λ slots known. stands_get (kinds.Get slot) slot span checking (steps.get_stands slot) known))
      (λ world env. ap (λ k. kind_gives world env k span) is ∙ source.name_gives world env slot span)
      (λ known r. sym (ap (is_ready_kind known) is ∙ ready.name_is_ready known slot) ∙ r)
      (omega (arith, ap kind_count is ∙ source.name_counted slot))
      (light_as (under (ap price_at is ∙ room.name_priced slot)) (light_row (kinds.Get slot) span checking (price 4 1) (steps.get_weighs slot)))
      (spanned_row (kinds.Get slot) span checking (steps.get_spans slot) (covers_kind kind span (ap own_spans_at is ∙ spanned.name_spanned slot)))
      (gets_as (ap names_at is ∙ naming.name_named slot) (gets_row (kinds.Get slot) span checking (rows.get_gets slot)));
}

pub lowers_look0 : {old new : List SlotInstr} {checking span : Span} {kind : ExprKind Slot Ty} {what : Look0} → kind ≡ exprs.Look0 what
    → new ≡ old ++ instruction (kinds.Look0 what) span checking ∷ [] → Lowers old new checking kind span widths.One
lowers_look0 {old} {new} {checking} {span} {kind} {what} is grown = record {
  lowered = lowers0 span (λ world env. kind_gives world env kind span) (λ known. is_ready_kind known kind) (kind_count kind)
      (kinds.Look0 what) None (λ world env. at_span span (context_value world.context what world.redeem)) (look0_acts what span checking) (steps.look0_stands what)
      (λ world env. ap (λ k. kind_gives world env k span) is ∙ source.look0_gives world env what span)
      (omega (arith, ap kind_count is ∙ source.look0_counted what)) one (steps.look0_weighs what) (under (ap price_at is ∙ room.look0_priced what))
      (steps.look0_spans what) (covers_kind kind span (ap own_spans_at is ∙ spanned.look0_spanned what)) (rows.look0_gets what) (ap names_at is ∙ naming.look0_named what) grown;
}

-- ---- operations

-- a part, and what is done with it
pub after : {p : Price} (a cost : Price) → p ≡ cost ⊕ a → Under (a ⊕ cost) p
after {p} a cost is = record { bytes = omega (arith, ap (λ (q : Price). q.bytes) is); ops = omega (arith, ap (λ (q : Price). q.ops) is) }

after_both : {p : Price} (a b cost : Price) → p ≡ cost ⊕ a ⊕ b → Under (a ⊕ b ⊕ cost) p
after_both {p} a b cost is = record { bytes = omega (arith, ap (λ (q : Price). q.bytes) is); ops = omega (arith, ap (λ (q : Price). q.ops) is) }

pub lowers_unary : {old mid new : List SlotInstr} {checking span : Span} {kind : ExprKind Slot Ty} {op : UnaryOp} {a : TypedExpr} → kind ≡ exprs.Unary op a
    → LowersElement old mid checking a → new ≡ mid ++ instruction (kinds.Do1 (unary_op op)) span checking ∷ [] → Lowers old new checking kind span widths.One
lowers_unary {old} {mid} {new} {checking} {span} {kind} {op} {a} is h grown = record {
  lowered = lowers1 span (λ world env. kind_gives world env kind span) (λ known. is_ready_kind known kind) (kind_count kind)
      (kinds.Do1 (unary_op op)) (λ world x. at_span span (result1 (unary_op op) x)) (do1_acts (unary_op op) span checking) (steps.do1_stands (unary_op op)) (op1_price (unary_op op)) (op1_weighs (unary_op op))
      (λ world env. ap (λ k. kind_gives world env k span) is ∙ source.unary_gives world env op a span)
      (λ known r. sym (ap (is_ready_kind known) is ∙ ready.unary_is_ready known op a) ∙ r)
      (some_more (kind_count kind) (node_count a) (ap kind_count is ∙ source.unary_counted op a)) (after _ _ (ap price_at is ∙ room.unary_priced op a ∙ ap (λ c. c ⊕ price_of a) (sym (unary_price op))))
      (steps.do1_spans (unary_op op)) (covers_kind kind span (ap own_spans_at is ∙ spanned.unary_spanned op a)) (rows.do1_gets (unary_op op)) (ap names_at is ∙ naming.unary_named op a) h grown;
}

pub lowers_length : {old mid new : List SlotInstr} {checking span : Span} {kind : ExprKind Slot Ty} {a : TypedExpr} → kind ≡ exprs.Length a
    → LowersElement old mid checking a → new ≡ mid ++ instruction (kinds.Do1 Size) span checking ∷ [] → Lowers old new checking kind span widths.One
lowers_length {old} {mid} {new} {checking} {span} {kind} {a} is h grown = record {
  lowered = lowers1 span (λ world env. kind_gives world env kind span) (λ known. is_ready_kind known kind) (kind_count kind)
      (kinds.Do1 Size) (λ world x. at_span span (result1 Size x)) (do1_acts Size span checking) (steps.do1_stands Size) two (steps.do1_weighs Size)
      (λ world env. ap (λ k. kind_gives world env k span) is ∙ source.length_gives world env a span)
      (λ known r. sym (ap (is_ready_kind known) is ∙ ready.length_is_ready known a) ∙ r)
      (some_more (kind_count kind) (node_count a) (ap kind_count is ∙ source.length_counted a)) (after _ _ (ap price_at is ∙ room.length_priced a))
      (steps.do1_spans Size) (covers_kind kind span (ap own_spans_at is ∙ spanned.length_spanned a)) (rows.do1_gets Size) (ap names_at is ∙ naming.length_named a) h grown;
}

pub lowers_reverse : {old mid new : List SlotInstr} {checking span : Span} {kind : ExprKind Slot Ty} {a : TypedExpr} → kind ≡ exprs.Reverse a
    → LowersElement old mid checking a → new ≡ mid ++ instruction (kinds.Do1 Reverse) span checking ∷ [] → Lowers old new checking kind span widths.One
lowers_reverse {old} {mid} {new} {checking} {span} {kind} {a} is h grown = record {
  lowered = lowers1 span (λ world env. kind_gives world env kind span) (λ known. is_ready_kind known kind) (kind_count kind)
      (kinds.Do1 Reverse) (λ world x. at_span span (result1 Reverse x)) (do1_acts Reverse span checking) (steps.do1_stands Reverse) one (steps.do1_weighs Reverse)
      (λ world env. ap (λ k. kind_gives world env k span) is ∙ source.reverse_gives world env a span)
      (λ known r. sym (ap (is_ready_kind known) is ∙ ready.reverse_is_ready known a) ∙ r)
      (some_more (kind_count kind) (node_count a) (ap kind_count is ∙ source.reverse_counted a)) (after _ _ (ap price_at is ∙ room.reverse_priced a))
      (steps.do1_spans Reverse) (covers_kind kind span (ap own_spans_at is ∙ spanned.reverse_spanned a)) (rows.do1_gets Reverse) (ap names_at is ∙ naming.reverse_named a) h grown;
}

pub lowers_look_at : {old mid new : List SlotInstr} {checking span : Span} {kind : ExprKind Slot Ty} {what : LookAt} {a : TypedExpr} → kind ≡ exprs.LookAt what a
    → LowersElement old mid checking a → new ≡ mid ++ instruction (kinds.LookAt what) span checking ∷ [] → Lowers old new checking kind span widths.One
lowers_look_at {old} {mid} {new} {checking} {span} {kind} {what} {a} is h grown = record {
  lowered = lowers1 span (λ world env. kind_gives world env kind span) (λ known. is_ready_kind known kind) (kind_count kind)
      (kinds.LookAt what) (λ world x. at_span span (indexed_value world.context what x)) (look_at_acts what span checking) (steps.look_at_stands what) one (steps.look_at_weighs what)
      (λ world env. ap (λ k. kind_gives world env k span) is ∙ source.look_at_gives world env what a span)
      (λ known r. sym (ap (is_ready_kind known) is ∙ ready.look_at_is_ready known what a) ∙ r)
      (some_more (kind_count kind) (node_count a) (ap kind_count is ∙ source.look_at_counted what a)) (after _ _ (ap price_at is ∙ room.look_at_priced what a))
      (steps.look_at_spans what) (covers_kind kind span (ap own_spans_at is ∙ spanned.look_at_spanned what a)) (rows.look_at_gets what) (ap names_at is ∙ naming.look_at_named what a) h grown;
}

-- an operator with two sides, and a Not behind it where it has one
binary_code : {a b : List SlotInstr} {checking : Span} {va vb : World → Env → Result (List ℕ) Failure} {ra rb : Known-names → Bool} {ma mb : ℕ} (form : BinaryForm) (span : Span)
    → Code a checking va ra ma → Code b checking vb rb mb
    → Code ((a ++ b) ++ binary_rows form span checking) checking (λ world env. va world env >>= λ x. vb world env >>= λ y. at_span span (binary_result form x y)) (λ known. ra known && rb known) (ma + mb)
binary_code (binary.Is op) span ha hb = code_op2 (kinds.Do2 op) span (λ world x y. at_span span (result2 op x y)) (do2_acts op span _) (steps.do2_stands op) ha hb
binary_code {a} {b} {checking} {va} {vb} {ra} {rb} {ma} {mb} (binary.IsNot op) span ha hb =
    let first = code_op2 (kinds.Do2 op) span (λ world x y. at_span span (result2 op x y)) (do2_acts op span checking) (steps.do2_stands op) ha hb in
    let both = code_op1 (kinds.Do1 Not) span (λ world x. at_span span (result1 Not x)) (do1_acts Not span checking) (steps.do1_stands Not) first in
    let rows : ((a ++ b) ++ instruction (kinds.Do2 op) span checking ∷ []) ++ instruction (kinds.Do1 Not) span checking ∷ [] ≡ (a ++ b) ++ binary_rows (binary.IsNot op) span checking =
    append_assoc (a ++ b) (instruction (kinds.Do2 op) span checking ∷ []) (instruction (kinds.Do1 Not) span checking ∷ []) in
    let same : (world : World) (env : Env) → ((va world env >>= λ x. vb world env >>= λ y. at_span span (result2 op x y)) >>= λ x. at_span span (result1 Not x))
    ≡ (va world env >>= λ x. vb world env >>= λ y. at_span span (binary_result (binary.IsNot op) x y)) =
    λ world env. sym (bind_two (va world env) (vb world env) (λ x y. at_span span (result2 op x y)) (λ x. at_span span (result1 Not x)))
    ∙ not_last (va world env) (vb world env) in
    subst (λ l. Code l checking (λ world env. va world env >>= λ x. vb world env >>= λ y. at_span span (binary_result (binary.IsNot op) x y)) (λ known. ra known && rb known) (ma + mb)) rows
    (code_as same both)
  where
    not_last : (r s : Result (List ℕ) Failure) → (r >>= λ x. s >>= λ y. at_span span (result2 op x y) >>= λ x. at_span span (result1 Not x))
        ≡ (r >>= λ x. s >>= λ y. at_span span (binary_result (binary.IsNot op) x y))
    not_last (Ok x) (Ok y) = sym (at_span_then span (result2 op x y) (result1 Not))
    not_last (Ok x) (Err e) = refl
    not_last (Err e) s = refl

binary_light : {a : List SlotInstr} {v : Price} (form : BinaryForm) (span checking : Span) → Light a nothing v → Light (a ++ binary_rows form span checking) nothing (v ⊕ binary_price form)
binary_light (binary.Is op) span checking h = light_then (kinds.Do2 op) span checking one (steps.do2_weighs op) h
binary_light (binary.IsNot op) span checking h =
    light_as (record { bytes = omega arith; ops = omega arith }) (light_both h (light_both (light_row (kinds.Do2 op) span checking one (steps.do2_weighs op)) (light_row (kinds.Do1 Not) span checking one (steps.do1_weighs Not))))

binary_spanned : {a : List SlotInstr} {own : List Span} (form : BinaryForm) (span checking : Span) → Covers own (span ∷ []) → SpannedBy a checking own → SpannedBy (a ++ binary_rows form span checking) checking own
binary_spanned (binary.Is op) span checking covers h = spanned_both h (spanned_row (kinds.Do2 op) span checking (steps.do2_spans op) covers)
binary_spanned (binary.IsNot op) span checking covers h =
    spanned_both h (spanned_both (spanned_row (kinds.Do2 op) span checking (steps.do2_spans op) covers) (spanned_row (kinds.Do1 Not) span checking (steps.do1_spans Not) covers))

binary_gets : {a : List SlotInstr} {names : List Slot} (form : BinaryForm) (span checking : Span) → Gets a checking names → Gets (a ++ binary_rows form span checking) checking names
binary_gets (binary.Is op) span checking h = gets_more h (gets_row (kinds.Do2 op) span checking (rows.do2_gets op))
binary_gets (binary.IsNot op) span checking h = gets_more h (gets_both (gets_row (kinds.Do2 op) span checking (rows.do2_gets op)) (gets_row (kinds.Do1 Not) span checking (rows.do1_gets Not)))

pub lowers_binary : {old mid far new : List SlotInstr} {checking span : Span} {kind : ExprKind Slot Ty} {op : BinaryOp} {a b : TypedExpr} → kind ≡ exprs.Binary op a b
    → LowersElement old mid checking a → LowersElement mid far checking b → new ≡ far ++ binary_rows (binary_form (is_int a.ty) op) span checking
    → Lowers old new checking kind span widths.One
lowers_binary {old} {mid} {far} {new} {checking} {span} {kind} {op} {a} {b} is ha hb grown =
    let form = binary_form (is_int a.ty) op in record {
      lowered = lowers (λ world env. kind_gives world env kind span) (λ known. is_ready_kind known kind) (kind_count kind) (grown2 old ha.rows hb.rows (binary_rows form span checking) ha.grown hb.grown grown)
          (binary_code form span (code_of ha) (code_of hb))
          (λ world env. ap (λ k. kind_gives world env k span) is ∙ source.binary_gives world env op a b span
          ∙ bind_two (element (value_of world env a)) (element (value_of world env b)) (λ x y. at_span span (binary_result form x y)) (λ e. Ok (GivenOne e)))
          (λ known r. sym (ap (is_ready_kind known) is ∙ ready.binary_is_ready known op a b) ∙ r)
          (omega (arith, ap kind_count is ∙ source.binary_counted op a b))
          (light_as (after_both _ _ _ (ap price_at is ∙ room.binary_priced op a b)) (binary_light form span checking (light_both ha.light hb.light)))
          (let covers = covers_kind kind span (ap own_spans_at is ∙ spanned.binary_spanned op a b) in binary_spanned form span checking (covers_first covers) (spanned_two covers ha.spans hb.spans))
          (gets_as (ap names_at is ∙ naming.binary_named op a b) (binary_gets form span checking (gets_both ha.gets hb.gets)));
    }

-- of a value that a box holds
pub at_value : {old new : List SlotInstr} {checking : Span} {x e : TypedExpr} → x ≡ e → LowersElement old new checking x → LowersElement old new checking e
at_value {old} {new} {checking} is h = subst (LowersElement old new checking) is h

pub lowers_sized_cast : {old mid far new : List SlotInstr} {checking span : Span} {kind : ExprKind Slot Ty} {to : Ty} {a b : TypedExpr} {size : Option TypedExpr} → kind ≡ exprs.Cast to a size → size ≡ Some b
    → LowersElement old mid checking a → LowersElement mid far checking b → new ≡ far ++ instruction (kinds.Do2 Pad) span checking ∷ []
    → Lowers old new checking kind span widths.One
lowers_sized_cast {old} {mid} {far} {new} {checking} {span} {kind} {to} {a} {b} cast sized ha hb grown =
    let is : kind ≡ exprs.Cast to a (Some b) = cast ∙ ap (exprs.Cast to a) sized in record {
      lowered = lowers2 span (λ world env. kind_gives world env kind span) (λ known. is_ready_kind known kind) (kind_count kind)
          (kinds.Do2 Pad) (λ world x y. at_span span (result2 Pad x y)) (do2_acts Pad span checking) (steps.do2_stands Pad) one (steps.do2_weighs Pad)
          (λ world env. ap (λ k. kind_gives world env k span) is ∙ source.sized_cast_gives world env to a b span)
          (λ known r. sym (ap (is_ready_kind known) is ∙ ready.sized_cast_is_ready known to a b) ∙ r)
          (some_more (kind_count kind) (node_count a + node_count b) (ap kind_count is ∙ source.sized_cast_counted to a b)) (after_both _ _ _ (ap price_at is ∙ room.sized_cast_priced to a b))
          (steps.do2_spans Pad) (covers_kind kind span (ap own_spans_at is ∙ spanned.sized_cast_spanned to a b)) (rows.do2_gets Pad) (ap names_at is ∙ naming.sized_cast_named to a b) ha hb grown;
    }

-- a cast without a size
kept : (r : Result (List ℕ) Failure) (span : Span) → r ≡ (r >>= λ x. at_span span (Ok x))
kept (Ok x) span = refl
kept (Err e) span = refl

cast_code : {a : List SlotInstr} {checking : Span} {va : World → Env → Result (List ℕ) Failure} {ra : Known-names → Bool} {ma : ℕ} (effect : Option CastEffect) (span : Span)
    → is_cast effect ≡ true → Code a checking va ra ma
    → Code (a ++ cast_rows effect span checking) checking (λ world env. va world env >>= λ x. at_span span (cast_result effect x)) ra (ma + 1)
cast_code (Some effects.NonZero) span is h = code_most (omega arith) (code_op1 (kinds.Do1 NonZero) span (λ world x. at_span span (result1 NonZero x)) (do1_acts NonZero span _) (steps.do1_stands NonZero) h)
cast_code (Some effects.ToNumber) span is h = code_most (omega arith) (code_op1 (kinds.Do1 ToNumber) span (λ world x. at_span span (result1 ToNumber x)) (do1_acts ToNumber span _) (steps.do1_stands ToNumber) h)
cast_code {a} {checking} {va} {ra} {ma} (Some effects.Keep) span is h =
    subst (λ l. Code l checking (λ world env. va world env >>= λ x. at_span span (Ok x)) ra (ma + 1)) (sym (append-nil a))
    (code_most (omega arith) (code_as (λ world env. kept (va world env) span) h))
cast_code {a} {checking} {va} {ra} {ma} (Some (effects.Pad n)) span is h =
    let bytes = minimal_bytes (pos n) in
    let size = code_put checking (λ world env. Ok bytes) (lit bytes) span (Some bytes) (bytes_acts bytes span checking) (bytes_stand bytes) in
    let whole = code_op2 (kinds.Do2 Pad) span (λ world x y. at_span span (result2 Pad x y)) (do2_acts Pad span checking) (steps.do2_stands Pad) h size in
    let fits : number_element (pos n) ≡ Ok bytes = ap (λ b. if b then Ok bytes else Err NumberRange) is in
    let same : (world : World) (env : Env) → (va world env >>= λ x. Ok bytes >>= λ y. at_span span (result2 Pad x y)) ≡ (va world env >>= λ x. at_span span (cast_result (Some (effects.Pad n)) x)) =
    λ world env. ap (λ (o : Outcome). va world env >>= λ x. at_span span (o >>= λ size. result2 Pad x size)) (sym fits) in
    subst (λ l. Code l checking (λ world env. va world env >>= λ x. at_span span (cast_result (Some (effects.Pad n)) x)) ra (ma + 1))
    (append_assoc a (instruction (lit bytes) span checking ∷ []) (instruction (kinds.Do2 Pad) span checking ∷ []))
    (code_as same (code_ready (λ known r. and_intro (ra known) true r refl) whole))
cast_code (Some effects.PadToSize) span is h = absurd cc
cast_code None span is h = absurd cc

none_light : {a : List SlotInstr} {v : Price} → Light a nothing v → Light (a ++ []) nothing (v ⊕ nothing)
none_light {a} {v} h = subst (λ l. Light l nothing (v ⊕ nothing)) (sym (append-nil a)) (light_as (record { bytes = omega arith; ops = omega arith }) h)

cast_light : {a : List SlotInstr} {v : Price} (effect : Option CastEffect) (span checking : Span) → Light a nothing v → Light (a ++ cast_rows effect span checking) nothing (v ⊕ cast_price effect)
cast_light (Some effects.NonZero) span checking h = light_then (kinds.Do1 NonZero) span checking one (steps.do1_weighs NonZero) h
cast_light (Some effects.ToNumber) span checking h = light_then (kinds.Do1 ToNumber) span checking one (steps.do1_weighs ToNumber) h
cast_light (Some effects.Keep) span checking h = none_light h
cast_light (Some (effects.Pad n)) span checking h =
    light_both h (light_both (light_row (lit (minimal_bytes (pos n))) span checking (push_of (minimal_bytes (pos n))) (lit_weighs (minimal_bytes (pos n)))) (light_row (kinds.Do2 Pad) span checking one (steps.do2_weighs Pad)))
cast_light (Some effects.PadToSize) span checking h = none_light h
cast_light None span checking h = none_light h

cast_spanned : {a : List SlotInstr} {own : List Span} (effect : Option CastEffect) (span checking : Span) → Covers own (span ∷ []) → SpannedBy a checking own → SpannedBy (a ++ cast_rows effect span checking) checking own
cast_spanned (Some effects.NonZero) span checking covers h = spanned_both h (spanned_row (kinds.Do1 NonZero) span checking (steps.do1_spans NonZero) covers)
cast_spanned (Some effects.ToNumber) span checking covers h = spanned_both h (spanned_row (kinds.Do1 ToNumber) span checking (steps.do1_spans ToNumber) covers)
cast_spanned (Some effects.Keep) span checking covers h = spanned_both h spanned_none
cast_spanned (Some (effects.Pad n)) span checking covers h =
    spanned_both h (spanned_both (spanned_row (lit (minimal_bytes (pos n))) span checking (steps.lit_spans (record { items = minimal_bytes (pos n) })) covers) (spanned_row (kinds.Do2 Pad) span checking (steps.do2_spans Pad) covers))
cast_spanned (Some effects.PadToSize) span checking covers h = spanned_both h spanned_none
cast_spanned None span checking covers h = spanned_both h spanned_none

cast_gets : {a : List SlotInstr} {names : List Slot} (effect : Option CastEffect) (span checking : Span) → Gets a checking names → Gets (a ++ cast_rows effect span checking) checking names
cast_gets (Some effects.NonZero) span checking h = gets_more h (gets_row (kinds.Do1 NonZero) span checking (rows.do1_gets NonZero))
cast_gets (Some effects.ToNumber) span checking h = gets_more h (gets_row (kinds.Do1 ToNumber) span checking (rows.do1_gets ToNumber))
cast_gets (Some effects.Keep) span checking h = gets_more h gets_none
cast_gets (Some (effects.Pad n)) span checking h =
    gets_more h (gets_both (gets_row (lit (minimal_bytes (pos n))) span checking (rows.lit_gets (record { items = minimal_bytes (pos n) }))) (gets_row (kinds.Do2 Pad) span checking (rows.do2_gets Pad)))
cast_gets (Some effects.PadToSize) span checking h = gets_more h gets_none
cast_gets None span checking h = gets_more h gets_none

pub lowers_cast : {old mid new : List SlotInstr} {checking span : Span} {kind : ExprKind Slot Ty} {to : Ty} {a : TypedExpr} {size : Option TypedExpr} → kind ≡ exprs.Cast to a size → size ≡ None
    → ReadyKind kind
    → LowersElement old mid checking a → new ≡ mid ++ cast_rows (cast_effect to a.ty) span checking → Lowers old new checking kind span widths.One
lowers_cast {old} {mid} {new} {checking} {span} {kind} {to} {a} cast sized whole h grown =
    let is : kind ≡ exprs.Cast to a None = cast ∙ ap (exprs.Cast to a) sized in
    let effect = cast_effect to a.ty in
    let good : (is_ready any_name a && is_cast effect) ≡ true = sym (ap (is_ready_kind any_name) is ∙ ready.cast_is_ready any_name to a) ∙ whole.is in record {
      lowered = lowers (λ world env. kind_gives world env kind span) (λ known. is_ready_kind known kind) (kind_count kind) (grown1 old h.rows (cast_rows effect span checking) h.grown grown)
          (cast_code effect span (and_right (is_ready any_name a) (is_cast effect) good) (code_of h))
          (λ world env. ap (λ k. kind_gives world env k span) is ∙ source.cast_gives world env to a span
          ∙ bind_bind (element (value_of world env a)) (λ x. at_span span (cast_result effect x)) (λ e. Ok (GivenOne e)))
          (λ known r. and_left (is_ready known a) (is_cast effect) (sym (ap (is_ready_kind known) is ∙ ready.cast_is_ready known to a) ∙ r))
          (omega (arith, ap kind_count is ∙ source.cast_counted to a))
          (light_as (after _ _ (ap price_at is ∙ room.cast_priced to a)) (cast_light effect span checking h.light))
          (let covers = covers_kind kind span (ap own_spans_at is ∙ spanned.cast_spanned to a) in
          cast_spanned effect span checking (covers_first covers) (spanned_in (covers_left (own_spans a) [] (covers_rest covers)) h.spans))
          (gets_as (ap names_at is ∙ naming.cast_named to a) (cast_gets effect span checking h.gets));
    }

-- ---- both parts of a split, and one of them

split_step : (ra rb : Result (List ℕ) Failure) (i : SlotInstr) (world : World) (s : State) (span : Span)
    → ((x y : List ℕ) → act_of world i (state (y ∷ x ∷ s.operands) s.env) ≡ (at_span span (split_parts x y) >>= λ parts. Ok (state (parts.1 ∷ parts.0 ∷ s.operands) s.env)))
    → ((((ra >>= λ e. Ok (e ∷ [])) >>= λ es. (rb >>= λ e. Ok (e ∷ [])) >>= λ fs. Ok (fs ++ es)) >>= λ es. Ok (state (es ++ s.operands) s.env)) >>= run_of world (i ∷ []))
    ≡ (((ra >>= λ x. rb >>= λ y. at_span span (split_parts x y) >>= λ parts. Ok (GivenTwo parts.0 parts.1)) >>= λ given. Ok (given_on widths.Two given)) >>= λ es. Ok (state (es ++ s.operands) s.env))
split_step (Ok x) (Ok y) i world s span acts = run_one world i (state (y ∷ x ∷ s.operands) s.env) ∙ acts x y ∙ parts_put (at_span span (split_parts x y)) s
  where
    parts_put : (r : Result (List ℕ × List ℕ) Failure) (s : State) → (r >>= λ parts. Ok (state (parts.1 ∷ parts.0 ∷ s.operands) s.env))
        ≡ (((r >>= λ parts. Ok (GivenTwo parts.0 parts.1)) >>= λ given. Ok (given_on widths.Two given)) >>= λ es. Ok (state (es ++ s.operands) s.env))
    parts_put (Ok parts) s = refl
    parts_put (Err e) s = refl
split_step (Ok x) (Err e) i world s span acts = refl
split_step (Err e) rb i world s span acts = refl

split_wide : (ra rb : Result (List ℕ) Failure) (span : Span)
    → (ra >>= λ x. rb >>= λ y. at_span span (split_parts x y) >>= λ parts. Ok (GivenTwo parts.0 parts.1))
    ≡ ((ra >>= λ x. rb >>= λ y. at_span span (split_parts x y) >>= λ parts. Ok (GivenTwo parts.0 parts.1)) >>= λ given. Ok (as_wide widths.Two given))
split_wide (Ok x) (Ok y) span = parts_wide (at_span span (split_parts x y))
  where
    parts_wide : (r : Result (List ℕ × List ℕ) Failure) → (r >>= λ parts. Ok (GivenTwo parts.0 parts.1)) ≡ ((r >>= λ parts. Ok (GivenTwo parts.0 parts.1)) >>= λ given. Ok (as_wide widths.Two given))
    parts_wide (Ok parts) = refl
    parts_wide (Err e) = refl
split_wide (Ok x) (Err e) span = refl
split_wide (Err e) rb span = refl

-- the choice of a part is still to be paid
split_light : {rows : List SlotInstr} {p : Price} (a b : Price) → p ≡ two ⊕ a ⊕ b → Light rows nothing (a ⊕ b ⊕ one) → Light rows one p
split_light a b is h = record {
  names = h.names;
  bytes = λ n. omega (arith, h.bytes n, ap (λ (q : Price). q.bytes) is);
  ops = λ n. omega (arith, h.ops n, ap (λ (q : Price). q.ops) is);
}

pub lowers_split : {old mid far new : List SlotInstr} {checking span : Span} {kind : ExprKind Slot Ty} {a b : TypedExpr} → kind ≡ exprs.Split a b
    → LowersElement old mid checking a → LowersElement mid far checking b → new ≡ far ++ instruction kinds.Split span checking ∷ []
    → Lowers old new checking kind span widths.Two
lowers_split {old} {mid} {far} {new} {checking} {span} {kind} {a} {b} is ha hb grown =
    let i = instruction kinds.Split span checking in
    let gives : (world : World) (env : Env) → kind_gives world env kind span ≡ (element (value_of world env a) >>= λ x. element (value_of world env b) >>= λ y. at_span span (split_parts x y) >>= λ parts. Ok (GivenTwo parts.0 parts.1)) =
    λ world env. ap (λ k. kind_gives world env k span) is ∙ source.split_gives world env a b span in record {
      lowered = record {
        rows = (ha.rows ++ hb.rows) ++ i ∷ [];
        grown = grown2 old ha.rows hb.rows (i ∷ []) ha.grown hb.grown grown;
        puts = record {
          runs = λ world s. run_append world (ha.rows ++ hb.rows) (i ∷ []) s ∙ ap (λ r. r >>= run_of world (i ∷ [])) ((puts_both ha.puts hb.puts).runs world s)
              ∙ split_step (element (value_of world s.env a)) (element (value_of world s.env b)) i world s span
              (λ x y. row_done world kinds.Split span checking _ (state (y ∷ x ∷ s.operands) s.env) (steps.split_done world))
              ∙ ap (λ v. (v >>= λ given. Ok (given_on widths.Two given)) >>= λ es. Ok (state (es ++ s.operands) s.env)) (sym (gives world s.env));
        };
        wide = λ world env. gives world env ∙ split_wide (element (value_of world env a)) (element (value_of world env b)) span
            ∙ ap (λ v. v >>= λ given. Ok (as_wide widths.Two given)) (sym (gives world env));
        begins = begins_more (i ∷ []) (begins_more hb.rows ha.begins);
        tops = None ∷ None ∷ [];
        count = refl;
        stands = λ slots r.
            let both : (is_ready (in_scope slots) a && is_ready (in_scope slots) b) ≡ true = sym (ap (is_ready_kind (in_scope slots)) is ∙ ready.split_is_ready (in_scope slots) a b) ∙ r in
            stands_most (omega (arith, ap kind_count is ∙ source.split_counted a b))
            (stands_split kinds.Split span steps.split_stands
            (stands_both (ha.stands slots (and_left (is_ready (in_scope slots) a) (is_ready (in_scope slots) b) both)) (hb.stands slots (and_right (is_ready (in_scope slots) a) (is_ready (in_scope slots) b) both))));
        light = split_light (price_of a) (price_of b) (ap price_at is ∙ room.split_priced a b) (light_then kinds.Split span checking one steps.split_weighs (light_both ha.light hb.light));
        spans =
            let covers = covers_kind kind span (ap own_spans_at is ∙ spanned.split_spanned a b) in
            spanned_both (spanned_two covers ha.spans hb.spans) (spanned_row kinds.Split span checking steps.split_spans (covers_first covers));
        gets = gets_as (ap names_at is ∙ naming.split_named a b) (rows.gets_then kinds.Split span rows.split_gets (gets_both ha.gets hb.gets));
      };
    }

-- the left part of a value, or the right one
abbrev pub part_of : Bool → Given → List ℕ
part_of right given = if right then right_of given else left_of given

same_given : (x y : Given) (r : Value) → r ≡ Ok x → r ≡ Ok y → x ≡ y
same_given x y r is also = cc

one_part : (right : Bool) (r : Value) → r ≡ (r >>= λ given. Ok (as_wide widths.One given))
    → (r >>= λ given. Ok (given_on widths.One given)) ≡ ((r >>= λ given. Ok (part_of right given)) >>= λ e. Ok (e ∷ []))
one_part true (Ok given) is = let same : given ≡ as_wide widths.One given = same_given given (as_wide widths.One given) (Ok given) refl is in ap (λ g. Ok (left_of g ∷ [])) same ∙ sym (ap (λ g. Ok (right_of g ∷ [])) same)
one_part false (Ok given) is = refl
one_part true (Err e) is = refl
one_part false (Err e) is = refl

two_step : (right : Bool) (r : Value) (i : SlotInstr) (world : World) (s : State)
    → ((x y : List ℕ) → act_of world i (state (y ∷ x ∷ s.operands) s.env) ≡ (Ok (if right then y else x) >>= λ e. Ok (state (e ∷ s.operands) s.env)))
    → (((r >>= λ given. Ok (given_on widths.Two given)) >>= λ es. Ok (state (es ++ s.operands) s.env)) >>= run_of world (i ∷ []))
    ≡ (((r >>= λ given. Ok (part_of right given)) >>= λ e. Ok (e ∷ [])) >>= λ es. Ok (state (es ++ s.operands) s.env))
two_step right (Ok given) i world s acts = run_one world i (state (right_of given ∷ left_of given ∷ s.operands) s.env) ∙ acts (left_of given) (right_of given)
two_step right (Err e) i world s acts = refl

-- the code of one part
part_code : {old mid : List SlotInstr} {checking span : Span} {kind : ExprKind Slot Ty} (width : Width) (right : Bool) (doing : Span) (h : Lowers old mid checking kind span width)
    → Code (h.lowered.rows ++ part_rows width right doing checking) checking (λ world env. kind_gives world env kind span >>= λ given. Ok (part_of right given)) (λ known. is_ready_kind known kind) (4 * kind_count kind)
part_code {old} {mid} {checking} {span} {kind} widths.One right doing h =
    subst (λ l. Code l checking (λ world env. kind_gives world env kind span >>= λ given. Ok (part_of right given)) (λ known. is_ready_kind known kind) (4 * kind_count kind)) (sym (append-nil h.lowered.rows))
    (one_top h.lowered.tops h.lowered.count (λ slots r. h.lowered.stands slots r))
  where
    one_top : (tops : List Operand) → length tops ≡ 1 → ((slots : List Slot) → is_ready_kind (in_scope slots) kind ≡ true → Stands h.lowered.rows checking slots tops (4 * kind_count kind))
        → Code h.lowered.rows checking (λ world env. kind_gives world env kind span >>= λ given. Ok (part_of right given)) (λ known. is_ready_kind known kind) (4 * kind_count kind)
    one_top (top ∷ []) count stands = record {
      puts = puts_as h.lowered.puts (λ world env. one_part right (kind_gives world env kind span) (h.lowered.wide world env));
      begins = h.lowered.begins;
      top = top;
      stands = stands;
    }
    one_top [] count stands = absurd cc
    one_top (a ∷ b ∷ more) count stands = absurd (omega (arith, count))
part_code {old} {mid} {checking} {span} {kind} widths.Two right doing h =
    let i = instruction (kinds.Keep right) doing checking in record {
      puts = record {
        runs = λ world s. run_append world h.lowered.rows (i ∷ []) s ∙ ap (λ r. r >>= run_of world (i ∷ [])) (h.lowered.puts.runs world s)
            ∙ two_step right (kind_gives world s.env kind span) i world s (λ x y. keep_acts right doing checking world x y s.operands s.env);
      };
      begins = begins_more (i ∷ []) h.lowered.begins;
      top = None;
      stands = λ slots r. stands_op (kinds.Keep right) doing 2 (steps.keep_stands right) h.lowered.count (omega arith) (h.lowered.stands slots r);
    }

keeps_none : (right : Bool) → gets_at (kinds.Keep right) ≡ Some []
keeps_none right = rows.keep_gets right

-- the choice of a part, where one of these spans or the checking one is done
part_spanned : {rows : List SlotInstr} {own : List Span} (width : Width) (right : Bool) (doing checking : Span) → SpannedBy (instruction (kinds.Keep right) doing checking ∷ []) checking own → SpannedBy rows checking own
    → SpannedBy (rows ++ part_rows width right doing checking) checking own
part_spanned widths.One right doing checking row h = spanned_both h spanned_none
part_spanned widths.Two right doing checking row h = spanned_both h row

part_gets : {rows : List SlotInstr} {names : List Slot} (width : Width) (right : Bool) (doing checking : Span) → Gets rows checking names → Gets (rows ++ part_rows width right doing checking) checking names
part_gets widths.One right doing checking h = gets_more h gets_none
part_gets widths.Two right doing checking h = gets_more h (gets_row (kinds.Keep right) doing checking (keeps_none right))

pub lowers_element : {old mid new : List SlotInstr} {checking : Span} {e : TypedExpr} {width : Width} → LowersGiven old mid checking e width
    → new ≡ mid ++ part_rows width false checking checking → LowersElement old new checking e
lowers_element {old} {mid} {new} {checking} {e} {width} h grown =
    let code = part_code width false checking h.lowered in record {
      rows = h.lowered.lowered.rows ++ part_rows width false checking checking;
      grown = grown1 old h.lowered.lowered.rows (part_rows width false checking checking) h.lowered.lowered.grown grown;
      puts = puts_as code.puts (λ world env. ap (λ (v : Value). (v >>= λ given. Ok (left_of given)) >>= λ x. Ok (x ∷ [])) (sym (source.whole_given world env e)));
      begins = code.begins;
      top = code.top;
      stands = λ slots r. stands_most (omega (arith, source.whole_counted e)) (code.stands slots (sym (ready.whole_ready (in_scope slots) e) ∙ r));
      light = light_as (under (room.whole_priced e)) (light_part width false checking checking h.lowered.lowered.light);
      spans = spanned_in (covers_as (spanned.whole_spanned e)) (part_spanned width false checking checking (spanned_own (kinds.Keep false) checking (steps.keep_spans false)) h.lowered.lowered.spans);
      gets = gets_as (naming.whole_named e) (part_gets width false checking checking h.lowered.lowered.gets);
    }

part_is : (number : ℕ) (b : Bool) (given : Given) → (number == 0) ≡ b → part_of (not b) given ≡ part_at number given
part_is number true given is = sym (ap (λ t. if t then left_of given else right_of given) is)
part_is number false given is = sym (ap (λ t. if t then left_of given else right_of given) is)

index_is : (number : ℕ) (r : Value) → (r >>= λ given. Ok (GivenOne (part_at number given))) ≡ ((r >>= λ given. Ok (part_of (not (number == 0)) given)) >>= λ e. Ok (GivenOne e))
index_is number (Ok given) = ap (λ e. Ok (GivenOne e)) (sym (part_is number (number == 0) given refl))
index_is number (Err e) = refl

pub lowers_given : {old new : List SlotInstr} {checking : Span} {e : TypedExpr} {width : Width} → Lowers old new checking e.kind e.span width → LowersGiven old new checking e width
lowers_given h = record { lowered = h }

pub lowers_index : {old mid new : List SlotInstr} {checking span : Span} {kind : ExprKind Slot Ty} {a : TypedExpr} {number : ℕ} {width : Width} → kind ≡ exprs.Index a number
    → LowersGiven old mid checking a width → new ≡ mid ++ part_rows width (not (number == 0)) span checking → Lowers old new checking kind span widths.One
lowers_index {old} {mid} {new} {checking} {span} {kind} {a} {number} {width} is h grown = record {
  lowered = lowers (λ world env. kind_gives world env kind span) (λ known. is_ready_kind known kind) (kind_count kind) (grown1 old h.lowered.lowered.rows (part_rows width (not (number == 0)) span checking) h.lowered.lowered.grown grown)
      (part_code width (not (number == 0)) span h.lowered)
      (λ world env. ap (λ k. kind_gives world env k span) is ∙ source.index_gives world env a number span
      ∙ ap (λ (v : Value). v >>= λ given. Ok (GivenOne (part_at number given))) (source.whole_given world env a)
      ∙ index_is number (kind_gives world env a.kind a.span))
      (λ known r. sym (ap (is_ready_kind known) is ∙ ready.index_is_ready known a number ∙ ready.whole_ready known a) ∙ r)
      (omega (arith, ap kind_count is ∙ source.index_counted a number, source.whole_counted a))
      (light_as (under (ap price_at is ∙ room.index_priced a number ∙ room.whole_priced a)) (light_part width (not (number == 0)) span checking h.lowered.lowered.light))
      (let covers = covers_kind kind span (ap own_spans_at is ∙ spanned.index_spanned a number) in
      part_spanned width (not (number == 0)) span checking (spanned_row (kinds.Keep (not (number == 0))) span checking (steps.keep_spans (not (number == 0))) (covers_first covers))
      (spanned_in (covers_then (covers_rest covers) (covers_as (spanned.whole_spanned a))) h.lowered.lowered.spans))
      (gets_as (ap names_at is ∙ naming.index_named a number ∙ naming.whole_named a) (part_gets width (not (number == 0)) span checking h.lowered.lowered.gets));
}

-- ---- functions and instantiations

form_one : {old mid new : List SlotInstr} {checking span : Span} {op : Op1} {a : TypedExpr} → LowersElement old mid checking a
    → new ≡ mid ++ instruction (kinds.Do1 op) span checking ∷ [] → LowersForm old new checking span (forms.One op) (a ∷ [])
form_one {old} {mid} {new} {checking} {span} {op} {a} h grown = record {
  lowered = lowers1 span (λ world env. form_value world span (forms.One op) (node_of world env a ∷ [])) (λ known. form_ready (forms.One op) (ready_node known a ∷ [])) (node_count a + 0 + 1)
      (kinds.Do1 op) (λ world x. at_span span (result1 op x)) (do1_acts op span checking) (steps.do1_stands op) (op1_price op) (op1_weighs op)
      (λ world env. refl) (λ known r. r) (omega arith) (record { bytes = omega arith; ops = omega arith })
      (steps.do1_spans op) (covers_as (ap (λ l. span ∷ l) (append-nil (own_spans a)))) (rows.do1_gets op) (append-nil (names_in a)) h grown;
}

form_two : {old mid far new : List SlotInstr} {checking span : Span} {op : Op2} {a b : TypedExpr} → LowersElement old mid checking a → LowersElement mid far checking b
    → new ≡ far ++ instruction (kinds.Do2 op) span checking ∷ [] → LowersForm old new checking span (forms.Two op) (a ∷ b ∷ [])
form_two {old} {mid} {far} {new} {checking} {span} {op} {a} {b} ha hb grown = record {
  lowered = lowers2 span (λ world env. form_value world span (forms.Two op) (node_of world env a ∷ node_of world env b ∷ [])) (λ known. form_ready (forms.Two op) (ready_node known a ∷ ready_node known b ∷ [])) (node_count a + (node_count b + 0) + 1)
      (kinds.Do2 op) (λ world x y. at_span span (result2 op x y)) (do2_acts op span checking) (steps.do2_stands op) one (steps.do2_weighs op)
      (λ world env. refl) (λ known r. r) (omega arith) (record { bytes = omega arith; ops = omega arith })
      (steps.do2_spans op) (covers_as (ap (λ l. span ∷ (own_spans a ++ l)) (append-nil (own_spans b)))) (rows.do2_gets op) (ap (λ l. names_in a ++ l) (append-nil (names_in b))) ha hb grown;
}

form_sig : {old mid far new : List SlotInstr} {checking span : Span} {a b : TypedExpr} → LowersElement old mid checking a → LowersElement mid far checking b
    → new ≡ far ++ instruction kinds.CheckSig span checking ∷ [] → LowersForm old new checking span forms.CheckSig (a ∷ b ∷ [])
form_sig {old} {mid} {far} {new} {checking} {span} {a} {b} ha hb grown = record {
  lowered = lowers2 span (λ world env. form_value world span forms.CheckSig (node_of world env a ∷ node_of world env b ∷ [])) (λ known. form_ready forms.CheckSig (ready_node known a ∷ ready_node known b ∷ [])) (node_count a + (node_count b + 0) + 1)
      kinds.CheckSig (λ world x y. at_span span (verdict_result (single_verdict world.verdicts Single x y []))) (check_sig_acts span checking) steps.check_sig_stands one steps.check_sig_weighs
      (λ world env. refl) (λ known r. r) (omega arith) (record { bytes = omega arith; ops = omega arith })
      (steps.check_sig_spans) (covers_as (ap (λ l. span ∷ (own_spans a ++ l)) (append-nil (own_spans b)))) rows.check_sig_gets (ap (λ l. names_in a ++ l) (append-nil (names_in b))) ha hb grown;
}

form_three : {old mid far next new : List SlotInstr} {checking span : Span} {op : Op3} {a b c : TypedExpr} → LowersElement old mid checking a → LowersElement mid far checking b → LowersElement far next checking c
    → new ≡ next ++ instruction (kinds.Do3 op) span checking ∷ [] → LowersForm old new checking span (forms.Three op) (a ∷ b ∷ c ∷ [])
form_three {old} {mid} {far} {next} {new} {checking} {span} {op} {a} {b} {c} ha hb hc grown = record {
  lowered = lowers3 span (λ world env. form_value world span (forms.Three op) (node_of world env a ∷ node_of world env b ∷ node_of world env c ∷ [])) (λ known. form_ready (forms.Three op) (ready_node known a ∷ ready_node known b ∷ ready_node known c ∷ [])) (node_count a + (node_count b + (node_count c + 0)) + 1)
      (kinds.Do3 op) (λ world x y z. at_span span (result3 op x y z)) (do3_acts op span checking) (steps.do3_stands op) one (steps.do3_weighs op)
      (λ world env. refl) (λ known r. r) (omega arith) (record { bytes = omega arith; ops = omega arith })
      (steps.do3_spans op) (covers_as (ap (λ l. span ∷ (own_spans a ++ (own_spans b ++ l))) (append-nil (own_spans c)) ∙ ap (λ l. span ∷ l) (sym (append_assoc (own_spans a) (own_spans b) (own_spans c))))) (rows.do3_gets op) (ap (λ l. names_in a ++ (names_in b ++ l)) (append-nil (names_in c)) ∙ sym (append_assoc (names_in a) (names_in b) (names_in c))) ha hb hc grown;
}

form_data_sig : {old mid far next new : List SlotInstr} {checking span : Span} {a b c : TypedExpr} → LowersElement old mid checking a → LowersElement mid far checking b → LowersElement far next checking c
    → new ≡ next ++ instruction kinds.CheckData span checking ∷ [] → LowersForm old new checking span forms.CheckData (a ∷ b ∷ c ∷ [])
form_data_sig {old} {mid} {far} {next} {new} {checking} {span} {a} {b} {c} ha hb hc grown = record {
  lowered = lowers3 span (λ world env. form_value world span forms.CheckData (node_of world env a ∷ node_of world env b ∷ node_of world env c ∷ [])) (λ known. form_ready forms.CheckData (ready_node known a ∷ ready_node known b ∷ ready_node known c ∷ [])) (node_count a + (node_count b + (node_count c + 0)) + 1)
      kinds.CheckData (λ world x y z. at_span span (verdict_result (single_verdict world.verdicts DataSig x z y))) (check_data_acts span checking) steps.check_data_stands one steps.check_data_weighs
      (λ world env. refl) (λ known r. r) (omega arith) (record { bytes = omega arith; ops = omega arith })
      (steps.check_data_spans) (covers_as (ap (λ l. span ∷ (own_spans a ++ (own_spans b ++ l))) (append-nil (own_spans c)) ∙ ap (λ l. span ∷ l) (sym (append_assoc (own_spans a) (own_spans b) (own_spans c))))) rows.check_data_gets (ap (λ l. names_in a ++ (names_in b ++ l)) (append-nil (names_in c)) ∙ sym (append_assoc (names_in a) (names_in b) (names_in c))) ha hb hc grown;
}

lock_is : (r : Result (List ℕ) Failure) (span : Span) (lock : Lock)
    → (r >>= λ hash. locked span lock hash >>= λ whole. Ok (GivenOne whole))
    ≡ ((((Ok (lock_front lock)) >>= λ x. r >>= λ y. at_span span (result2 Cat x y)) >>= λ x. Ok (lock_back lock) >>= λ y. at_span span (result2 Cat x y)) >>= λ e. Ok (GivenOne e))
lock_is (Ok hash) span lock = refl
lock_is (Err e) span lock = refl

lock_price : (lock : Lock) (a : TypedExpr) → Under (push_of (lock_front lock) ⊕ price_of a ⊕ one ⊕ push_of (lock_back lock) ⊕ one) (form_price (forms.Locks lock) (priced a ∷ []))
lock_price locks.KeyHash a = record { bytes = omega arith; ops = omega arith }
lock_price locks.ScriptHash a = record { bytes = omega arith; ops = omega arith }

form_lock : {old begun mid far next new : List SlotInstr} {checking span : Span} {lock : Lock} {a : TypedExpr}
    → begun ≡ old ++ instruction (lit (lock_front lock)) span checking ∷ [] → LowersElement begun mid checking a → far ≡ mid ++ instruction (kinds.Do2 Cat) span checking ∷ []
    → next ≡ far ++ instruction (lit (lock_back lock)) span checking ∷ [] → new ≡ next ++ instruction (kinds.Do2 Cat) span checking ∷ []
    → LowersForm old new checking span (forms.Locks lock) (a ∷ [])
form_lock {old} {begun} {mid} {far} {next} {new} {checking} {span} {lock} {a} first h third fourth fifth =
    let front = code_put checking (λ world env. Ok (lock_front lock)) (lit (lock_front lock)) span (Some (lock_front lock)) (bytes_acts (lock_front lock) span checking) (bytes_stand (lock_front lock)) in
    let back = code_put checking (λ world env. Ok (lock_back lock)) (lit (lock_back lock)) span (Some (lock_back lock)) (bytes_acts (lock_back lock) span checking) (bytes_stand (lock_back lock)) in
    let half = code_op2 (kinds.Do2 Cat) span (λ world x y. at_span span (result2 Cat x y)) (do2_acts Cat span checking) (steps.do2_stands Cat) front (code_of h) in
    let whole = code_op2 (kinds.Do2 Cat) span (λ world x y. at_span span (result2 Cat x y)) (do2_acts Cat span checking) (steps.do2_stands Cat) half back in
    let f = instruction (lit (lock_front lock)) span checking ∷ [] in
    let b = instruction (lit (lock_back lock)) span checking ∷ [] in
    let c = instruction (kinds.Do2 Cat) span checking ∷ [] in record {
      lowered = lowers (λ world env. form_value world span (forms.Locks lock) (node_of world env a ∷ [])) (λ known. form_ready (forms.Locks lock) (ready_node known a ∷ [])) (node_count a + 0 + 1)
          (grown1 old (((f ++ h.rows) ++ c) ++ b) c (grown1 old ((f ++ h.rows) ++ c) b (grown2 old f h.rows c first h.grown third) fourth) fifth) whole
          (λ world env. lock_is (element (value_of world env a)) span lock)
          (λ known r. and_intro (true && is_ready known a) true r refl) (omega arith)
          (light_as (lock_price lock a)
          (light_then (kinds.Do2 Cat) span checking one (steps.do2_weighs Cat) (light_both (light_then (kinds.Do2 Cat) span checking one (steps.do2_weighs Cat)
          (light_both (light_row (lit (lock_front lock)) span checking (push_of (lock_front lock)) (lit_weighs (lock_front lock))) h.light))
          (light_row (lit (lock_back lock)) span checking (push_of (lock_back lock)) (lit_weighs (lock_back lock))))))
          (let covers : Covers (span ∷ (own_spans a ++ [])) (span ∷ own_spans a) = covers_as (ap (λ l. span ∷ l) (append-nil (own_spans a))) in
          let joins = spanned_row (kinds.Do2 Cat) span checking (steps.do2_spans Cat) (covers_first covers) in
          spanned_both (spanned_both (spanned_both (spanned_both
          (spanned_row (lit (lock_front lock)) span checking (steps.lit_spans (record { items = lock_front lock })) (covers_first covers)) (spanned_in (covers_rest covers) h.spans)) joins)
          (spanned_row (lit (lock_back lock)) span checking (steps.lit_spans (record { items = lock_back lock })) (covers_first covers))) joins)
          (let joined_more = gets_row (kinds.Do2 Cat) span checking (rows.do2_gets Cat) in
          gets_as (append-nil (names_in a))
          (gets_more (gets_more (gets_more (gets_both (gets_row (lit (lock_front lock)) span checking (rows.lit_gets (record { items = lock_front lock }))) h.gets) joined_more)
          (gets_row (lit (lock_back lock)) span checking (rows.lit_gets (record { items = lock_back lock })))) joined_more));
    }

pub lowers_form_one : {old mid new : List SlotInstr} {checking span : Span} {op : Op1} {a : TypedExpr} {args : List TypedExpr} → args ≡ (a ∷ []) → LowersElement old mid checking a → new ≡ mid ++ instruction (kinds.Do1 op) span checking ∷ [] → LowersForm old new checking span (forms.One op) args
lowers_form_one {old} {mid} {new} {checking} {span} {op} {a} {args} is h0 h1 = subst (LowersForm old new checking span (forms.One op)) (sym is) (form_one h0 h1)

pub lowers_form_two : {old mid far new : List SlotInstr} {checking span : Span} {op : Op2} {a b : TypedExpr} {args : List TypedExpr} → args ≡ (a ∷ b ∷ []) → LowersElement old mid checking a → LowersElement mid far checking b → new ≡ far ++ instruction (kinds.Do2 op) span checking ∷ [] → LowersForm old new checking span (forms.Two op) args
lowers_form_two {old} {mid} {far} {new} {checking} {span} {op} {a} {b} {args} is h0 h1 h2 = subst (LowersForm old new checking span (forms.Two op)) (sym is) (form_two h0 h1 h2)

pub lowers_form_sig : {old mid far new : List SlotInstr} {checking span : Span} {a b : TypedExpr} {args : List TypedExpr} → args ≡ (a ∷ b ∷ []) → LowersElement old mid checking a → LowersElement mid far checking b → new ≡ far ++ instruction kinds.CheckSig span checking ∷ [] → LowersForm old new checking span forms.CheckSig args
lowers_form_sig {old} {mid} {far} {new} {checking} {span} {a} {b} {args} is h0 h1 h2 = subst (LowersForm old new checking span forms.CheckSig) (sym is) (form_sig h0 h1 h2)

pub lowers_form_three : {old mid far next new : List SlotInstr} {checking span : Span} {op : Op3} {a b c : TypedExpr} {args : List TypedExpr} → args ≡ (a ∷ b ∷ c ∷ []) → LowersElement old mid checking a → LowersElement mid far checking b → LowersElement far next checking c → new ≡ next ++ instruction (kinds.Do3 op) span checking ∷ [] → LowersForm old new checking span (forms.Three op) args
lowers_form_three {old} {mid} {far} {next} {new} {checking} {span} {op} {a} {b} {c} {args} is h0 h1 h2 h3 = subst (LowersForm old new checking span (forms.Three op)) (sym is) (form_three h0 h1 h2 h3)

pub lowers_form_data_sig : {old mid far next new : List SlotInstr} {checking span : Span} {a b c : TypedExpr} {args : List TypedExpr} → args ≡ (a ∷ b ∷ c ∷ []) → LowersElement old mid checking a → LowersElement mid far checking b → LowersElement far next checking c → new ≡ next ++ instruction kinds.CheckData span checking ∷ [] → LowersForm old new checking span forms.CheckData args
lowers_form_data_sig {old} {mid} {far} {next} {new} {checking} {span} {a} {b} {c} {args} is h0 h1 h2 h3 = subst (LowersForm old new checking span forms.CheckData) (sym is) (form_data_sig h0 h1 h2 h3)

pub lowers_form_lock : {old begun mid far next new : List SlotInstr} {checking span : Span} {lock : Lock} {a : TypedExpr} {args : List TypedExpr} {f b : List ℕ} → args ≡ (a ∷ [])
    → f ≡ lock_front lock → begun ≡ old ++ instruction (lit f) span checking ∷ [] → LowersElement begun mid checking a → far ≡ mid ++ instruction (kinds.Do2 Cat) span checking ∷ []
    → b ≡ lock_back lock → next ≡ far ++ instruction (lit b) span checking ∷ [] → new ≡ next ++ instruction (kinds.Do2 Cat) span checking ∷ [] → LowersForm old new checking span (forms.Locks lock) args
lowers_form_lock {old} {begun} {mid} {far} {next} {new} {checking} {span} {lock} {a} {args} {f} {b} is front first h third back fourth fifth =
    subst (LowersForm old new checking span (forms.Locks lock)) (sym is)
    (form_lock (first ∙ ap (λ l. old ++ instruction (lit l) span checking ∷ []) front) h third (fourth ∙ ap (λ l. far ++ instruction (lit l) span checking ∷ []) back) fifth)

-- ---- calls

pub lowers_call : {old new : List SlotInstr} {checking span : Span} {f : Builtin} {args : List TypedExpr} → LowersForm old new checking span (call_form f) args
    → LowersCall old new checking span (Known f) args
lowers_call h = record { lowered = h.lowered }

as_kind : {old new : List SlotInstr} {checking span : Span} {kind : ExprKind Slot Ty} {callee : Callee} {args : List TypedExpr}
    → ((world : World) (env : Env) → kind_gives world env kind span ≡ call_value world span callee (map (node_of world env) args))
    → ((known : Known-names) → is_ready_kind known kind ≡ call_ready callee (map (ready_node known) args)) → kind_count kind ≡ total (map node_count args) + 1 → price_at kind ≡ call_price callee (map priced args)
    → own_spans_at kind ≡ callee_spans callee ++ joined (map own_spans args) → names_at kind ≡ call_names callee (map named args)
    → LowersCall old new checking span callee args → Lowers old new checking kind span widths.One
as_kind {old} {new} {checking} {span} {kind} {callee} {args} gives readies counted prices parts reads_as h = record {
  lowered = record {
    rows = h.lowered.rows;
    grown = h.lowered.grown;
    puts = puts_as h.lowered.puts (λ world env. ap (λ (v : Value). v >>= λ given. Ok (given_on widths.One given)) (sym (gives world env)));
    wide = λ world env. gives world env ∙ h.lowered.wide world env ∙ ap (λ (v : Value). v >>= λ given. Ok (as_wide widths.One given)) (sym (gives world env));
    begins = h.lowered.begins;
    tops = h.lowered.tops;
    count = h.lowered.count;
    stands = λ slots r. stands_most (omega (arith, counted)) (h.lowered.stands slots (sym (readies (in_scope slots)) ∙ r));
    light = light_as (under prices) h.lowered.light;
    spans =
        let covers = covers_kind kind span parts in
        spanned_in (covers_cons (covers_first covers) (covers_right (callee_spans callee) (joined (map own_spans args)) (covers_rest covers))) h.lowered.spans;
    gets = gets_as reads_as h.lowered.gets;
  };
}

pub lowers_called : {old new : List SlotInstr} {checking span : Span} {kind : ExprKind Slot Ty} {callee : Callee} {args : List TypedExpr} → kind ≡ exprs.Call callee args
    → LowersCall old new checking span callee args → Lowers old new checking kind span widths.One
lowers_called {old} {new} {checking} {span} {kind} {callee} {args} is h =
    as_kind (λ world env. ap (λ k. kind_gives world env k span) is ∙ source.call_gives world env callee args span)
    (λ known. ap (is_ready_kind known) is ∙ ready.call_is_ready known callee args) (ap kind_count is ∙ source.call_counted callee args) (ap price_at is ∙ room.call_priced callee args)
    (ap own_spans_at is ∙ spanned.call_spanned callee args) (ap names_at is ∙ naming.call_named callee args) h

pub lowers_new : {old new : List SlotInstr} {checking span : Span} {kind : ExprKind Slot Ty} {callee : Callee} {args : List TypedExpr} → kind ≡ exprs.New callee args
    → LowersCall old new checking span callee args → Lowers old new checking kind span widths.One
lowers_new {old} {new} {checking} {span} {kind} {callee} {args} is h =
    as_kind (λ world env. ap (λ k. kind_gives world env k span) is ∙ source.new_gives world env callee args span)
    (λ known. ap (is_ready_kind known) is ∙ ready.new_is_ready known callee args) (ap kind_count is ∙ source.new_counted callee args) (ap price_at is ∙ room.new_priced callee args)
    (ap own_spans_at is ∙ spanned.new_spanned callee args) (ap names_at is ∙ naming.new_named callee args) h
