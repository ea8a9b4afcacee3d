-- Chunks of a script of data: a literal with its prefix, and any other.
use Rattle.std.proofs.Common.{◌≡◌, ◌≤◌, ◌<◌, ℕ, Bool, true, false, List, [], ◌∷◌, ◌++◌, length, Result, Ok, Err, refl, sym, ap, ◌∙◌, subst, arith, append_assoc}
use Rattle.std.specs.Prelude.{Option, Some, None, nat_le, nat_lt, if◌then◌else◌}
use Rattle.std.proofs.lemmas.Bool.Decides.{nat_tests}
use Rattle.cash_base.specs.declared.fault.Cause.TheVariants.{Oversize}
use Rattle.cash_base.specs.declared.element.TheConstants.{MAX_ELEMENT_LEN}
use Rattle.cash_base.specs.declared.place.Span.{Span}
use Rattle.cash_base.specs.declared.place.Slot.{Slot}
use Rattle.cash_base.specs.Failing.{◌>>=◌}
use Rattle.element_ops.specs.declared.op.Op2.TheVariants.{Cat}
use Rattle.element_ops.specs.Operation.{result2}
use Rattle.tx_context.specs.World.{World}
use Rattle.tx_context.specs.Lookup.{sized}
use Rattle.cash_tree.specs.declared.Ty.{Ty}
use Rattle.cash_tree.specs.declared.ExprKind.{ExprKind}
use Rattle.cash_tree.specs.declared.ExprKind.TheVariants as exprs
use Rattle.type_tables.specs.declared.rules.CastEffect.{CastEffect}
use Rattle.type_tables.specs.declared.rules.CastEffect.TheVariants as effects
use Rattle.type_tables.specs.Tables.{TypedExpr, cast_effect}
use Rattle.form_tables.specs.Forms.{cast_result, pushed_chunk}
use Rattle.source_meaning.specs.declared.outcome.Failure.{Failure}
use Rattle.source_meaning.specs.Meaning.{Env, applied, appended, at_span, element, kind_gives, value_of}
use Rattle.source_meaning.specs.Runnable.{kind_count}
use Rattle.source_meaning.proofs.Steps as source
use Rattle.slot_code.specs.declared.slots.SlotInstr.{SlotInstr}
use Rattle.slot_code.specs.declared.slots.SlotKind.TheVariants as kinds
use Rattle.slot_code.proofs.Steps as steps
use Rattle.slot_expressions.specs.Ready.{Known-names, any_name, is_element, is_ready, is_ready_kind, Ready}
use Rattle.slot_expressions.specs.Room.{price, ◌⊕◌, one, push_of, other_chunk, chunk_price, cast_spelled, as_chunk, priced, price_of, spelled, spelled_at}
use Rattle.slot_expressions.specs.Rows.{lit}
use Rattle.slot_expressions.specs.Spans.{own_spans}
use Rattle.slot_expressions.specs.Reads.{names_at}
use Rattle.slot_expressions.proofs.NameSteps as naming
use Rattle.slot_expressions.proofs.ReadRows as read
use Rattle.slot_expressions.specs.Pieces.{Gives, Code, LowersElement, LowersChunk, IsSpelled, IsChunk, OtherChunk, keeps, leaves, instruction}
use Rattle.slot_expressions.proofs.ReadySteps as ready
use Rattle.slot_expressions.proofs.RoomSteps as room
use Rattle.slot_expressions.proofs.Spanning.{Covers, covers_as, covers_first, covers_rest, spanned_in, spanned_both, spanned_row}
use Rattle.slot_expressions.proofs.Lights.{under, light_as, light_row, light_then, lit_weighs}
use Rattle.slot_expressions.proofs.Standing.{if_true, le_true}
use Rattle.slot_expressions.proofs.Tests.{and_left, and_intro}
use Rattle.slot_expressions.proofs.Single.{code_op2, code_of, code_as, code_most, code_ready, code_put, grown1}
use Rattle.slot_expressions.proofs.Acts.{do2_acts, chunk_acts}
use Rattle.slot_expressions.proofs.Readies.{whole_readies}
use Rattle.slot_expressions.proofs.Lowered.{bytes_acts, bytes_stand, after}

-- ---- literals

sized_fits : (bytes : List ℕ) → is_element bytes ≡ true → sized bytes ≡ Ok bytes
sized_fits bytes fits =
    let short : nat_lt MAX_ELEMENT_LEN (length bytes) ≡ false = grind (arith, nat_tests, fits) in
    ap (λ b. if b then Err Oversize else Ok bytes) short

element_is : (world : World) (env : Env) (e : TypedExpr) (kind : ExprKind Slot Ty) → e.kind ≡ kind → element (value_of world env e) ≡ element (kind_gives world env kind e.span)
element_is world env e kind is = ap element (source.whole_given world env e ∙ ap (λ k. kind_gives world env k e.span) is)

hex_is_spelled : {e : TypedExpr} {bytes : List ℕ} → e.kind ≡ exprs.Hex bytes → Ready e → IsSpelled e bytes
hex_is_spelled {e} {bytes} is h =
    let fits : is_element bytes ≡ true = sym (ap (is_ready_kind any_name) is ∙ ready.hex_is_ready any_name bytes) ∙ (whole_readies h).is in record {
      is = room.whole_spelled e ∙ ap spelled_at is ∙ room.hex_spelled bytes;
      gives = λ world env. element_is world env e (exprs.Hex bytes) is ∙ ap element (source.hex_gives world env bytes e.span) ∙ ap (λ o. element (applied e.span o)) (sized_fits bytes fits);
      some = omega (arith, source.whole_counted e, ap kind_count is, source.hex_counted bytes);
      unread = naming.whole_named e ∙ ap names_at is ∙ naming.hex_named bytes;
    }

pub spelled_hex : {e : TypedExpr} {bytes out : List ℕ} → e.kind ≡ exprs.Hex bytes → out ≡ bytes → Ready e → IsSpelled e out
spelled_hex {e} {bytes} {out} is same h = subst (IsSpelled e) (sym same) (hex_is_spelled is h)

text_is_spelled : {e : TypedExpr} {bytes : List ℕ} → e.kind ≡ exprs.Text bytes → Ready e → IsSpelled e bytes
text_is_spelled {e} {bytes} is h =
    let fits : is_element bytes ≡ true = sym (ap (is_ready_kind any_name) is ∙ ready.text_is_ready any_name bytes) ∙ (whole_readies h).is in record {
      is = room.whole_spelled e ∙ ap spelled_at is ∙ room.text_spelled bytes;
      gives = λ world env. element_is world env e (exprs.Text bytes) is ∙ ap element (source.text_gives world env bytes e.span) ∙ ap (λ o. element (applied e.span o)) (sized_fits bytes fits);
      some = omega (arith, source.whole_counted e, ap kind_count is, source.text_counted bytes);
      unread = naming.whole_named e ∙ ap names_at is ∙ naming.text_named bytes;
    }

pub spelled_text : {e : TypedExpr} {bytes out : List ℕ} → e.kind ≡ exprs.Text bytes → out ≡ bytes → Ready e → IsSpelled e out
spelled_text {e} {bytes} {out} is same h = subst (IsSpelled e) (sym same) (text_is_spelled is h)

keeps_only : (effect : Option CastEffect) → keeps effect ≡ true → effect ≡ Some effects.Keep
keeps_only (Some effects.Keep) is = refl
keeps_only (Some effects.NonZero) is = absurd cc
keeps_only (Some (effects.Pad n)) is = absurd cc
keeps_only (Some effects.ToNumber) is = absurd cc
keeps_only (Some effects.PadToSize) is = absurd cc
keeps_only None is = absurd cc

changes : (effect : Option CastEffect) (bytes : Option (List ℕ)) → keeps effect ≡ false → cast_spelled effect bytes ≡ None
changes (Some effects.Keep) bytes is = absurd cc
changes (Some effects.NonZero) bytes is = refl
changes (Some (effects.Pad n)) bytes is = refl
changes (Some effects.ToNumber) bytes is = refl
changes (Some effects.PadToSize) bytes is = refl
changes None bytes is = refl

left_so : (r : Result (List ℕ) Failure) (span : Span) (bytes : List ℕ) → r ≡ Ok bytes → element (r >>= λ x. applied span (Ok x)) ≡ Ok bytes
left_so r span bytes is = ap (λ (s : Result (List ℕ) Failure). element (s >>= λ x. applied span (Ok x))) is

kept_cast : {e a : TypedExpr} {to : Ty} (size : Option TypedExpr) {bytes : List ℕ} → e.kind ≡ exprs.Cast to a size → leaves (cast_effect to a.ty) size ≡ true → IsSpelled a bytes → IsSpelled e bytes
kept_cast {e} {a} {to} (Some b) {bytes} is kept h = absurd cc
kept_cast {e} {a} {to} None {bytes} is kept h =
    let keep : cast_effect to a.ty ≡ Some effects.Keep = keeps_only (cast_effect to a.ty) kept in record {
      is = room.whole_spelled e ∙ ap spelled_at is ∙ room.cast_spelled to a ∙ ap (λ o. cast_spelled o (spelled a)) keep ∙ h.is;
      gives = λ world env. element_is world env e (exprs.Cast to a None) is ∙ ap element (source.cast_gives world env to a e.span)
          ∙ ap (λ o. element (element (value_of world env a) >>= λ x. applied e.span (cast_result o x))) keep
          ∙ left_so (element (value_of world env a)) e.span bytes (h.gives world env);
      some = omega (arith, source.whole_counted e, ap kind_count is, source.cast_counted to a);
      unread = naming.whole_named e ∙ ap names_at is ∙ naming.cast_named to a ∙ h.unread;
    }

pub spelled_cast : {e : TypedExpr} (a : TypedExpr) {x : TypedExpr} {to : Ty} (size : Option TypedExpr) {bytes : List ℕ} → e.kind ≡ exprs.Cast to a size → x ≡ a
    → leaves (cast_effect to x.ty) size ≡ true → IsSpelled x bytes → IsSpelled e bytes
spelled_cast {e} a {x} {to} size {bytes} is same kept h = kept_cast size (is ∙ ap (λ y. exprs.Cast to y size) (sym same)) kept h

-- a cast with an operation
pub changed_cast : (e a : TypedExpr) {to : Ty} (size : Option TypedExpr) → e.kind ≡ exprs.Cast to a size → leaves (cast_effect to a.ty) size ≡ false → spelled e ≡ None
changed_cast e a {to} (Some b) is kept = room.whole_spelled e ∙ ap spelled_at is ∙ room.sized_cast_spelled to a b
changed_cast e a {to} None is kept = room.whole_spelled e ∙ ap spelled_at is ∙ room.cast_spelled to a ∙ changes (cast_effect to a.ty) (spelled a) kept

-- one of what is no literal
pub empty_cast : (e a : TypedExpr) {to : Ty} (size : Option TypedExpr) → e.kind ≡ exprs.Cast to a size → leaves (cast_effect to a.ty) size ≡ true → spelled a ≡ None → spelled e ≡ None
empty_cast e a {to} (Some b) is kept none_there = absurd cc
empty_cast e a {to} None is kept none_there =
    room.whole_spelled e ∙ ap spelled_at is ∙ room.cast_spelled to a ∙ ap (λ o. cast_spelled o (spelled a)) (keeps_only (cast_effect to a.ty) kept) ∙ none_there

pub plain_kind : (e : TypedExpr) → ((bytes : List ℕ) → e.kind ≡ exprs.Hex bytes → ⊥) → ((bytes : List ℕ) → e.kind ≡ exprs.Text bytes → ⊥)
    → ((to : Ty) (value : TypedExpr) (size : Option TypedExpr) → e.kind ≡ exprs.Cast to value size → ⊥) → spelled e ≡ None
plain_kind e no_hex no_text no_cast = room.whole_spelled e ∙ room.plain_spelled e.kind no_hex no_text no_cast

-- ---- short ones

pub no_literal : {e : TypedExpr} → spelled e ≡ None → OtherChunk e
no_literal {e} is = record { pays = ap (λ o. chunk_price o (price_of e)) is }

pub long_literal : {e : TypedExpr} {bytes : List ℕ} → IsSpelled e bytes → 517 < length bytes → OtherChunk e
long_literal {e} {bytes} h long =
    let test : nat_le (length bytes) 517 ≡ false = grind (arith, nat_tests, long) in
    record { pays = ap (λ o. chunk_price o (price_of e)) h.is ∙ ap (λ b. if b then push_of (pushed_chunk bytes) ⊕ one else other_chunk (price_of e)) test }

pub is_chunk : {e : TypedExpr} {bytes : List ℕ} → IsSpelled e bytes → length bytes ≤ 517 → IsChunk e bytes
is_chunk h fits = record { whole = h; fits = fits }

pub chunk_fits : {e : TypedExpr} {bytes : List ℕ} → IsChunk e bytes → length bytes ≤ 517
chunk_fits h = h.fits

-- ---- code

pub chunk_at : {a : List SlotInstr} (begun rows : List SlotInstr) {checking : Span} {v : Gives} {ready : Known-names → Bool} {most : ℕ} → a ≡ begun ++ rows → Code a checking v ready most → Code (begun ++ rows) checking v ready most
chunk_at {a} begun rows {checking} {v} {ready} {most} is h = subst (λ l. Code l checking v ready most) is h

-- any chunk is put, and appended
pub lowers_chunk : {old mid new : List SlotInstr} {checking span : Span} {e : TypedExpr} → OtherChunk e → LowersElement old mid checking e
    → new ≡ mid ++ instruction kinds.Chunk span checking ∷ [] → LowersChunk old new checking span e
lowers_chunk {old} {mid} {new} {checking} {span} {e} other h grown =
    let i = instruction kinds.Chunk span checking in record {
      rows = h.rows ++ i ∷ [];
      grown = grown1 old h.rows (i ∷ []) h.grown grown;
      code = λ begun v own most c. chunk_at begun (h.rows ++ i ∷ []) (append_assoc begun h.rows (i ∷ []))
          (code_op2 kinds.Chunk span (λ world x y. at_span span (result2 Cat x (pushed_chunk y))) (chunk_acts span checking) steps.chunk_stands c (code_of h));
      light = light_as (after _ _ other.pays) (light_then kinds.Chunk span checking (price 40 26) steps.chunk_weighs h.light);
      spans =
          let covers : Covers (span ∷ own_spans e) (span ∷ own_spans e) = covers_as refl in
          spanned_both (spanned_in (covers_rest covers) h.spans) (spanned_row kinds.Chunk span checking steps.chunk_spans (covers_first covers));
      gets = read.gets_then kinds.Chunk span read.chunk_gets h.gets;
    }

chunk_same : (r s : Result (List ℕ) Failure) (span : Span) (bytes : List ℕ) → s ≡ Ok bytes
    → (r >>= λ x. Ok (pushed_chunk bytes) >>= λ y. at_span span (result2 Cat x y)) ≡ (r >>= λ x. s >>= λ chunk. appended span x (pushed_chunk chunk))
chunk_same (Ok x) s span bytes is = sym (ap (λ (t : Result (List ℕ) Failure). t >>= λ chunk. appended span x (pushed_chunk chunk)) is)
chunk_same (Err e) s span bytes is = refl

-- a literal is put with its prefix
pub lowers_spelled : {old mid new : List SlotInstr} {checking span : Span} {e : TypedExpr} {bytes : List ℕ} → IsChunk e bytes
    → mid ≡ old ++ instruction (lit (pushed_chunk bytes)) span checking ∷ [] → new ≡ mid ++ instruction (kinds.Do2 Cat) span checking ∷ [] → LowersChunk old new checking span e
lowers_spelled {old} {mid} {new} {checking} {span} {e} {bytes} h first second =
    let pushed = pushed_chunk bytes in
    let f = instruction (lit pushed) span checking ∷ [] in
    let i = instruction (kinds.Do2 Cat) span checking in
    let put = code_put checking (λ world env. Ok pushed) (lit pushed) span (Some pushed) (bytes_acts pushed span checking) (bytes_stand pushed) in
    let pays : as_chunk (priced e) ≡ push_of pushed ⊕ one =
    ap (λ o. chunk_price o (price_of e)) h.whole.is ∙ if_true (nat_le (length bytes) 517) (push_of pushed ⊕ one) (other_chunk (price_of e)) (le_true (length bytes) 517 h.fits) in record {
      rows = f ++ i ∷ [];
      grown = grown1 old f (i ∷ []) first second;
      code = λ begun v own most c. chunk_at begun (f ++ i ∷ []) (append_assoc begun f (i ∷ []))
          (code_most (omega (arith, h.whole.some)) (code_ready (λ known r. and_intro (own known) true (and_left (own known) (is_ready known e) r) refl)
          (code_as (λ world env. chunk_same (v world env) (element (value_of world env e)) span bytes (h.whole.gives world env))
          (code_op2 (kinds.Do2 Cat) span (λ world x y. at_span span (result2 Cat x y)) (do2_acts Cat span checking) (steps.do2_stands Cat) c put))));
      light = light_as (under pays) (light_then (kinds.Do2 Cat) span checking one (steps.do2_weighs Cat) (light_row (lit pushed) span checking (push_of pushed) (lit_weighs pushed)));
      spans =
          let covers : Covers (span ∷ own_spans e) (span ∷ own_spans e) = covers_as refl in
          spanned_both (spanned_row (lit pushed) span checking (steps.lit_spans (record { items = pushed })) (covers_first covers)) (spanned_row (kinds.Do2 Cat) span checking (steps.do2_spans Cat) (covers_first covers));
      gets = read.gets_as h.whole.unread (read.gets_then (kinds.Do2 Cat) span (read.do2_gets Cat) (read.gets_row (lit pushed) span checking (read.lit_gets (record { items = pushed }))));
    }
