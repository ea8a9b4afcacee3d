-- Arrays: expressions one after the other, the check of several signatures, and scripts of data.
use Rattle.std.proofs.Common.{◌≡◌, ◌≤◌, ◌<◌, ℕ, suc, ◌+◌, ◌*◌, Bool, true, false, get_or, List, [], ◌∷◌, ◌++◌, length, map, drop, take, pos, Result, Ok, Err, refl, sym, ap, ◌∙◌, subst, arith, append_assoc}
use Rattle.std.specs.Prelude.{◌&&◌, nat_le, Some, None, if◌then◌else◌, reverse, slice_get, option_and_then}
use Rattle.std.specs.Str.{bytes_eq}
use Rattle.std.proofs.lemmas.List.{append-nil, reverse-append, reverse-reverse, length-reverse, length-append, length-map, take_at, drop_at, at_drop_more, drop_all}
use Rattle.std.proofs.lemmas.Option.{slice_get-get_or}
use Rattle.std.proofs.Math.Seq.{get_or-append_seam}
use Rattle.std.proofs.lemmas.Slice.Eq.{bytes_eq-Decides}
use Rattle.cash_base.specs.declared.fault.Cause.TheVariants.{CheckFailed}
use Rattle.cash_base.specs.declared.place.Span.{Span}
use Rattle.cash_base.specs.declared.place.Slot.{Slot}
use Rattle.cash_base.specs.Failing.{◌>>=◌}
use Rattle.cash_base.specs.Number.{minimal_bytes}
use Rattle.element_ops.specs.declared.op.Op2.TheVariants.{Cat}
use Rattle.element_ops.specs.Operation.{result2}
use Rattle.tx_context.specs.World.{World}
use Rattle.tx_context.specs.Verdict.{multi_verdict}
use Rattle.cash_tree.specs.declared.Ty.{Ty}
use Rattle.cash_tree.specs.declared.ExprKind.{ExprKind}
use Rattle.cash_tree.specs.declared.ExprKind.TheVariants as exprs
use Rattle.cash_tree.specs.Nodes.{joined}
use Rattle.type_tables.specs.Tables.{TypedExpr}
use Rattle.form_tables.specs.declared.forms.CallForm.TheVariants as forms
use Rattle.form_tables.specs.Forms.{data_front, pushed_chunk, verdict_result}
use Rattle.source_meaning.specs.declared.outcome.Failure.{Failure}
use Rattle.source_meaning.specs.Meaning.{Env, Value, One as GivenOne, at_span, element, elements, appended, checked_multi, with_chunks, form_value, node_of, items_of, kind_lists, value_of}
use Rattle.source_meaning.specs.Runnable.{all_of, node_count, kind_count}
use Rattle.source_meaning.proofs.Steps as source
use Rattle.slot_code.specs.declared.slots.SlotInstr.{SlotInstr}
use Rattle.slot_code.specs.declared.slots.SlotKind.TheVariants as kinds
use Rattle.slot_code.specs.Meaning.{State, state, act_of, run_of, gives, stuck, checks_many, sigs_on, keys_on}
use Rattle.slot_code.specs.Shape.{Operand, Place, with_operands, works_on, all_shapes, shapes_of, value as work, number, has_literal, is_element, counts_fit, checks_many as shape_many}
use Rattle.slot_code.proofs.Steps as steps
use Rattle.slot_expressions.specs.Ready.{Known-names, any_name, is_ready, ready_items, ready_items_kind, ready_node, form_ready, counts_fit as fit, Ready, ReadyAll, ReadyForm}
use Rattle.slot_expressions.specs.Room.{price, ◌⊕◌, sum, push_of, as_chunk, form_price, priced, price_of, price_at, chunks_of, chunks_at}
use Rattle.slot_expressions.specs.Rows.{lit}
use Rattle.slot_expressions.specs.Spans.{SpannedBy, own_spans, own_spans_at}
use Rattle.slot_expressions.specs.Reads.{Gets, names_in, item_names}
use Rattle.slot_expressions.proofs.NameSteps as naming
use Rattle.slot_expressions.proofs.ReadRows as read
use Rattle.slot_expressions.specs.Pieces.{Gives, Code, Stands, LowersElement, LowersAll, LowersItems, LowersChunk, LowersChunks, LowersArray, LowersForm, LeftAll, LeftChunks, instruction, in_scope}
use Rattle.slot_expressions.proofs.ReadySteps as ready
use Rattle.slot_expressions.proofs.RoomSteps as room
use Rattle.slot_expressions.proofs.SpanSteps as spanned
use Rattle.slot_expressions.proofs.Spanning.{Covers, covers_as, covers_then, covers_cons, covers_first, covers_rest, covers_left, covers_right, spanned_none, spanned_in, spanned_both, spanned_sum, spanned_row}
use Rattle.slot_expressions.proofs.Lights.{Under, under, light_as, light_none, light_both, light_row, light_then, lit_weighs, count_push}
use Rattle.slot_expressions.proofs.Readies.{sigs_fit, few_keys, few_sigs}
use Rattle.slot_expressions.proofs.Puts.{bind_bind, bind_two, put_one, run_append, run_one, puts_as, puts_both}
use Rattle.slot_expressions.proofs.Standing.{if_true, le_true, shape_append, row_shape, stands_both, stands_most, stands_put, begins_more}
use Rattle.slot_expressions.proofs.Tests.{and_left, and_right, and_intro}
use Rattle.slot_expressions.proofs.Single.{code_as, code_most, code_ready, code_put, lowers, grown1, grown2}
use Rattle.slot_expressions.proofs.Acts.{row_done}
use Rattle.slot_expressions.proofs.Lowered.{bytes_acts, bytes_stand}
use Rattle.slot_expressions.proofs.Chunks.{chunk_at}

-- ---- one after the other

pub all_none : (code : List SlotInstr) (checking : Span) → LowersAll code code checking []
all_none code checking = record {
  rows = [];
  grown = sym (append-nil code);
  puts = record { runs = λ world s. refl };
  tops = [];
  count = refl;
  stands = λ slots is. record { fits = omega arith; stands = λ p in_slots seen room. refl };
  light = light_none;
  spans = spanned_none;
  gets = read.gets_none;
}

more_put : (r : Result (List ℕ) Failure) (more : Result (List (List ℕ)) Failure)
    → ((r >>= λ e. Ok (e ∷ [])) >>= λ es. (more >>= λ xs. Ok (reverse xs)) >>= λ fs. Ok (fs ++ es))
    ≡ ((r >>= λ e. more >>= λ es. Ok (e ∷ es)) >>= λ es. Ok (reverse es))
more_put (Ok e) (Ok es) = ap Ok (sym (reverse-append (e ∷ []) es))
more_put (Ok e) (Err f) = refl
more_put (Err f) more = refl

pub all_more : {old mid new : List SlotInstr} {checking : Span} {e : TypedExpr} {parts : List TypedExpr} → LowersElement old mid checking e → LowersAll mid new checking parts → LowersAll old new checking (e ∷ parts)
all_more {old} {mid} {new} {checking} {e} {parts} h t = record {
  rows = h.rows ++ t.rows;
  grown = grown1 old h.rows t.rows h.grown t.grown;
  puts = puts_as (puts_both h.puts t.puts) (λ world env. more_put (element (value_of world env e)) (elements (map (value_of world env) parts)));
  tops = t.tops ++ h.top ∷ [];
  count = omega (arith, length-append t.tops (h.top ∷ []), t.count);
  stands = λ slots is. stands_most (omega arith)
      (stands_both (h.stands slots (and_left (is_ready (in_scope slots) e) (all_of (map (is_ready (in_scope slots)) parts)) is))
      (t.stands slots (and_right (is_ready (in_scope slots) e) (all_of (map (is_ready (in_scope slots)) parts)) is)));
  light = light_both h.light t.light;
  spans = spanned_sum h.spans t.spans;
  gets = read.gets_both h.gets t.gets;
}

next_item : (parts : List TypedExpr) (x : TypedExpr) (i : ℕ) → i < length parts → x ≡ get_or parts i x → drop i parts ≡ x ∷ drop (i + 1) parts
next_item parts x i within is = at_drop_more (λ l. l) parts i x within ∙ ap (λ y. y ∷ drop (i + 1) parts) (sym is)

ready_first : (x : TypedExpr) (more : List TypedExpr) → ReadyAll (x ∷ more) → Ready x
ready_first x more h = record { is = and_left (is_ready any_name x) (all_of (map (is_ready any_name) more)) h.is }

ready_rest : (x : TypedExpr) (more : List TypedExpr) → ReadyAll (x ∷ more) → ReadyAll more
ready_rest x more h = record { is = and_right (is_ready any_name x) (all_of (map (is_ready any_name) more)) h.is }

pub left_all_none : (code : List SlotInstr) (checking : Span) (parts : List TypedExpr) → ReadyAll parts → LeftAll code code checking parts 0
left_all_none code checking parts ready = record { ready = ready; by = λ final h. h }

pub left_all_item : (old now : List SlotInstr) (checking : Span) (parts : List TypedExpr) (x : TypedExpr) (i : ℕ) → LeftAll old now checking parts i → i < length parts → x ≡ get_or parts i x → Ready x
left_all_item old now checking parts x i h within is = ready_first x (drop (i + 1) parts) (subst ReadyAll (next_item parts x i within is) h.ready)

pub left_all_more : (old now next : List SlotInstr) (checking : Span) (parts : List TypedExpr) (x : TypedExpr) (i : ℕ) → LeftAll old now checking parts i → i < length parts → x ≡ get_or parts i x
    → LowersElement now next checking x → LeftAll old next checking parts (i + 1)
left_all_more old now next checking parts x i h within is e = record {
  ready = ready_rest x (drop (i + 1) parts) (subst ReadyAll (next_item parts x i within is) h.ready);
  by = λ final t. h.by final (subst (LowersAll now final checking) (sym (next_item parts x i within is)) (all_more e t));
}

pub left_all_done : (old now : List SlotInstr) (checking : Span) (parts : List TypedExpr) (i : ℕ) → LeftAll old now checking parts i → length parts ≤ i → LowersAll old now checking parts
left_all_done old now checking parts i h over = h.by now (subst (LowersAll now now checking) (sym (drop_all i parts over)) (all_none now checking))

pub lowers_items : {old new : List SlotInstr} {checking : Span} {e : TypedExpr} {items : List TypedExpr} → e.kind ≡ exprs.Array items → LowersAll old new checking items
    → LowersItems old new checking e (length items)
lowers_items {old} {new} {checking} {e} {items} is h =
    let listed : (world : World) (env : Env) → items_of world env e ≡ map (value_of world env) items =
    λ world env. source.whole_listed world env e ∙ ap (kind_lists world env) is ∙ source.array_listed world env items in
    let tested : (known : Known-names) → ready_items known e ≡ map (is_ready known) items =
    λ known. ready.whole_items known e ∙ ap (ready_items_kind known) is ∙ ready.array_items known items in record {
      rows = h.rows;
      grown = h.grown;
      puts = puts_as h.puts (λ world env. ap (λ vs. elements vs >>= λ es. Ok (reverse es)) (sym (listed world env)));
      values = λ world env. ap length (listed world env) ∙ length-map items (value_of world env);
      readies = λ known. ap length (tested known) ∙ length-map items (is_ready known);
      tops = h.tops;
      count_is = h.count;
      stands = λ slots r. stands_most (omega (arith, source.whole_counted e, ap kind_count is, source.array_counted items)) (h.stands slots (sym (ap all_of (tested (in_scope slots))) ∙ r));
      light = light_as (under (room.whole_priced e ∙ ap price_at is ∙ room.array_priced items)) h.light;
      chunks = ap length (room.whole_chunks e ∙ ap chunks_at is ∙ room.array_chunks items) ∙ length-map items (λ (part : TypedExpr). as_chunk (priced part));
      spans = spanned_in (covers_rest (covers_as (spanned.whole_spanned e ∙ ap (λ l. e.span ∷ l) (ap own_spans_at is ∙ spanned.array_spanned items)))) h.spans;
      gets = read.gets_as (naming.array_named e items is) h.gets;
    }

-- ---- scripts of data

pub chunks_none : (code : List SlotInstr) (checking span : Span) → LowersChunks code code checking span []
chunks_none code checking span = record {
  rows = [];
  grown = sym (append-nil code);
  code = λ begun v own most h.
      subst (λ l. Code l checking (λ world env. v world env >>= λ so_far. Ok so_far) (λ known. own known && true) (most + 4 * 0)) (sym (append-nil begun))
      (code_most (omega arith) (code_ready (λ known r. and_left (own known) true r) (code_as (λ world env. same (v world env)) h)));
  light = light_none;
  spans = spanned_none;
  gets = read.gets_none;
}
  where
    same : (r : Result (List ℕ) Failure) → r ≡ (r >>= λ x. Ok x)
    same (Ok x) = refl
    same (Err e) = refl

more_chunk : (r : Result (List ℕ) Failure) (value : Value) (values : List Value) (span : Span)
    → ((r >>= λ x. element value >>= λ y. at_span span (result2 Cat x (pushed_chunk y))) >>= λ so_far. with_chunks span so_far values)
    ≡ (r >>= λ so_far. with_chunks span so_far (value ∷ values))
more_chunk (Ok x) value values span = sym (bind_bind (element value) (λ y. at_span span (result2 Cat x (pushed_chunk y))) (λ so_far. with_chunks span so_far values))
more_chunk (Err e) value values span = refl

and_assoc : (a b c : Bool) → (a && (b && c)) ≡ true → ((a && b) && c) ≡ true
and_assoc true b c is = is
and_assoc false b c is = absurd cc

pub chunks_more : {old mid new : List SlotInstr} {checking span : Span} {e : TypedExpr} {parts : List TypedExpr} → LowersChunk old mid checking span e
    → LowersChunks mid new checking span parts → LowersChunks old new checking span (e ∷ parts)
chunks_more {old} {mid} {new} {checking} {span} {e} {parts} h t = record {
  rows = h.rows ++ t.rows;
  grown = grown1 old h.rows t.rows h.grown t.grown;
  code = λ begun v own most c.
      let more = t.code (begun ++ h.rows) (λ world env. v world env >>= λ x. element (value_of world env e) >>= λ y. appended span x (pushed_chunk y))
      (λ known. own known && is_ready known e) (most + 4 * node_count e) (h.code begun v own most c) in
      chunk_at begun (h.rows ++ t.rows) (append_assoc begun h.rows t.rows)
      (code_most (omega arith) (code_ready (λ known r. and_assoc (own known) (is_ready known e) (all_of (map (is_ready known) parts)) r)
      (code_as (λ world env. more_chunk (v world env) (value_of world env e) (map (value_of world env) parts) span) more)));
  light = light_both h.light t.light;
  spans =
      let covers : Covers (span ∷ (own_spans e ++ joined (map own_spans parts))) (span ∷ (own_spans e ++ joined (map own_spans parts))) = covers_as refl in
      spanned_both (spanned_in (covers_cons (covers_first covers) (covers_left (own_spans e) (joined (map own_spans parts)) (covers_rest covers))) h.spans)
      (spanned_in (covers_cons (covers_first covers) (covers_right (own_spans e) (joined (map own_spans parts)) (covers_rest covers))) t.spans);
  gets = read.gets_both h.gets t.gets;
}

pub left_chunks_none : (code : List SlotInstr) (checking span : Span) (parts : List TypedExpr) → ReadyAll parts → LeftChunks code code checking span parts 0
left_chunks_none code checking span parts ready = record { ready = ready; by = λ final h. h }

pub left_chunks_item : (old now : List SlotInstr) (checking span : Span) (parts : List TypedExpr) (x : TypedExpr) (i : ℕ) → LeftChunks old now checking span parts i → i < length parts → x ≡ get_or parts i x → Ready x
left_chunks_item old now checking span parts x i h within is = ready_first x (drop (i + 1) parts) (subst ReadyAll (next_item parts x i within is) h.ready)

pub left_chunks_more : (old now next : List SlotInstr) (checking span : Span) (parts : List TypedExpr) (x : TypedExpr) (i : ℕ) → LeftChunks old now checking span parts i → i < length parts → x ≡ get_or parts i x
    → LowersChunk now next checking span x → LeftChunks old next checking span parts (i + 1)
left_chunks_more old now next checking span parts x i h within is e = record {
  ready = ready_rest x (drop (i + 1) parts) (subst ReadyAll (next_item parts x i within is) h.ready);
  by = λ final t. h.by final (subst (LowersChunks now final checking span) (sym (next_item parts x i within is)) (chunks_more e t));
}

pub left_chunks_done : (old now : List SlotInstr) (checking span : Span) (parts : List TypedExpr) (i : ℕ) → LeftChunks old now checking span parts i → length parts ≤ i → LowersChunks old now checking span parts
left_chunks_done old now checking span parts i h over = h.by now (subst (LowersChunks now now checking span) (sym (drop_all i parts over)) (chunks_none now checking span))

pub lowers_array : {old new : List SlotInstr} {checking span : Span} {e : TypedExpr} {items : List TypedExpr} → e.kind ≡ exprs.Array items → LowersChunks old new checking span items
    → LowersArray old new checking span e
lowers_array {old} {new} {checking} {span} {e} {items} is h =
    let listed : (world : World) (env : Env) → items_of world env e ≡ map (value_of world env) items =
    λ world env. source.whole_listed world env e ∙ ap (kind_lists world env) is ∙ source.array_listed world env items in
    let tested : (known : Known-names) → ready_items known e ≡ map (is_ready known) items =
    λ known. ready.whole_items known e ∙ ap (ready_items_kind known) is ∙ ready.array_items known items in record {
      rows = h.rows;
      grown = h.grown;
      code = λ begun v own most c.
          code_most (omega (arith, source.whole_counted e, ap kind_count is, source.array_counted items))
          (code_ready (λ known r. and_as (own known) (all_of (ready_items known e)) (all_of (map (is_ready known) items)) (ap all_of (tested known)) r)
          (code_as (λ world env. ap (λ vs. v world env >>= λ so_far. with_chunks span so_far vs) (sym (listed world env))) (h.code begun v own most c)));
      light = light_as (under (ap sum (room.whole_chunks e ∙ ap chunks_at is ∙ room.array_chunks items))) h.light;
      spans =
          let covers : Covers (span ∷ own_spans e) (span ∷ own_spans e) = covers_as refl in
          let listed = covers_rest (covers_as (spanned.whole_spanned e ∙ ap (λ l. e.span ∷ l) (ap own_spans_at is ∙ spanned.array_spanned items))) in
          spanned_in (covers_cons (covers_first covers) (covers_then (covers_rest covers) listed)) h.spans;
      gets = read.gets_as (naming.array_named e items is) h.gets;
    }
  where
    and_as : (a b c : Bool) → b ≡ c → (a && b) ≡ true → (a && c) ≡ true
    and_as a b c same is = ap (λ t. a && t) (sym same) ∙ is

no_kind_items : (kind : ExprKind Slot Ty) → ((items : List TypedExpr) → kind ≡ exprs.Array items → ⊥) → (known : Known-names) → ready_items_kind known kind ≡ []
no_kind_items kind other known = ready.no_array_items known kind other

pub no_items : {code : List SlotInstr} {checking : Span} {e : TypedExpr} → ((items : List TypedExpr) → e.kind ≡ exprs.Array items → ⊥) → LowersItems code code checking e 0
unfolding all_none
no_items {code} {checking} {e} other =
    let listed : (world : World) (env : Env) → items_of world env e ≡ [] = λ world env. source.whole_listed world env e ∙ source.no_array_listed world env e.kind other in record {
      rows = [];
      grown = sym (append-nil code);
      puts = puts_as (all_none code checking).puts (λ world env. ap (λ vs. elements vs >>= λ es. Ok (reverse es)) (sym (listed world env)));
      values = λ world env. ap length (listed world env);
      readies = λ known. ap length (ready.whole_items known e ∙ no_kind_items e.kind other known);
      tops = [];
      count_is = refl;
      stands = λ slots r. record { fits = omega arith; stands = λ p in_slots seen room. refl };
      light = light_none;
      chunks = ap length (room.whole_chunks e ∙ room.no_array_chunks e.kind other);
      spans = spanned_none;
      gets = read.gets_as (naming.no_array_named e other) read.gets_none;
    }

pub no_chunks : {code : List SlotInstr} {checking span : Span} {e : TypedExpr} → ((items : List TypedExpr) → e.kind ≡ exprs.Array items → ⊥) → LowersArray code code checking span e
unfolding chunks_none
no_chunks {code} {checking} {span} {e} other =
    let listed : (world : World) (env : Env) → items_of world env e ≡ [] = λ world env. source.whole_listed world env e ∙ source.no_array_listed world env e.kind other in
    let t = chunks_none code checking span in record {
      rows = [];
      grown = sym (append-nil code);
      code = λ begun v own most c.
          code_most (omega arith) (code_ready (λ known r. and_intro (own known) true (and_left (own known) (all_of (ready_items known e)) r) refl)
          (code_as (λ world env. ap (λ vs. v world env >>= λ so_far. with_chunks span so_far vs) (sym (listed world env))) (t.code begun v own most c)));
      light = light_none;
      spans = spanned_none;
      gets = read.gets_as (naming.no_array_named e other) read.gets_none;
    }

data_is : (r : Result (List ℕ) Failure) → (r >>= λ whole. Ok (GivenOne whole)) ≡ (r >>= λ e. Ok (GivenOne e))
data_is r = refl

form_data : {old begun new : List SlotInstr} {checking span : Span} {a : TypedExpr} → begun ≡ old ++ instruction (lit data_front) span checking ∷ []
    → LowersArray begun new checking span a → LowersForm old new checking span forms.HoldsData (a ∷ [])
form_data {old} {begun} {new} {checking} {span} {a} first h =
    let front = code_put checking (λ world env. Ok data_front) (lit data_front) span (Some data_front) (bytes_acts data_front span checking) (bytes_stand data_front) in record {
      lowered = lowers (λ world env. form_value world span forms.HoldsData (node_of world env a ∷ [])) (λ known. form_ready forms.HoldsData (ready_node known a ∷ [])) (node_count a + 0 + 1)
          (grown1 old (instruction (lit data_front) span checking ∷ []) h.rows first h.grown) (h.code (instruction (lit data_front) span checking ∷ []) (λ world env. Ok data_front) (λ known. true) 1 front)
          (λ world env. refl) (λ known r. r) (omega arith)
          (light_as data_price (light_both (light_row (lit data_front) span checking (push_of data_front) (lit_weighs data_front)) h.light))
          (let covers : Covers (span ∷ (own_spans a ++ [])) (span ∷ own_spans a) = covers_as (ap (λ l. span ∷ l) (append-nil (own_spans a))) in
          spanned_both (spanned_row (lit data_front) span checking (steps.lit_spans (record { items = data_front })) (covers_first covers)) (spanned_in covers h.spans))
          (read.gets_as (append-nil (item_names a)) (read.gets_both (read.gets_row (lit data_front) span checking (read.lit_gets (record { items = data_front }))) h.gets));
    }
  where
    data_price : Under (push_of data_front ⊕ sum (chunks_of a)) (form_price forms.HoldsData (priced a ∷ []))
    data_price = record { bytes = omega arith; ops = omega arith }

-- ---- the check of several signatures

bytes_same : (e : List ℕ) → bytes_eq e e ≡ true
bytes_same e = (bytes_eq-Decides e e).1 refl

count_step : (r : Result (List ℕ) Failure) (more : Result (List (List ℕ)) Failure) (values : List Value) (es : List (List ℕ))
    → ((xs : List (List ℕ)) → more ≡ Ok xs → length xs ≡ length values) → (r >>= λ x. more >>= λ xs. Ok (x ∷ xs)) ≡ Ok es → length es ≡ suc (length values)
count_step (Ok x) (Ok xs) values es rest is = let n = rest xs refl in let same : length es ≡ length (x ∷ xs) = cc in omega (arith, n, same)
count_step (Ok x) (Err f) values es rest is = absurd cc
count_step (Err f) more values es rest is = absurd cc

-- as many elements as values
elements_count : (values : List Value) (es : List (List ℕ)) → elements values ≡ Ok es → length es ≡ length values
elements_count [] es is = let same : length es ≡ length {A = List ℕ} [] = cc in same
elements_count (value ∷ values) es is = count_step (element value) (elements values) values es (λ xs. elements_count values xs) is

-- what stands on the operands at the check
abbrev checked_on : List ℕ → List ℕ → List (List ℕ) → List (List ℕ) → List (List ℕ)
checked_on mb nb ks ss = mb ∷ (reverse ks ++ (nb ∷ (reverse ss ++ ([] ∷ []))))

on_length : (mb nb : List ℕ) (ks ss : List (List ℕ)) → length (checked_on mb nb ks ss) ≡ length ss + length ks + 3
on_length mb nb ks ss = omega (arith, length-append (reverse ks) (nb ∷ (reverse ss ++ ([] ∷ []))), length-append (reverse ss) ([] ∷ []), length-reverse ks, length-reverse ss)

on_keys : (mb nb : List ℕ) (ks ss ops : List (List ℕ)) → keys_on (length ks) (checked_on mb nb ks ss ++ ops) ≡ ks
on_keys mb nb ks ss ops =
    ap (λ l. reverse (take (length ks) l)) (append_assoc (reverse ks) (nb ∷ (reverse ss ++ ([] ∷ []))) ops)
    ∙ ap reverse (take_at (reverse ks) ((nb ∷ (reverse ss ++ ([] ∷ []))) ++ ops) (length ks) (length-reverse ks)) ∙ reverse-reverse ks

on_sigs : (mb nb : List ℕ) (ks ss ops : List (List ℕ)) → sigs_on (length ss) (length ks) (checked_on mb nb ks ss ++ ops) ≡ ss
on_sigs mb nb ks ss ops =
    let front : List (List ℕ) = mb ∷ (reverse ks ++ nb ∷ []) in
    let back : List (List ℕ) = reverse ss ++ ([] ∷ ops) in
    let cut : checked_on mb nb ks ss ++ ops ≡ front ++ back =
    ap (λ l. mb ∷ l) (append_assoc (reverse ks) (nb ∷ (reverse ss ++ ([] ∷ []))) ops
    ∙ ap (λ l. reverse ks ++ (nb ∷ l)) (append_assoc (reverse ss) ([] ∷ []) ops)
    ∙ sym (append_assoc (reverse ks) (nb ∷ []) back)) in
    let count : length front ≡ length ks + 2 = omega (arith, length-append (reverse ks) (nb ∷ []), length-reverse ks) in
    ap (λ l. reverse (take (length ss) (drop (length ks + 2) l))) cut
    ∙ ap (λ l. reverse (take (length ss) l)) (drop_at front back (length ks + 2) count)
    ∙ ap reverse (take_at (reverse ss) ([] ∷ ops) (length ss) (length-reverse ss)) ∙ reverse-reverse ss

multi_done : (world : World) (span : Span) (mb nb : List ℕ) (ks ss ops : List (List ℕ)) (env : Env) → fit (length ss) (length ks) ≡ true
    → checks_many world span (length ss) (length ks) (checked_on mb nb ks ss ++ ops) env
    ≡ (at_span span (verdict_result (checked_multi world.verdicts ss ks)) >>= λ e. Ok (state (e ∷ ops) env))
multi_done world span mb nb ks ss ops env fits =
    let whole = checked_on mb nb ks ss in
    let enough : nat_le (length ss + length ks + 3) (length (whole ++ ops)) ≡ true =
    le_true (length ss + length ks + 3) (length (whole ++ ops)) (omega (arith, length-append whole ops, on_length mb nb ks ss)) in
    let rest : drop (length ss + length ks + 3) (whole ++ ops) ≡ ops = drop_at whole ops (length ss + length ks + 3) (on_length mb nb ks ss) in
    let same : checked_multi world.verdicts ss ks ≡ multi_verdict world.verdicts ss ks =
    if_true (fit (length ss) (length ks)) (multi_verdict world.verdicts ss ks) (Err CheckFailed) fits in
    ap (λ b. if b then gives span (verdict_result (multi_verdict world.verdicts (sigs_on (length ss) (length ks) (whole ++ ops)) (keys_on (length ks) (whole ++ ops)))) (drop (length ss + length ks + 3) (whole ++ ops)) env else stuck span) enough
    ∙ ap (λ l. gives span (verdict_result (multi_verdict world.verdicts l (keys_on (length ks) (whole ++ ops)))) (drop (length ss + length ks + 3) (whole ++ ops)) env) (on_sigs mb nb ks ss ops)
    ∙ ap (λ l. gives span (verdict_result (multi_verdict world.verdicts ss l)) (drop (length ss + length ks + 3) (whole ++ ops)) env) (on_keys mb nb ks ss ops)
    ∙ ap (λ l. gives span (verdict_result (multi_verdict world.verdicts ss ks)) l env) rest
    ∙ ap (λ v. gives span (verdict_result v) ops env) (sym same)

multi_step : (ra rb : Result (List (List ℕ)) Failure) (n m : ℕ) (nb mb : List ℕ) (i : SlotInstr) (world : World) (s : State) (span : Span)
    → ((es : List (List ℕ)) → ra ≡ Ok es → length es ≡ n) → ((es : List (List ℕ)) → rb ≡ Ok es → length es ≡ m) → fit n m ≡ true
    → ((ops : List (List ℕ)) → act_of world i (state ops s.env) ≡ checks_many world span n m ops s.env)
    → (((((((ra >>= λ es. Ok (reverse es)) >>= λ fs. Ok (fs ++ ([] ∷ []))) >>= λ es. Ok (nb ∷ es)) >>= λ es. (rb >>= λ es. Ok (reverse es)) >>= λ fs. Ok (fs ++ es)) >>= λ es. Ok (mb ∷ es)) >>= λ es. Ok (state (es ++ s.operands) s.env)) >>= run_of world (i ∷ []))
    ≡ (((ra >>= λ ss. rb >>= λ ks. at_span span (verdict_result (checked_multi world.verdicts ss ks))) >>= λ e. Ok (e ∷ [])) >>= λ es. Ok (state (es ++ s.operands) s.env))
multi_step (Ok ss) (Ok ks) n m nb mb i world s span an bm fits acts =
    let whole = checked_on mb nb ks ss in
    run_one world i (state (whole ++ s.operands) s.env) ∙ acts (whole ++ s.operands)
    ∙ ap (λ k. checks_many world span k m (whole ++ s.operands) s.env) (sym (an ss refl)) ∙ ap (λ k. checks_many world span (length ss) k (whole ++ s.operands) s.env) (sym (bm ks refl))
    ∙ multi_done world span mb nb ks ss s.operands s.env (ap (λ k. fit k (length ks)) (an ss refl) ∙ ap (fit n) (bm ks refl) ∙ fits)
    ∙ put_one (at_span span (verdict_result (checked_multi world.verdicts ss ks))) s
multi_step (Ok ss) (Err e) n m nb mb i world s span an bm fits acts = refl
multi_step (Err e) rb n m nb mb i world s span an bm fits acts = refl

-- a literal at its place among the operands
literal_at : (front : List Operand) (e : List ℕ) (back : List Operand) (n : ℕ) → length front ≡ n → has_literal n e (front ++ (Some e ∷ back)) ≡ true
literal_at front e back n count =
    let there : slice_get (front ++ (Some e ∷ back)) n ≡ Some (Some e) =
    ap (slice_get (front ++ (Some e ∷ back))) (sym count)
    ∙ slice_get-get_or (front ++ (Some e ∷ back)) (length front) None (omega (arith, length-append front (Some e ∷ back)))
    ∙ ap Some (get_or-append_seam front (Some e) back None) in
    ap (is_element e) there ∙ bytes_same e

many_stands : {checking : Span} {slots : List Slot} {a : List SlotInstr} {most : ℕ} (ta tb : List Operand) (n m : ℕ) (span : Span) → length ta ≡ n → length tb ≡ m → fit n m ≡ true
    → Stands a checking slots (Some (number m) ∷ (tb ++ (Some (number n) ∷ (ta ++ (Some [] ∷ []))))) most
    → Stands (a ++ instruction (kinds.CheckMulti n m) span checking ∷ []) checking slots (None ∷ []) most
many_stands {checking} {slots} {a} {most} ta tb n m span an bm fits h =
    let tops = Some (number m) ∷ (tb ++ (Some (number n) ∷ (ta ++ (Some [] ∷ [])))) in
    let i = instruction (kinds.CheckMulti n m) span checking in
    let size : length tops ≡ m + n + 3 = omega (arith, length-append tb (Some (number n) ∷ (ta ++ (Some [] ∷ []))), length-append ta (Some [] ∷ []), an, bm) in record {
      fits = omega (arith, h.fits, size);
      stands = λ p in_slots seen room.
          let mid : Place = with_operands (tops ++ p.operands) p in
          let first : has_literal 0 (number m) (tops ++ p.operands) ≡ true = literal_at [] (number m) ((tb ++ (Some (number n) ∷ (ta ++ (Some [] ∷ [])))) ++ p.operands) 0 refl in
          let second : has_literal (m + 1) (number n) (tops ++ p.operands) ≡ true =
          ap (λ l. has_literal (m + 1) (number n) (Some (number m) ∷ l)) (append_assoc tb (Some (number n) ∷ (ta ++ (Some [] ∷ []))) p.operands)
          ∙ literal_at (Some (number m) ∷ tb) (number n) ((ta ++ (Some [] ∷ [])) ++ p.operands) (m + 1) (omega (arith, bm)) in
          let front : List Operand = Some (number m) ∷ (tb ++ (Some (number n) ∷ ta)) in
          let third : has_literal (m + n + 2) [] (tops ++ p.operands) ≡ true =
          ap (λ l. has_literal (m + n + 2) [] (Some (number m) ∷ l))
          (append_assoc tb (Some (number n) ∷ (ta ++ (Some [] ∷ []))) p.operands ∙ ap (λ l. tb ++ (Some (number n) ∷ l)) (append_assoc ta (Some [] ∷ []) p.operands)
          ∙ sym (append_assoc tb (Some (number n) ∷ ta) (Some [] ∷ p.operands)))
          ∙ literal_at front [] p.operands (m + n + 2) (omega (arith, length-append tb (Some (number n) ∷ ta), an, bm)) in
          let counts : counts_fit n m (tops ++ p.operands) ≡ true =
          and_intro (nat_le m 20 && nat_le n m) (has_literal 0 (number m) (tops ++ p.operands) && (has_literal (m + 1) (number n) (tops ++ p.operands) && has_literal (m + n + 2) [] (tops ++ p.operands))) fits
          (and_intro (has_literal 0 (number m) (tops ++ p.operands)) (has_literal (m + 1) (number n) (tops ++ p.operands) && has_literal (m + n + 2) [] (tops ++ p.operands)) first
          (and_intro (has_literal (m + 1) (number n) (tops ++ p.operands)) (has_literal (m + n + 2) [] (tops ++ p.operands)) second third)) in
          let left : shape_many n m mid ≡ Some (with_operands (None ∷ p.operands) p) =
          if_true (counts_fit n m (tops ++ p.operands)) (works_on (m + n + 3) mid) None counts
          ∙ if_true (nat_le (m + n + 3) (length (tops ++ p.operands))) (Some (with_operands (None ∷ drop (m + n + 3) (tops ++ p.operands)) p)) None
          (le_true (m + n + 3) (length (tops ++ p.operands)) (omega (arith, length-append tops p.operands, size)))
          ∙ ap (λ l. Some (with_operands (None ∷ l) p)) (drop_at tops p.operands (m + n + 3) size) in
          shape_append a (i ∷ []) p ∙ ap (option_and_then (all_shapes (map shapes_of (i ∷ [])))) (h.stands p in_slots seen room)
          ∙ row_shape (kinds.CheckMulti n m) span checking (work (shape_many n m)) mid (with_operands (None ∷ p.operands) p) (steps.check_multi_stands n m) seen left;
    }

-- the empty element, both counts, of a byte or two, and the check
many_price : (n m : ℕ) (a b : TypedExpr) → fit n m ≡ true → length (chunks_of b) ≡ m
    → Under (push_of [] ⊕ price_of a ⊕ push_of (minimal_bytes (pos n)) ⊕ price_of b ⊕ push_of (minimal_bytes (pos m)) ⊕ price 1 (1 + m)) (form_price forms.CheckMulti (priced a ∷ priced b ∷ []))
many_price n m a b fits keys =
    let pn = count_push n (few_sigs n m fits) in
    let pm = count_push m (few_keys n m fits) in record { bytes = omega (arith, pn, pm); ops = omega (arith, keys) }

form_sigs : {old m0 m1 m2 m3 m4 new : List SlotInstr} {checking span : Span} {a b : TypedExpr} {n m : ℕ}
    → m0 ≡ old ++ instruction (lit []) span checking ∷ [] → LowersItems m0 m1 checking a n → m2 ≡ m1 ++ instruction (lit (minimal_bytes (pos n))) span checking ∷ []
    → LowersItems m2 m3 checking b m → m4 ≡ m3 ++ instruction (lit (minimal_bytes (pos m))) span checking ∷ [] → new ≡ m4 ++ instruction (kinds.CheckMulti n m) span checking ∷ []
    → ReadyForm forms.CheckMulti (a ∷ b ∷ []) → LowersForm old new checking span forms.CheckMulti (a ∷ b ∷ [])
form_sigs {old} {m0} {m1} {m2} {m3} {m4} {new} {checking} {span} {a} {b} {n} {m} g0 ha g2 hb g4 g5 whole =
    let fits : fit n m ≡ true = sym (ap (λ k. fit k (length (ready_items any_name b))) (ha.readies any_name) ∙ ap (fit n) (hb.readies any_name)) ∙ sigs_fit whole in
    let i = instruction (kinds.CheckMulti n m) span checking in
    let nb = minimal_bytes (pos n) in
    let mb = minimal_bytes (pos m) in
    let r0 = instruction (lit []) span checking ∷ [] in
    let rn = instruction (lit nb) span checking ∷ [] in
    let rm = instruction (lit mb) span checking ∷ [] in
    let rows = (((r0 ++ ha.rows) ++ rn) ++ hb.rows) ++ rm in
    let c0 = code_put checking (λ world env. Ok []) (lit []) span (Some []) (bytes_acts [] span checking) (bytes_stand []) in
    let cn = code_put checking (λ world env. Ok nb) (lit nb) span (Some nb) (bytes_acts nb span checking) (bytes_stand nb) in
    let cm = code_put checking (λ world env. Ok mb) (lit mb) span (Some mb) (bytes_acts mb span checking) (bytes_stand mb) in
    let puts = puts_both (puts_both (puts_both (puts_both c0.puts ha.puts) cn.puts) hb.puts) cm.puts in
    let v : Gives = λ world env. elements (items_of world env a) >>= λ ss. elements (items_of world env b) >>= λ ks. at_span span (verdict_result (checked_multi world.verdicts ss ks)) in
    let own : Known-names → Bool = λ known. all_of (ready_items known a) && all_of (ready_items known b) in
    let code : Code (rows ++ i ∷ []) checking v own (4 * node_count a + 4 * node_count b + 3) = record {
      puts = record {
        runs = λ world s. run_append world rows (i ∷ []) s ∙ ap (λ r. r >>= run_of world (i ∷ [])) (puts.runs world s)
            ∙ multi_step (elements (items_of world s.env a)) (elements (items_of world s.env b)) n m nb mb i world s span
            (λ es is. elements_count (items_of world s.env a) es is ∙ ha.values world s.env) (λ es is. elements_count (items_of world s.env b) es is ∙ hb.values world s.env) fits
            (λ ops. row_done world (kinds.CheckMulti n m) span checking _ (state ops s.env) (steps.check_multi_done world n m));
      };
      begins = begins_more (i ∷ []) (begins_more rm (begins_more hb.rows (begins_more rn (begins_more ha.rows c0.begins))));
      top = None;
      stands = λ slots r.
          let k = in_scope slots in
          let sa = ha.stands slots (and_left (all_of (ready_items k a)) (all_of (ready_items k b)) r) in
          let sb = hb.stands slots (and_right (all_of (ready_items k a)) (all_of (ready_items k b)) r) in
          many_stands ha.tops hb.tops n m span ha.count_is hb.count_is fits
          (stands_most (omega arith) (stands_both (stands_both (stands_both (stands_both (stands_put (lit []) span checking (Some []) (bytes_stand [])) sa) (stands_put (lit nb) span checking (Some nb) (bytes_stand nb))) sb) (stands_put (lit mb) span checking (Some mb) (bytes_stand mb))));
    } in record {
      lowered = lowers (λ world env. form_value world span forms.CheckMulti (node_of world env a ∷ node_of world env b ∷ [])) (λ known. form_ready forms.CheckMulti (ready_node known a ∷ ready_node known b ∷ []))
          (node_count a + (node_count b + 0) + 1)
          (grown1 old rows (i ∷ []) (grown1 old (((r0 ++ ha.rows) ++ rn) ++ hb.rows) rm (grown1 old ((r0 ++ ha.rows) ++ rn) hb.rows (grown2 old r0 ha.rows rn g0 ha.grown g2) hb.grown) g4) g5)
          code
          (λ world env. bind_two (elements (items_of world env a)) (elements (items_of world env b)) (λ ss ks. at_span span (verdict_result (checked_multi world.verdicts ss ks))) (λ e. Ok (GivenOne e)))
          (λ known r. and_right (fit (length (ready_items known a)) (length (ready_items known b))) (all_of (ready_items known a) && all_of (ready_items known b)) r)
          (omega arith)
          (light_as (many_price n m a b fits hb.chunks)
          (light_then (kinds.CheckMulti n m) span checking (price 1 (1 + m)) (steps.check_multi_weighs n m)
          (light_both (light_both (light_both (light_both (light_row (lit []) span checking (push_of []) (lit_weighs [])) ha.light) (light_row (lit nb) span checking (push_of nb) (lit_weighs nb))) hb.light) (light_row (lit mb) span checking (push_of mb) (lit_weighs mb)))))
          (let covers : Covers (span ∷ (own_spans a ++ (own_spans b ++ []))) (span ∷ (own_spans a ++ own_spans b)) = covers_as (ap (λ l. span ∷ (own_spans a ++ l)) (append-nil (own_spans b))) in
          let puts_of : (bytes : List ℕ) → SpannedBy (instruction (lit bytes) span checking ∷ []) checking (span ∷ (own_spans a ++ (own_spans b ++ []))) =
          λ bytes. spanned_row (lit bytes) span checking (steps.lit_spans (record { items = bytes })) (covers_first covers) in
          spanned_both (spanned_both (spanned_both (spanned_both (spanned_both (puts_of []) (spanned_in (covers_left (own_spans a) (own_spans b) (covers_rest covers)) ha.spans)) (puts_of nb))
          (spanned_in (covers_right (own_spans a) (own_spans b) (covers_rest covers)) hb.spans)) (puts_of mb)) (spanned_row (kinds.CheckMulti n m) span checking (steps.check_multi_spans n m) (covers_first covers)))
          (let read_none : (bytes : List ℕ) → Gets (instruction (lit bytes) span checking ∷ []) checking [] = λ bytes. read.gets_row (lit bytes) span checking (read.lit_gets (record { items = bytes })) in
          read.gets_as (ap (λ l. item_names a ++ l) (append-nil (item_names b)))
          (read.gets_then (kinds.CheckMulti n m) span (read.check_multi_gets n m)
          (read.gets_more (read.gets_both (read.gets_more (read.gets_both (read_none []) ha.gets) (read_none nb)) hb.gets) (read_none mb))));
    }

pub lowers_form_data : {old begun new : List SlotInstr} {checking span : Span} {a : TypedExpr} {args : List TypedExpr} → args ≡ (a ∷ []) → begun ≡ old ++ instruction (lit data_front) span checking ∷ []
    → LowersArray begun new checking span a → LowersForm old new checking span forms.HoldsData args
lowers_form_data {old} {begun} {new} {checking} {span} {a} {args} is first h = subst (LowersForm old new checking span forms.HoldsData) (sym is) (form_data first h)

pub lowers_form_sigs : {old m0 m1 m2 m3 m4 new : List SlotInstr} {checking span : Span} {a b : TypedExpr} {n m : ℕ} {args : List TypedExpr} → args ≡ (a ∷ b ∷ [])
    → m0 ≡ old ++ instruction (lit []) span checking ∷ [] → LowersItems m0 m1 checking a n → m2 ≡ m1 ++ instruction (lit (minimal_bytes (pos n))) span checking ∷ []
    → LowersItems m2 m3 checking b m → m4 ≡ m3 ++ instruction (lit (minimal_bytes (pos m))) span checking ∷ [] → new ≡ m4 ++ instruction (kinds.CheckMulti n m) span checking ∷ []
    → ReadyForm forms.CheckMulti args → LowersForm old new checking span forms.CheckMulti args
lowers_form_sigs {old} {m0} {m1} {m2} {m3} {m4} {new} {checking} {span} {a} {b} {n} {m} {args} is g0 ha g2 hb g4 g5 whole =
    subst (LowersForm old new checking span forms.CheckMulti) (sym is) (form_sigs g0 ha g2 hb g4 g5 (subst (ReadyForm forms.CheckMulti) is whole))
