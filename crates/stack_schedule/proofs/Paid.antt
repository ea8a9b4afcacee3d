-- What blocks, choices and ends of paths cost.
use Rattle.std.proofs.Common.{◌≡◌, ℕ, ◌+◌, ◌*◌, ◌<◌, ◌≤◌, true, false, cond, List, [], ◌∷◌, ◌++◌, length, drop, map, get_or, refl, sym, ap, ◌∙◌, subst, arith}
use Rattle.std.specs.Prelude.{◌&&◌}
use Rattle.std.proofs.lemmas.List.{drop_all}
use Rattle.cash_base.specs.declared.place.Span.{Span}
use Rattle.script_codec.specs.declared.instr.Instr.{Instr}
use Rattle.script_codec.specs.declared.spans.Spanned.{Spanned}
use Rattle.bch_vm.specs.Law.{asks_for_keys, are_keys_known}
use Rattle.slot_code.specs.declared.slots.SlotInstr.{SlotInstr}
use Rattle.slot_code.specs.declared.slots.SlotKind.{SlotKind}
use Rattle.slot_code.specs.declared.slots.SlotKind.TheVariants as kinds
use Rattle.slot_code.specs.declared.slots.SlotKind.TheOpen.{SlotKind-F}
use Rattle.slot_code.specs.declared.slots.SlotKind.TheViews.{out-SlotKind, roll-SlotKind, roll-out-SlotKind}
use Rattle.slot_code.specs.Shape.{Shapes, shapes_of, shapes_at, is_over as shapes_over}
use Rattle.slot_code.specs.Weight.{Weigh, Weighs, plain, weighs, weighs_of, weighs_at, kind_weighs, then_weigh, costs, all_weigh, path_weigh, missing_weigh, end_of_slot, is_over}
use Rattle.slot_code.proofs.Steps.{whole_stands, lit_stands, get_stands, do1_stands, do2_stands, do3_stands, split_stands, keep_stands, look0_stands, look_at_stands, check_sig_stands, check_data_stands, check_multi_stands, time_stands, age_stands, require_stands, chunk_stands, define_stands, define_pair_stands, assign_stands, end_of_stands, if_stands, whole_weighs, lit_weighs, get_weighs, do1_weighs, do2_weighs, do3_weighs, split_weighs, keep_weighs, look0_weighs, look_at_weighs, check_sig_weighs, check_data_weighs, check_multi_weighs, time_weighs, age_weighs, require_weighs, chunk_weighs, define_weighs, define_pair_weighs, assign_weighs, end_of_weighs, if_weighs}
use Rattle.row_runs.specs.Rows.{instructions}
use Rattle.row_runs.proofs.Turns.{instructions_append}
use Rattle.stack_emitter.specs.declared.emit.Emitter.{Emitter}
use Rattle.stack_emitter.specs.Codes.{bytes_of, ops_of, row_ops}
use Rattle.stack_emitter.specs.Correct.{Deed, Adds, Ends, EndCosts, nothing}
use Rattle.stack_emitter.proofs.Choose.{opens, flips, closes}
use Rattle.stack_emitter.proofs.Sizes.{bytes_more, ops_append}
use Rattle.stack_steps.specs.declared.low.Low.{Low}
use Rattle.stack_steps.specs.Lower.{IsNoChoice}
use Rattle.stack_steps.specs.Steps.{KeysKnown, Pays, counted, counted_of}
use Rattle.stack_steps.proofs.Adding.{counted_then, grown_counted, adds_ops}
use Rattle.stack_schedule.specs.Costs.{Counts, CountsEnd}
use Rattle.stack_schedule.proofs.Blocks.{next_item}
use Rattle.stack_schedule.proofs.Keys.{ended_counted}

-- ---- one row

one_counted : (instr : Instr) → asks_for_keys instr ≡ false → (keys : ℕ) → counted keys (instr ∷ []) ≡ row_ops instr
unfolding counted
one_counted instr asks keys = let none = ap (λ b. cond b keys 0) asks in omega (arith, none)

-- a row that asks for no keys counts what it weighs
row_counted : (new old : List Spanned) (r : Spanned) → new ≡ old ++ r ∷ [] → asks_for_keys r.instr ≡ false
    → counted_of new ≡ counted_of old + row_ops r.instr
row_counted new old r grown asks =
    ap counted_of grown ∙ ap (counted 0) (instructions_append old (r ∷ []))
    ∙ counted_then (instructions old) (r.instr ∷ []) 0 (row_ops r.instr) (one_counted r.instr asks)

pub opened_bytes : (old new : Emitter) (d c : Span) → new.code.items ≡ old.code.items ++ opens d c ∷ [] → bytes_of new.code.items ≡ bytes_of old.code.items + 1
opened_bytes old new d c grown = bytes_more new.code.items old.code.items (opens d c).instr d c grown

pub flipped_bytes : (old new : Emitter) (d c : Span) → new.code.items ≡ old.code.items ++ flips d c ∷ [] → bytes_of new.code.items ≡ bytes_of old.code.items + 1
flipped_bytes old new d c grown = bytes_more new.code.items old.code.items (flips d c).instr d c grown

pub closed_bytes : (old new : Emitter) (d c : Span) → new.code.items ≡ old.code.items ++ closes d c ∷ [] → bytes_of new.code.items ≡ bytes_of old.code.items + 1
closed_bytes old new d c grown = bytes_more new.code.items old.code.items (closes d c).instr d c grown

pub opened_ops : (old new : Emitter) (d c : Span) → new.code.items ≡ old.code.items ++ opens d c ∷ [] → counted_of new.code.items ≡ counted_of old.code.items + 1
opened_ops old new d c grown = row_counted new.code.items old.code.items (opens d c) grown refl

pub flipped_ops : (old new : Emitter) (d c : Span) → new.code.items ≡ old.code.items ++ flips d c ∷ [] → counted_of new.code.items ≡ counted_of old.code.items + 1
flipped_ops old new d c grown = row_counted new.code.items old.code.items (flips d c) grown refl

pub closed_ops : (old new : Emitter) (d c : Span) → new.code.items ≡ old.code.items ++ closes d c ∷ [] → counted_of new.code.items ≡ counted_of old.code.items + 1
closed_ops old new d c grown = row_counted new.code.items old.code.items (closes d c) grown refl

-- ---- one after the other

abbrev pub block_weigh : List SlotInstr → Weigh
block_weigh instrs = all_weigh (map weighs_of instrs)

abbrev pub tail_weigh : List SlotInstr → Weigh
tail_weigh instrs = path_weigh (map weighs_of instrs)

pub pays_none : (low : Low) → Pays (all_weigh []) low low
pays_none low = record { names = refl; bytes_fit = omega arith; ops_fit = omega arith }

pub pays_then : (a b : Weigh) (old mid new : Low) → Pays a old mid → Pays b mid new → Pays (then_weigh a b) old new
pays_then a b old mid new x y =
    let same = x.names in
    let i = x.bytes_fit in
    let j = y.bytes_fit in
    let k = x.ops_fit in
    let l = y.ops_fit in
    let wb = ap (λ n. (b n).bytes) same in
    let wo = ap (λ n. (b n).ops) same in
    record {
      names = ap (λ n. (b n).names) same ∙ y.names;
      bytes_fit = omega (arith, i, j, wb);
      ops_fit = omega (arith, k, l, wo);
    }

pub end_then : (a b : Weigh) (old mid new : Low) → Pays a old mid → CountsEnd b mid new → CountsEnd (then_weigh a b) old new
end_then a b old mid new x y =
    let same = x.names in
    let i = x.bytes_fit in
    let j = y.bytes_fit in
    let k = x.ops_fit in
    let l = y.ops_fit in
    let wb = ap (λ n. (b n).bytes) same in
    let wo = ap (λ n. (b n).ops) same in
    record { keys = y.keys; bytes_fit = omega (arith, i, j, wb); ops_fit = omega (arith, k, l, wo) }

-- what comes behind adds to the weight
pub end_before : (a b : Weigh) (old new : Low) → CountsEnd a old new → CountsEnd (then_weigh a b) old new
end_before a b old new x =
    let i = x.bytes_fit in
    let j = x.ops_fit in
    record { keys = x.keys; bytes_fit = omega (arith, i); ops_fit = omega (arith, j) }

pub end_as : (a b : Weigh) (old new : Low) → a ≡ b → CountsEnd a old new → CountsEnd b old new
end_as a b old new e x = subst (λ w. CountsEnd w old new) e x

-- ---- blocks

-- from here on, what is left of the instructions makes the whole
pub record LeftPays (old now : Low) (instrs : List SlotInstr) (i : ℕ) : Type 0 where
  pub keys : KeysKnown now.emitter
  pub by : (final : Low) → Counts (block_weigh (drop i instrs)) now final → Counts (block_weigh instrs) old final

pub left_pays_none : (old : Low) (instrs : List SlotInstr) → KeysKnown old.emitter → LeftPays old old instrs 0
left_pays_none old instrs k = record { keys = k; by = λ final x. x }

pub left_pays_more : (old now next : Low) (instrs : List SlotInstr) (i : ℕ) (x d : SlotInstr) → LeftPays old now instrs i → i < length instrs → x ≡ get_or instrs i d
    → (KeysKnown now.emitter → Counts (weighs_of x).inner now next) → LeftPays old next instrs (i + 1)
left_pays_more old now next instrs i x d l lt at step =
    let y = step l.keys in
    record {
      keys = y.keys;
      by = λ final z. l.by final (subst (λ xs. Counts (block_weigh xs) now final) (sym (next_item instrs x d i lt at))
          (record { keys = z.keys; pays = pays_then (weighs_of x).inner (block_weigh (drop (i + 1) instrs)) now next final y.pays z.pays }));
    }

pub left_pays_all : (old now : Low) (instrs : List SlotInstr) (i : ℕ) → LeftPays old now instrs i → length instrs ≤ i → Counts (block_weigh instrs) old now
left_pays_all old now instrs i l h =
    l.by now (subst (λ xs. Counts (block_weigh xs) now now) (sym (drop_all i instrs h)) (record { keys = l.keys; pays = pays_none now }))

-- ---- choices

choice_sum : (n s t sb sd wy wn old a b j c d k new : ℕ) → a ≡ old + 1 → b + sb + n ≤ a + s + n + wy → sb ≤ n
    → j ≤ b + 5 * sb → c ≡ j + 1 → d + sd + n ≤ c + s + n + wn → sd ≤ n → k ≤ d + 5 * sd → new ≡ k + 1 → t ≤ sb → s ≤ n
    → new + t + n ≤ old + s + n + ((3 + 10 * n) + (wy + wn))
choice_sum n s t sb sd wy wn old a b j c d k new p q r u v w x y z f g = omega (arith, p, q, r, u, v, w, x, y, z, f, g)

choice_sum_ops : (n s t sb sd wy wn old a b j c d k new : ℕ) → a ≡ old + 1 → b + sb + n ≤ a + s + n + wy → sb ≤ n
    → j ≤ b + 2 * sb → c ≡ j + 1 → d + sd + n ≤ c + s + n + wn → sd ≤ n → k ≤ d + 2 * sd → new ≡ k + 1 → t ≤ sb → s ≤ n
    → new + t + n ≤ old + s + n + ((3 + 4 * n) + (wy + wn))
choice_sum_ops n s t sb sd wy wn old a b j c d k new p q r u v w x y z f g = omega (arith, p, q, r, u, v, w, x, y, z, f, g)

fork_sum : (n s py pn old a b c d new : ℕ) → a ≡ old + 1 → b + n ≤ a + s + py → c ≡ b + 1 → d + n ≤ c + s + pn → new ≡ d + 1 → s ≤ n
    → new + n ≤ old + s + (3 + (py + pn))
fork_sum n s py pn old a b c d new p q r u v w = omega (arith, p, q, r, u, v, w)

pub weighs_if : (instr : SlotInstr) (ys ns : List SlotInstr) → instr.kind ≡ kinds.If ys ns
    → weighs_of instr ≡ kind_weighs (SlotKind-F.If (map weighs_of ys) (map weighs_of ns))
weighs_if instr ys ns e = whole_weighs instr ∙ ap weighs_at e ∙ if_weighs ys ns

-- rows that leave no more slots than stood
pub record Joins (old new : Emitter) : Type 0 where
  pub bytes_fit : bytes_of new.code.items ≤ bytes_of old.code.items + 5 * length old.place.slots
  pub ops_fit : counted_of new.code.items ≤ counted_of old.code.items + 2 * length old.place.slots

pub joins_by : (checking : Span) (old new : Emitter) → Adds checking checking old new nothing
    → bytes_of new.code.items ≤ bytes_of old.code.items + 5 * length old.place.slots → ops_of new.code.items ≤ ops_of old.code.items + 2 * length old.place.slots
    → Joins old new
joins_by checking old new x bytes ops =
    record { bytes_fit = bytes; ops_fit = adds_ops checking checking old new nothing (2 * length old.place.slots) x ops }

module _ (instr : SlotInstr) (ys ns : List SlotInstr) (e : instr.kind ≡ kinds.If ys ns) where
  pub choice_pays : (old a b c d new : Low) (j k : Emitter) → length old.emitter.place.slots ≤ length old.scope
      → a.emitter.code.items ≡ old.emitter.code.items ++ opens instr.doing instr.checking ∷ [] → length a.emitter.place.slots ≡ length old.emitter.place.slots
      → length a.scope ≡ length old.scope → Pays (block_weigh ys) a b → length b.scope ≡ length old.scope → length b.emitter.place.slots ≤ length b.scope
      → Joins b.emitter j
      → c.emitter.code.items ≡ j.code.items ++ flips instr.doing instr.checking ∷ [] → length c.emitter.place.slots ≡ length old.emitter.place.slots
      → length c.scope ≡ length old.scope → Pays (block_weigh ns) c d → length d.scope ≡ length old.scope → length d.emitter.place.slots ≤ length d.scope
      → Joins d.emitter k
      → new.emitter.code.items ≡ k.code.items ++ closes instr.doing instr.checking ∷ [] → length new.emitter.place.slots ≤ length b.emitter.place.slots
      → length new.scope ≡ length d.scope → Pays (weighs_of instr).inner old new
  choice_pays old a b c d new j k few code_a slots_a scope_a in_yes scope_b few_b first code_c slots_c scope_c in_no scope_d few_d second code_new slots_new scope_new =
      let n = length old.scope in
      let s = length old.emitter.place.slots in
      let p = opened_bytes old.emitter a.emitter instr.doing instr.checking code_a in
      let q = flipped_bytes j c.emitter instr.doing instr.checking code_c in
      let r = closed_bytes k new.emitter instr.doing instr.checking code_new in
      let po = opened_ops old.emitter a.emitter instr.doing instr.checking code_a in
      let qo = flipped_ops j c.emitter instr.doing instr.checking code_c in
      let ro = closed_ops k new.emitter instr.doing instr.checking code_new in
      let wyb = ap (λ m. (block_weigh ys m).bytes) scope_a in
      let wnb = ap (λ m. (block_weigh ns m).bytes) scope_c in
      let wyo = ap (λ m. (block_weigh ys m).ops) scope_a in
      let wno = ap (λ m. (block_weigh ns m).ops) scope_c in
      let yb = in_yes.bytes_fit in
      let nb = in_no.bytes_fit in
      let yo = in_yes.ops_fit in
      let no_o = in_no.ops_fit in
      let fb = first.bytes_fit in
      let sb = second.bytes_fit in
      let fo = first.ops_fit in
      let so = second.ops_fit in
      let bytes = choice_sum n s (length new.emitter.place.slots) (length b.emitter.place.slots) (length d.emitter.place.slots)
      (block_weigh ys n).bytes (block_weigh ns n).bytes (bytes_of old.emitter.code.items) (bytes_of a.emitter.code.items) (bytes_of b.emitter.code.items)
      (bytes_of j.code.items) (bytes_of c.emitter.code.items) (bytes_of d.emitter.code.items) (bytes_of k.code.items) (bytes_of new.emitter.code.items)
      p (omega (arith, yb, wyb, slots_a, scope_a, scope_b)) (omega (arith, few_b, scope_b)) fb q
      (omega (arith, nb, wnb, slots_c, scope_c, scope_d)) (omega (arith, few_d, scope_d)) sb r slots_new few in
      let ops = choice_sum_ops n s (length new.emitter.place.slots) (length b.emitter.place.slots) (length d.emitter.place.slots)
      (block_weigh ys n).ops (block_weigh ns n).ops (counted_of old.emitter.code.items) (counted_of a.emitter.code.items) (counted_of b.emitter.code.items)
      (counted_of j.code.items) (counted_of c.emitter.code.items) (counted_of d.emitter.code.items) (counted_of k.code.items) (counted_of new.emitter.code.items)
      po (omega (arith, yo, wyo, slots_a, scope_a, scope_b)) (omega (arith, few_b, scope_b)) fo qo
      (omega (arith, no_o, wno, slots_c, scope_c, scope_d)) (omega (arith, few_d, scope_d)) so ro slots_new few in
      subst (λ (w : Weighs). Pays w.inner old new) (sym (weighs_if instr ys ns e)) (record {
        names = sym (scope_new ∙ scope_d);
        bytes_fit = let same = scope_new ∙ scope_d in omega (arith, bytes, same);
        ops_fit = let same = scope_new ∙ scope_d in omega (arith, ops, same);
      })

  pub fork_pays : (old a b c d new : Low) → length old.emitter.place.slots ≤ length old.scope
      → a.emitter.code.items ≡ old.emitter.code.items ++ opens instr.doing instr.checking ∷ [] → length a.emitter.place.slots ≡ length old.emitter.place.slots
      → length a.scope ≡ length old.scope → CountsEnd (tail_weigh ys) a b
      → c.emitter.code.items ≡ b.emitter.code.items ++ flips instr.doing instr.checking ∷ [] → length c.emitter.place.slots ≡ length old.emitter.place.slots
      → length c.scope ≡ length old.scope → CountsEnd (tail_weigh ns) c d
      → new.emitter.code.items ≡ d.emitter.code.items ++ closes instr.doing instr.checking ∷ []
      → are_keys_known false (instructions new.emitter.code.items) ≡ true → CountsEnd (weighs_of instr).last old new
  fork_pays old a b c d new few code_a slots_a scope_a in_yes code_c slots_c scope_c in_no code_new keys =
      let n = length old.scope in
      let s = length old.emitter.place.slots in
      let p = opened_bytes old.emitter a.emitter instr.doing instr.checking code_a in
      let q = flipped_bytes b.emitter c.emitter instr.doing instr.checking code_c in
      let r = closed_bytes d.emitter new.emitter instr.doing instr.checking code_new in
      let po = opened_ops old.emitter a.emitter instr.doing instr.checking code_a in
      let qo = flipped_ops b.emitter c.emitter instr.doing instr.checking code_c in
      let ro = closed_ops d.emitter new.emitter instr.doing instr.checking code_new in
      let wyb = ap (λ m. (tail_weigh ys m).bytes) scope_a in
      let wnb = ap (λ m. (tail_weigh ns m).bytes) scope_c in
      let wyo = ap (λ m. (tail_weigh ys m).ops) scope_a in
      let wno = ap (λ m. (tail_weigh ns m).ops) scope_c in
      let yb = in_yes.bytes_fit in
      let nb = in_no.bytes_fit in
      let yo = in_yes.ops_fit in
      let no_o = in_no.ops_fit in
      subst (λ (w : Weighs). CountsEnd w.last old new) (sym (weighs_if instr ys ns e)) (record {
        keys = keys;
        bytes_fit = fork_sum n s (tail_weigh ys n).bytes (tail_weigh ns n).bytes (bytes_of old.emitter.code.items) (bytes_of a.emitter.code.items)
            (bytes_of b.emitter.code.items) (bytes_of c.emitter.code.items) (bytes_of d.emitter.code.items) (bytes_of new.emitter.code.items)
            p (omega (arith, yb, wyb, slots_a, scope_a)) q (omega (arith, nb, wnb, slots_c, scope_c)) r few;
        ops_fit = fork_sum n s (tail_weigh ys n).ops (tail_weigh ns n).ops (counted_of old.emitter.code.items) (counted_of a.emitter.code.items)
            (counted_of b.emitter.code.items) (counted_of c.emitter.code.items) (counted_of d.emitter.code.items) (counted_of new.emitter.code.items)
            po (omega (arith, yo, wyo, slots_a, scope_a)) qo (omega (arith, no_o, wno, slots_c, scope_c)) ro few;
      })

-- ---- kinds of instructions

abbrev Layer : Type 0
Layer = SlotKind-F SlotKind SlotInstr

ends_alike : (w v : Weighs) (s t : Shapes) → w ≡ v → s ≡ t → v.is_end ≡ t.is_end → w.is_end ≡ s.is_end
ends_alike w v s t a b same = ap (λ (x : Weighs). x.is_end) a ∙ same ∙ sym (ap (λ (x : Shapes). x.is_end) b)

layer_ends : (layer : Layer) → (weighs_at (roll-SlotKind layer)).is_end ≡ (shapes_at (roll-SlotKind layer)).is_end
unfolding roll-SlotKind denote.Hole.Carrier.roll
layer_ends (SlotKind-F.Lit e) = ends_alike _ _ _ _ (lit_weighs e) (lit_stands e) refl
layer_ends (SlotKind-F.Get slot) = ends_alike _ _ _ _ (get_weighs slot) (get_stands slot) refl
layer_ends (SlotKind-F.Do1 op) = ends_alike _ _ _ _ (do1_weighs op) (do1_stands op) refl
layer_ends (SlotKind-F.Do2 op) = ends_alike _ _ _ _ (do2_weighs op) (do2_stands op) refl
layer_ends (SlotKind-F.Do3 op) = ends_alike _ _ _ _ (do3_weighs op) (do3_stands op) refl
layer_ends SlotKind-F.Split = ends_alike _ _ _ _ split_weighs split_stands refl
layer_ends (SlotKind-F.Keep right) = ends_alike _ _ _ _ (keep_weighs right) (keep_stands right) refl
layer_ends (SlotKind-F.Look0 what) = ends_alike _ _ _ _ (look0_weighs what) (look0_stands what) refl
layer_ends (SlotKind-F.LookAt what) = ends_alike _ _ _ _ (look_at_weighs what) (look_at_stands what) refl
layer_ends SlotKind-F.CheckSig = ends_alike _ _ _ _ check_sig_weighs check_sig_stands refl
layer_ends SlotKind-F.CheckData = ends_alike _ _ _ _ check_data_weighs check_data_stands refl
layer_ends (SlotKind-F.CheckMulti sigs keys) = ends_alike _ _ _ _ (check_multi_weighs sigs keys) (check_multi_stands sigs keys) refl
layer_ends SlotKind-F.Time = ends_alike _ _ _ _ time_weighs time_stands refl
layer_ends SlotKind-F.Age = ends_alike _ _ _ _ age_weighs age_stands refl
layer_ends SlotKind-F.Require = ends_alike _ _ _ _ require_weighs require_stands refl
layer_ends SlotKind-F.Chunk = ends_alike _ _ _ _ chunk_weighs chunk_stands refl
layer_ends (SlotKind-F.Define slot) = ends_alike _ _ _ _ (define_weighs slot) (define_stands slot) refl
layer_ends (SlotKind-F.DefinePair left right) = ends_alike _ _ _ _ (define_pair_weighs left right) (define_pair_stands left right) refl
layer_ends (SlotKind-F.Assign slot) = ends_alike _ _ _ _ (assign_weighs slot) (assign_stands slot) refl
layer_ends (SlotKind-F.End slot) = ends_alike _ _ _ _ (end_of_weighs slot) (end_of_stands slot) refl
layer_ends (SlotKind-F.If a b) = ends_alike _ _ _ _ (if_weighs a b) (if_stands a b) refl

kind_ends : (kind : SlotKind) → (weighs_at kind).is_end ≡ (shapes_at kind).is_end
kind_ends kind =
    let is = roll-out-SlotKind kind in
    ap (λ k. (weighs_at k).is_end) (sym is) ∙ layer_ends (out-SlotKind kind) ∙ ap (λ k. (shapes_at k).is_end) is

one_end : (x : SlotInstr) → (weighs_of x).is_end ≡ (shapes_of x).is_end
one_end x =
    ap (λ (w : Weighs). w.is_end) (whole_weighs x) ∙ kind_ends x.kind ∙ sym (ap (λ (s : Shapes). s.is_end) (whole_stands x))

-- only ends of names are left, by the definition of weights as by that of places
pub over_alike : (rest : List SlotInstr) → is_over (map weighs_of rest) ≡ shapes_over (map shapes_of rest)
over_alike [] = refl
over_alike (x ∷ rest) =
    ap (λ b. b && is_over (map weighs_of rest)) (one_end x) ∙ ap (λ b. (shapes_of x).is_end && b) (over_alike rest)

-- at a path's end it pays for what ends the path too
pub record Covers (w : Weighs) : Type 0 where
  pub bytes_fit : (n : ℕ) → (w.inner n).bytes + ((w.inner n).names + 1) ≤ (w.last n).bytes
  pub ops_fit : (n : ℕ) → (w.inner n).ops + ((w.inner n).names + 1) ≤ (w.last n).ops

covers_as : (w v : Weighs) → w ≡ v → Covers v → Covers w
covers_as w v same c = subst Covers (sym same) c

plain_covers : (w : Weigh) → Covers (plain w)
plain_covers w = record { bytes_fit = λ n. omega arith; ops_fit = λ n. omega arith }

time_covers : Covers (weighs (costs 2 2) (costs 3 2))
time_covers = record { bytes_fit = λ n. omega arith; ops_fit = λ n. omega arith }

end_covers : Covers end_of_slot
end_covers = record { bytes_fit = λ n. omega arith; ops_fit = λ n. omega arith }

layer_covers : (layer : Layer) → (roll-SlotKind layer ≡ kinds.Require → ⊥) → ((a b : List SlotInstr) → roll-SlotKind layer ≡ kinds.If a b → ⊥)
    → Covers (weighs_at (roll-SlotKind layer))
unfolding roll-SlotKind denote.Hole.Carrier.roll
layer_covers (SlotKind-F.Lit e) no_check no_choice = covers_as _ _ (lit_weighs e) (plain_covers _)
layer_covers (SlotKind-F.Get slot) no_check no_choice = covers_as _ _ (get_weighs slot) (plain_covers _)
layer_covers (SlotKind-F.Do1 op) no_check no_choice = covers_as _ _ (do1_weighs op) (plain_covers _)
layer_covers (SlotKind-F.Do2 op) no_check no_choice = covers_as _ _ (do2_weighs op) (plain_covers _)
layer_covers (SlotKind-F.Do3 op) no_check no_choice = covers_as _ _ (do3_weighs op) (plain_covers _)
layer_covers SlotKind-F.Split no_check no_choice = covers_as _ _ split_weighs (plain_covers _)
layer_covers (SlotKind-F.Keep right) no_check no_choice = covers_as _ _ (keep_weighs right) (plain_covers _)
layer_covers (SlotKind-F.Look0 what) no_check no_choice = covers_as _ _ (look0_weighs what) (plain_covers _)
layer_covers (SlotKind-F.LookAt what) no_check no_choice = covers_as _ _ (look_at_weighs what) (plain_covers _)
layer_covers SlotKind-F.CheckSig no_check no_choice = covers_as _ _ check_sig_weighs (plain_covers _)
layer_covers SlotKind-F.CheckData no_check no_choice = covers_as _ _ check_data_weighs (plain_covers _)
layer_covers (SlotKind-F.CheckMulti sigs keys) no_check no_choice = covers_as _ _ (check_multi_weighs sigs keys) (plain_covers _)
layer_covers SlotKind-F.Time no_check no_choice = covers_as _ _ time_weighs time_covers
layer_covers SlotKind-F.Age no_check no_choice = covers_as _ _ age_weighs time_covers
layer_covers SlotKind-F.Require no_check no_choice = absurd (no_check refl)
layer_covers SlotKind-F.Chunk no_check no_choice = covers_as _ _ chunk_weighs (plain_covers _)
layer_covers (SlotKind-F.Define slot) no_check no_choice = covers_as _ _ (define_weighs slot) (plain_covers _)
layer_covers (SlotKind-F.DefinePair left right) no_check no_choice = covers_as _ _ (define_pair_weighs left right) (plain_covers _)
layer_covers (SlotKind-F.Assign slot) no_check no_choice = covers_as _ _ (assign_weighs slot) (plain_covers _)
layer_covers (SlotKind-F.End slot) no_check no_choice = covers_as _ _ (end_of_weighs slot) end_covers
layer_covers (SlotKind-F.If a b) no_check no_choice = absurd (no_choice a b refl)

kind_covers : (kind : SlotKind) → (kind ≡ kinds.Require → ⊥) → ((a b : List SlotInstr) → kind ≡ kinds.If a b → ⊥) → Covers (weighs_at kind)
kind_covers kind no_check no_choice =
    let is = roll-out-SlotKind kind in
    subst (λ k. Covers (weighs_at k)) is
    (layer_covers (out-SlotKind kind) (λ e. no_check (sym is ∙ e)) (λ a b e. no_choice a b (sym is ∙ e)))

pub instr_covers : (instr : SlotInstr) → (instr.kind ≡ kinds.Require → ⊥) → IsNoChoice instr → Covers (weighs_of instr)
instr_covers instr no_check no_choice = covers_as (weighs_of instr) (weighs_at instr.kind) (whole_weighs instr) (kind_covers instr.kind no_check no_choice)

-- ---- ends of paths

-- rows of an end count what they weigh
ends_ops : (checking : Span) (old new : Emitter) (deed : Deed) → Ends checking old new deed → EndCosts old new
    → counted_of new.code.items ≤ counted_of old.code.items + length old.place.slots + 1
ends_ops checking old new deed x costs =
    let e = grown_counted checking checking old new x.rows x.grown x.plain in
    let f = ap ops_of x.grown ∙ ops_append old.code.items x.rows in
    let h = costs.ops_fit in
    omega (arith, e, f, h)

-- behind an instruction
pub true_counts : (instr : SlotInstr) (old mid new : Low) (checking : Span) (deed : Deed) → Covers (weighs_of instr) → Counts (weighs_of instr).inner old mid
    → Ends checking mid.emitter new.emitter deed → EndCosts mid.emitter new.emitter → CountsEnd (weighs_of instr).last old new
true_counts instr old mid new checking deed covers x ends costs =
    let n = length old.scope in
    let names = x.pays.names in
    let b = x.pays.bytes_fit in
    let o = x.pays.ops_fit in
    let cb = covers.bytes_fit n in
    let co = covers.ops_fit n in
    let eb = costs.bytes_fit in
    let eo = ends_ops checking mid.emitter new.emitter deed ends costs in
    record {
      keys = ended_counted checking mid.emitter new.emitter deed ends x.keys.known;
      bytes_fit = omega (arith, names, b, cb, eb);
      ops_fit = omega (arith, names, o, co, eo);
    }

-- where the last check leaves its value
pub check_counts : (instr : SlotInstr) (old new : Low) (marked : Emitter) (checking : Span) (deed : Deed) → instr.kind ≡ kinds.Require → marked ≡ old.emitter
    → KeysKnown old.emitter → Ends checking marked new.emitter deed → EndCosts marked new.emitter → CountsEnd (weighs_of instr).last old new
check_counts instr old new marked checking deed e same known ends costs =
    let w_is : weighs_of instr ≡ kind_weighs SlotKind-F.Require = whole_weighs instr ∙ ap weighs_at e ∙ require_weighs in
    let n = length old.scope in
    let slots = ap (λ (x : Emitter). length x.place.slots) same in
    let bytes = ap (λ (x : Emitter). bytes_of x.code.items) same in
    let ops = ap (λ (x : Emitter). counted_of x.code.items) same in
    let eb = costs.bytes_fit in
    let eo = ends_ops checking marked new.emitter deed ends costs in
    subst (λ (w : Weighs). CountsEnd w.last old new) (sym w_is) (record {
      keys = ended_counted checking marked new.emitter deed ends (subst KeysKnown (sym same) known).known;
      bytes_fit = omega (arith, slots, bytes, eb);
      ops_fit = omega (arith, slots, ops, eo);
    })

-- where an `else` is missing, or nothing is left to do
missing_counts : (old new : Low) (checking : Span) (deed : Deed) → KeysKnown old.emitter → Ends checking old.emitter new.emitter deed → EndCosts old.emitter new.emitter
    → CountsEnd missing_weigh old new
missing_counts old new checking deed known ends costs =
    let eb = costs.bytes_fit in
    let eo = ends_ops checking old.emitter new.emitter deed ends costs in
    record { keys = ended_counted checking old.emitter new.emitter deed ends known.known; bytes_fit = omega (arith, eb); ops_fit = omega (arith, eo) }

-- ---- the loop over a block that ends its paths

pub record LeftPaysEnd (old now : Low) (instrs : List SlotInstr) (i : ℕ) : Type 0 where
  pub keys : KeysKnown now.emitter
  pub by : (final : Low) → CountsEnd (tail_weigh (drop i instrs)) now final → CountsEnd (tail_weigh instrs) old final

pub end_pays_none : (old : Low) (instrs : List SlotInstr) → KeysKnown old.emitter → LeftPaysEnd old old instrs 0
end_pays_none old instrs k = record { keys = k; by = λ final x. x }

path_else : (x : SlotInstr) (rest : List SlotInstr) → shapes_over (map shapes_of rest) ≡ false → tail_weigh (x ∷ rest) ≡ then_weigh (weighs_of x).inner (tail_weigh rest)
path_else x rest over =
    ap (λ b. cond b (then_weigh (weighs_of x).last (block_weigh rest)) (then_weigh (weighs_of x).inner (tail_weigh rest))) (over_alike rest ∙ over)

path_last : (x : SlotInstr) (rest : List SlotInstr) → shapes_over (map shapes_of rest) ≡ true → tail_weigh (x ∷ rest) ≡ then_weigh (weighs_of x).last (block_weigh rest)
path_last x rest over =
    ap (λ b. cond b (then_weigh (weighs_of x).last (block_weigh rest)) (then_weigh (weighs_of x).inner (tail_weigh rest))) (over_alike rest ∙ over)

module _ (old now : Low) (instrs : List SlotInstr) (i : ℕ) (x d : SlotInstr) (others : List SlotInstr) (l : LeftPaysEnd old now instrs i) (lt : i < length instrs) (at : x ≡ get_or instrs i d) (e : others ≡ drop (i + 1) instrs) where
  is_here : drop i instrs ≡ x ∷ others
  is_here = next_item instrs x d i lt at ∙ ap (λ r. x ∷ r) (sym e)

  pub end_pays_more : (next : Low) → shapes_over (map shapes_of others) ≡ false → (KeysKnown now.emitter → Counts (weighs_of x).inner now next)
      → LeftPaysEnd old next instrs (i + 1)
  end_pays_more next over step =
      let y = step l.keys in
      record {
        keys = y.keys;
        by = λ final z. l.by final (subst (λ xs. CountsEnd (tail_weigh xs) now final) (sym is_here)
            (end_as (then_weigh (weighs_of x).inner (tail_weigh others)) (tail_weigh (x ∷ others)) now final (sym (path_else x others over))
            (end_then (weighs_of x).inner (tail_weigh others) now next final y.pays (subst (λ xs. CountsEnd (tail_weigh xs) next final) (sym e) z))));
      }

  pub end_pays_done : (final : Low) → shapes_over (map shapes_of others) ≡ true → (KeysKnown now.emitter → CountsEnd (weighs_of x).last now final)
      → CountsEnd (tail_weigh instrs) old final
  end_pays_done final over step =
      l.by final (subst (λ xs. CountsEnd (tail_weigh xs) now final) (sym is_here)
      (end_as (then_weigh (weighs_of x).last (block_weigh others)) (tail_weigh (x ∷ others)) now final (sym (path_last x others over))
      (end_before (weighs_of x).last (block_weigh others) now final (step l.keys))))

pub end_pays_missing : (old now final : Low) (instrs : List SlotInstr) (i : ℕ) (checking : Span) (deed : Deed) → LeftPaysEnd old now instrs i → length instrs ≤ i
    → Ends checking now.emitter final.emitter deed → EndCosts now.emitter final.emitter → CountsEnd (tail_weigh instrs) old final
end_pays_missing old now final instrs i checking deed l h ends costs =
    l.by final (subst (λ xs. CountsEnd (tail_weigh xs) now final) (sym (drop_all i instrs h)) (missing_counts now final checking deed l.keys ends costs))
