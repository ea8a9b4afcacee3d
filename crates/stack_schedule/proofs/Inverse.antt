-- Kinds of instructions, by what the definitions say of them.
use Rattle.std.proofs.Common.{◌≡◌, true, false, List, [], ◌∷◌, map, refl, sym, ap, ◌∙◌}
use Rattle.std.proofs.lemmas.Bool.{false≢true, and_parts, and_from}
use Rattle.cash_base.specs.declared.place.Slot.{Slot}
use Rattle.slot_code.specs.declared.slots.SlotInstr.{SlotInstr}
use Rattle.slot_code.specs.declared.slots.SlotKind.{SlotKind}
use Rattle.slot_code.specs.declared.slots.SlotKind.TheVariants as kinds
use Rattle.slot_code.specs.declared.slots.SlotKind.TheOpen.{SlotKind-F}
use Rattle.slot_code.specs.declared.slots.SlotKind.TheViews.{out-SlotKind, roll-SlotKind, roll-out-SlotKind}
use Rattle.slot_code.specs.Shape.{Shapes, shapes_of, shapes_at, is_over, begins, then_shape}
use Rattle.slot_code.proofs.Steps.{whole_stands, lit_stands, get_stands, do1_stands, do2_stands, do3_stands, split_stands, keep_stands, look0_stands, look_at_stands, check_sig_stands, check_data_stands, check_multi_stands, time_stands, age_stands, require_stands, chunk_stands, define_stands, define_pair_stands, assign_stands, end_of_stands, if_stands}
use Rattle.stack_steps.specs.Lower.{IsNoChoice}
use Rattle.stack_steps.proofs.AtKinds.{at_end}
use Rattle.stack_schedule.specs.Endings.{AllEnds}

abbrev Layer : Type 0
Layer = SlotKind-F SlotKind SlotInstr

-- ---- what ends a name

ends_not : {A : Type 0} (a b : Shapes) → a ≡ b → b.is_end ≡ false → a.is_end ≡ true → A
ends_not a b same other h = absurd (false≢true (sym other ∙ sym (ap (λ (x : Shapes). x.is_end) same) ∙ h))

layer_ends : (layer : Layer) → (shapes_at (roll-SlotKind layer)).is_end ≡ true → (slot : Slot) × (roll-SlotKind layer ≡ kinds.End slot)
unfolding roll-SlotKind denote.Hole.Carrier.roll
layer_ends (SlotKind-F.Lit e) h = ends_not _ _ (lit_stands e) refl h
layer_ends (SlotKind-F.Get slot) h = ends_not _ _ (get_stands slot) refl h
layer_ends (SlotKind-F.Do1 op) h = ends_not _ _ (do1_stands op) refl h
layer_ends (SlotKind-F.Do2 op) h = ends_not _ _ (do2_stands op) refl h
layer_ends (SlotKind-F.Do3 op) h = ends_not _ _ (do3_stands op) refl h
layer_ends SlotKind-F.Split h = ends_not _ _ split_stands refl h
layer_ends (SlotKind-F.Keep right) h = ends_not _ _ (keep_stands right) refl h
layer_ends (SlotKind-F.Look0 what) h = ends_not _ _ (look0_stands what) refl h
layer_ends (SlotKind-F.LookAt what) h = ends_not _ _ (look_at_stands what) refl h
layer_ends SlotKind-F.CheckSig h = ends_not _ _ check_sig_stands refl h
layer_ends SlotKind-F.CheckData h = ends_not _ _ check_data_stands refl h
layer_ends (SlotKind-F.CheckMulti sigs keys) h = ends_not _ _ (check_multi_stands sigs keys) refl h
layer_ends SlotKind-F.Time h = ends_not _ _ time_stands refl h
layer_ends SlotKind-F.Age h = ends_not _ _ age_stands refl h
layer_ends SlotKind-F.Require h = ends_not _ _ require_stands refl h
layer_ends SlotKind-F.Chunk h = ends_not _ _ chunk_stands refl h
layer_ends (SlotKind-F.Define slot) h = ends_not _ _ (define_stands slot) refl h
layer_ends (SlotKind-F.DefinePair left right) h = ends_not _ _ (define_pair_stands left right) refl h
layer_ends (SlotKind-F.Assign slot) h = ends_not _ _ (assign_stands slot) refl h
layer_ends (SlotKind-F.End slot) h = (slot, refl)
layer_ends (SlotKind-F.If a b) h = ends_not _ _ (if_stands a b) refl h

kind_ends : (kind : SlotKind) → (shapes_at kind).is_end ≡ true → (slot : Slot) × (kind ≡ kinds.End slot)
kind_ends kind h =
    let is = roll-out-SlotKind kind in
    let found = layer_ends (out-SlotKind kind) (ap (λ k. (shapes_at k).is_end) is ∙ h) in (found.0, sym is ∙ found.1)

-- only ends of names are left, by the definition of a path's end
pub over_ends : (rest : List SlotInstr) → is_over (map shapes_of rest) ≡ true → AllEnds rest
over_ends [] h = tt
over_ends (x ∷ rest) h =
    let k = and_parts (shapes_of x).is_end (is_over (map shapes_of rest)) h in
    (kind_ends x.kind (ap (λ (s : Shapes). s.is_end) (sym (whole_stands x)) ∙ k.0), over_ends rest k.1)

pub ends_over : (rest : List SlotInstr) → AllEnds rest → is_over (map shapes_of rest) ≡ true
ends_over [] over = refl
ends_over (x ∷ rest) over =
    and_from (shapes_of x).is_end (is_over (map shapes_of rest)) (ap (λ (s : Shapes). s.is_end) (at_end x over.0.0 over.0.1).shapes_is) (ends_over rest over.1)

pub not_over : (rest : List SlotInstr) → is_over (map shapes_of rest) ≡ false → AllEnds rest → ⊥
not_over rest h over = false≢true (sym h ∙ ends_over rest over)

-- ---- an instruction that is no choice

alike : (a b : Shapes) → a ≡ b → b.last ≡ b.inner → a.last ≡ a.inner
alike a b same h = ap (λ (x : Shapes). x.last) same ∙ h ∙ sym (ap (λ (x : Shapes). x.inner) same)

layer_last : (layer : Layer) → ((a b : List SlotInstr) → roll-SlotKind layer ≡ kinds.If a b → ⊥)
    → (shapes_at (roll-SlotKind layer)).last ≡ (shapes_at (roll-SlotKind layer)).inner
unfolding roll-SlotKind denote.Hole.Carrier.roll
layer_last (SlotKind-F.Lit e) other = alike _ _ (lit_stands e) refl
layer_last (SlotKind-F.Get slot) other = alike _ _ (get_stands slot) refl
layer_last (SlotKind-F.Do1 op) other = alike _ _ (do1_stands op) refl
layer_last (SlotKind-F.Do2 op) other = alike _ _ (do2_stands op) refl
layer_last (SlotKind-F.Do3 op) other = alike _ _ (do3_stands op) refl
layer_last SlotKind-F.Split other = alike _ _ split_stands refl
layer_last (SlotKind-F.Keep right) other = alike _ _ (keep_stands right) refl
layer_last (SlotKind-F.Look0 what) other = alike _ _ (look0_stands what) refl
layer_last (SlotKind-F.LookAt what) other = alike _ _ (look_at_stands what) refl
layer_last SlotKind-F.CheckSig other = alike _ _ check_sig_stands refl
layer_last SlotKind-F.CheckData other = alike _ _ check_data_stands refl
layer_last (SlotKind-F.CheckMulti sigs keys) other = alike _ _ (check_multi_stands sigs keys) refl
layer_last SlotKind-F.Time other = alike _ _ time_stands refl
layer_last SlotKind-F.Age other = alike _ _ age_stands refl
layer_last SlotKind-F.Require other = alike _ _ require_stands refl
layer_last SlotKind-F.Chunk other = alike _ _ chunk_stands refl
layer_last (SlotKind-F.Define slot) other = alike _ _ (define_stands slot) refl
layer_last (SlotKind-F.DefinePair left right) other = alike _ _ (define_pair_stands left right) refl
layer_last (SlotKind-F.Assign slot) other = alike _ _ (assign_stands slot) refl
layer_last (SlotKind-F.End slot) other = alike _ _ (end_of_stands slot) refl
layer_last (SlotKind-F.If a b) other = absurd (other a b refl)

kind_last : (kind : SlotKind) → ((a b : List SlotInstr) → kind ≡ kinds.If a b → ⊥) → (shapes_at kind).last ≡ (shapes_at kind).inner
kind_last kind other =
    let is = roll-out-SlotKind kind in
    let same = layer_last (out-SlotKind kind) (λ a b e. other a b (sym is ∙ e)) in
    ap (λ k. (shapes_at k).last) (sym is) ∙ same ∙ ap (λ k. (shapes_at k).inner) is

-- stands at a path's end as it stands elsewhere
pub no_choice_last : (instr : SlotInstr) → IsNoChoice instr → (shapes_of instr).last ≡ (shapes_of instr).inner
no_choice_last instr other =
    alike (shapes_of instr) _ (whole_stands instr)
    (ap (then_shape (begins instr.checking (shapes_at instr.kind).is_end)) (kind_last instr.kind other))
