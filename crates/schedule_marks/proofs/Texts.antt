-- What instructions say of the text, by their kinds, and the rows of one instruction.
use Rattle.std.proofs.Common.{◌≡◌, ℕ, suc, ◌+◌, Bool, true, false, cond, not, List, [], ◌∷◌, ◌++◌, length, map, Option, Some, None, IsSome, refl, sym, ap, ◌∙◌, subst, append-nil}
use Rattle.std.specs.Prelude.{◌==◌, ◌||◌, ◌&&◌, ◌⊎◌, option_and_then}
use Rattle.std.proofs.lemmas.Bool.{false≢true, and_parts, and_from}
use Rattle.cash_base.specs.declared.place.Slot.{Slot}
use Rattle.cash_base.specs.declared.place.Span.{Span}
use Rattle.script_codec.specs.declared.spans.Mark.{Mark}
use Rattle.script_codec.specs.declared.spans.Spanned.{Spanned}
use Rattle.slot_code.specs.declared.slots.SlotInstr.{SlotInstr}
use Rattle.slot_code.specs.declared.slots.SlotKind.{SlotKind}
use Rattle.slot_code.specs.declared.slots.SlotKind.TheVariants as kinds
use Rattle.slot_code.specs.declared.slots.SlotKind.TheOpen.{SlotKind-F, SlotInstr-F}
use Rattle.slot_code.specs.declared.slots.SlotKind.TheViews.{out-SlotKind, roll-SlotKind, roll-out-SlotKind}
use Rattle.slot_code.specs.declared.slots.SlotKind.TheFolds.{fold-roll-SlotInstr, fold-roll-SlotKind}
use Rattle.slot_code.specs.Shape.{Place, Shape, Shapes, shapes_of, shapes_at, has_span, begins, only_if, with_seen, then_shape}
use Rattle.slot_code.proofs.Steps.{whole_stands, lit_stands, get_stands, do1_stands, do2_stands, do3_stands, split_stands, keep_stands, look0_stands, look_at_stands, check_sig_stands, check_data_stands, check_multi_stands, time_stands, age_stands, require_stands, chunk_stands, define_stands, define_pair_stands, assign_stands, end_of_stands}
use Rattle.stack_steps.specs.Lower.{IsNoChoice}
use Rattle.schedule_marks.specs.First.{Text, text, Says, goes_on, says, all_say, beside, choice_says, kind_says, instr_says, says_of, says_at}

abbrev Layer : Type 0
Layer = SlotKind-F SlotKind SlotInstr

abbrev Whole : Type 0
Whole = SlotInstr-F SlotKind SlotInstr

whole_says : (i : SlotInstr) → says_of i ≡ says_at i.kind i.checking
unfolding says_of says_at
whole_says i =
    let layer : Whole = record { kind = i.kind; doing = i.doing; checking = i.checking } in
    fold-roll-SlotInstr (Span → Says) Says kind_says instr_says layer

if_says : (a b : List SlotInstr) → says_at (kinds.If a b) ≡ kind_says (SlotKind-F.If (map says_of a) (map says_of b))
unfolding says_of says_at roll-SlotKind denote.Hole.Carrier.roll
if_says a b =
    let layer : Layer = SlotKind-F.If a b in fold-roll-SlotKind (Span → Says) Says kind_says instr_says layer

pub choice_is : (instr : SlotInstr) (ys ns : List SlotInstr) → instr.kind ≡ kinds.If ys ns
    → says_of instr ≡ choice_says instr.checking (all_say (map says_of ys)) (all_say (map says_of ns))
choice_is instr ys ns e = whole_says instr ∙ ap (λ k. says_at k instr.checking) e ∙ ap (λ g. g instr.checking) (if_says ys ns)

-- an instruction that is no choice begins its statement, or ends a name in it
abbrev pub PlainSays : Says → Span → Bool → Type 0
PlainSays s c is_end = (is_end ≡ false → s ≡ says c) × (is_end ≡ true → s ≡ goes_on c)

plain_by : (kind : SlotKind) (c : Span) (s : Says) → says_at kind c ≡ s → (shapes_at kind).is_end ≡ false → s ≡ says c → PlainSays (says_at kind c) c (shapes_at kind).is_end
plain_by kind c s e other is = (λ h. e ∙ is, λ h. absurd (false≢true (sym other ∙ h)))

layer_says : (layer : Layer) (c : Span) → ((a b : List SlotInstr) → roll-SlotKind layer ≡ kinds.If a b → ⊥) → PlainSays (says_at (roll-SlotKind layer) c) c (shapes_at (roll-SlotKind layer)).is_end
unfolding says_of says_at roll-SlotKind denote.Hole.Carrier.roll
layer_says (SlotKind-F.Lit e) c other =
    let layer : Layer = SlotKind-F.Lit e in
    plain_by (kinds.Lit e) c (says c) (ap (λ g. g c) (fold-roll-SlotKind (Span → Says) Says kind_says instr_says layer)) (ap (λ (x : Shapes). x.is_end) (lit_stands e)) refl
layer_says (SlotKind-F.Get slot) c other =
    let layer : Layer = SlotKind-F.Get slot in
    plain_by (kinds.Get slot) c (says c) (ap (λ g. g c) (fold-roll-SlotKind (Span → Says) Says kind_says instr_says layer)) (ap (λ (x : Shapes). x.is_end) (get_stands slot)) refl
layer_says (SlotKind-F.Do1 op) c other =
    let layer : Layer = SlotKind-F.Do1 op in
    plain_by (kinds.Do1 op) c (says c) (ap (λ g. g c) (fold-roll-SlotKind (Span → Says) Says kind_says instr_says layer)) (ap (λ (x : Shapes). x.is_end) (do1_stands op)) refl
layer_says (SlotKind-F.Do2 op) c other =
    let layer : Layer = SlotKind-F.Do2 op in
    plain_by (kinds.Do2 op) c (says c) (ap (λ g. g c) (fold-roll-SlotKind (Span → Says) Says kind_says instr_says layer)) (ap (λ (x : Shapes). x.is_end) (do2_stands op)) refl
layer_says (SlotKind-F.Do3 op) c other =
    let layer : Layer = SlotKind-F.Do3 op in
    plain_by (kinds.Do3 op) c (says c) (ap (λ g. g c) (fold-roll-SlotKind (Span → Says) Says kind_says instr_says layer)) (ap (λ (x : Shapes). x.is_end) (do3_stands op)) refl
layer_says SlotKind-F.Split c other =
    let layer : Layer = SlotKind-F.Split in
    plain_by kinds.Split c (says c) (ap (λ g. g c) (fold-roll-SlotKind (Span → Says) Says kind_says instr_says layer)) (ap (λ (x : Shapes). x.is_end) split_stands) refl
layer_says (SlotKind-F.Keep right) c other =
    let layer : Layer = SlotKind-F.Keep right in
    plain_by (kinds.Keep right) c (says c) (ap (λ g. g c) (fold-roll-SlotKind (Span → Says) Says kind_says instr_says layer)) (ap (λ (x : Shapes). x.is_end) (keep_stands right)) refl
layer_says (SlotKind-F.Look0 what) c other =
    let layer : Layer = SlotKind-F.Look0 what in
    plain_by (kinds.Look0 what) c (says c) (ap (λ g. g c) (fold-roll-SlotKind (Span → Says) Says kind_says instr_says layer)) (ap (λ (x : Shapes). x.is_end) (look0_stands what)) refl
layer_says (SlotKind-F.LookAt what) c other =
    let layer : Layer = SlotKind-F.LookAt what in
    plain_by (kinds.LookAt what) c (says c) (ap (λ g. g c) (fold-roll-SlotKind (Span → Says) Says kind_says instr_says layer)) (ap (λ (x : Shapes). x.is_end) (look_at_stands what)) refl
layer_says SlotKind-F.CheckSig c other =
    let layer : Layer = SlotKind-F.CheckSig in
    plain_by kinds.CheckSig c (says c) (ap (λ g. g c) (fold-roll-SlotKind (Span → Says) Says kind_says instr_says layer)) (ap (λ (x : Shapes). x.is_end) check_sig_stands) refl
layer_says SlotKind-F.CheckData c other =
    let layer : Layer = SlotKind-F.CheckData in
    plain_by kinds.CheckData c (says c) (ap (λ g. g c) (fold-roll-SlotKind (Span → Says) Says kind_says instr_says layer)) (ap (λ (x : Shapes). x.is_end) check_data_stands) refl
layer_says (SlotKind-F.CheckMulti sigs keys) c other =
    let layer : Layer = SlotKind-F.CheckMulti sigs keys in
    plain_by (kinds.CheckMulti sigs keys) c (says c) (ap (λ g. g c) (fold-roll-SlotKind (Span → Says) Says kind_says instr_says layer)) (ap (λ (x : Shapes). x.is_end) (check_multi_stands sigs keys)) refl
layer_says SlotKind-F.Time c other =
    let layer : Layer = SlotKind-F.Time in
    plain_by kinds.Time c (says c) (ap (λ g. g c) (fold-roll-SlotKind (Span → Says) Says kind_says instr_says layer)) (ap (λ (x : Shapes). x.is_end) time_stands) refl
layer_says SlotKind-F.Age c other =
    let layer : Layer = SlotKind-F.Age in
    plain_by kinds.Age c (says c) (ap (λ g. g c) (fold-roll-SlotKind (Span → Says) Says kind_says instr_says layer)) (ap (λ (x : Shapes). x.is_end) age_stands) refl
layer_says SlotKind-F.Require c other =
    let layer : Layer = SlotKind-F.Require in
    plain_by kinds.Require c (says c) (ap (λ g. g c) (fold-roll-SlotKind (Span → Says) Says kind_says instr_says layer)) (ap (λ (x : Shapes). x.is_end) require_stands) refl
layer_says SlotKind-F.Chunk c other =
    let layer : Layer = SlotKind-F.Chunk in
    plain_by kinds.Chunk c (says c) (ap (λ g. g c) (fold-roll-SlotKind (Span → Says) Says kind_says instr_says layer)) (ap (λ (x : Shapes). x.is_end) chunk_stands) refl
layer_says (SlotKind-F.Define slot) c other =
    let layer : Layer = SlotKind-F.Define slot in
    plain_by (kinds.Define slot) c (says c) (ap (λ g. g c) (fold-roll-SlotKind (Span → Says) Says kind_says instr_says layer)) (ap (λ (x : Shapes). x.is_end) (define_stands slot)) refl
layer_says (SlotKind-F.DefinePair left right) c other =
    let layer : Layer = SlotKind-F.DefinePair left right in
    plain_by (kinds.DefinePair left right) c (says c) (ap (λ g. g c) (fold-roll-SlotKind (Span → Says) Says kind_says instr_says layer)) (ap (λ (x : Shapes). x.is_end) (define_pair_stands left right)) refl
layer_says (SlotKind-F.Assign slot) c other =
    let layer : Layer = SlotKind-F.Assign slot in
    plain_by (kinds.Assign slot) c (says c) (ap (λ g. g c) (fold-roll-SlotKind (Span → Says) Says kind_says instr_says layer)) (ap (λ (x : Shapes). x.is_end) (assign_stands slot)) refl
layer_says (SlotKind-F.End slot) c other =
    let layer : Layer = SlotKind-F.End slot in
    (λ h. absurd (false≢true (sym h ∙ ap (λ (x : Shapes). x.is_end) (end_of_stands slot))), λ h. ap (λ g. g c) (fold-roll-SlotKind (Span → Says) Says kind_says instr_says layer))
layer_says (SlotKind-F.If a b) c other = absurd (other a b refl)

pub plain_says : (instr : SlotInstr) → IsNoChoice instr → PlainSays (says_of instr) instr.checking (shapes_at instr.kind).is_end
plain_says instr other =
    let is = roll-out-SlotKind instr.kind in
    let h = layer_says (out-SlotKind instr.kind) instr.checking (λ a b e. other a b (sym is ∙ e)) in
    let k : PlainSays (says_at instr.kind instr.checking) instr.checking (shapes_at instr.kind).is_end
    = subst (λ k. PlainSays (says_at k instr.checking) instr.checking (shapes_at k).is_end) is h in
    (λ e. whole_says instr ∙ k.0 e, λ e. whole_says instr ∙ k.1 e)

-- an end of a name stands in a statement that has begun
pub end_begun : (instr : SlotInstr) (p : Place) → IsSome ((shapes_of instr).inner p) → (shapes_at instr.kind).is_end ≡ true → has_span instr.checking p.seen ≡ true
end_begun instr p well e = by (has_span instr.checking p.seen) refl (subst (λ (x : Shapes). IsSome (x.inner p)) (whole_stands instr) well)
  where
    none : (a t : Bool) (r : Place) (g : Shape) → t ≡ true → IsSome (option_and_then g (only_if (a && not t) r)) → ⊥
    none true true r g h k = false≢true k
    none false true r g h k = false≢true k
    none a false r g h k = false≢true h

    by : (b : Bool) → has_span instr.checking p.seen ≡ b
        → IsSome (option_and_then (shapes_at instr.kind).inner (cond (has_span instr.checking p.seen) (Some p) (only_if (length p.operands == 0 && not (shapes_at instr.kind).is_end) (with_seen (p.seen ++ instr.checking ∷ []) p))))
        → has_span instr.checking p.seen ≡ true
    by true h k = h
    by false h k = absurd (none (length p.operands == 0) (shapes_at instr.kind).is_end (with_seen (p.seen ++ instr.checking ∷ []) p) (shapes_at instr.kind).inner e
        (subst (λ b. IsSome (option_and_then (shapes_at instr.kind).inner (cond b (Some p) (only_if (length p.operands == 0 && not (shapes_at instr.kind).is_end) (with_seen (p.seen ++ instr.checking ∷ []) p))))) h k))

-- what was added is what was added
pub cancel : (a b c : List Spanned) → a ++ b ≡ a ++ c → b ≡ c
cancel [] b c e = e
cancel (x ∷ a) b c e = let t : a ++ b ≡ a ++ c = cc in cancel a b c t
