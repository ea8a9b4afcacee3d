-- Choices in the terms in which the code comes to them.
use Rattle.std.proofs.Common.{◌≡◌, ◌≤◌, true, false, List, [], ◌∷◌, ◌++◌, length, ap, ◌∙◌, arith}
use Rattle.std.specs.Prelude.{◌||◌, filter}
use Rattle.cash_base.specs.declared.place.Slot.{Slot}
use Rattle.cash_base.specs.declared.place.Span.{Span}
use Rattle.branch_layout.specs.Slots.{are_distinct, all_stand_in}
use Rattle.script_codec.specs.declared.spans.Spanned.{Spanned}
use Rattle.slot_code.specs.declared.slots.SlotInstr.{SlotInstr}
use Rattle.slot_code.specs.declared.slots.SlotKind.TheVariants as SlotKind
use Rattle.slot_code.specs.Meaning.{act_of}
use Rattle.slot_code.specs.Shape.{has, shapes_of}
use Rattle.slot_code.specs.Weight.{weighs_of}
use Rattle.slot_liveness.specs.Live.{Slots, reads_of, later, only_other, either, kept}
use Rattle.slot_liveness.specs.Counts.{count_of, IsOnce}
use Rattle.slot_liveness.proofs.Sets.{fits, tight_within, filter_within}
use Rattle.bch_vm.specs.Law.{are_keys_known}
use Rattle.row_runs.specs.Rows.{instructions}
use Rattle.stack_emitter.specs.declared.emit.Emitter.{Emitter}
use Rattle.stack_emitter.specs.Places.{Spot, spot}
use Rattle.stack_emitter.specs.Correct.{Emits, nothing}
use Rattle.stack_emitter.proofs.Choose.{opens, flips, closes}
use Rattle.stack_steps.specs.declared.low.Low.{Low}
use Rattle.stack_steps.specs.Lower.{statements_of, Ready, Does}
use Rattle.stack_steps.specs.Operations.{Marks}
use Rattle.stack_steps.specs.Steps.{Pays}
use Rattle.stack_schedule.specs.Endings.{MayEnd}
use Rattle.stack_schedule.proofs.Blocks.{ReadyAll, DoesAll, ready_as, does_as}
use Rattle.stack_schedule.proofs.Joins.{once_distinct, within_stand}
use Rattle.stack_schedule.proofs.Chosen.{Enters, yes_begins, yes_ends, yes_scope, yes_once, no_begins, no_ends, no_scope, no_once, target_within, does_choice}
use Rattle.stack_schedule.proofs.Forks.{fork_yes, fork_no, fork_finishes}
use Rattle.stack_schedule.specs.Costs.{CountsEnd}
use Rattle.stack_schedule.proofs.Paid.{block_weigh, tail_weigh, Joins, choice_pays, fork_pays}
use Rattle.stack_schedule.proofs.Ways.{FinishesOne, FinishesAll, MayEndAll, may_end_as, finishes_with}

enters_as : (opcode_row : Span → Span → Spanned) (instr : SlotInstr) (layout scope outer layout' scope' outer' : List Slot) (old new : Low)
    → layout ≡ layout' → scope ≡ scope' → outer ≡ outer' → Enters opcode_row instr layout scope outer old new → Enters opcode_row instr layout' scope' outer' old new
enters_as opcode_row instr layout scope outer layout' scope' outer' old new e f g x = record {
  code = x.code;
  place_is = x.place_is ∙ ap (spot []) e;
  scope_is = x.scope_is ∙ f;
  outer_is = x.outer_is ∙ g;
  marks_are = x.marks_are;
}

-- what both blocks are begun with
pub record ArmsOf (ys ns rest : List SlotInstr) (after held : List Slot) (marked : Low) (live yes_held no_held layout scope : List Slot) : Type 0 where
  pub live_is : live ≡ filter (later rest after) marked.scope
  pub yes_is : yes_held ≡ held ++ filter (only_other ys ns) marked.scope
  pub no_is : no_held ≡ held ++ filter (only_other ns ys) marked.scope
  pub layout_is : layout ≡ marked.emitter.place.slots
  pub scope_is : scope ≡ marked.scope

module _ (instr : SlotInstr) (ys ns rest : List SlotInstr) (after held : List Slot) (never : Slots) (old marked : Low) (m : Marks instr.checking old marked) (e : instr.kind ≡ SlotKind.If ys ns) (live yes_held no_held layout scope : List Slot) (k : ArmsOf ys ns rest after held marked live yes_held no_held layout scope) where
  live_is : live ≡ filter (later rest after) old.scope
  live_is = k.live_is ∙ ap (filter (later rest after)) m.scope

  yes_is : yes_held ≡ held ++ filter (only_other ys ns) old.scope
  yes_is = k.yes_is ∙ ap (λ l. held ++ filter (only_other ys ns) l) m.scope

  no_is : no_held ≡ held ++ filter (only_other ns ys) old.scope
  no_is = k.no_is ∙ ap (λ l. held ++ filter (only_other ns ys) l) m.scope

  layout_of : (low : Low) → low.emitter.place ≡ spot [] layout → low.emitter.place.slots ≡ old.emitter.place.slots
  layout_of low at = ap (λ (p : Spot). p.slots) at ∙ k.layout_is ∙ ap (λ (x : Emitter). x.place.slots) m.emitter

  -- ---- one that ends no path

  module _ (ready : Ready (shapes_of instr).inner (either (reads_of instr) (later rest after)) (λ s. has s held || never s) old) (a : Low) (in_a : Enters opens instr layout scope scope marked a) where
    begun_a : Enters opens instr marked.emitter.place.slots marked.scope marked.scope marked a
    begun_a = enters_as opens instr layout scope scope marked.emitter.place.slots marked.scope marked.scope marked a k.layout_is k.scope_is k.scope_is in_a

    pub choice_yes : ReadyAll ys live (λ s. has s yes_held || never s) a
    choice_yes =
        ready_as ys live (filter (later rest after) old.scope) yes_held (held ++ filter (only_other ys ns) old.scope) never a live_is yes_is
        (yes_begins instr ys ns (later rest after) held never old marked m e ready a begun_a)

    module _ (b : Low) (y : DoesAll ys live (λ s. has s yes_held || never s) a b) where
      did_yes : DoesAll ys (filter (later rest after) old.scope) (λ s. has s (held ++ filter (only_other ys ns) old.scope) || never s) a b
      did_yes = does_as ys live (filter (later rest after) old.scope) yes_held (held ++ filter (only_other ys ns) old.scope) never a b live_is yes_is y

      pub choice_yes_ends : b.emitter.place.operands ≡ []
      choice_yes_ends = yes_ends instr ys ns (later rest after) held never old marked m e ready a begun_a b did_yes

      pub choice_yes_once : IsOnce b.emitter.place.slots
      choice_yes_once = yes_once instr ys ns (later rest after) held never old marked m e ready a begun_a b did_yes

      pub choice_yes_few : length b.emitter.place.slots ≤ 160
      choice_yes_few =
          let few = y.few in
          let size = fits b.emitter.place.slots b.scope (tight_within _ b.scope b.emitter.place.slots y.tight) in omega (arith, few, size)

      module _ (target : List Slot) (target_is : target ≡ filter (kept (later rest after) (λ s. has s held || never s)) b.emitter.place.slots) where
        target_counts : (s : Slot) → count_of s target ≤ count_of s b.emitter.place.slots
        target_counts = filter_within (kept (later rest after) (λ s. has s held || never s)) b.emitter.place.slots target target_is

        pub target_few : length target ≤ 160
        target_few = let size = fits target b.emitter.place.slots target_counts in let few = choice_yes_few in omega (arith, few, size)

        target_once : IsOnce target
        target_once s = let once = choice_yes_once s in let counts = target_counts s in omega (arith, once, counts)

        pub target_distinct : are_distinct target ≡ true
        target_distinct = once_distinct target target_once

        module _ (j c : Low) (settled : Emits b.emitter j.emitter nothing) (at_j : j.emitter.place ≡ spot [] target) (same_marks : j.marks ≡ b.marks) (in_c : Enters flips instr layout scope scope j c) where
          begun_c : Enters flips instr marked.emitter.place.slots marked.scope marked.scope j c
          begun_c = enters_as flips instr layout scope scope marked.emitter.place.slots marked.scope marked.scope j c k.layout_is k.scope_is k.scope_is in_c

          pub choice_no : ReadyAll ns live (λ s. has s no_held || never s) c
          choice_no =
              ready_as ns live (filter (later rest after) old.scope) no_held (held ++ filter (only_other ns ys) old.scope) never c live_is no_is
              (no_begins instr ys ns (later rest after) held never old marked m e ready a begun_a b did_yes target target_is j c settled at_j same_marks begun_c)

          module _ (d : Low) (z : DoesAll ns live (λ s. has s no_held || never s) c d) where
            did_no : DoesAll ns (filter (later rest after) old.scope) (λ s. has s (held ++ filter (only_other ns ys) old.scope) || never s) c d
            did_no = does_as ns live (filter (later rest after) old.scope) no_held (held ++ filter (only_other ns ys) old.scope) never c d live_is no_is z

            pub choice_no_ends : d.emitter.place.operands ≡ []
            choice_no_ends =
                no_ends instr ys ns (later rest after) held never old marked m e ready a begun_a b did_yes target target_is j c settled at_j same_marks begun_c d did_no

            choice_no_once : IsOnce d.emitter.place.slots
            choice_no_once =
                no_once instr ys ns (later rest after) held never old marked m e ready a begun_a b did_yes target target_is j c settled at_j same_marks begun_c d did_no

            pub choice_no_distinct : are_distinct d.emitter.place.slots ≡ true
            choice_no_distinct = once_distinct d.emitter.place.slots choice_no_once

            pub choice_no_few : length d.emitter.place.slots ≤ 160
            choice_no_few =
                let few = z.few in
                let size = fits d.emitter.place.slots d.scope (tight_within _ d.scope d.emitter.place.slots z.tight) in omega (arith, few, size)

            pub choice_within : all_stand_in target d.emitter.place.slots ≡ true
            choice_within =
                within_stand target d.emitter.place.slots
                (target_within instr ys ns (later rest after) held never old marked m e ready a begun_a b did_yes target target_is j c settled at_j same_marks begun_c d did_no)

            pub choice_does : (last new : Low) → Emits d.emitter last.emitter nothing → last.emitter.place ≡ spot [] target
                → new.emitter.code.items ≡ last.emitter.code.items ++ closes instr.doing instr.checking ∷ [] → new.emitter.place ≡ last.emitter.place
                → new.scope ≡ d.scope → new.outer ≡ marked.outer → new.marks ≡ d.marks
                → Does (λ world. act_of world instr) (shapes_of instr).inner (either (reads_of instr) (later rest after)) (later rest after) (λ s. has s held || never s) old new
            choice_does last new =
                does_choice instr ys ns (later rest after) held never old marked m e ready a begun_a b did_yes target target_is j c settled at_j same_marks begun_c d did_no last new

            pub choice_costs : (new : Low) → Pays (block_weigh ys) a b → Pays (block_weigh ns) c d → Joins b.emitter j.emitter → (last : Emitter) → Joins d.emitter last
                → new.emitter.code.items ≡ last.code.items ++ closes instr.doing instr.checking ∷ [] → new.emitter.place.slots ≡ target
                → new.scope ≡ d.scope → Pays (weighs_of instr).inner old new
            choice_costs new in_yes in_no first last second code slots scope_new =
                choice_pays instr ys ns e old a b c d new j.emitter last (fits old.emitter.place.slots old.scope (tight_within _ old.scope old.emitter.place.slots ready.tight))
                (in_a.code ∙ ap (λ (x : Emitter). x.code.items ++ opens instr.doing instr.checking ∷ []) m.emitter) (ap length (layout_of a in_a.place_is))
                (ap length (in_a.scope_is ∙ k.scope_is ∙ m.scope)) in_yes
                (ap length (yes_scope instr ys ns (later rest after) held never old marked m e ready a begun_a b did_yes))
                (fits b.emitter.place.slots b.scope (tight_within _ b.scope b.emitter.place.slots y.tight)) first
                in_c.code (ap length (layout_of c in_c.place_is)) (ap length (in_c.scope_is ∙ k.scope_is ∙ m.scope)) in_no
                (ap length (no_scope instr ys ns (later rest after) held never old marked m e ready a begun_a b did_yes target target_is j c settled at_j same_marks begun_c d did_no))
                (fits d.emitter.place.slots d.scope (tight_within _ d.scope d.emitter.place.slots z.tight)) second
                code (let same = ap length slots in let size = fits target b.emitter.place.slots target_counts in omega (arith, same, size)) (ap length scope_new)

  -- ---- one that ends a path

  module _ (may : MayEnd (shapes_of instr).last (either (reads_of instr) (later rest after)) (λ s. has s held || never s) old) (outer : List Slot) (none : outer ≡ []) (a : Low) (in_a : Enters opens instr layout scope outer marked a) where
    path_a : Enters opens instr marked.emitter.place.slots marked.scope [] marked a
    path_a = enters_as opens instr layout scope outer marked.emitter.place.slots marked.scope [] marked a k.layout_is k.scope_is none in_a

    pub path_yes : MayEndAll ys live (λ s. has s yes_held || never s) a
    path_yes =
        may_end_as ys live (filter (later rest after) old.scope) yes_held (held ++ filter (only_other ys ns) old.scope) never a live_is yes_is
        (fork_yes instr ys ns rest after held never old marked m e may a path_a)

    module _ (b : Low) (y : FinishesAll instr.checking ys live a b) where
      ended_yes : FinishesAll instr.checking ys (filter (later rest after) old.scope) a b
      ended_yes = finishes_with instr.checking ys live (filter (later rest after) old.scope) a b live_is y

      module _ (c : Low) (in_c : Enters flips instr layout scope outer b c) where
        path_c : Enters flips instr marked.emitter.place.slots marked.scope [] b c
        path_c = enters_as flips instr layout scope outer marked.emitter.place.slots marked.scope [] b c k.layout_is k.scope_is none in_c

        pub path_no : MayEndAll ns live (λ s. has s no_held || never s) c
        path_no =
            may_end_as ns live (filter (later rest after) old.scope) no_held (held ++ filter (only_other ns ys) old.scope) never c live_is no_is
            (fork_no instr ys ns rest after held never old marked m e may a path_a b ended_yes c path_c)

        pub path_finishes : (d : Low) → FinishesAll instr.checking ns live c d → (new : Low)
            → new.emitter.code.items ≡ d.emitter.code.items ++ closes instr.doing instr.checking ∷ [] → statements_of d.marks.items ≡ statements_of new.marks.items
            → FinishesOne instr rest after old new
        path_finishes d z new code marks =
            fork_finishes instr ys ns rest after held never old marked m e may a path_a b ended_yes c path_c d
            (finishes_with instr.checking ns live (filter (later rest after) old.scope) c d live_is z) new code marks

        pub path_costs : (d new : Low) → CountsEnd (tail_weigh ys) a b → CountsEnd (tail_weigh ns) c d
            → new.emitter.code.items ≡ d.emitter.code.items ++ closes instr.doing instr.checking ∷ []
            → are_keys_known false (instructions new.emitter.code.items) ≡ true → CountsEnd (weighs_of instr).last old new
        path_costs d new in_yes in_no code keys =
            fork_pays instr ys ns e old a b c d new (fits old.emitter.place.slots old.scope (tight_within _ old.scope old.emitter.place.slots may.ready.tight))
            (in_a.code ∙ ap (λ (x : Emitter). x.code.items ++ opens instr.doing instr.checking ∷ []) m.emitter) (ap length (layout_of a in_a.place_is))
            (ap length (in_a.scope_is ∙ k.scope_is ∙ m.scope)) in_yes in_c.code (ap length (layout_of c in_c.place_is))
            (ap length (in_c.scope_is ∙ k.scope_is ∙ m.scope)) in_no code keys
