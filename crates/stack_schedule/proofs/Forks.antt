-- A choice that ends a path: its blocks are paths of their own.
use Rattle.std.proofs.Common.{◌≡◌, ℕ, Bool, true, false, cond, List, [], ◌∷◌, ◌++◌, length, map, Option, Some, None, IsSome, Result, Ok, Err, refl, sym, ap, ◌∙◌, subst, append_assoc}
use Rattle.std.specs.Prelude.{◌==◌, ◌||◌, filter, option_and_then}
use Rattle.std.proofs.lemmas.Bool.{false≢true}
use Rattle.std.proofs.lemmas.Option.{none-some}
use Rattle.cash_base.specs.declared.place.Slot.{Slot}
use Rattle.cash_base.specs.declared.place.Span.{Span}
use Rattle.cash_base.specs.Failing.{◌>>=◌}
use Rattle.cash_base.specs.Number.{truth_of}
use Rattle.std.specs.Global.{Vec}
use Rattle.tx_context.specs.World.{World}
use Rattle.opcode_table.specs.Stack.{Stack}
use Rattle.script_codec.specs.declared.spans.Spanned.{Spanned}
use Rattle.script_codec.specs.declared.spans.Mark.{Mark}
use Rattle.bch_vm.specs.Board.{is_live}
use Rattle.source_meaning.specs.declared.outcome.Failure.{Failure}
use Rattle.source_meaning.specs.Meaning.{Env}
use Rattle.slot_code.specs.declared.slots.SlotInstr.{SlotInstr}
use Rattle.slot_code.specs.declared.slots.SlotKind.TheVariants as SlotKind
use Rattle.slot_code.specs.declared.slots.SlotKind.TheOpen.{SlotKind-F}
use Rattle.slot_code.specs.Meaning.{State, state, act_of, run_of, all_acts, on_one}
use Rattle.slot_code.specs.Shape.{Place, Shape, Shapes, Operand, has, shapes_of, path_shape, closed, inside, in_both, with_operands, with_seen, with_slots, takes_all, then_shape, begins, fork_shape, path_block}
use Rattle.slot_liveness.specs.Live.{Slots, reads_of, kind_reads, later, only_other, either, kept, live}
use Rattle.slot_liveness.specs.Counts.{IsTight}
use Rattle.row_runs.specs.Rows.{Machine, machine, run_rows, step, IsNested}
use Rattle.row_runs.proofs.Turns.{run_append, then_ok, passes}
use Rattle.stack_emitter.specs.declared.emit.Emitter.{Emitter}
use Rattle.stack_emitter.specs.Places.{Spot}
use Rattle.stack_emitter.specs.Correct.{value, machine_at, Fits, told}
use Rattle.stack_emitter.proofs.Works.{fits_tail, none_fits}
use Rattle.stack_emitter.proofs.Tails.{end_after}
use Rattle.stack_emitter.proofs.Choose.{opens, flips, closes, if_step, else_step, otherwise, choice, choice_nested, choice_sound, end_yes, end_no}
use Rattle.stack_steps.specs.declared.low.Low.{Low}
use Rattle.stack_steps.specs.Lower.{AgreeOn, statements_of, place_of}
use Rattle.stack_steps.specs.Operations.{Marks}
use Rattle.stack_steps.proofs.AtKinds.{at_if}
use Rattle.stack_steps.proofs.Instrs.{place, shape_from, well_from}
use Rattle.stack_steps.proofs.Names.{then_true}
use Rattle.stack_schedule.specs.Endings.{PathEnds, Ending, SeenAt, MayEnd, path_of, last_meant}
use Rattle.stack_schedule.proofs.Blocks.{some_first}
use Rattle.stack_schedule.proofs.Arms.{arm_begins, arm_lives, swapped}
use Rattle.stack_schedule.proofs.Chosen.{Enters, then_test, one_known}
use Rattle.stack_schedule.proofs.Ways.{FinishesOne, FinishesAll, MayEndAll, closed_none}

-- ---- the places

some_is : (o : Option Place) → IsSome o → (q : Place) × (o ≡ Some q)
some_is (Some q) h = (q, refl)
some_is None h = absurd (false≢true h)

module _ (ys ns : List SlotInstr) (p : Place) (well : IsSome (fork_shape (map shapes_of ys) (map shapes_of ns) p)) where
  abbrev pub behind : Place → Option Place
  behind q = option_and_then (λ (r : Place). Some (with_seen r.seen (with_slots (in_both q.slots r.slots) p))) (path_block (map shapes_of ns) (with_seen q.seen p))

  pub yes_path : IsSome (path_of ys (inside [] p))
  yes_path = some_first (path_of ys (inside [] p)) behind well

  module _ (q : Place) (at_q : path_of ys (inside [] p) ≡ Some q) where
    no_behind : IsSome (behind q)
    no_behind = subst (λ o. IsSome (option_and_then behind o)) at_q well

    pub no_path : IsSome (path_of ns (inside [] (with_seen q.seen p)))
    no_path =
        some_first (path_of ns (inside [] (with_seen q.seen p))) (λ (r : Place). Some (with_seen r.seen (with_slots (in_both q.slots r.slots) p))) no_behind

    pub fork_is : (r : Place) → path_of ns (inside [] (with_seen q.seen p)) ≡ Some r
        → fork_shape (map shapes_of ys) (map shapes_of ns) p ≡ Some (with_seen r.seen (with_slots (in_both q.slots r.slots) p))
    fork_is r at_r =
        ap (option_and_then behind) at_q ∙ ap (option_and_then (λ (r : Place). Some (with_seen r.seen (with_slots (in_both q.slots r.slots) p)))) at_r

-- ---- the run

module _ (a b : List Spanned) (d c : Span) (na : IsNested a) (nb : IsNested b) (world : World) (stack : Stack) (conditions : List Bool) (x : List ℕ) (live : is_live conditions ≡ true) where
  abbrev start : Machine
  start = machine (x ∷ stack) conditions

  opened : (t : Bool) → truth_of x ≡ t → run_rows world (opens d c ∷ []) start ≡ Ok (machine stack (t ∷ conditions))
  opened t e = then_ok world (step world (opens d c) start) ∙ if_step world d c x stack conditions live ∙ ap (λ (u : Bool). Ok (machine stack (u ∷ conditions))) e

  after_opens : (t : Bool) → truth_of x ≡ t → run_rows world (choice a b d c) start ≡ run_rows world (a ++ otherwise a b d c) (machine stack (t ∷ conditions))
  after_opens t e = run_append world (opens d c ∷ []) (a ++ otherwise a b d c) start ∙ ap (λ r. r >>= run_rows world (a ++ otherwise a b d c)) (opened t e)

  failed_yes : (f : Failure) → truth_of x ≡ true → run_rows world a (machine stack (true ∷ conditions)) ≡ Err (told f) → run_rows world (choice a b d c) start ≡ Err (told f)
  failed_yes f e ran =
      after_opens true e ∙ run_append world a (otherwise a b d c) (machine stack (true ∷ conditions)) ∙ ap (λ r. r >>= run_rows world (otherwise a b d c)) ran

  failed_no : (f : Failure) → truth_of x ≡ false → run_rows world b (machine stack (true ∷ conditions)) ≡ Err (told f) → run_rows world (choice a b d c) start ≡ Err (told f)
  failed_no f e ran =
      after_opens false e ∙ run_append world a (otherwise a b d c) (machine stack (false ∷ conditions))
      ∙ ap (λ r. r >>= run_rows world (otherwise a b d c)) (passes world a na stack (false ∷ conditions) refl)
      ∙ ap (λ r. r >>= run_rows world (b ++ closes d c ∷ [])) (else_step world d c false stack conditions)
      ∙ run_append world b (closes d c ∷ []) (machine stack (true ∷ conditions)) ∙ ap (λ r. r >>= run_rows world (closes d c ∷ [])) ran

  module _ (meant whole : Span → Type 0) (means : (span : Span) → meant span → whole span) where
    pub ending_yes : truth_of x ≡ true → (o : Result State Failure) → Ending meant world a (machine stack (true ∷ conditions)) (true ∷ conditions) o
        → Ending whole world (choice a b d c) start conditions o
    ending_yes e (Ok s) (Ending.ends _ span is t) =
        Ending.ends (Ok s) span (means span is)
        (end_after world (opens d c ∷ []) (a ++ otherwise a b d c) start (machine stack (true ∷ conditions)) conditions span (Ok s) (opened true e) (end_yes a b d c na nb world stack conditions span (Ok s) t))
    ending_yes e (Err f) (Ending.ends _ span is t) =
        Ending.ends (Err f) span (means span is)
        (end_after world (opens d c ∷ []) (a ++ otherwise a b d c) start (machine stack (true ∷ conditions)) conditions span (Err f) (opened true e) (end_yes a b d c na nb world stack conditions span (Err f) t))
    ending_yes e (Err f) (Ending.fails _ ran) = Ending.fails f (failed_yes f e ran)

    pub ending_no : truth_of x ≡ false → (o : Result State Failure) → Ending meant world b (machine stack (true ∷ conditions)) (true ∷ conditions) o
        → Ending whole world (choice a b d c) start conditions o
    ending_no e (Ok s) (Ending.ends _ span is t) =
        Ending.ends (Ok s) span (means span is)
        (end_after world (opens d c ∷ []) (a ++ otherwise a b d c) start (machine stack (false ∷ conditions)) conditions span (Ok s) (opened false e) (end_no a b d c na nb world stack conditions span (Ok s) t))
    ending_no e (Err f) (Ending.ends _ span is t) =
        Ending.ends (Err f) span (means span is)
        (end_after world (opens d c ∷ []) (a ++ otherwise a b d c) start (machine stack (false ∷ conditions)) conditions span (Err f) (opened false e) (end_no a b d c na nb world stack conditions span (Err f) t))
    ending_no e (Err f) (Ending.fails _ ran) = Ending.fails f (failed_no f e ran)

-- ---- as the code comes to it

pub path_closed : (instrs : List SlotInstr) (p q : Place) → path_of instrs p ≡ Some q → q.operands ≡ []
path_closed instrs p q h = by (path_shape (map shapes_of instrs) p) h
  where
    by : (o : Option Place) → option_and_then closed o ≡ Some q → q.operands ≡ []
    by None k = absurd (none-some q k)
    by (Some t) k = closed_none t q k

seen_at : (o : Option Place) (q : Place) (spans : List Span) → o ≡ Some q → SeenAt o spans → q.seen ≡ spans
seen_at o q spans e h = subst (λ o. SeenAt o spans) e h

module _ (instr : SlotInstr) (ys ns rest : List SlotInstr) (after held : List Slot) (never : Slots) (old marked : Low) (m : Marks instr.checking old marked) (e : instr.kind ≡ SlotKind.If ys ns) (may : MayEnd (shapes_of instr).last (either (reads_of instr) (later rest after)) (λ s. has s held || never s) old) where
  abbrev next : Slots
  next = later rest after

  abbrev reads : Slots
  reads = kind_reads (SlotKind-F.If (map reads_of ys) (map reads_of ns))

  abbrev forks : Shape
  forks = fork_shape (map shapes_of ys) (map shapes_of ns)

  last_is : (shapes_of instr).last ≡ then_shape (begins instr.checking false) (then_shape (takes_all 1) forks)
  last_is = ap (λ (x : Shapes). x.last) (at_if instr ys ns e).shapes_is

  well : IsSome (then_shape (begins instr.checking false) (then_shape (takes_all 1) forks) (place_of old))
  well = subst (λ f. IsSome (f (place_of old))) last_is may.ready.well

  -- behind the test
  abbrev pub tested : Place
  tested = place [] marked.scope marked.outer (statements_of marked.marks.items)

  tests : ((length marked.emitter.place.operands == 1) ≡ true) × IsSome (forks tested)
  tests =
      then_test (length marked.emitter.place.operands == 1) forks (with_operands [] (place_of marked))
      (well_from instr.checking false old marked m (then_shape (takes_all 1) forks) well)

  pub operand : (k : Operand) × (marked.emitter.place.operands ≡ k ∷ [])
  operand = one_known marked.emitter.place.operands tests.0

  tight : IsTight (kept (either reads next) (λ s. has s held || never s)) old.scope old.emitter.place.slots
  tight = subst (λ r. IsTight (kept (either r next) (λ s. has s held || never s)) old.scope old.emitter.place.slots) (at_if instr ys ns e).reads_is may.ready.tight

  same_layout : marked.emitter.place.slots ≡ old.emitter.place.slots
  same_layout = ap (λ (t : Emitter). t.place.slots) m.emitter

  abbrev after_fork : List Slot
  after_fork = filter next old.scope

  abbrev hold_yes : Slots
  hold_yes s = has s (held ++ filter (only_other ys ns) old.scope) || never s

  abbrev hold_no : Slots
  hold_no s = has s (held ++ filter (only_other ns ys) old.scope) || never s

  abbrev EntersPath : (Span → Span → Spanned) → Low → Low → Type 0
  EntersPath opcode_row before now = Enters opcode_row instr marked.emitter.place.slots marked.scope [] before now

  entered : (opcode_row : Span → Span → Spanned) (before now : Low) (seen : List Span) → EntersPath opcode_row before now → statements_of before.marks.items ≡ seen
      → place_of now ≡ inside [] (with_seen seen tested)
  entered opcode_row before now seen x h =
      ap (λ (p : Spot). place p.operands now.scope now.outer (statements_of now.marks.items)) x.place_is
      ∙ ap (λ l. place [] l now.outer (statements_of now.marks.items)) x.scope_is ∙ ap (λ l. place [] marked.scope l (statements_of now.marks.items)) x.outer_is
      ∙ ap (λ (l : Vec Mark). place [] marked.scope [] (statements_of l.items)) x.marks_are ∙ ap (place [] marked.scope []) h

  module _ (a : Low) (in_a : EntersPath opens marked a) where
    at_a : place_of a ≡ inside [] tested
    at_a = entered opens marked a (statements_of marked.marks.items) in_a refl

    slots_a : a.emitter.place.slots ≡ old.emitter.place.slots
    slots_a = ap (λ (p : Spot). p.slots) in_a.place_is ∙ same_layout

    scope_a : a.scope ≡ old.scope
    scope_a = in_a.scope_is ∙ m.scope

    pub fork_yes : MayEndAll ys after_fork hold_yes a
    fork_yes = record {
      ready = arm_begins ys ns reads next held old.scope never (λ s. refl) (path_of ys) a old.emitter.place.slots tight may.ready.once may.ready.few
          (subst (λ p. IsSome (path_of ys p)) (sym at_a) (yes_path ys ns tested tests.1)) slots_a scope_a;
      closed = λ q h. path_closed ys (place_of a) q h;
    }

    module _ (b : Low) (y : FinishesAll instr.checking ys after_fork a b) where
      yes_end : (q : Place) × (path_of ys (inside [] tested) ≡ Some q)
      yes_end = some_is (path_of ys (inside [] tested)) (yes_path ys ns tested tests.1)

      seen_b : yes_end.0.seen ≡ statements_of b.marks.items
      seen_b = seen_at (path_of ys (place_of a)) yes_end.0 (statements_of b.marks.items) (ap (path_of ys) at_a ∙ yes_end.1) y.seen

      module _ (c : Low) (in_c : EntersPath flips b c) where
        at_c : place_of c ≡ inside [] (with_seen yes_end.0.seen tested)
        at_c = entered flips b c yes_end.0.seen in_c (sym seen_b)

        slots_c : c.emitter.place.slots ≡ old.emitter.place.slots
        slots_c = ap (λ (p : Spot). p.slots) in_c.place_is ∙ same_layout

        scope_c : c.scope ≡ old.scope
        scope_c = in_c.scope_is ∙ m.scope

        pub fork_no : MayEndAll ns after_fork hold_no c
        fork_no = record {
          ready = arm_begins ns ys reads next held old.scope never (swapped ys ns) (path_of ns) c old.emitter.place.slots tight may.ready.once may.ready.few
              (subst (λ p. IsSome (path_of ns p)) (sym at_c) (no_path ys ns tested tests.1 yes_end.0 yes_end.1)) slots_c scope_c;
          closed = λ q h. path_closed ns (place_of c) q h;
        }

        module _ (d : Low) (z : FinishesAll instr.checking ns after_fork c d) where
          no_end : (r : Place) × (path_of ns (inside [] (with_seen yes_end.0.seen tested)) ≡ Some r)
          no_end = some_is (path_of ns (inside [] (with_seen yes_end.0.seen tested))) (no_path ys ns tested tests.1 yes_end.0 yes_end.1)

          seen_d : no_end.0.seen ≡ statements_of d.marks.items
          seen_d = seen_at (path_of ns (place_of c)) no_end.0 (statements_of d.marks.items) (ap (path_of ns) at_c ∙ no_end.1) z.seen

          abbrev whole_rows : List Spanned
          whole_rows = choice y.rows z.rows instr.doing instr.checking

          grows : (new : Low) → new.emitter.code.items ≡ d.emitter.code.items ++ closes instr.doing instr.checking ∷ []
              → new.emitter.code.items ≡ marked.emitter.code.items ++ whole_rows
          grows new code = rw (code, z.grown, in_c.code, y.grown, in_a.code) (simp append_assoc)

          module _ (world : World) (values env : Env) (conditions : List Bool) (live_here : is_live conditions ≡ true) (agree : AgreeOn (live old.scope (either reads next)) values env) where
            abbrev stack : Stack
            stack = map (value env) old.emitter.place.slots ++ []

            agree_yes : AgreeOn (live a.scope (later ys after_fork)) values env
            agree_yes slot h =
                agree slot (arm_lives ys ns reads next held old.scope never (λ s. refl) slot (subst (λ l. live l (later ys after_fork) slot ≡ true) scope_a h))

            agree_no : AgreeOn (live c.scope (later ns after_fork)) values env
            agree_no slot h =
                agree slot (arm_lives ns ys reads next held old.scope never (swapped ys ns) slot (subst (λ l. live l (later ns after_fork) slot ≡ true) scope_c h))

            end_a : Ending (PathEnds world instr.checking ys (state [] values)) world y.rows (machine stack (true ∷ conditions)) (true ∷ conditions) (run_of world ys (state [] values))
            end_a =
                subst (λ l. Ending (PathEnds world instr.checking ys (state [] values)) world y.rows (machine (map (value env) l ++ []) (true ∷ conditions)) (true ∷ conditions) (run_of world ys (state [] values))) slots_a
                (y.ends world (state [] values) env (true ∷ conditions) live_here (subst (λ (p : Spot). Fits p.operands []) (sym in_a.place_is) tt) agree_yes)

            end_c : Ending (PathEnds world instr.checking ns (state [] values)) world z.rows (machine stack (true ∷ conditions)) (true ∷ conditions) (run_of world ns (state [] values))
            end_c =
                subst (λ l. Ending (PathEnds world instr.checking ns (state [] values)) world z.rows (machine (map (value env) l ++ []) (true ∷ conditions)) (true ∷ conditions) (run_of world ns (state [] values))) slots_c
                (z.ends world (state [] values) env (true ∷ conditions) live_here (subst (λ (p : Spot). Fits p.operands []) (sym in_c.place_is) tt) agree_no)

            picks : (x : List ℕ) (t : Bool) → truth_of x ≡ t
                → Ending (last_meant instr world (state (x ∷ []) values)) world whole_rows (machine (x ∷ stack) conditions) conditions (all_acts (cond t (map (act_of world) ys) (map (act_of world) ns)) (state [] values))
            picks x true h =
                ending_yes y.rows z.rows instr.doing instr.checking y.nested z.nested world stack conditions x live_here
                (PathEnds world instr.checking ys (state [] values)) (last_meant instr world (state (x ∷ []) values))
                (λ span is around others over. PathEnds.choice around instr ys ns others x [] values span over e (subst (λ u. PathEnds world instr.checking (cond u ys ns) (state [] values) span) (sym h) is))
                h (run_of world ys (state [] values)) end_a
            picks x false h =
                ending_no y.rows z.rows instr.doing instr.checking y.nested z.nested world stack conditions x live_here
                (PathEnds world instr.checking ns (state [] values)) (last_meant instr world (state (x ∷ []) values))
                (λ span is around others over. PathEnds.choice around instr ys ns others x [] values span over e (subst (λ u. PathEnds world instr.checking (cond u ys ns) (state [] values) span) (sym h) is))
                h (run_of world ns (state [] values)) end_c

            on_operands : (operands : Stack) → Fits (operand.0 ∷ []) operands
                → Ending (last_meant instr world (state operands values)) world whole_rows (machine (operands ++ stack) conditions) conditions
                (on_one instr.doing operands (λ x more. all_acts (cond (truth_of x) (map (act_of world) ys) (map (act_of world) ns)) (state more values)))
            on_operands [] fits = absurd (none_fits operand.0 [] fits)
            on_operands (x ∷ []) fits = picks x (truth_of x) refl
            on_operands (x ∷ w ∷ more) fits = absurd (fits_tail operand.0 [] x (w ∷ more) fits)

          pub fork_finishes : (new : Low) → new.emitter.code.items ≡ d.emitter.code.items ++ closes instr.doing instr.checking ∷ []
              → statements_of d.marks.items ≡ statements_of new.marks.items → FinishesOne instr rest after old new
          fork_finishes new code marks = record {
            rows = whole_rows;
            grown = grows new code ∙ ap (λ (t : Emitter). t.code.items ++ whole_rows) m.emitter;
            nested = choice_nested y.rows z.rows instr.doing instr.checking y.nested z.nested;
            sound = choice_sound y.rows z.rows instr.doing instr.checking y.sound z.sound;
            ends = λ world s env conditions live_here fits agree.
                subst (λ f. Ending (last_meant instr world s) world whole_rows (machine_at old.emitter.place.slots [] conditions (state s.operands env)) conditions (f s))
                (sym ((at_if instr ys ns e).act_is world))
                (on_operands world s.env env conditions live_here (subst (λ r. AgreeOn (live old.scope (either r next)) s.env env) (at_if instr ys ns e).reads_is agree)
                s.operands (subst (λ o. Fits o s.operands) (ap (λ (t : Emitter). t.place.operands) (sym m.emitter) ∙ operand.1) fits));
            seen = subst (λ o. SeenAt o (statements_of new.marks.items))
                (sym (ap (λ f. f (place_of old)) last_is ∙ shape_from instr.checking false old marked m (then_shape (takes_all 1) forks) well
                ∙ then_true (length marked.emitter.place.operands == 1) forks (with_operands [] (place_of marked)) tests.0
                ∙ fork_is ys ns tested tests.1 yes_end.0 yes_end.1 no_end.0 no_end.1))
                (seen_d ∙ marks);
          }
