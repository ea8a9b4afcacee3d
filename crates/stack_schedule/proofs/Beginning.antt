-- The whole function: where it begins, and what its run says of the machine's.
use Rattle.std.proofs.Common.{◌≡◌, ℕ, zero, suc, ◌+◌, ◌≤◌, Bool, true, false, cond, not, List, [], ◌∷◌, ◌++◌, length, map, Option, Some, None, IsSome, Result, Ok, Err, refl, sym, ap, ◌∙◌, subst, arith, inl, inr, append-nil}
use Rattle.std.specs.Prelude.{◌==◌, ◌||◌, ◌&&◌, nat_le, is_some, slice_get, IsTrue}
use Rattle.std.specs.List.{list_all}
use Rattle.std.proofs.lemmas.Bool.{false≢true, and_parts, and_from, eqb-true, leb-true}
use Rattle.std.proofs.lemmas.List.{length-append}
use Rattle.cash_base.specs.declared.place.Slot.{Slot}
use Rattle.cash_base.specs.declared.place.Span.{Span}
use Rattle.cash_base.specs.Failing.{◌>>=◌}
use Rattle.tx_context.specs.World.{World}
use Rattle.script_codec.specs.declared.instr.Instr.{Instr}
use Rattle.script_codec.specs.declared.instr.Instr.TheVariants.{Push, Do}
use Rattle.script_codec.specs.declared.spans.Spanned.{Spanned}
use Rattle.opcode_table.specs.Stack.{Stack}
use Rattle.bch_vm.specs.Setting.{setting_in}
use Rattle.bch_vm.specs.Board.{board}
use Rattle.bch_vm.specs.Law.{are_keys_known, asks_for_keys}
use Rattle.bch_vm.specs.Script as script
use Rattle.bch_vm.specs.Script.{state_of, beginning, run, balanced, run_end}
use Rattle.source_meaning.specs.declared.outcome.Failure.{Failure}
use Rattle.source_meaning.specs.Meaning.{Env, ended}
use Rattle.slot_code.specs.declared.slots.SlotInstr.{SlotInstr}
use Rattle.slot_code.specs.declared.slots.SlotFunction.{SlotFunction}
use Rattle.slot_code.specs.Meaning.{State, state, run_of}
use Rattle.slot_code.specs.Shape.{Place, shapes_of, most_slots, first_slots, start, ends_rightly, IsWellFormed}
use Rattle.slot_liveness.specs.Live.{later, read_in, hold, kept}
use Rattle.slot_liveness.specs.Counts.{count_of, IsOnce, IsTight}
use Rattle.slot_liveness.proofs.Counts.{count_append}
use Rattle.row_runs.specs.Rows.{instructions, Machine, machine, run_rows, Executed, executed, last_of, Fault}
use Rattle.run_laws.specs.Nested.{none_open}
use Rattle.script_codec.specs.Names.{is_named, are_named}
use Rattle.script_codec.specs.Spelling.{is_instruction, are_instructions, spellings}
use Rattle.script_codec.specs.Reading.{reading}
use Rattle.script_codec.specs.Counting.{number_pushed, key_count, counted_in}
use Rattle.selector.specs.Pieces.{opcode_weight}
use Rattle.counting_laws.specs.Counts.{keys_taken, opcodes_in}
use Rattle.slot_code.specs.Weight.{weighs_of, path_weigh}
use Rattle.slot_liveness.proofs.Sets.{fits, tight_within}
use Rattle.row_runs.specs.Code.{is_simple, are_simple, HasLast, EndsAlike, RunsAsCode}
use Rattle.stack_emitter.specs.Codes.{is_sound, is_depth, are_sound, bytes_of, row_ops}
use Rattle.stack_emitter.specs.Places.{Spot}
use Rattle.stack_emitter.specs.Correct.{value, Fits, told, EndsIn, FalseEnd}
use Rattle.stack_steps.specs.declared.low.Low.{Low}
use Rattle.stack_steps.specs.Lower.{statements_of, place_of}
use Rattle.stack_steps.specs.Steps.{KeysKnown, counted, counted_of}
use Rattle.stack_steps.proofs.Instrs.{place}
use Rattle.stack_steps.proofs.Adding.{top_none}
use Rattle.stack_schedule.specs.Costs.{CountsEnd}
use Rattle.slot_code.specs.Spans.{code_spans}
use Rattle.stack_schedule.specs.Spans.{have_places, KeepsSpans, KeepsPlaces}
use Rattle.stack_schedule.specs.Endings.{PathEnds, Ending, SeenAt, MayEnd, Finishes, path_of}
use Rattle.stack_schedule.specs.Schedule.{IsStart, Starts, LeavesOne, FailsAt, EndsFalseAt, EndsAs, Decides, EndsItsPath, EndsOnItsOwn, HasForm, AreNamed, IsWithin, seen_at, statements}
use Rattle.stack_schedule.proofs.Forks.{path_closed}

-- ---- the slots of the parameters

none_from : (n : ℕ) (s : Slot) → n ≤ s.0 → count_of s (first_slots n) ≡ 0
none_from zero s h = refl
none_from (suc n) s h =
    count_append s (first_slots n) (record { 0 = n } ∷ []) ∙ by (λ k. none_from n s k) (n == s.0) refl
  where
    by : (n ≤ s.0 → count_of s (first_slots n) ≡ 0) → (b : Bool) → (n == s.0) ≡ b → count_of s (first_slots n) + (cond b 1 0 + 0) ≡ 0
    by fewer true e = let same = eqb-true n s.0 e in absurd (omega (arith, h, same))
    by fewer false e = let rest = fewer (omega (arith, h)) in omega (arith, rest)

pub first_once : (n : ℕ) → IsOnce (first_slots n)
first_once zero s = omega arith
first_once (suc n) s =
    subst (λ k. k ≤ 1) (sym (count_append s (first_slots n) (record { 0 = n } ∷ []))) (by (first_once n s) (n == s.0) refl)
  where
    by : count_of s (first_slots n) ≤ 1 → (b : Bool) → (n == s.0) ≡ b → count_of s (first_slots n) + (cond b 1 0 + 0) ≤ 1
    by fewer true e =
        let same = eqb-true n s.0 e in
        let rest : count_of s (first_slots n) ≡ 0 = none_from n s (omega (arith, same)) in omega (arith, rest)
    by fewer false e = omega (arith, fewer)

pub first_length : (n : ℕ) → length (first_slots n) ≡ n
first_length zero = refl
first_length (suc n) =
    let rest = first_length n in let both = length-append (first_slots n) (record { 0 = n } ∷ []) in omega (arith, rest, both)

-- ---- where the code begins

pub starts_known : (f : SlotFunction) (layout : List Slot) (low : Low) → Starts f layout low → KeysKnown low.emitter
starts_known f layout low x = record {
  known = ap (λ rows. are_keys_known false (instructions rows)) x.code_is;
  top = top_none low.emitter [] (ap (λ (p : Spot). p.operands) x.place_is) tt;
}

module _ (f : SlotFunction) (layout : List Slot) (low : Low) (well : IsWellFormed f) (holds : IsStart f layout) (x : Starts f layout low) where
  tests : (nat_le (f.ctors + f.params) most_slots ≡ true) × ((is_some (path_of f.body (start (f.ctors + f.params))) && ends_rightly (map shapes_of f.body)) ≡ true)
  tests = and_parts (nat_le (f.ctors + f.params) most_slots) (is_some (path_of f.body (start (f.ctors + f.params))) && ends_rightly (map shapes_of f.body)) well

  pub few_params : f.ctors + f.params ≤ most_slots
  few_params = leb-true (f.ctors + f.params) most_slots tests.0

  some_of : (o : Option Place) → is_some o ≡ true → IsSome o
  some_of (Some p) h = refl
  some_of None h = h

  pub at_start : place_of low ≡ start (f.ctors + f.params)
  at_start =
      ap (λ (p : Spot). place p.operands low.scope low.outer (statements_of low.marks.items)) x.place_is
      ∙ ap (λ l. place [] l low.outer (statements_of low.marks.items)) x.scope_is ∙ ap (λ l. place [] (first_slots (f.ctors + f.params)) l (statements_of low.marks.items)) x.outer_is
      ∙ ap (λ l. place [] (first_slots (f.ctors + f.params)) [] (statements_of l)) x.marks_are

  pub path_some : IsSome (path_of f.body (start (f.ctors + f.params)))
  path_some =
      some_of (path_of f.body (start (f.ctors + f.params))) (and_parts (is_some (path_of f.body (start (f.ctors + f.params)))) (ends_rightly (map shapes_of f.body)) tests.1).0

  all_kept : (s : Slot) → kept (later f.body []) (hold f.body []) s ≡ true
  all_kept s = by (read_in f.body s)
    where
      by : (b : Bool) → (b || (false || not b)) ≡ true
      by true = refl
      by false = refl

  starts_tight : IsTight (kept (later f.body []) (hold f.body [])) low.scope low.emitter.place.slots
  starts_tight s =
      ap (λ (p : Spot). count_of s p.slots) x.place_is ∙ holds s ∙ ap (count_of s) (sym x.scope_is)
      ∙ ap (λ b. cond b (count_of s low.scope) 0) (sym (all_kept s))

  pub starts : MayEnd (path_of f.body) (later f.body []) (hold f.body []) low
  starts = record {
    ready = record {
      well = subst (λ p. IsSome (path_of f.body p)) (sym at_start) path_some;
      tight = starts_tight;
      once = subst IsOnce (sym x.scope_is) (first_once (f.ctors + f.params));
      few = let h = few_params in let len = ap length x.scope_is ∙ first_length (f.ctors + f.params) in omega (arith, h, len);
    };
    closed = λ q h. path_closed f.body (place_of low) q h;
  }

-- ---- from a run of rows to the machine's

module _ (world : World) (rows : List Spanned) (stack : Stack) (as_code : RunsAsCode rows) where
  abbrev begins_at : Machine
  begins_at = machine stack []

  abbrev end : Result script.State script.Failure
  end = run_end world (instructions rows) stack

  alike : EndsAlike rows (executed world 0 rows begins_at) (run_rows world rows begins_at) (run (setting_in world (instructions rows)) (instructions rows) (script.state stack beginning))
  alike = as_code world stack

  -- where one element is left, the machine ends with it, and names the row that was the last
  record Left (truth : Bool) (span : Span) : Type 0 where
    last : script.State
    is : end ≡ Ok last
    one : LeavesOne truth last
    row : Spanned
    found : slice_get rows last.progress.last ≡ Some row
    checking : row.checking ≡ span

  left_one : (truth : Bool) (span : Span) → EndsIn truth world rows begins_at [] span → Left truth span
  left_one truth span x = by (subst (λ r. EndsAlike rows (executed world 0 rows begins_at) r (run (setting_in world (instructions rows)) (instructions rows) (script.state stack beginning))) x.ends alike)
    where
      by : EndsAlike rows (executed world 0 rows begins_at) (Ok (machine (x.element ∷ []) [])) (run (setting_in world (instructions rows)) (instructions rows) (script.state stack beginning)) → Left truth span
      by g =
          let e = x.last 0 None in
          let h : HasLast rows (executed world 0 rows begins_at) g.0 = g.2 in record {
            last = state_of (board (x.element ∷ []) [] [] 0) g.0;
            is = ap (λ r. r >>= λ (s : script.State). balanced s.board.conditions s) g.1;
            one = (x.element, refl, x.truth_is);
            row = e.0.row;
            found = ap (slice_get rows) (h.index e.0 e.1) ∙ h.stands e.0 e.1;
            checking = e.2;
          }

  failed : (f : Failure) → run_rows world rows begins_at ≡ Err (told f) → FailsAt rows f.span f.cause end
  failed f ran = by (subst (λ r. EndsAlike rows (executed world 0 rows begins_at) r (run (setting_in world (instructions rows)) (instructions rows) (script.state stack beginning))) ran alike)
    where
      by : EndsAlike rows (executed world 0 rows begins_at) (Err (told f)) (run (setting_in world (instructions rows)) (instructions rows) (script.state stack beginning)) → FailsAt rows f.span f.cause end
      by g = (g.0, ap (λ r. r >>= λ (s : script.State). balanced s.board.conditions s) g.4, (g.1, g.2, sym g.3))

  false_end : (f : Failure) (span : Span) → FalseEnd world rows begins_at [] f span → EndsFalseAt rows f.span f.cause end
  false_end f span x =
      let l = left_one false span x.ends in
      (l.last, l.is, l.one, x.cause, (l.row, l.found, l.checking ∙ sym x.place))

  pub ends_as : (o : Result State Failure) (meant : Span → Type 0) → Ending meant world rows begins_at [] o → EndsAs rows (ended o) end
  ends_as (Ok s) meant (Ending.ends _ span is x) = let l = left_one true span x in (l.last, l.is, l.one)
  ends_as (Err f) meant (Ending.ends _ span is (inl ran)) = inl (failed f ran)
  ends_as (Err f) meant (Ending.ends _ span is (inr x)) = inr (false_end f span x)
  ends_as (Err f) meant (Ending.fails _ ran) = inl (failed f ran)

  abbrev ok_or : script.State → Result script.State script.Failure → script.State
  ok_or other (Ok s) = s
  ok_or other (Err e) = other

  abbrev is_ok : Result script.State script.Failure → Bool
  is_ok (Ok s) = true
  is_ok (Err e) = false

  abbrev LastIn : (Span → Type 0) → script.State → Type 0
  LastIn meant s = (row : Spanned) × (slice_get rows s.progress.last ≡ Some row) × meant row.checking

  at_last : (truth : Bool) (meant : Span → Type 0) (span : Span) → meant span → EndsIn truth world rows begins_at [] span → (s : script.State) → end ≡ Ok s → LastIn meant s
  at_last truth meant span is x s e =
      let l = left_one truth span x in
      let same : l.last ≡ s = ap (ok_or s) (sym l.is ∙ e) in
      (l.row, subst (λ (t : script.State). slice_get rows t.progress.last ≡ Some l.row) same l.found, subst meant (sym l.checking) is)

  never : (f : Failure) (s : script.State) → FailsAt rows f.span f.cause end → end ≡ Ok s → ⊥
  never f s x e = false≢true (sym (ap is_ok x.1) ∙ ap is_ok e)

  pub ends_path : (o : Result State Failure) (meant : Span → Type 0) → Ending meant world rows begins_at [] o → (s : script.State) → end ≡ Ok s → LastIn meant s
  ends_path (Ok t) meant (Ending.ends _ span is x) s e = at_last true meant span is x s e
  ends_path (Err f) meant (Ending.ends _ span is (inl ran)) s e = absurd (never f s (failed f ran) e)
  ends_path (Err f) meant (Ending.ends _ span is (inr x)) s e = at_last false meant span is x.ends s e
  ends_path (Err f) meant (Ending.fails _ ran) s e = absurd (never f s (failed f ran) e)

  -- what was executed last
  abbrev Last : Type 0
  Last = (e : Executed) × (last_of None (executed world 0 rows begins_at) ≡ Some e)

  last_in : (truth : Bool) (span : Span) → EndsIn truth world rows begins_at [] span → Last
  last_in truth span x = let e = x.last 0 None in (e.0, e.1)

  abbrev is_whole : Result Machine Fault → Bool
  is_whole (Ok m) = true
  is_whole (Err e) = false

  unfinished : (f : Failure) (m : Machine) → run_rows world rows begins_at ≡ Err (told f) → run_rows world rows begins_at ≡ Ok m → ⊥
  unfinished f m failed ran = false≢true (sym (ap is_whole failed) ∙ ap is_whole ran)

  pub on_its_own : (o : Result State Failure) (meant : Span → Type 0) → Ending meant world rows begins_at [] o → (m : Machine)
      → run_rows world rows begins_at ≡ Ok m → Last
  on_its_own (Ok s) meant (Ending.ends _ span is x) m ran = last_in true span x
  on_its_own (Err f) meant (Ending.ends _ span is (inl failed)) m ran = absurd (unfinished f m failed ran)
  on_its_own (Err f) meant (Ending.ends _ span is (inr x)) m ran = last_in false span x.ends
  on_its_own (Err f) meant (Ending.fails _ failed) m ran = absurd (unfinished f m failed ran)

-- ---- the function

module _ (f : SlotFunction) (layout : List Slot) (old new : Low) (x : Starts f layout old) (y : Finishes (λ world. run_of world f.body) (λ world. PathEnds world f.span f.body) (path_of f.body) (later f.body []) old new) where
  pub rows_are : new.emitter.code.items ≡ y.rows
  rows_are = y.grown ∙ ap (λ l. l ++ y.rows) x.code_is

  ending : (world : World) (env : Env) → Ending (PathEnds world f.span f.body (state [] env)) world y.rows (machine (map (value env) layout) []) [] (run_of world f.body (state [] env))
  ending world env =
      subst (λ l. Ending (PathEnds world f.span f.body (state [] env)) world y.rows (machine l []) [] (run_of world f.body (state [] env))) (append-nil (map (value env) layout))
      (subst (λ (p : Spot). Ending (PathEnds world f.span f.body (state [] env)) world y.rows (machine (map (value env) p.slots ++ []) []) [] (run_of world f.body (state [] env))) x.place_is
      (y.ends world (state [] env) env [] refl (subst (λ (p : Spot). Fits p.operands []) (sym x.place_is) tt) (λ slot h. refl)))

  module _ (as_code : RunsAsCode new.emitter.code.items) where
    as_rows : RunsAsCode y.rows
    as_rows = subst RunsAsCode rows_are as_code

    pub decides : Decides f layout new.emitter.code.items
    decides = subst (Decides f layout) (sym rows_are)
        (λ world env. ends_as world y.rows (map (value env) layout) as_rows (run_of world f.body (state [] env)) (PathEnds world f.span f.body (state [] env)) (ending world env))

    pub ends_its_path : EndsItsPath f layout new.emitter.code.items
    ends_its_path = subst (EndsItsPath f layout) (sym rows_are)
        (λ world env s e. ends_path world y.rows (map (value env) layout) as_rows (run_of world f.body (state [] env)) (PathEnds world f.span f.body (state [] env)) (ending world env) s e)

    pub ends_on_its_own : EndsOnItsOwn layout new.emitter.code.items
    ends_on_its_own = subst (EndsOnItsOwn layout) (sym rows_are)
        (λ world env m ran. on_its_own world y.rows (map (value env) layout) as_rows (run_of world f.body (state [] env)) (PathEnds world f.span f.body (state [] env)) (ending world env) m ran)

-- ---- as the code comes to it

sound_simple : (rows : List Spanned) → are_sound rows ≡ true → are_simple rows ≡ true
sound_simple [] h = refl
sound_simple (r ∷ rows) h =
    let k = and_parts (is_sound r.instr) (are_sound rows) h in
    let l = and_parts (is_instruction r.instr) (is_simple r.instr && (not (is_depth r.instr) && is_named r.instr)) k.0 in
    and_from (is_simple r.instr) (are_simple rows) (and_parts (is_simple r.instr) (not (is_depth r.instr) && is_named r.instr) l.1).0 (sound_simple rows k.1)

pub starts_as : (f : SlotFunction) (layout : List Slot) (low : Low) → IsWellFormed f → IsStart f layout → Starts f layout low → (body : List SlotInstr) (none : List Slot)
    → body ≡ f.body → none ≡ [] → MayEnd (path_of body) (later body none) (hold body none) low
starts_as f layout low well holds x body none b n =
    subst (λ is. MayEnd (path_of is) (later is none) (hold is none) low) (sym b)
    (subst (λ l. MayEnd (path_of f.body) (later f.body l) (hold f.body l) low) (sym n) (starts f layout low well holds x))

module _ (f : SlotFunction) (layout : List Slot) (old new : Low) (well : IsWellFormed f) (holds : IsStart f layout) (x : Starts f layout old) (body : List SlotInstr) (none : List Slot) (b : body ≡ f.body) (n : none ≡ []) (y : Finishes (λ world. run_of world body) (λ world. PathEnds world f.span body) (path_of body) (later body none) old new) (law : (rows : List Spanned) → IsTrue (are_simple rows) → RunsAsCode rows) where
  whole : Finishes (λ world. run_of world f.body) (λ world. PathEnds world f.span f.body) (path_of f.body) (later f.body []) old new
  whole =
      subst (λ l. Finishes (λ world. run_of world f.body) (λ world. PathEnds world f.span f.body) (path_of f.body) (later f.body l) old new) n
      (subst (λ is. Finishes (λ world. run_of world is) (λ world. PathEnds world f.span is) (path_of is) (later is none) old new) b y)

  as_code : RunsAsCode new.emitter.code.items
  as_code = law new.emitter.code.items (sound_simple new.emitter.code.items (subst (λ rows. are_sound rows ≡ true) (sym (rows_are f layout old new x whole)) whole.sound))

  pub schedule_decides : Decides f layout new.emitter.code.items
  schedule_decides = decides f layout old new x whole as_code

  pub schedule_ends : EndsItsPath f layout new.emitter.code.items
  schedule_ends = ends_its_path f layout old new x whole as_code

  pub schedule_own : EndsOnItsOwn layout new.emitter.code.items
  schedule_own = ends_on_its_own f layout old new x whole as_code

  pub schedule_form : HasForm new.emitter.code.items
  schedule_form = subst HasForm (sym (rows_are f layout old new x whole)) (record { nested = ap none_open (whole.nested 0); sound = whole.sound })

  pub schedule_statements : statements_of new.marks.items ≡ statements f
  schedule_statements =
      by (path_of f.body (start (f.ctors + f.params))) (path_some f layout old well holds x) (subst (λ p. SeenAt (path_of f.body p) (statements_of new.marks.items)) (at_start f layout old well holds x) whole.seen)
    where
      by : (o : Option Place) → IsSome o → SeenAt o (statements_of new.marks.items) → statements_of new.marks.items ≡ seen_at o
      by (Some p) h k = sym k
      by None h k = absurd (false≢true h)

-- ---- names of opcodes, and what the code costs

sound_named : (rows : List Spanned) → are_sound rows ≡ true → are_named (instructions rows) ≡ true
sound_named [] h = refl
sound_named (r ∷ rows) h =
    let k = and_parts (is_sound r.instr) (are_sound rows) h in
    let l = and_parts (is_instruction r.instr) (is_simple r.instr && (not (is_depth r.instr) && is_named r.instr)) k.0 in
    let m = and_parts (is_simple r.instr) (not (is_depth r.instr) && is_named r.instr) l.1 in
    and_from (is_named r.instr) (are_named (instructions rows)) (and_parts (not (is_depth r.instr)) (is_named r.instr) m.1).1 (sound_named rows k.1)

sound_spelled : (rows : List Spanned) → are_sound rows ≡ true → are_instructions (instructions rows) ≡ true
sound_spelled [] h = refl
sound_spelled (r ∷ rows) h =
    let k = and_parts (is_sound r.instr) (are_sound rows) h in
    let l = and_parts (is_instruction r.instr) (is_simple r.instr && (not (is_depth r.instr) && is_named r.instr)) k.0 in
    and_from (is_instruction r.instr) (are_instructions (instructions rows)) l.0 (sound_spelled rows k.1)

pub form_named : (rows : List Spanned) → HasForm rows → AreNamed rows
form_named rows h = sound_named rows h.sound

weight_alike : (instr : Instr) → row_ops instr ≡ opcode_weight instr
weight_alike (Push e) = refl
weight_alike (Do opcode) = refl

-- what rows count by their instructions, with so many keys pushed before them
counted_as : (keys : ℕ) (code : List Instr) → counted keys code ≡ keys_taken keys code + opcodes_in code
unfolding counted
counted_as keys [] = refl
counted_as keys (instr ∷ code) =
    let more = counted_as (key_count (number_pushed instr)) code in let one = weight_alike instr in omega (arith, more, one)

none_taken : (code : List Instr) → keys_taken 0 code ≡ 0
none_taken [] = refl
none_taken (instr ∷ code) = by (asks_for_keys instr)
  where
    by : (b : Bool) → ◌≡◌ {A = ℕ} (cond b 0 0) 0
    by true = refl
    by false = refl

rows_bytes : (rows : List Spanned) → bytes_of rows ≡ length (spellings (instructions rows))
unfolding bytes_of
rows_bytes rows = refl

module _ (f : SlotFunction) (layout : List Slot) (old new : Low) (well : IsWellFormed f) (holds : IsStart f layout) (x : Starts f layout old) (body : List SlotInstr) (b : body ≡ f.body) (y : CountsEnd (path_weigh (map weighs_of body)) old new) where
  spent : CountsEnd (path_weigh (map weighs_of f.body)) old new
  spent = subst (λ is. CountsEnd (path_weigh (map weighs_of is)) old new) b y

  names : length old.scope ≡ f.ctors + f.params
  names = ap length x.scope_is ∙ first_length (f.ctors + f.params)

  slots : length old.emitter.place.slots ≤ length old.scope
  slots = fits old.emitter.place.slots old.scope (tight_within _ old.scope old.emitter.place.slots (starts f layout old well holds x).ready.tight)

  pub schedule_within : ((code : List Instr) → IsTrue (are_instructions code) → counted_in (reading (spellings code)) ≡ opcodes_in code)
      → HasForm new.emitter.code.items → IsWithin f new.emitter.code.items
  schedule_within law form =
      let code = instructions new.emitter.code.items in
      let n = names in
      let s = slots in
      let wb = ap (λ m. (path_weigh (map weighs_of f.body) m).bytes) names in
      let wo = ap (λ m. (path_weigh (map weighs_of f.body) m).ops) names in
      let none_b : bytes_of old.emitter.code.items ≡ 0 = ap bytes_of x.code_is ∙ rows_bytes [] in
      let none_o : counted_of old.emitter.code.items ≡ 0 = ap counted_of x.code_is ∙ counted_as 0 [] in
      let total = rows_bytes new.emitter.code.items in
      let count = law code (sound_spelled new.emitter.code.items form.sound) in
      let same = counted_as 0 code in
      let none = none_taken code in
      let fb = spent.bytes_fit in
      let fo = spent.ops_fit in
      record { bytes = omega (arith, s, wb, none_b, total, fb); ops = omega (arith, s, wo, none_o, count, same, none, fo) }

-- ---- places

pub schedule_spans : (f : SlotFunction) (layout : List Slot) (old new : Low) → Starts f layout old → (body : List SlotInstr) → body ≡ f.body
    → KeepsPlaces (f.span ∷ code_spans body) old.emitter new.emitter → KeepsSpans f new.emitter.code.items
schedule_spans f layout old new x body b keeps holds all =
    keeps holds (subst (λ is. list_all holds (f.span ∷ code_spans is) ≡ true) (sym b) all) (ap (have_places holds) x.code_is)
