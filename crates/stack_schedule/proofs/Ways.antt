-- The loop over a block that ends its paths.
use Rattle.std.proofs.Common.{◌≡◌, ℕ, ◌+◌, ◌<◌, ◌≤◌, Bool, true, false, cond, List, [], ◌∷◌, ◌++◌, length, drop, map, get_or, Option, Some, None, IsSome, Ok, refl, sym, ap, ◌∙◌, subst, arith}
use Rattle.std.specs.Prelude.{◌==◌, ◌||◌, ◌&&◌, option_and_then}
use Rattle.std.proofs.lemmas.Bool.{false≢true, eqb-true}
use Rattle.std.proofs.lemmas.List.{drop_all}
use Rattle.std.proofs.lemmas.Option.{none-some, same_Some}
use Rattle.cash_base.specs.declared.place.Slot.{Slot}
use Rattle.cash_base.specs.declared.place.Span.{Span}
use Rattle.cash_base.specs.Failing.{◌>>=◌}
use Rattle.tx_context.specs.World.{World}
use Rattle.slot_code.specs.declared.slots.SlotInstr.{SlotInstr}
use Rattle.slot_code.specs.declared.slots.SlotKind.TheVariants as SlotKind
use Rattle.slot_code.specs.Meaning.{State, state, act_of, run_of, without_value}
use Rattle.slot_code.specs.Shape.{Place, Shape, Shapes, Operand, has, shapes_of, all_shapes, path_shape, is_over, closed, only_if, has_span, with_operands, with_slots, with_seen, without, ends_slot, then_shape}
use Rattle.slot_liveness.specs.Live.{Slots, reads_of, later, either, live}
use Rattle.stack_emitter.specs.Correct.{Deed, Ends, nothing, machine_at}
use Rattle.stack_steps.specs.declared.low.Low.{Low}
use Rattle.stack_steps.specs.Lower.{statements_of, place_of, Ready, Does}
use Rattle.stack_schedule.specs.Endings.{AllEnds, PathEnds, Meant, SeenAt, MayEnd, Finishes, path_of, last_meant}
use Rattle.stack_steps.proofs.AtKinds.{at_end}
use Rattle.stack_steps.proofs.Instrs.{only_true}
use Rattle.stack_steps.proofs.Same.{same_none}
use Rattle.stack_schedule.proofs.Blocks.{next_item, some_first, deed_of_all}
use Rattle.stack_schedule.proofs.PathEndings.{ending_more, ending_as, finishes_by, finish_then}

-- ---- the ends of names behind a path's end

none_stand : (operands : List Operand) → (length operands == 0) ≡ true → operands ≡ []
none_stand [] h = refl
none_stand (k ∷ operands) h = let e = eqb-true (length (k ∷ operands)) 0 h in absurd (omega (arith, e))

-- where such an end is well formed no operands stand, and no statement begins
record EndAt (p q : Place) : Type 0 where
  operands : p.operands ≡ []
  after : q.operands ≡ []
  seen : q.seen ≡ p.seen

end_inner : (instr : SlotInstr) (slot : Slot) → instr.kind ≡ SlotKind.End slot → (p q : Place) → (shapes_of instr).inner p ≡ Some q → EndAt p q
end_inner instr slot e p q h =
    by_seen (has_span instr.checking p.seen) (ap (λ (x : Shapes). x.inner p) (sym (at_end instr slot e).shapes_is) ∙ h)
  where
    by_slot : (b : Bool) → only_if b (with_slots (without slot p.slots) (with_operands [] p)) ≡ Some q → p.operands ≡ [] → EndAt p q
    by_slot false k none = absurd (none-some q k)
    by_slot true k none =
        let same = same_Some (with_slots (without slot p.slots) (with_operands [] p)) q k in
        record { operands = none; after = ap (λ (x : Place). x.operands) (sym same); seen = ap (λ (x : Place). x.seen) (sym same) }

    by_operands : (b : Bool) → (length p.operands == 0) ≡ b
        → option_and_then (ends_slot slot) (only_if b (with_operands [] p)) ≡ Some q → EndAt p q
    by_operands false f k = absurd (none-some q k)
    by_operands true f k = by_slot _ k (none_stand p.operands f)

    by_none : (a b : Bool) → option_and_then (λ (r : Place). option_and_then (ends_slot slot) (only_if (length r.operands == 0) (with_operands [] r))) (only_if (a && false) (with_seen (p.seen ++ instr.checking ∷ []) p)) ≡ Some q → EndAt p q
    by_none true b k = absurd (none-some q k)
    by_none false b k = absurd (none-some q k)

    by_seen : (b : Bool) → option_and_then (λ (r : Place). option_and_then (ends_slot slot) (only_if (length r.operands == 0) (with_operands [] r))) (cond b (Some p) (only_if ((length p.operands == 0) && false) (with_seen (p.seen ++ instr.checking ∷ []) p))) ≡ Some q → EndAt p q
    by_seen true k = by_operands (length p.operands == 0) refl k
    by_seen false k = by_none (length p.operands == 0) false k

pub ends_operands : (rest : List SlotInstr) → AllEnds rest → (p q : Place) → all_shapes (map shapes_of rest) p ≡ Some q → q.operands ≡ [] → p.operands ≡ []
ends_operands [] over p q h none = ap (λ (x : Place). x.operands) (same_Some p q h) ∙ none
ends_operands (x ∷ rest) over p q h none = by ((shapes_of x).inner p) refl h
  where
    by : (o : Option Place) → (shapes_of x).inner p ≡ o → option_and_then (all_shapes (map shapes_of rest)) o ≡ Some q → p.operands ≡ []
    by None e k = absurd (none-some q k)
    by (Some r) e k = (end_inner x over.0.0 over.0.1 p r e).operands

pub ends_seen : (rest : List SlotInstr) → AllEnds rest → (p q : Place) → all_shapes (map shapes_of rest) p ≡ Some q → q.seen ≡ p.seen
ends_seen [] over p q h = ap (λ (x : Place). x.seen) (sym (same_Some p q h))
ends_seen (x ∷ rest) over p q h = by (λ r k. ends_seen rest over.1 r q k) ((shapes_of x).inner p) refl h
  where
    by : ((r : Place) → all_shapes (map shapes_of rest) r ≡ Some q → q.seen ≡ r.seen)
        → (o : Option Place) → (shapes_of x).inner p ≡ o → option_and_then (all_shapes (map shapes_of rest)) o ≡ Some q → q.seen ≡ p.seen
    by more None e k = absurd (none-some q k)
    by more (Some r) e k = more r k ∙ (end_inner x over.0.0 over.0.1 p r e).seen

-- they leave a value to each operand and fail nowhere
pub ends_act : (world : World) (rest : List SlotInstr) → AllEnds rest → (s : State) → (t : State) × (run_of world rest s ≡ Ok t)
ends_act world [] over s = (s, refl)
ends_act world (x ∷ rest) over s =
    let next = state s.operands (without_value over.0.0 s.env) in
    let more = ends_act world rest over.1 next in
    (more.0, ap (λ f. f s >>= run_of world rest) ((at_end x over.0.0 over.0.1).act_is world) ∙ more.1)

-- ---- the loop

abbrev pub FinishesAll : Span → List SlotInstr → List Slot → Low → Low → Type 0
FinishesAll around instrs after old new =
    Finishes (deed_of_all instrs) (λ world. PathEnds world around instrs) (path_of instrs) (later instrs after) old new

abbrev pub MayEndAll : List SlotInstr → List Slot → Slots → Low → Type 0
MayEndAll instrs after hold old = MayEnd (path_of instrs) (later instrs after) hold old

abbrev pub FinishesOne : SlotInstr → List SlotInstr → List Slot → Low → Low → Type 0
FinishesOne x rest after old new =
    Finishes (λ world. act_of world x) (last_meant x) (shapes_of x).last (either (reads_of x) (later rest after)) old new

pub record LeftEnd (around : Span) (old now : Low) (instrs : List SlotInstr) (after : List Slot) (hold : Slots) (i : ℕ) : Type 0 where
  pub may : MayEndAll (drop i instrs) after hold now
  pub by : (final : Low) → FinishesAll around (drop i instrs) after now final → FinishesAll around instrs after old final

pub left_end_none : (around : Span) (old : Low) (instrs : List SlotInstr) (after : List Slot) (hold : Slots) → MayEndAll instrs after hold old
    → LeftEnd around old old instrs after hold 0
left_end_none around old instrs after hold m = record { may = m; by = λ final x. x }

in_turn : (f g : Shape) (o : Option Place) → option_and_then g (option_and_then f o) ≡ option_and_then (then_shape f g) o
in_turn f g None = refl
in_turn f g (Some p) = refl

path_step : (x : SlotInstr) (rest : List SlotInstr) → is_over (map shapes_of rest) ≡ false → (p : Place)
    → path_of (x ∷ rest) p ≡ option_and_then (path_of rest) ((shapes_of x).inner p)
path_step x rest over p =
    ap (λ b. option_and_then closed (cond b (option_and_then (all_shapes (map shapes_of rest)) ((shapes_of x).last p)) (option_and_then (path_shape (map shapes_of rest)) ((shapes_of x).inner p)))) over
    ∙ in_turn (path_shape (map shapes_of rest)) closed ((shapes_of x).inner p)

path_last : (x : SlotInstr) (rest : List SlotInstr) → is_over (map shapes_of rest) ≡ true → (p : Place)
    → path_of (x ∷ rest) p ≡ option_and_then (then_shape (all_shapes (map shapes_of rest)) closed) ((shapes_of x).last p)
path_last x rest over p =
    ap (λ b. option_and_then closed (cond b (option_and_then (all_shapes (map shapes_of rest)) ((shapes_of x).last p)) (option_and_then (path_shape (map shapes_of rest)) ((shapes_of x).inner p)))) over
    ∙ in_turn (all_shapes (map shapes_of rest)) closed ((shapes_of x).last p)

finishes_shape : (deed : Deed) (meant : Meant) (shape shape' : Shape) (before : Slots) (old new : Low) → shape (place_of old) ≡ shape' (place_of old)
    → Finishes deed meant shape before old new → Finishes deed meant shape' before old new
finishes_shape deed meant shape shape' before old new e x = record {
  rows = x.rows;
  grown = x.grown;
  nested = x.nested;
  sound = x.sound;
  ends = x.ends;
  seen = subst (λ o. SeenAt o (statements_of new.marks.items)) e x.seen;
}

pub closed_none : (p q : Place) → closed p ≡ Some q → q.operands ≡ []
closed_none p q h = by (length p.operands == 0) refl h
  where
    by : (b : Bool) → (length p.operands == 0) ≡ b → only_if b p ≡ Some q → q.operands ≡ []
    by true e k = ap (λ (x : Place). x.operands) (sym (same_Some p q k)) ∙ none_stand p.operands e
    by false e k = absurd (none-some q k)

module _ (around : Span) (old now : Low) (instrs : List SlotInstr) (after : List Slot) (hold : Slots) (i : ℕ) (x d : SlotInstr) (others : List SlotInstr) (l : LeftEnd around old now instrs after hold i) (lt : i < length instrs) (at : x ≡ get_or instrs i d) (e : others ≡ drop (i + 1) instrs) where
  is_here : drop i instrs ≡ x ∷ others
  is_here = next_item instrs x d i lt at ∙ ap (λ r. x ∷ r) (sym e)

  may_here : MayEndAll (x ∷ others) after hold now
  may_here = subst (λ xs. MayEndAll xs after hold now) is_here l.may

  module _ (over : is_over (map shapes_of others) ≡ false) where
    step : path_of (x ∷ others) (place_of now) ≡ option_and_then (path_of others) ((shapes_of x).inner (place_of now))
    step = path_step x others over (place_of now)

    pub end_item : Ready (shapes_of x).inner (either (reads_of x) (later others after)) hold now
    end_item = record {
      well = some_first ((shapes_of x).inner (place_of now)) (path_of others) (subst IsSome step may_here.ready.well);
      tight = may_here.ready.tight;
      once = may_here.ready.once;
      few = may_here.ready.few;
    }

    pub left_end_more : (AllEnds others → ⊥) → (next : Low)
        → Does (λ world. act_of world x) (shapes_of x).inner (either (reads_of x) (later others after)) (later others after) hold now next
        → LeftEnd around old next instrs after hold (i + 1)
    left_end_more more next y = record {
      may = subst (λ r. MayEndAll r after hold next) e (record {
        ready = record {
          well = subst (λ o. IsSome (option_and_then (path_of others) o)) y.place (subst IsSome step may_here.ready.well);
          tight = y.tight;
          once = y.once;
          few = y.few;
        };
        closed = λ place h. may_here.closed place (step ∙ ap (option_and_then (path_of others)) y.place ∙ h);
      });
      by = λ final z.
          l.by final (subst (λ xs. FinishesAll around xs after now final) (sym is_here)
          (finishes_shape (deed_of_all (x ∷ others)) (λ world. PathEnds world around (x ∷ others)) (λ p. option_and_then (path_of others) ((shapes_of x).inner p)) (path_of (x ∷ others)) (later (x ∷ others) after) now final (sym step)
          (finish_then (λ world. act_of world x) (deed_of_all others) (shapes_of x).inner (path_of others) (either (reads_of x) (later others after)) (later others after) hold
          (λ world. PathEnds world around others) (λ world. PathEnds world around (x ∷ others)) now next final y
          (subst (λ r. FinishesAll around r after next final) (sym e) z)
          (λ world s t span ran is. PathEnds.more around x others s t span more ran is))));
    }

  module _ (over : is_over (map shapes_of others) ≡ true) (ends : AllEnds others) where
    last_step : path_of (x ∷ others) (place_of now) ≡ option_and_then (then_shape (all_shapes (map shapes_of others)) closed) ((shapes_of x).last (place_of now))
    last_step = path_last x others over (place_of now)

    last_closed : (q r : Place) → then_shape (all_shapes (map shapes_of others)) closed q ≡ Some r → q.operands ≡ []
    last_closed q r h = by (all_shapes (map shapes_of others) q) refl h
      where
        by : (o : Option Place) → all_shapes (map shapes_of others) q ≡ o → option_and_then closed o ≡ Some r → q.operands ≡ []
        by None f k = absurd (none-some r k)
        by (Some t) f k = ends_operands others ends q t f (stood t k)
          where
            stood : (t : Place) → closed t ≡ Some r → t.operands ≡ []
            stood t k = again (length t.operands == 0) refl k
              where
                again : (b : Bool) → (length t.operands == 0) ≡ b → only_if b t ≡ Some r → t.operands ≡ []
                again true f k = none_stand t.operands f
                again false f k = absurd (none-some r k)

    pub end_last : MayEnd (shapes_of x).last (either (reads_of x) (later others after)) hold now
    end_last = record {
      ready = record {
        well = some_first ((shapes_of x).last (place_of now)) (then_shape (all_shapes (map shapes_of others)) closed) (subst IsSome last_step may_here.ready.well);
        tight = may_here.ready.tight;
        once = may_here.ready.once;
        few = may_here.ready.few;
      };
      closed = λ q h. by q h (then_shape (all_shapes (map shapes_of others)) closed q) refl
          (subst (λ o. IsSome (option_and_then (then_shape (all_shapes (map shapes_of others)) closed) o)) h (subst IsSome last_step may_here.ready.well));
    }
      where
        by : (q : Place) → (shapes_of x).last (place_of now) ≡ Some q → (o : Option Place) → then_shape (all_shapes (map shapes_of others)) closed q ≡ o → IsSome o → q.operands ≡ []
        by q h None f k = absurd (false≢true k)
        by q h (Some r) f k = last_closed q r f

    seen_behind : (spans : List Span) (o : Option Place) → SeenAt o spans → SeenAt (option_and_then (then_shape (all_shapes (map shapes_of others)) closed) o) spans
    seen_behind spans None h = tt
    seen_behind spans (Some q) h = by (all_shapes (map shapes_of others) q) refl
      where
        by_closed : (b : Bool) (t : Place) → t.seen ≡ q.seen → SeenAt (only_if b t) spans
        by_closed true t e = e ∙ h
        by_closed false t e = tt

        by : (o : Option Place) → all_shapes (map shapes_of others) q ≡ o → SeenAt (option_and_then closed o) spans
        by None e = tt
        by (Some t) e = by_closed (length t.operands == 0) t (ends_seen others ends q t e)

    pub left_end_done : (final : Low) → FinishesOne x others after now final → FinishesAll around instrs after old final
    left_end_done final z =
        let whole : FinishesAll around (x ∷ others) after now final = record {
          rows = z.rows;
          grown = z.grown;
          nested = z.nested;
          sound = z.sound;
          ends = λ world s env conditions live fits agree.
              ending_more (PathEnds world around (x ∷ others) s) world z.rows (machine_at now.emitter.place.slots [] conditions (state s.operands env)) conditions (act_of world x s) (run_of world others)
              (λ t. ends_act world others ends t)
              (ending_as (last_meant x world s) (PathEnds world around (x ∷ others) s) world z.rows (machine_at now.emitter.place.slots [] conditions (state s.operands env)) conditions (act_of world x s)
              (λ span is. is around others ends) (z.ends world s env conditions live fits agree));
          seen = subst (λ o. SeenAt o (statements_of final.marks.items)) (sym last_step)
              (seen_behind (statements_of final.marks.items) ((shapes_of x).last (place_of now)) z.seen);
        } in
        l.by final (subst (λ xs. FinishesAll around xs after now final) (sym is_here) whole)

-- ---- the block is over, and no instruction has ended the path

module _ (around : Span) (old now : Low) (instrs : List SlotInstr) (after : List Slot) (hold : Slots) (i : ℕ) (l : LeftEnd around old now instrs after hold i) (over : length instrs ≤ i) where
  may_none : MayEndAll [] after hold now
  may_none = subst (λ xs. MayEndAll xs after hold now) (drop_all i instrs over) l.may

  pub missing_closed : now.emitter.place.operands ≡ []
  missing_closed = none_stand now.emitter.place.operands (only_true (length now.emitter.place.operands == 0) (place_of now) may_none.ready.well)

  seen_here : (spans : List Span) → statements_of now.marks.items ≡ spans → (b : Bool) → SeenAt (only_if b (place_of now)) spans
  seen_here spans e true = e
  seen_here spans e false = tt

  pub left_end_missing : (final : Low) → Ends around now.emitter final.emitter nothing → statements_of now.marks.items ≡ statements_of final.marks.items
      → FinishesAll around instrs after old final
  left_end_missing final x marks =
      l.by final (subst (λ xs. FinishesAll around xs after now final) (sym (drop_all i instrs over))
      (finishes_by (deed_of_all []) nothing (λ world. PathEnds world around []) (path_of []) (later [] after) (live now.scope (later [] after)) now final
      (same_none (live now.scope (later [] after))) around x (λ world s. PathEnds.missing around s)
      (seen_here (statements_of final.marks.items) marks (length now.emitter.place.operands == 0))))

-- ---- by the lists as the code has them

pub may_end_as : (instrs : List SlotInstr) (live other held others : List Slot) (never : Slots) (a : Low) → live ≡ other → held ≡ others
    → MayEndAll instrs other (λ s. has s others || never s) a → MayEndAll instrs live (λ s. has s held || never s) a
may_end_as instrs live other held others never a e f r =
    subst (λ l. MayEndAll instrs l (λ s. has s held || never s) a) (sym e) (subst (λ l. MayEndAll instrs other (λ s. has s l || never s) a) (sym f) r)

pub finishes_with : (around : Span) (instrs : List SlotInstr) (live other : List Slot) (a b : Low) → live ≡ other → FinishesAll around instrs live a b
    → FinishesAll around instrs other a b
finishes_with around instrs live other a b e x = subst (λ l. FinishesAll around instrs l a b) e x
