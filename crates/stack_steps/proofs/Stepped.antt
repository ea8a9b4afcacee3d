-- What a step adds, put together.
use Rattle.cash_base.specs.declared.place.Span.{Span}
use Rattle.std.proofs.Common.{◌≡◌, ℕ, cond, suc, ◌+◌, ◌-◌, ◌≤◌, true, List, [], ◌∷◌, ◌++◌, length, Option, None, refl, sym, ap, ◌∙◌, subst, arith, length-append}
use Rattle.std.specs.Global.{Vec}
use Rattle.cash_base.specs.declared.place.Slot.{Slot}
use Rattle.script_codec.specs.declared.spans.Mark.{Mark}
use Rattle.slot_code.specs.declared.slots.SlotInstr.{SlotInstr}
use Rattle.slot_code.specs.declared.slots.SlotKind.TheVariants as SlotKind
use Rattle.slot_code.specs.Meaning.{act_of}
use Rattle.slot_code.specs.Shape.{Operand, shapes_of, has, without}
use Rattle.slot_code.specs.Weight.{Weighs, weighs_of}
use Rattle.slot_liveness.specs.Live.{Slots, reads_of, either}
use Rattle.slot_liveness.specs.Counts.{count_of}
use Rattle.slot_liveness.proofs.Counts.{less_is, length_less}
use Rattle.stack_emitter.specs.declared.emit.Emitter.{Emitter}
use Rattle.stack_emitter.specs.Correct.{Deed, Adds, Costs}
use Rattle.stack_steps.specs.declared.low.Low.{Low}
use Rattle.stack_steps.specs.Lower.{Ready, Does}
use Rattle.stack_steps.specs.Operations.{Marks, Operates}
use Rattle.stack_steps.specs.Steps.{Placing, places_of, doing_of, Tells, TopPushed, KeysKnown, Pays, marks_after, Steps}
use Rattle.stack_steps.proofs.Adding.{cost, Spends, adds_tells, adds_keys, adds_spends, top_none, pays_same, pays_more, pays_end, pays_from}
use Rattle.stack_steps.proofs.Weighing.{weighs_get, weighs_define, weighs_define_pair, weighs_assign, weighs_end}

-- what an emitter's rows cost
pub spent : (instr : SlotInstr) (marked : Low) (emitter after : Emitter) → after ≡ emitter → (deed : Deed) (doing : Span) → Adds doing instr.checking marked.emitter emitter deed
    → (b o : ℕ) → Costs marked.emitter emitter b o → Spends marked.emitter after b o
spent instr marked emitter after same deed doing x b o costs =
    subst (λ e. Spends marked.emitter e b o) (sym same) (adds_spends doing instr.checking marked.emitter emitter deed b o x costs)

module _ (instr : SlotInstr) (later hold : Slots) (old marked : Low) (m : Marks instr.checking old marked) (marks_are : marked.marks.items ≡ marks_after instr.checking old) where
  abbrev before : Slots
  before = either (reads_of instr) later

  abbrev DoesOne : Low → Type 0
  DoesOne new = Does (λ world. act_of world instr) (shapes_of instr).inner before later hold old new

  known_here : KeysKnown old.emitter → KeysKnown marked.emitter
  known_here k = subst KeysKnown (sym m.emitter) k

  -- an operation
  pub steps_operates : (new : Low) → Ready (shapes_of instr).inner before hold old → Operates instr marked new → Steps instr before later hold old new
  steps_operates new ready x = record {
    does = x.does old later hold m ready;
    tells = subst (λ e. Tells (doing_of instr) instr.checking e new.emitter) m.emitter x.tells;
    lays = x.lays later hold ∙ ap (λ (e : Emitter). (places_of instr).lays later hold e.place.slots) m.emitter;
    keys = λ k. x.keys (known_here k);
    pays = λ k. pays_from (weighs_of instr).inner old marked new m.emitter m.scope (x.pays (known_here k));
    marks = ap (λ (l : Vec Mark). l.items) x.marks ∙ marks_are;
  }

  -- rows that an emitter added
  module _ (emitter : Emitter) (new : Low) (same : new.emitter ≡ emitter) (marks_same : new.marks ≡ marked.marks) (deed : Deed) (doing : Span) (x : Adds doing instr.checking marked.emitter emitter deed) (operands : List Operand) (at : emitter.place.operands ≡ operands) (top : TopPushed operands emitter.code.items) where
    -- the instruction's places, and the layout that follows
    pub steps_adds : (placing : Placing) → places_of instr ≡ placing → cond placing.serves instr.doing instr.checking ≡ doing
        → emitter.place.slots ≡ placing.lays later hold marked.emitter.place.slots → DoesOne new → Pays (weighs_of instr).inner marked new
        → Steps instr before later hold old new
    steps_adds placing places serves lays does pays = record {
      does = does;
      tells = subst (λ d. Tells d instr.checking old.emitter new.emitter) (sym (ap (λ (p : Placing). cond p.serves instr.doing instr.checking) places ∙ serves))
          (subst (λ e. Tells doing instr.checking e new.emitter) m.emitter
          (subst (λ e. Tells doing instr.checking marked.emitter e) (sym same) (adds_tells doing instr.checking marked.emitter emitter deed x)));
      lays = ap (λ (e : Emitter). e.place.slots) same ∙ lays
          ∙ ap (λ (e : Emitter). placing.lays later hold e.place.slots) m.emitter
          ∙ ap (λ (p : Placing). p.lays later hold old.emitter.place.slots) (sym places);
      keys = λ k. subst KeysKnown (sym same) (adds_keys doing instr.checking marked.emitter emitter deed x (top_none emitter operands at top) (known_here k));
      pays = λ k. pays_from (weighs_of instr).inner old marked new m.emitter m.scope pays;
      marks = ap (λ (l : Vec Mark). l.items) marks_same ∙ marks_are;
    }

  pub get_pays : (slot : Slot) (new : Low) → instr.kind ≡ SlotKind.Get slot → new.scope ≡ marked.scope → Spends marked.emitter new.emitter 4 1 → Pays (weighs_of instr).inner marked new
  get_pays slot new e scope x = pays_same (weighs_of instr).inner 4 1 marked new (ap (λ (w : Weighs). w.inner) (weighs_get instr slot e)) scope x

  pub assign_pays : (slot : Slot) (new : Low) → instr.kind ≡ SlotKind.Assign slot → new.scope ≡ marked.scope → Spends marked.emitter new.emitter 5 2 → Pays (weighs_of instr).inner marked new
  assign_pays slot new e scope x = pays_same (weighs_of instr).inner 5 2 marked new (ap (λ (w : Weighs). w.inner) (weighs_assign instr slot e)) scope x

  pub define_pays : (slot : Slot) (new : Low) → instr.kind ≡ SlotKind.Define slot → new.scope ≡ marked.scope ++ slot ∷ [] → Spends marked.emitter new.emitter 1 1 → Pays (weighs_of instr).inner marked new
  define_pays slot new e scope x =
      pays_more (weighs_of instr).inner 1 marked new (ap (λ (w : Weighs). w.inner) (weighs_define instr slot e)) (ap length scope ∙ length-append marked.scope (slot ∷ [])) x

  pub pair_pays : (left right : Slot) (new : Low) → instr.kind ≡ SlotKind.DefinePair left right → new.scope ≡ (marked.scope ++ left ∷ []) ++ right ∷ [] → Spends marked.emitter new.emitter 2 2 → Pays (weighs_of instr).inner marked new
  pair_pays left right new e scope x =
      pays_more (weighs_of instr).inner 2 marked new (ap (λ (w : Weighs). w.inner) (weighs_define_pair instr left right e))
      (let a = ap length scope in let b = length-append (marked.scope ++ left ∷ []) (right ∷ []) in let c = length-append marked.scope (left ∷ []) in omega (arith, a, b, c)) x

  pub end_pays : (slot : Slot) (new : Low) → instr.kind ≡ SlotKind.End slot → new.scope ≡ without slot marked.scope → has slot marked.scope ≡ true → count_of slot marked.scope ≤ 1 → Spends marked.emitter new.emitter 4 1 → Pays (weighs_of instr).inner marked new
  end_pays slot new e scope has_it once x =
      pays_end (weighs_of instr).inner marked new (ap (λ (w : Weighs). w.inner) (weighs_end instr slot e))
      (let a = ap length (scope ∙ sym (less_is slot marked.scope once)) in let b = length_less slot marked.scope has_it in omega (arith, a, b)) x
