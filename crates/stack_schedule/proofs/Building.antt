-- How rows were emitted, put together as the code does.
use Rattle.std.proofs.Common.{◌≡◌, ℕ, ◌+◌, ◌<◌, ◌≤◌, Bool, false, true, cond, not, List, [], ◌∷◌, ◌++◌, length, drop, map, get_or, refl, sym, ap, ◌∙◌, subst, arith}
use Rattle.std.specs.Prelude.{◌&&◌, ◌==◌, nat_lt, filter}
use Rattle.std.proofs.lemmas.Bool.{false≢true, and_from, lt-ltb, eq-eqb, eqb-true, ltb-true}
use Rattle.std.proofs.lemmas.List.{drop_all}
use Rattle.std.proofs.Common.{length-append}
use Rattle.cash_base.specs.declared.place.Slot.{Slot}
use Rattle.cash_base.specs.declared.place.Span.{Span}
use Rattle.script_codec.specs.declared.spans.Mark.{Mark}
use Rattle.script_codec.specs.declared.spans.Spanned.{Spanned}
use Rattle.slot_code.specs.declared.slots.SlotInstr.{SlotInstr}
use Rattle.slot_code.specs.declared.slots.SlotFunction.{SlotFunction}
use Rattle.slot_code.specs.declared.slots.SlotKind.TheVariants as SlotKind
use Rattle.slot_code.specs.Meaning.{act_of}
use Rattle.slot_code.specs.Shape.{shapes_of, is_over, has_span}
use Rattle.slot_liveness.specs.Live.{later, hold, only_other}
use Rattle.stack_emitter.specs.declared.emit.Emitter.{Emitter}
use Rattle.stack_emitter.specs.Places.{Spot, spot}
use Rattle.stack_emitter.specs.Correct.{Adds, Ends, nothing}
use Rattle.stack_steps.specs.declared.low.Low.{Low}
use Rattle.stack_steps.specs.Lower.{IsNoChoice, Ready, Does, place_of, statements_of}
use Rattle.stack_steps.specs.Steps.{Steps, marks_after}
use Rattle.stack_schedule.specs.Endings.{SeenAt, MayEnd, path_of}
use Rattle.stack_schedule.specs.Schedule.{Starts}
use Rattle.stack_schedule.specs.Built.{Built, Part, One, Block, Last, Path, reads_now, MarksNow, Stepped, Opened, control, IsBuilt, IsScheduled}
use Rattle.stack_schedule.proofs.Blocks.{next_item}
use Rattle.stack_schedule.proofs.Taken.{ArmsOf}

-- ---- loops over blocks

-- what is left, from here on, makes the whole
abbrev pub LeftBuilt : List SlotInstr → List SlotInstr → List Slot → List Slot → Low → Low → ℕ → Type 0
LeftBuilt body instrs after held old now i =
    (final : Low) → Built body (Block (drop i instrs)) after held now final → Built body (Block instrs) after held old final

abbrev pub LeftPath : Span → List SlotInstr → List SlotInstr → List Slot → List Slot → Low → Low → ℕ → Type 0
LeftPath around body instrs after held old now i =
    (final : Low) → Built body (Path around (drop i instrs)) after held now final → Built body (Path around instrs) after held old final

pub left_built_none : (body instrs : List SlotInstr) (after held : List Slot) (old : Low) → LeftBuilt body instrs after held old old 0
left_built_none body instrs after held old final b = b

pub left_path_none : (around : Span) (body instrs : List SlotInstr) (after held : List Slot) (old : Low) → LeftPath around body instrs after held old old 0
left_path_none around body instrs after held old final b = b

module _ (body instrs : List SlotInstr) (after held : List Slot) (old now : Low) (i : ℕ) (x d : SlotInstr) (others : List SlotInstr) (lt : i < length instrs) (at : x ≡ get_or instrs i d) (e : others ≡ drop (i + 1) instrs) where
  is_here : drop i instrs ≡ x ∷ others
  is_here = next_item instrs x d i lt at ∙ ap (λ r. x ∷ r) (sym e)

  pub left_built_more : (next : Low) → LeftBuilt body instrs after held old now i → IsBuilt body (One x others) after held now next
      → LeftBuilt body instrs after held old next (i + 1)
  left_built_more next l b final c =
      l final (subst (λ xs. Built body (Block xs) after held now final) (sym is_here)
      (Built.more x others after held now next final (b tt) (subst (λ r. Built body (Block r) after held next final) (sym e) c)))

  pub left_path_more : (around : Span) (next : Low) → LeftPath around body instrs after held old now i → is_over (map shapes_of others) ≡ false
      → IsBuilt body (One x others) after held now next → LeftPath around body instrs after held old next (i + 1)
  left_path_more around next l over b final c =
      l final (subst (λ xs. Built body (Path around xs) after held now final) (sym is_here)
      (Built.further around x others after held now next final over (b tt) (subst (λ r. Built body (Path around r) after held next final) (sym e) c)))

  pub left_path_done : (around : Span) (final : Low) → LeftPath around body instrs after held old now i → is_over (map shapes_of others) ≡ true
      → IsBuilt body (Last x others) after held now final → IsBuilt body (Path around instrs) after held old final
  left_path_done around final l over b u =
      l final (subst (λ xs. Built body (Path around xs) after held now final) (sym is_here) (Built.ended around x others after held now final over (b tt)))

module _ (body instrs : List SlotInstr) (after held : List Slot) (old now : Low) (i : ℕ) (over : length instrs ≤ i) where
  pub left_built_all : LeftBuilt body instrs after held old now i → IsBuilt body (Block instrs) after held old now
  left_built_all l u = l now (subst (λ xs. Built body (Block xs) after held now now) (sym (drop_all i instrs over)) (Built.none after held now))

  pub left_path_missing : (around : Span) (final : Low) → LeftPath around body instrs after held old now i → Ends around now.emitter final.emitter nothing
      → final.marks ≡ now.marks → IsBuilt body (Path around instrs) after held old final
  left_path_missing around final l x same u =
      l final (subst (λ xs. Built body (Path around xs) after held now final) (sym (drop_all i instrs over)) (Built.missing around after held now final x same))

-- ---- choices, as the code comes to them

pub built_as : (body : List SlotInstr) (part : Part) (live other held others : List Slot) (a b : Low) → live ≡ other → held ≡ others
    → Built body part live held a b → Built body part other others a b
built_as body part live other held others a b e f d =
    subst (λ l. Built body part l others a b) e (subst (λ l. Built body part live l a b) f d)

pub opened_as : (opcode : ℕ) (instr : SlotInstr) (layout layout' scope scope' outer outer' : List Slot) (old new : Low) → layout ≡ layout' → scope ≡ scope' → outer ≡ outer'
    → Opened opcode instr layout scope outer old new → Opened opcode instr layout' scope' outer' old new
opened_as opcode instr layout layout' scope scope' outer outer' old new e f g x =
    record { code = x.code; place = x.place ∙ ap (spot []) e; scope_is = x.scope_is ∙ f; outer_is = x.outer_is ∙ g; marks = x.marks }

module _ (body : List SlotInstr) (instr : SlotInstr) (ys ns rest : List SlotInstr) (after held : List Slot) (old marked : Low) (m : MarksNow instr.checking old marked) (e : instr.kind ≡ SlotKind.If ys ns) (live yes_held no_held layout scope : List Slot) (k : ArmsOf ys ns rest after held marked live yes_held no_held layout scope) where
  live_is : live ≡ filter (later rest after) old.scope
  live_is = k.live_is ∙ ap (filter (later rest after)) m.scope

  yes_is : yes_held ≡ held ++ filter (only_other ys ns) old.scope
  yes_is = k.yes_is ∙ ap (λ l. held ++ filter (only_other ys ns) l) m.scope

  no_is : no_held ≡ held ++ filter (only_other ns ys) old.scope
  no_is = k.no_is ∙ ap (λ l. held ++ filter (only_other ns ys) l) m.scope

  layout_is : layout ≡ old.emitter.place.slots
  layout_is = k.layout_is ∙ ap (λ (x : Emitter). x.place.slots) m.emitter

  scope_is : scope ≡ old.scope
  scope_is = k.scope_is ∙ m.scope

  opens_as : (opcode : ℕ) (outer outer' : List Slot) (from to : Low) → outer ≡ outer' → Opened opcode instr layout scope outer from to
      → Opened opcode instr old.emitter.place.slots old.scope outer' from to
  opens_as opcode outer outer' from to g x = opened_as opcode instr layout old.emitter.place.slots scope old.scope outer outer' from to layout_is scope_is g x

  pub choice_built : Ready (shapes_of instr).inner (reads_now instr rest after) (hold body held) old
      → (opened yes_end joined turned no_end new : Low) (settled : Emitter)
      → Does (λ world. act_of world instr) (shapes_of instr).inner (reads_now instr rest after) (later rest after) (hold body held) old new
      → Opened 0x63 instr layout scope scope marked opened → IsBuilt body (Block ys) live yes_held opened yes_end
      → Adds instr.checking instr.checking yes_end.emitter joined.emitter nothing → joined.marks ≡ yes_end.marks
      → Opened 0x67 instr layout scope scope joined turned → IsBuilt body (Block ns) live no_held turned no_end
      → Adds instr.checking instr.checking no_end.emitter settled nothing
      → new.emitter.code.items ≡ settled.code.items ++ control 0x68 instr ∷ [] → new.marks ≡ no_end.marks
      → IsBuilt body (One instr rest) after held old new
  choice_built ready opened yes_end joined turned no_end new settled does in_yes yes_built joins same in_no no_built settles closes marks u =
      Built.choice instr rest ys ns after held old marked opened yes_end joined turned no_end new settled e ready does m
      (opens_as 0x63 scope old.scope marked opened scope_is in_yes)
      (built_as body (Block ys) live (filter (later rest after) old.scope) yes_held (held ++ filter (only_other ys ns) old.scope) opened yes_end live_is yes_is (yes_built tt))
      joins same (opens_as 0x67 scope old.scope joined turned scope_is in_no)
      (built_as body (Block ns) live (filter (later rest after) old.scope) no_held (held ++ filter (only_other ns ys) old.scope) turned no_end live_is no_is (no_built tt))
      settles closes marks

  pub fork_built : MayEnd (shapes_of instr).last (reads_now instr rest after) (hold body held) old
      → (outer : List Slot) → outer ≡ [] → (opened yes_end turned no_end new : Low)
      → Opened 0x63 instr layout scope outer marked opened → IsBuilt body (Path instr.checking ys) live yes_held opened yes_end
      → SeenAt (path_of ys (place_of opened)) (statements_of yes_end.marks.items) → Opened 0x67 instr layout scope outer yes_end turned → IsBuilt body (Path instr.checking ns) live no_held turned no_end
      → new.emitter.code.items ≡ no_end.emitter.code.items ++ control 0x68 instr ∷ [] → new.marks ≡ no_end.marks
      → IsBuilt body (Last instr rest) after held old new
  fork_built may outer none opened yes_end turned no_end new in_yes yes_built seen in_no no_built closes marks u =
      Built.fork instr rest ys ns after held old marked opened yes_end turned no_end new e may m
      (opens_as 0x63 outer [] marked opened none in_yes)
      (built_as body (Path instr.checking ys) live (filter (later rest after) old.scope) yes_held (held ++ filter (only_other ys ns) old.scope) opened yes_end live_is yes_is (yes_built tt))
      seen (opens_as 0x67 outer [] yes_end turned none in_no)
      (built_as body (Path instr.checking ns) live (filter (later rest after) old.scope) no_held (held ++ filter (only_other ns ys) old.scope) turned no_end live_is no_is (no_built tt))
      closes marks

-- ---- a function

pub scheduled_by : (f : SlotFunction) (layout : List Slot) (old new : Low) → Starts f layout old → (body : List SlotInstr) (none : List Slot) → body ≡ f.body → none ≡ []
    → IsBuilt body (Path f.span body) none none old new → IsScheduled f layout new.emitter.code.items new.marks.items
scheduled_by f layout old new starts body none b n built = record {
  old = old;
  new = new;
  starts = starts;
  built = subst (λ l. Built f.body (Path f.span f.body) l l old new) n (subst (λ is. Built is (Path f.span is) none none old new) b (built tt));
  code_is = refl;
  marks_are = refl;
}
