-- Blocks, one instruction after the other.
use Rattle.std.proofs.Common.{◌≡◌, ℕ, suc, ◌+◌, ◌-◌, ◌<◌, ◌≤◌, List, [], ◌∷◌, length, drop, take, length-drop, map, get_or, drop-cons, Option, Some, None, IsSome, refl, sym, ap, ◌∙◌, subst, arith, add-one, append-nil}
use Rattle.std.specs.Prelude.{◌||◌, option_and_then}
use Rattle.std.proofs.lemmas.List.{drop_all, take_all}
use Rattle.cash_base.specs.declared.place.Slot.{Slot}
use Rattle.slot_code.specs.declared.slots.SlotInstr.{SlotInstr}
use Rattle.slot_code.specs.Meaning.{act_of, run_of}
use Rattle.slot_code.specs.Shape.{Place, Shape, has, shapes_of, all_shapes}
use Rattle.slot_liveness.specs.Live.{Slots, reads_of, later, either, live}
use Rattle.stack_emitter.specs.Correct.{Deed, nothing, then_deed}
use Rattle.stack_emitter.proofs.Steps.{emits_by, emits_then, follows_none}
use Rattle.stack_steps.specs.declared.low.Low.{Low}
use Rattle.stack_steps.specs.Lower.{place_of, Ready, Does}
use Rattle.stack_steps.proofs.Same.{same_then, same_none}

pub next_item : (instrs : List SlotInstr) (x d : SlotInstr) (i : ℕ) → i < length instrs → x ≡ get_or instrs i d → drop i instrs ≡ x ∷ drop (i + 1) instrs
next_item instrs x d i lt at =
    drop-cons instrs i d lt ∙ ap (λ y. y ∷ drop (suc i) instrs) (sym at) ∙ ap (λ j. x ∷ drop j instrs) (sym (add-one i))

pub does_then : (f g : Deed) (first second : Shape) (a b c hold : Slots) (old mid new : Low) → Does f first a b hold old mid → Does g second b c hold mid new
    → Does (then_deed f g) (λ p. option_and_then second (first p)) a c hold old new
does_then f g first second a b c hold old mid new x y = record {
  place = ap (option_and_then second) x.place ∙ y.place;
  lowers = record {
    did = then_deed x.lowers.did y.lowers.did;
    emits = emits_then old.emitter mid.emitter new.emitter x.lowers.did y.lowers.did x.lowers.emits y.lowers.emits;
    same = same_then (live old.scope a) (live mid.scope b) (live new.scope c) f x.lowers.did g y.lowers.did x.lowers.same y.lowers.same;
  };
  tight = y.tight;
  once = y.once;
  few = y.few;
}

abbrev pub shape_of_all : List SlotInstr → Shape
shape_of_all instrs = all_shapes (map shapes_of instrs)

abbrev pub deed_of_all : List SlotInstr → Deed
deed_of_all instrs world = run_of world instrs

abbrev pub DoesAll : List SlotInstr → List Slot → Slots → Low → Low → Type 0
DoesAll instrs after hold old new = Does (deed_of_all instrs) (shape_of_all instrs) (later instrs after) (later [] after) hold old new

abbrev pub ReadyAll : List SlotInstr → List Slot → Slots → Low → Type 0
ReadyAll instrs after hold old = Ready (shape_of_all instrs) (later instrs after) hold old

abbrev pub DoesOne : SlotInstr → List SlotInstr → List Slot → Slots → Low → Low → Type 0
DoesOne x rest after hold old new =
    Does (λ world. act_of world x) (shapes_of x).inner (either (reads_of x) (later rest after)) (later rest after) hold old new

-- from here on, what is left of the instructions makes the whole
pub record Left (old now : Low) (instrs : List SlotInstr) (after : List Slot) (hold : Slots) (i : ℕ) : Type 0 where
  pub ready : ReadyAll (drop i instrs) after hold now
  pub by : (final : Low) → DoesAll (drop i instrs) after hold now final → DoesAll instrs after hold old final

pub left_none : (old : Low) (instrs : List SlotInstr) (after : List Slot) (hold : Slots) → ReadyAll instrs after hold old → Left old old instrs after hold 0
left_none old instrs after hold r = record { ready = r; by = λ final x. x }

pub some_first : (o : Option Place) (f : Shape) → IsSome (option_and_then f o) → IsSome o
some_first (Some p) f h = refl
some_first None f h = h

module _ (old now : Low) (instrs : List SlotInstr) (after : List Slot) (hold : Slots) (i : ℕ) (x d : SlotInstr) (l : Left old now instrs after hold i) (lt : i < length instrs) (at : x ≡ get_or instrs i d) where
  abbrev rest : List SlotInstr
  rest = drop (i + 1) instrs

  here : drop i instrs ≡ x ∷ rest
  here = next_item instrs x d i lt at

  ready_here : ReadyAll (x ∷ rest) after hold now
  ready_here = subst (λ xs. ReadyAll xs after hold now) here l.ready

  pub left_item : (others : List SlotInstr) → others ≡ rest → Ready (shapes_of x).inner (either (reads_of x) (later others after)) hold now
  left_item others e = subst (λ r. Ready (shapes_of x).inner (either (reads_of x) (later r after)) hold now) (sym e) (record {
    well = some_first ((shapes_of x).inner (place_of now)) (shape_of_all rest) ready_here.well;
    tight = ready_here.tight;
    once = ready_here.once;
    few = ready_here.few;
  })

  left_next : (next : Low) → DoesOne x rest after hold now next → Left old next instrs after hold (i + 1)
  left_next next y = record {
    ready = record {
      well = subst (λ o. IsSome (option_and_then (shape_of_all rest) o)) y.place ready_here.well;
      tight = y.tight;
      once = y.once;
      few = y.few;
    };
    by = λ final z. l.by final (subst (λ xs. DoesAll xs after hold now final) (sym here)
        (does_then (λ world. act_of world x) (deed_of_all rest) (shapes_of x).inner (shape_of_all rest) (either (reads_of x) (later rest after)) (later rest after) (later [] after) hold now next final y z));
  }

  pub left_more : (others : List SlotInstr) → others ≡ rest → (next : Low) → DoesOne x others after hold now next → Left old next instrs after hold (i + 1)
  left_more others e next y = left_next next (subst (λ r. DoesOne x r after hold now next) e y)

-- what a slice from a place on holds
pub rest_is : (instrs : List SlotInstr) (i : ℕ) → i < length instrs → take (length instrs - (i + 1)) (drop (i + 1) instrs) ≡ drop (i + 1) instrs
rest_is instrs i lt = take_all _ (drop (i + 1) instrs) (omega (arith, length-drop (i + 1) instrs))

pub does_nothing : (shape : Shape) (low : Low) (after hold : Slots) → shape (place_of low) ≡ Some (place_of low) → Ready shape after hold low
    → Does nothing shape after after hold low low
does_nothing shape low after hold same r = record {
  place = same;
  lowers = record {
    did = nothing;
    emits = emits_by low.emitter low.emitter [] nothing low.emitter.place (sym (append-nil low.emitter.code.items)) refl (follows_none low.emitter.place);
    same = same_none (live low.scope after);
  };
  tight = r.tight;
  once = r.once;
  few = r.few;
}

pub left_all : (old now : Low) (instrs : List SlotInstr) (after : List Slot) (hold : Slots) (i : ℕ) → Left old now instrs after hold i → length instrs ≤ i
    → DoesAll instrs after hold old now
left_all old now instrs after hold i l h =
    let none = drop_all i instrs h in
    let r = subst (λ xs. ReadyAll xs after hold now) none l.ready in
    l.by now (subst (λ xs. DoesAll xs after hold now now) (sym none) (does_nothing (shape_of_all []) now (later [] after) hold refl r))

-- ---- by the lists as the code has them

pub ready_as : (instrs : List SlotInstr) (live other held others : List Slot) (never : Slots) (a : Low) → live ≡ other → held ≡ others
    → ReadyAll instrs other (λ s. has s others || never s) a → ReadyAll instrs live (λ s. has s held || never s) a
ready_as instrs live other held others never a e f r =
    subst (λ l. ReadyAll instrs l (λ s. has s held || never s) a) (sym e) (subst (λ l. ReadyAll instrs other (λ s. has s l || never s) a) (sym f) r)

pub does_as : (instrs : List SlotInstr) (live other held others : List Slot) (never : Slots) (a b : Low) → live ≡ other → held ≡ others
    → DoesAll instrs live (λ s. has s held || never s) a b → DoesAll instrs other (λ s. has s others || never s) a b
does_as instrs live other held others never a b e f d =
    subst (λ l. DoesAll instrs l (λ s. has s others || never s) a b) e (subst (λ l. DoesAll instrs live (λ s. has s l || never s) a b) f d)
