-- Blocks that end their paths.
use Rattle.std.proofs.Common.{◌≡◌, Bool, true, List, [], ◌++◌, Result, Ok, Err, refl, sym, ap, ◌∙◌, subst, append_assoc}
use Rattle.std.specs.Prelude.{option_and_then}
use Rattle.cash_base.specs.declared.place.Span.{Span}
use Rattle.cash_base.specs.Failing.{◌>>=◌}
use Rattle.tx_context.specs.World.{World}
use Rattle.script_codec.specs.declared.spans.Spanned.{Spanned}
use Rattle.source_meaning.specs.declared.outcome.Failure.{Failure}
use Rattle.bch_vm.specs.Board.{is_live}
use Rattle.slot_code.specs.Meaning.{State, state, Act}
use Rattle.slot_code.specs.Shape.{Shape}
use Rattle.slot_liveness.specs.Live.{Slots, live}
use Rattle.row_runs.specs.Rows.{Machine, run_rows}
use Rattle.row_runs.proofs.Turns.{run_append, nested_append}
use Rattle.stack_emitter.specs.Correct.{Deed, Fits, machine_at, told, Agrees, AtEnd, Ends, then_deed}
use Rattle.stack_emitter.proofs.Steps.{sound_append}
use Rattle.stack_emitter.proofs.Tails.{end_after}
use Rattle.stack_steps.specs.declared.low.Low.{Low}
use Rattle.stack_steps.specs.Lower.{SameEnd, Same, statements_of, place_of, Does}
use Rattle.stack_schedule.specs.Endings.{Meant, Ending, SeenAt, Finishes}

-- ---- endings

-- what comes behind a path's end fails nowhere
pub ending_more : (meant : Span → Type 0) (world : World) (rows : List Spanned) (m : Machine) (conditions : List Bool) (o : Result State Failure) (g : Act)
    → ((s : State) → (t : State) × (g s ≡ Ok t)) → Ending meant world rows m conditions o → Ending meant world rows m conditions (o >>= g)
ending_more meant world rows m conditions (Ok s) g fine (Ending.ends _ span is x) =
    let t = fine s in subst (λ out. Ending meant world rows m conditions out) (sym t.1) (Ending.ends (Ok t.0) span is x)
ending_more meant world rows m conditions (Err e) g fine x = x

pub ending_as : (meant other : Span → Type 0) (world : World) (rows : List Spanned) (m : Machine) (conditions : List Bool) (o : Result State Failure)
    → ((span : Span) → meant span → other span) → Ending meant world rows m conditions o → Ending other world rows m conditions o
ending_as meant other world rows m conditions (Ok s) f (Ending.ends _ span is x) = Ending.ends (Ok s) span (f span is) x
ending_as meant other world rows m conditions (Err e) f (Ending.ends _ span is x) = Ending.ends (Err e) span (f span is) x
ending_as meant other world rows m conditions (Err e) f (Ending.fails _ ran) = Ending.fails e ran

-- ---- ends

-- the end depends on whether and how a deed fails, and not on the state that it leaves
at_same : (live : Slots) (world : World) (rows : List Spanned) (m : Machine) (conditions : List Bool) (span : Span) (o r : Result State Failure) → SameEnd live o r
    → AtEnd world rows m conditions span r → AtEnd world rows m conditions span o
at_same live world rows m conditions span (Ok s) (Ok t) h x = x
at_same live world rows m conditions span (Ok s) (Err e) h x = absurd h
at_same live world rows m conditions span (Err e) (Ok t) h x = absurd h
at_same live world rows m conditions span (Err e) (Err f) h x = subst (λ d. AtEnd world rows m conditions span (Err d)) (sym h) x

pub finishes_by : (deed did : Deed) (meant : Meant) (shape : Shape) (before after : Slots) (old new : Low) → Same (live old.scope before) after deed did → (c : Span)
    → Ends c old.emitter new.emitter did → ((world : World) (s : State) → meant world s c) → SeenAt (shape (place_of old)) (statements_of new.marks.items)
    → Finishes deed meant shape before old new
finishes_by deed did meant shape before after old new same c x means seen = record {
  rows = x.rows;
  grown = x.grown;
  nested = x.tail.nested;
  sound = x.tail.sound;
  ends = λ world s env conditions live fits agree.
      Ending.ends (deed world s) c (means world s)
      (at_same after world x.rows (machine_at old.emitter.place.slots [] conditions (state s.operands env)) conditions c (deed world s) (did world (state s.operands env)) (same.ends world s env agree)
      (x.tail.ends world (state s.operands env) conditions live fits));
  seen = seen;
}

-- an instruction, and then the path's end
then_end : (mid new : Low) (g : Deed) (meant : Meant) (shape : Shape) (b : Slots) (y : Finishes g meant shape b mid new) (means : Span → Type 0) (world : World)
    (conditions : List Bool) → is_live conditions ≡ true → (rows : List Spanned) (m : Machine) (o r : Result State Failure)
    → ((t : State) → o ≡ Ok t → (span : Span) → meant world t span → means span) → SameEnd (live mid.scope b) o r
    → Agrees mid.emitter.place [] conditions r (run_rows world rows m) → Ending means world (rows ++ y.rows) m conditions (o >>= g world)
then_end mid new g meant shape b y means world conditions live rows m (Ok s) (Ok t) grows h k =
    by (g world s) (subst (λ l. Ending (meant world s) world y.rows (machine_at mid.emitter.place.slots [] conditions (state l t.env)) conditions (g world s)) h.0
    (y.ends world s t.env conditions live (subst (λ l. Fits mid.emitter.place.operands l) (sym h.0) k.0) h.1))
  where
    by : (out : Result State Failure) → Ending (meant world s) world y.rows (machine_at mid.emitter.place.slots [] conditions t) conditions out
        → Ending means world (rows ++ y.rows) m conditions out
    by (Ok u) (Ending.ends _ span is x) =
        Ending.ends (Ok u) span (grows s refl span is) (end_after world rows y.rows m (machine_at mid.emitter.place.slots [] conditions t) conditions span (Ok u) k.1 x)
    by (Err e) (Ending.ends _ span is x) =
        Ending.ends (Err e) span (grows s refl span is) (end_after world rows y.rows m (machine_at mid.emitter.place.slots [] conditions t) conditions span (Err e) k.1 x)
    by (Err e) (Ending.fails _ ran) =
        Ending.fails e (run_append world rows y.rows m ∙ ap (λ r. r >>= run_rows world y.rows) k.1 ∙ ran)
then_end mid new g meant shape b y means world conditions live rows m (Ok s) (Err e) grows h k = absurd h
then_end mid new g meant shape b y means world conditions live rows m (Err e) (Ok t) grows h k = absurd h
then_end mid new g meant shape b y means world conditions live rows m (Err e) (Err d) grows h k =
    Ending.fails e (run_append world rows y.rows m ∙ ap (λ r. r >>= run_rows world y.rows) k ∙ ap (λ f. Err (told f)) (sym h))

pub finish_then : (f g : Deed) (first second : Shape) (a b hold : Slots) (meant meant' : Meant) (old mid new : Low) → Does f first a b hold old mid
    → Finishes g meant second b mid new
    → ((world : World) (s t : State) (span : Span) → f world s ≡ Ok t → meant world t span → meant' world s span)
    → Finishes (then_deed f g) meant' (λ p. option_and_then second (first p)) a old new
finish_then f g first second a b hold meant meant' old mid new x y grows = record {
  rows = x.lowers.emits.rows ++ y.rows;
  grown = y.grown ∙ ap (λ l. l ++ y.rows) x.lowers.emits.grown ∙ append_assoc old.emitter.code.items x.lowers.emits.rows y.rows;
  nested = nested_append x.lowers.emits.rows y.rows x.lowers.emits.follows.nested y.nested;
  sound = sound_append x.lowers.emits.rows y.rows x.lowers.emits.follows.sound y.sound;
  ends = λ world s env conditions live fits agree.
      then_end mid new g meant second b y (meant' world s) world conditions live x.lowers.emits.rows (machine_at old.emitter.place.slots [] conditions (state s.operands env)) (f world s) (x.lowers.did world (state s.operands env))
      (λ t e span is. grows world s t span e is)
      (x.lowers.same.ends world s env agree) (x.lowers.emits.follows.runs world (state s.operands env) [] conditions live fits);
  seen = subst (λ o. SeenAt (option_and_then second o) (statements_of new.marks.items)) (sym x.place) y.seen;
}

-- ---- the same, seen otherwise

pub finishes_as : (deed other : Deed) (meant : Meant) (shape seen_shape : Shape) (before : Slots) (old new : Low) → ((world : World) (s : State) → deed world s ≡ other world s)
    → shape (place_of old) ≡ seen_shape (place_of old) → Finishes deed meant shape before old new → Finishes other meant seen_shape before old new
finishes_as deed other meant shape seen_shape before old new e f x = record {
  rows = x.rows;
  grown = x.grown;
  nested = x.nested;
  sound = x.sound;
  ends = λ world s env conditions live fits agree.
      subst (λ out. Ending (meant world s) world x.rows (machine_at old.emitter.place.slots [] conditions (state s.operands env)) conditions out) (e world s)
      (x.ends world s env conditions live fits agree);
  seen = subst (λ o. SeenAt o (statements_of new.marks.items)) f x.seen;
}
