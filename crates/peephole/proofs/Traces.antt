-- What a replacement leaves of the statements that a run executes.
use Rattle.std.proofs.Common.{◌≡◌, ◌==◌, ℕ, suc, ◌<◌, ◌≤◌, Bool, true, false, not, ◌&&◌, ◌||◌, cond, is_ok, List, [], ◌∷◌, ◌++◌, length, map, Option, Some, Result, Ok, Err, inl, inr, refl, sym, ap, ◌∙◌, subst, arith, append_assoc, append-nil}
use Rattle.std.specs.List.{list_all}
use Rattle.std.proofs.lemmas.Bool.{and_parts, and_from, eqb-true, eq-eqb, cases_Bool, false≢true}
use Rattle.cash_base.specs.declared.place.Span.{Span}
use Rattle.cash_base.specs.Failing.{◌>>=◌}
use Rattle.tx_context.specs.World.{World}
use Rattle.script_codec.specs.declared.instr.Instr.{Instr}
use Rattle.script_codec.specs.declared.instr.Instr.TheVariants.{Push, Do}
use Rattle.script_codec.specs.declared.spans.Spanned.{Spanned}
use Rattle.opcode_table.specs.Stack.{Stack}
use Rattle.opcode_table.specs.Table.{row_of, rows}
use Rattle.bch_vm.specs.Setting.{around}
use Rattle.bch_vm.specs.Board.{Board, board, row_after, board_after, is_live, outer, is_condition, ends_block, is_executed}
use Rattle.row_runs.specs.Rows.{instructions, Fault, setting_of, is_control}
use Rattle.rewrite_rules.specs.Rows.{row, row_is_plain, is_plain, Next, told, step, run_rows, underflows}
use Rattle.rewrite_rules.specs.Effects.{act, on, step_live, step_dead, dead_run}
use Rattle.rewrite_rules.specs.Rules.{Rule, rule, rows_of, window_of, replacement_of}
use Rattle.rewrite_rules.specs.Laws.{plain_rows, plain_replaced}
use Rattle.peephole.specs.Sublists.{Sublist}
use Rattle.peephole.specs.Trace.{Event, event, where_executed, events_from, trace, last_statement, is_same, mark_where, beginnings, controls, KeepsStatements}
use Rattle.peephole.specs.Tidy.{is_branch, ends}
use Rattle.peephole.proofs.Sublists.{sub_all, sub_none, sub_then, sub_front, sub_skip}
use Rattle.peephole.proofs.Runs.{run_append, first_passed}

-- ---- a trace composes

from_then : (r : Next) (f : Board → Next) (g k h : Board → List Event) → ((n : Board) → k n ≡ g n ++ events_from (f n) h)
    → events_from r k ≡ events_from r g ++ events_from (r >>= f) h
from_then (Ok n) f g k h e = e n
from_then (Err x) f g k h e = refl

abbrev seen : Spanned → Board → List Event
seen r b = where_executed (is_executed r.instr b.conditions) (event r b.stack)

pub trace_append : (world : World) (a b : List Spanned) (m : Board)
    → trace world (a ++ b) m ≡ trace world a m ++ events_from (run_rows world a m) (trace world b)
trace_append world [] b m = refl
trace_append world (r ∷ a) b m =
    from_then (step world r m) (run_rows world a) (λ n. seen r m ++ trace world a n) (λ n. seen r m ++ trace world (a ++ b) n) (trace world b)
    (λ n. ap (λ l. seen r m ++ l) (trace_append world a b n)
    ∙ sym (append_assoc (seen r m) (trace world a n) (events_from (run_rows world a n) (trace world b))))

-- ---- events before others

abbrev ending_in : Option Span → List Event → Option Span
ending_in s [] = s
ending_in s (e ∷ events) = ending_in (Some e.checking) events

pub last_append : (a b : List Event) (s : Option Span) → last_statement s (a ++ b) ≡ last_statement (last_statement s a) b
last_append [] b s = refl
last_append (e ∷ a) b s = last_append a b (cond e.control s (Some e.checking))

begin_append : (a b : List Event) (s : Option Span) → beginnings s (a ++ b) ≡ beginnings s a ++ beginnings (ending_in s a) b
begin_append [] b s = refl
begin_append (e ∷ a) b s =
    let mark = mark_where (is_same s e.checking) e in
    ap (λ l. mark ++ l) (begin_append a b (Some e.checking))
    ∙ sym (append_assoc mark (beginnings (Some e.checking) a) (beginnings (ending_in (Some e.checking) a) b))

controls_append : (a b : List Event) → controls (a ++ b) ≡ controls a ++ controls b
controls_append [] b = refl
controls_append (e ∷ a) b =
    ap (λ l. where_executed e.control e ++ l) (controls_append a b) ∙ sym (append_assoc (where_executed e.control e) (controls a) (controls b))

pub keeps_self : (ended : Bool) (a : List Event) → KeepsStatements ended a a
keeps_self ended a = record {
  last = λ h s. refl;
  begin = λ s. sub_all (beginnings s a);
  control = refl;
}

keeps_same : (ended : Bool) (a b : List Event) → b ≡ a → KeepsStatements ended a b
keeps_same ended a b e = subst (KeepsStatements ended a) (sym e) (keeps_self ended a)

pub keeps_then : (ended : Bool) (a b c : List Event) → KeepsStatements ended a b → KeepsStatements ended b c → KeepsStatements ended a c
keeps_then ended a b c x y = record {
  last = λ h s. y.last h s ∙ x.last h s;
  begin = λ s. sub_then (beginnings s c) (beginnings s b) (beginnings s a) (y.begin s) (x.begin s);
  control = y.control ∙ x.control;
}

keeps_after : (ended : Bool) (front a b : List Event) → KeepsStatements ended a b → KeepsStatements ended (front ++ a) (front ++ b)
keeps_after ended front a b x = record {
  last = λ h s. last_append front b s ∙ x.last h (last_statement s front) ∙ sym (last_append front a s);
  begin = λ s. subst (λ l. Sublist l (beginnings s (front ++ a))) (sym (begin_append front b s))
      (subst (λ l. Sublist (beginnings s front ++ beginnings (ending_in s front) b) l) (sym (begin_append front a s))
      (sub_front (beginnings s front) (beginnings (ending_in s front) b) (beginnings (ending_in s front) a) (x.begin (ending_in s front))));
  control = controls_append front b ∙ ap (λ l. controls front ++ l) x.control ∙ sym (controls_append front a);
}

keeps_from : (r : Next) (f : Board → Next) (a b : Board → List Event)
    → ((n : Board) → underflows (f n) ≡ false → KeepsStatements (is_ok (f n)) (a n) (b n)) → underflows (r >>= f) ≡ false
    → KeepsStatements (is_ok (r >>= f)) (events_from r a) (events_from r b)
keeps_from (Ok n) f a b h u = h n u
keeps_from (Err e) f a b h u = keeps_self false []

-- the same statements with other code in front
pub trace_after : (world : World) (front a b : List Spanned) (m : Board)
    → ((n : Board) → underflows (run_rows world a n) ≡ false → KeepsStatements (is_ok (run_rows world a n)) (trace world a n) (trace world b n))
    → underflows (run_rows world (front ++ a) m) ≡ false
    → KeepsStatements (is_ok (run_rows world (front ++ a) m)) (trace world (front ++ a) m) (trace world (front ++ b) m)
trace_after world front a b m h u =
    let joined = run_append world front a m in
    subst (λ r. KeepsStatements (is_ok r) (trace world (front ++ a) m) (trace world (front ++ b) m)) (sym joined)
    (subst (λ l. KeepsStatements (is_ok (run_rows world front m >>= run_rows world a)) l (trace world (front ++ b) m)) (sym (trace_append world front a m))
    (subst (KeepsStatements (is_ok (run_rows world front m >>= run_rows world a)) (trace world front m ++ events_from (run_rows world front m) (trace world a))) (sym (trace_append world front b m))
    (keeps_after (is_ok (run_rows world front m >>= run_rows world a)) (trace world front m) (events_from (run_rows world front m) (trace world a)) (events_from (run_rows world front m) (trace world b))
    (keeps_from (run_rows world front m) (run_rows world a) (trace world a) (trace world b) h (ap underflows (sym joined) ∙ u)))))

-- ---- instructions that are no IF, NOTIF, ELSE and ENDIF

pub ends_condition : (opcode : ℕ) → is_condition opcode ≡ false → ends_block opcode ≡ false
ends_condition opcode h = by (opcode == 0x67) refl (opcode == 0x68) refl
  where
    by : (a : Bool) → (opcode == 0x67) ≡ a → (b : Bool) → (opcode == 0x68) ≡ b → (a || b) ≡ false
    by true e b f = absurd (false≢true (sym h ∙ ap is_condition (eqb-true opcode 0x67 e)))
    by false e true f = absurd (false≢true (sym h ∙ ap is_condition (eqb-true opcode 0x68 f)))
    by false e false f = refl

executed_alone : (instr : Instr) (conditions : List Bool) → is_control instr ≡ false → is_executed instr conditions ≡ is_live conditions
executed_alone (Push e) conditions p = refl
executed_alone (Do opcode) conditions p = ap (λ b. cond b (is_live (outer conditions)) (is_live conditions)) (ends_condition opcode.0 p)

plain_alone : (instr : Instr) → is_plain instr ≡ true → is_control instr ≡ false
plain_alone (Push e) p = refl
plain_alone (Do opcode) p = turned (is_condition opcode.0) (and_parts (not (is_condition opcode.0)) (row_is_plain (row_of opcode.0)) p).0
  where
    turned : (b : Bool) → not b ≡ true → b ≡ false
    turned true h = absurd (false≢true h)
    turned false h = refl

-- VERIF and VERNOTIF always fail
abbrev Goes : World → Spanned → Board → Board → ℕ → Type 0
Goes world z b n opcode = told z (row_after (around (setting_of world) 0 20) (row_of opcode) b) ≡ Ok n

never_65 : (world : World) (z : Spanned) (b n : Board) → Goes world z b n 0x65 → ⊥
unfolding rows
never_65 world z b n e = cc

never_66 : (world : World) (z : Spanned) (b n : Board) → Goes world z b n 0x66 → ⊥
unfolding rows
never_66 world z b n e = cc

never : (world : World) (z : Spanned) (b n : Board) (opcode : ℕ) (p q : Bool) → (opcode == 0x65) ≡ p → (opcode == 0x66) ≡ q → (p || q) ≡ true
    → Goes world z b n opcode → ⊥
never world z b n opcode true q is other h e = never_65 world z b n (subst (Goes world z b n) (eqb-true opcode 0x65 is) e)
never world z b n opcode false true is other h e = never_66 world z b n (subst (Goes world z b n) (eqb-true opcode 0x66 other) e)
never world z b n opcode false false is other h e = absurd (false≢true h)

unless_never : (world : World) (z : Spanned) (b n : Board) (opcode : ℕ) (p q : Bool) → is_condition opcode ≡ p
    → ((opcode == 0x65) || (opcode == 0x66)) ≡ q → (p && not q) ≡ false → Goes world z b n opcode → is_condition opcode ≡ false
unless_never world z b n opcode true true c v h e = absurd (never world z b n opcode (opcode == 0x65) (opcode == 0x66) refl refl v e)
unless_never world z b n opcode true false c v h e = absurd (false≢true (sym h))
unless_never world z b n opcode false q c v h e = c

-- so an instruction that is passed and is none of the four is none of these either
passed_alone : (world : World) (z : Spanned) (b n : Board) → is_branch z.instr ≡ false → step world z b ≡ Ok n → is_control z.instr ≡ false
passed_alone world z b n f e = by z.instr refl f
  where
    by : (instr : Instr) → z.instr ≡ instr → is_branch instr ≡ false → is_control z.instr ≡ false
    by (Push e') is f = ap is_control is
    by (Do opcode) is f =
        ap is_control is ∙ unless_never world z b n opcode.0 (is_condition opcode.0) ((opcode.0 == 0x65) || (opcode.0 == 0x66)) refl refl f
        (ap (λ i. told z (board_after (around (setting_of world) 0 20) i b)) (sym is) ∙ e)

-- ---- plain events of one statement

abbrev AreOf : Span → List Event → Type 0
AreOf checking [] = Unit {0}
AreOf checking (e ∷ events) = (e.checking ≡ checking) × (e.control ≡ false) × AreOf checking events

trace_live : (world : World) (x : Spanned) (more : List Spanned) (b : Board) → is_control x.instr ≡ false → is_live b.conditions ≡ true
    → trace world (x ∷ more) b ≡ events_from (step world x b) (λ n. event x b.stack ∷ trace world more n)
trace_live world x more b p live =
    ap (λ t. events_from (step world x b) (λ n. where_executed t (event x b.stack) ++ trace world more n)) (executed_alone x.instr b.conditions p ∙ live)

trace_dead : (world : World) (x : Spanned) (more : List Spanned) (b : Board) → is_plain x.instr ≡ true → is_live b.conditions ≡ false
    → trace world (x ∷ more) b ≡ trace world more b
trace_dead world x more b p dead =
    ap (λ t. events_from (step world x b) (λ n. where_executed t (event x b.stack) ++ trace world more n)) (executed_alone x.instr b.conditions (plain_alone x.instr p) ∙ dead)
    ∙ ap (λ r. events_from r (trace world more)) (step_dead world x b p dead)

dead_trace : (world : World) (code : List Spanned) (b : Board) → list_all is_plain (instructions code) ≡ true → is_live b.conditions ≡ false
    → trace world code b ≡ []
dead_trace world [] b p dead = refl
dead_trace world (x ∷ code) b p dead =
    let q = and_parts (is_plain x.instr) (list_all is_plain (instructions code)) p in
    trace_dead world x code b q.0 dead ∙ dead_trace world code b q.1 dead

from_act : (checking : Span) (b : Board) (r : Result Stack Fault) (f : Board → List Event)
    → ((s : Stack) → AreOf checking (f (board s b.alternate b.conditions b.separator))) → AreOf checking (events_from (r >>= on b) f)
from_act checking b (Ok s) f h = h s
from_act checking b (Err e) f h = tt

live_trace : (world : World) (instrs : List Instr) (places : ℕ → Span) (checking : Span) (b : Board) → list_all is_plain instrs ≡ true
    → is_live b.conditions ≡ true → AreOf checking (trace world (rows_of instrs places checking) b)
live_trace world [] places checking b p live = tt
live_trace world (i ∷ instrs) places checking b p live =
    let q = and_parts (is_plain i) (list_all is_plain instrs) p in
    let x = row checking i (places 0) in
    let more = rows_of instrs (λ k. places (suc k)) checking in
    let f : Board → List Event = λ n. event x b.stack ∷ trace world more n in
    subst (AreOf checking) (sym (trace_live world x more b (plain_alone i q.0) live ∙ ap (λ r. events_from r f) (step_live world x b q.0 live)))
    (from_act checking b (told x (act world i b.stack)) f (λ s. (
      refl,
      plain_alone i q.0,
      live_trace world instrs (λ k. places (suc k)) checking (board s b.alternate b.conditions b.separator) q.1 live,
    )))

-- ---- more events of the statement change nothing

same_self : (s : Span) → is_same (Some s) s ≡ true
same_self s = and_from (s.from == s.from) (s.to == s.to) (eq-eqb s.from s.from refl) (eq-eqb s.to s.to refl)

same_is : (s t : Span) → is_same (Some s) t ≡ true → t ≡ s
same_is s t h =
    let q = and_parts (s.from == t.from) (s.to == t.to) h in
    sym (ap (λ n. record { from = n; to = s.to }) (eqb-true _ _ q.0) ∙ ap (λ n. record { from = t.from; to = n }) (eqb-true _ _ q.1))

last_of : (checking : Span) (a t : List Event) → AreOf checking a → last_statement (Some checking) (a ++ t) ≡ last_statement (Some checking) t
last_of checking [] t h = refl
last_of checking (e ∷ a) t h =
    ap (λ b. last_statement (cond b (Some checking) (Some e.checking)) (a ++ t)) h.1 ∙ ap (λ c. last_statement (Some c) (a ++ t)) h.0 ∙ last_of checking a t h.2

begin_of : (checking : Span) (a t : List Event) → AreOf checking a → beginnings (Some checking) (a ++ t) ≡ beginnings (Some checking) t
begin_of checking [] t h = refl
begin_of checking (e ∷ a) t h =
    ap (λ b. mark_where b e ++ beginnings (Some e.checking) (a ++ t)) (ap (is_same (Some checking)) h.0 ∙ same_self checking)
    ∙ ap (λ c. beginnings (Some c) (a ++ t)) h.0
    ∙ begin_of checking a t h.2

control_none : (e : Event) (t : List Event) → e.control ≡ false → controls (e ∷ t) ≡ controls t
control_none e t p = ap (λ b. where_executed b e ++ controls t) p

control_of : (checking : Span) (a t : List Event) → AreOf checking a → controls (a ++ t) ≡ controls t
control_of checking [] t h = refl
control_of checking (e ∷ a) t h = control_none e (a ++ t) h.1 ∙ control_of checking a t h.2

keeps_one : (ended : Bool) (e : Event) (a t : List Event) → e.control ≡ false → AreOf e.checking a → KeepsStatements ended (e ∷ (a ++ t)) (e ∷ t)
keeps_one ended e a t p h = record {
  last = λ k s. ap (λ b. last_statement (cond b s (Some e.checking)) t) p
      ∙ sym (last_of e.checking a t h)
      ∙ sym (ap (λ b. last_statement (cond b s (Some e.checking)) (a ++ t)) p);
  begin = λ s. subst (λ l. Sublist (mark_where (is_same s e.checking) e ++ beginnings (Some e.checking) t) (mark_where (is_same s e.checking) e ++ l))
      (sym (begin_of e.checking a t h)) (sub_all (mark_where (is_same s e.checking) e ++ beginnings (Some e.checking) t));
  control = control_none e t p ∙ sym (control_of e.checking a t h) ∙ sym (control_none e (a ++ t) p);
}

-- the marks of two events on one stack, and of the second alone
keeps_marks : (a b c : Bool) (e f : Event) (t : List (Span × Stack)) → f.stack ≡ e.stack → (b ≡ true → (f.checking ≡ e.checking) × (a ≡ c))
    → Sublist (mark_where a f ++ t) (mark_where c e ++ (mark_where b f ++ t))
keeps_marks true b true e f t same h = sub_skip (mark_where b f) t
keeps_marks true b false e f t same h = inl (sub_skip (mark_where b f) t)
keeps_marks false false true e f t same h = sub_all ((f.checking, f.stack) ∷ t)
keeps_marks false false false e f t same h = inl (sub_all ((f.checking, f.stack) ∷ t))
keeps_marks false true true e f t same h = let q = h refl in cc
keeps_marks false true false e f t same h =
    let q = h refl in inr (t, ap (λ x. (x, f.stack) ∷ t) q.0 ∙ ap (λ x. (e.checking, x) ∷ t) same, sub_all t)

keeps_next : (ended : Bool) (e f : Event) (t : List Event) → e.control ≡ false → f.control ≡ false → f.stack ≡ e.stack
    → KeepsStatements ended (e ∷ f ∷ t) (f ∷ t)
keeps_next ended e f t pe pf same = record {
  last = λ k s. ap (λ b. last_statement (cond b s (Some f.checking)) t) pf
      ∙ sym (ap (λ b. last_statement (cond b (cond e.control s (Some e.checking)) (Some f.checking)) t) pf);
  begin = λ s. keeps_marks (is_same s f.checking) (is_same (Some e.checking) f.checking) (is_same s e.checking) e f (beginnings (Some f.checking) t) same
      (λ b. let q = same_is e.checking f.checking b in (q, ap (is_same s) q));
  control = sym (control_none e (f ∷ t) pe);
}

-- events of one statement, and none
keeps_none : (checking : Span) (a : List Event) → AreOf checking a → KeepsStatements false a []
keeps_none checking a h = record {
  last = λ k s. absurd (false≢true k);
  begin = λ s. sub_none (beginnings s a);
  control = sym (ap controls (sym (append-nil a)) ∙ control_of checking a [] h);
}

keeps_by : (ended : Bool) (a a' b b' : List Event) → a ≡ a' → b ≡ b' → KeepsStatements ended a' b' → KeepsStatements ended a b
keeps_by ended a a' b b' e f x = subst (λ l. KeepsStatements ended l b) (sym e) (subst (KeepsStatements ended a') (sym f) x)

-- ---- a replacement

-- a window of which the run passes: its first event, and others of the statement
window_passed : (world : World) (x : Spanned) (more : List Spanned) (b n : Board) → is_plain x.instr ≡ true → is_live b.conditions ≡ true
    → AreOf x.checking (trace world (x ∷ more) b) → run_rows world (x ∷ more) b ≡ Ok n
    → (a : List Event) × (trace world (x ∷ more) b ≡ event x b.stack ∷ a) × AreOf x.checking a
window_passed world x more b n p live are runs =
    let m = first_passed (step world x b) (run_rows world more) n runs in
    let whole : trace world (x ∷ more) b ≡ event x b.stack ∷ trace world more m.0 =
    trace_live world x more b (plain_alone x.instr p) live ∙ ap (λ r. events_from r (λ n. event x b.stack ∷ trace world more n)) m.1 in
    (trace world more m.0, whole, (subst (AreOf x.checking) whole are).2)

-- a row that fails is in no trace
none_passed : (world : World) (r : Next) (k : Board → List Event) (f : Fault) → (r >>= run_rows world []) ≡ Err f → events_from r k ≡ []
none_passed world (Ok m) k f e = cc
none_passed world (Err e') k f e = refl

few_failed : (world : World) (after : List Instr) (place checking : Span) (b : Board) (f : Fault) → length after ≤ 1
    → run_rows world (map (λ instr. row checking instr place) after) b ≡ Err f → trace world (map (λ instr. row checking instr place) after) b ≡ []
few_failed world [] place checking b f one e = refl
few_failed world (j ∷ []) place checking b f one e =
    none_passed world (step world (row checking j place) b) (λ n. seen (row checking j place) b ++ []) f e
few_failed world (j ∷ k ∷ after) place checking b f one e = absurd (omega arith)

-- the next instruction, where the window is left out
next_passed : (world : World) (e : Event) (a : List Event) (rest : List Spanned) (b : Board) → e.control ≡ false → AreOf e.checking a → e.stack ≡ b.stack
    → is_live b.conditions ≡ true → ends rest ≡ false
    → KeepsStatements (is_ok (run_rows world rest b)) ((e ∷ a) ++ trace world rest b) (trace world rest b)
next_passed world e a [] b p h same live f = cc
next_passed world e a (z ∷ rest) b p h same live f = by (step world z b) refl
  where
    by : (r : Next) → step world z b ≡ r
        → KeepsStatements (is_ok (run_rows world (z ∷ rest) b)) ((e ∷ a) ++ trace world (z ∷ rest) b) (trace world (z ∷ rest) b)
    by (Ok n) is =
        let pz = passed_alone world z b n f is in
        let t = trace world rest n in
        let whole : trace world (z ∷ rest) b ≡ event z b.stack ∷ t =
        trace_live world z rest b pz live ∙ ap (λ r. events_from r (λ n. event z b.stack ∷ trace world rest n)) is in
        let ended = is_ok (run_rows world (z ∷ rest) b) in
        keeps_by ended ((e ∷ a) ++ trace world (z ∷ rest) b) ((e ∷ a) ++ (event z b.stack ∷ t)) (trace world (z ∷ rest) b) (event z b.stack ∷ t)
        (ap (λ l. (e ∷ a) ++ l) whole) whole
        (keeps_then ended ((e ∷ a) ++ (event z b.stack ∷ t)) (e ∷ event z b.stack ∷ t) (event z b.stack ∷ t)
        (keeps_one ended e a (event z b.stack ∷ t) p h) (keeps_next ended e (event z b.stack) t p pz (sym same)))
    by (Err x) is =
        let whole : trace world (z ∷ rest) b ≡ [] = ap (λ r. events_from r (λ n. seen z b ++ trace world rest n)) is in
        let fails : is_ok (run_rows world (z ∷ rest) b) ≡ false = ap (λ r. is_ok (r >>= run_rows world rest)) is in
        subst (λ ended. KeepsStatements ended ((e ∷ a) ++ trace world (z ∷ rest) b) (trace world (z ∷ rest) b)) (sym fails)
        (keeps_by false ((e ∷ a) ++ trace world (z ∷ rest) b) (e ∷ a) (trace world (z ∷ rest) b) []
        (ap (λ l. (e ∷ a) ++ l) whole ∙ append-nil (e ∷ a)) whole (keeps_none e.checking (e ∷ a) (refl, p, h)))

-- a live window and its replacement
abbrev pub Kept : World → List Spanned → List Spanned → List Spanned → Board → Type 0
Kept world w r rest b =
    KeepsStatements (is_ok (run_rows world (w ++ rest) b)) (trace world (w ++ rest) b) (trace world (r ++ rest) b)

live_failed : (world : World) (w : List Spanned) (checking place : Span) (after : List Instr) (rest : List Spanned) (b : Board) (f : Fault)
    → AreOf checking (trace world w b) → length after ≤ 1
    → run_rows world (map (λ instr. row checking instr place) after) b ≡ run_rows world w b → run_rows world w b ≡ Err f
    → Kept world w (map (λ instr. row checking instr place) after) rest b
live_failed world w checking place after rest b f are one e is =
    let r = map (λ instr. row checking instr place) after in
    let fails : is_ok (run_rows world (w ++ rest) b) ≡ false = ap is_ok (run_append world w rest b ∙ ap (λ x. x >>= run_rows world rest) is) in
    let first : trace world (w ++ rest) b ≡ trace world w b =
    trace_append world w rest b ∙ ap (λ x. trace world w b ++ events_from x (trace world rest)) is ∙ append-nil (trace world w b) in
    let second : trace world (r ++ rest) b ≡ [] =
    trace_append world r rest b ∙ ap (λ x. trace world r b ++ events_from x (trace world rest)) (e ∙ is) ∙ append-nil (trace world r b)
    ∙ few_failed world after place checking b f one (e ∙ is) in
    subst (λ ended. KeepsStatements ended (trace world (w ++ rest) b) (trace world (r ++ rest) b)) (sym fails)
    (keeps_by false (trace world (w ++ rest) b) (trace world w b) (trace world (r ++ rest) b) [] first second (keeps_none checking (trace world w b) are))

live_passed : (world : World) (x : Spanned) (more : List Spanned) (place : Span) (after : List Instr) (rest : List Spanned) (b n : Board)
    → is_plain x.instr ≡ true → list_all is_plain after ≡ true → is_live b.conditions ≡ true
    → AreOf x.checking (trace world (x ∷ more) b) → length after ≤ 1
    → run_rows world (map (λ instr. row x.checking instr place) after) b ≡ run_rows world (x ∷ more) b → run_rows world (x ∷ more) b ≡ Ok n
    → (after ≡ [] → ends rest ≡ false)
    → Kept world (x ∷ more) (map (λ instr. row x.checking instr place) after) rest b
live_passed world x more place [] rest b n px pa live are one e is next =
    let w = x ∷ more in
    let a = window_passed world x more b n px live are is in
    let here : run_rows world w b ≡ Ok b = sym e in
    let same : run_rows world (w ++ rest) b ≡ run_rows world rest b = run_append world w rest b ∙ ap (λ r. r >>= run_rows world rest) here in
    let whole : trace world (w ++ rest) b ≡ (event x b.stack ∷ a.0) ++ trace world rest b =
    trace_append world w rest b ∙ ap (λ r. trace world w b ++ events_from r (trace world rest)) here ∙ ap (λ l. l ++ trace world rest b) a.1 in
    subst (λ r. KeepsStatements (is_ok r) (trace world (w ++ rest) b) (trace world rest b)) (sym same)
    (keeps_by (is_ok (run_rows world rest b)) (trace world (w ++ rest) b) ((event x b.stack ∷ a.0) ++ trace world rest b) (trace world rest b) (trace world rest b) whole refl
    (next_passed world (event x b.stack) a.0 rest b (plain_alone x.instr px) a.2 refl live (next refl)))
live_passed world x more place (j ∷ []) rest b n px pa live are one e is next =
    let w = x ∷ more in
    let y = row x.checking j place in
    let pj = (and_parts (is_plain j) true pa).0 in
    let a = window_passed world x more b n px live are is in
    let t = trace world rest n in
    let whole : trace world (w ++ rest) b ≡ event x b.stack ∷ (a.0 ++ t) =
    trace_append world w rest b ∙ ap (λ r. trace world w b ++ events_from r (trace world rest)) is ∙ ap (λ l. l ++ t) a.1 in
    let m = first_passed (step world y b) (run_rows world []) n (e ∙ is) in
    let one : trace world (y ∷ []) b ≡ event y b.stack ∷ [] =
    trace_live world y [] b (plain_alone j pj) live ∙ ap (λ r. events_from r (λ n. event y b.stack ∷ [])) m.1 in
    let alone : trace world ((y ∷ []) ++ rest) b ≡ event y b.stack ∷ t =
    trace_append world (y ∷ []) rest b ∙ ap (λ r. trace world (y ∷ []) b ++ events_from r (trace world rest)) (e ∙ is) ∙ ap (λ l. l ++ t) one in
    let same : event y b.stack ≡ event x b.stack =
    ap (λ c. record { checking = x.checking; stack = b.stack; control = c }) (plain_alone j pj ∙ sym (plain_alone x.instr px)) in
    let ended = is_ok (run_rows world (w ++ rest) b) in
    keeps_by ended (trace world (w ++ rest) b) (event x b.stack ∷ (a.0 ++ t)) (trace world ((y ∷ []) ++ rest) b) (event x b.stack ∷ t)
    whole (alone ∙ ap (λ v. v ∷ t) same) (keeps_one ended (event x b.stack) a.0 t (plain_alone x.instr px) a.2)
live_passed world x more place (j ∷ k ∷ after) rest b n px pa live are one e is next = absurd (omega arith)

rule_live : (world : World) (before after : List Instr) (place : ℕ) (places : ℕ → Span) (checking : Span) (rest : List Spanned) (b : Board)
    → list_all is_plain before ≡ true → list_all is_plain after ≡ true → 0 < length before → length after ≤ 1
    → run_rows world (replacement_of (rule before after place) places checking) b ≡ run_rows world (window_of (rule before after place) places checking) b
    → (after ≡ [] → ends rest ≡ false) → is_live b.conditions ≡ true
    → Kept world (window_of (rule before after place) places checking) (replacement_of (rule before after place) places checking) rest b
rule_live world [] after place places checking rest b pb pa wide one e next live = absurd (omega arith)
rule_live world (i ∷ before) after place places checking rest b pb pa wide one e next live =
    by_run (run_rows world (window_of (rule (i ∷ before) after place) places checking) b) refl (live_trace world (i ∷ before) places checking b pb live)
  where
    by_run : (r : Next) → run_rows world (window_of (rule (i ∷ before) after place) places checking) b ≡ r
        → AreOf checking (trace world (window_of (rule (i ∷ before) after place) places checking) b)
        → Kept world (window_of (rule (i ∷ before) after place) places checking) (replacement_of (rule (i ∷ before) after place) places checking) rest b
    by_run (Ok n) is are =
        live_passed world (row checking i (places 0)) (rows_of before (λ k. places (suc k)) checking) (places place) after rest b n
        (and_parts (is_plain i) (list_all is_plain before) pb).0 pa live are one e is next
    by_run (Err f) is are =
        live_failed world (window_of (rule (i ∷ before) after place) places checking) checking (places place) after rest b f are one e is

-- where nothing is executed
rule_dead : (world : World) (code rest : List Spanned) (b : Board) → list_all is_plain (instructions code) ≡ true → is_live b.conditions ≡ false
    → trace world (code ++ rest) b ≡ trace world rest b
rule_dead world code rest b p dead =
    trace_append world code rest b
    ∙ ap (λ l. l ++ events_from (run_rows world code b) (trace world rest)) (dead_trace world code b p dead)
    ∙ ap (λ r. events_from r (trace world rest)) (dead_run world code b p dead)

pub rule_trace : (world : World) (r : Rule) (places : ℕ → Span) (checking : Span) (rest : List Spanned) (b : Board)
    → list_all is_plain r.before ≡ true → list_all is_plain r.after ≡ true → 0 < length r.before → length r.after ≤ 1
    → run_rows world (replacement_of r places checking) b ≡ run_rows world (window_of r places checking) b → (r.after ≡ [] → ends rest ≡ false)
    → Kept world (window_of r places checking) (replacement_of r places checking) rest b
rule_trace world r places checking rest b pb pa wide one e next =
    elim (cases_Bool (is_live b.conditions)) [
      | inl live ↦ rule_live world r.before r.after r.place places checking rest b pb pa wide one e next live
      | inr dead ↦
          keeps_same (is_ok (run_rows world (window_of r places checking ++ rest) b)) (trace world (window_of r places checking ++ rest) b) (trace world (replacement_of r places checking ++ rest) b)
          (rule_dead world (replacement_of r places checking) rest b (plain_replaced r.after (places r.place) checking pa) dead
          ∙ sym (rule_dead world (window_of r places checking) rest b (plain_rows r.before places checking pb) dead))
    ]
