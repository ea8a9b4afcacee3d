-- No two statements of a function have the same span.
use Rattle.std.proofs.Common.{◌≡◌, inl, inr, ℕ, ◌<◌, ◌≤◌, Bool, true, List, [], ◌∷◌, ◌++◌, map, refl, sym, ap, ◌∙◌, subst, arith}
use Rattle.std.specs.Prelude.{◌&&◌, nat_le, nat_lt, unwrap_or}
use Rattle.std.proofs.lemmas.Bool.{leb-true, ltb-true}
use Rattle.cash_base.specs.declared.place.Slot.{Slot}
use Rattle.cash_base.specs.declared.place.Span.{Span}
use Rattle.cash_tree.specs.declared.Ty.{Ty}
use Rattle.cash_tree.specs.declared.Contract.{Contract}
use Rattle.cash_tree.specs.declared.Function.{Function}
use Rattle.cash_tree.specs.declared.StmtKind.{StmtKind}
use Rattle.slot_code.specs.declared.slots.SlotInstr.{SlotInstr}
use Rattle.slot_code.specs.declared.slots.SlotFunction.{SlotFunction}
use Rattle.slot_expressions.proofs.Tests.{and_left, and_right}
use Rattle.slot_lowering.specs.Functions.{Arranges}
use Rattle.slot_lowering.specs.Arranged.{ArrangedKind, simple, choice, ArrangedBlock, inner, last, ArrangedBody, nothing_left, in_turn}
use Rattle.lowered_names.specs.Names.{Part, Around, Point, part_of, part_at, parts_of, names_of, points_of, points, point, at_first, at_rest, at_start, in_block, block_points}
use Rattle.lowered_names.specs.Order.{Text, text_of, text_at, value_between, in_order, IsText, Every}
use Rattle.lowered_names.specs.Points.{Among, AreApart, IsApart, HasOnePoint}
use Rattle.lowered_names.proofs.PartSteps.{TypedStmt, whole_part, if_part}
use Rattle.lowered_names.proofs.PairSteps.{whole_text, if_text}
use Rattle.lowered_names.proofs.Growing.{final_of}
use Rattle.lowered_names.proofs.Told.{In, in_wider, every_append, every_as, less_is, Cut, cut_at}

abbrev IsIn : ℕ → ℕ → Point → Type 0
IsIn from to p = In from to p.statement

record Apart (from to : ℕ) (points : List Point) : Type 0 where
  inside : Every (IsIn from to) points
  apart : AreApart points

apart_append : (xs ys : List Point) → AreApart xs → AreApart ys → Every (λ (x : Point). Every (IsApart x) ys) xs → AreApart (xs ++ ys)
apart_append [] ys h t c = t
apart_append (x ∷ xs) ys h t c = (every_append (IsApart x) xs ys h.0 c.0, apart_append xs ys h.1 t c.1)

-- what stands before a place, and what stands behind it
apart_both : {a m b : ℕ} (xs ys : List Point) → a ≤ m → m ≤ b → Apart a m xs → Apart m b ys → Apart a b (xs ++ ys)
apart_both {a} {m} {b} xs ys low high h t = record {
  inside = every_append (IsIn a b) xs ys (every_as (IsIn a m) (IsIn a b) (λ x i. in_wider (omega arith) high x.statement i) xs h.inside)
      (every_as (IsIn m b) (IsIn a b) (λ x i. in_wider low (omega arith) x.statement i) ys t.inside);
  apart = apart_append xs ys h.apart t.apart
      (every_as (IsIn a m) (λ (x : Point). Every (IsApart x) ys)
      (λ x i. every_as (IsIn m b) (IsApart x) (λ y j same. absurd (omega (arith, i.some, i.high, j.low, ap (λ (s : Span). s.from) same))) ys t.inside) xs h.inside);
}

-- the points in a statement's blocks, behind its start
record Within (span : Span) (kp : Part) : Type 0 where
  from : ℕ
  behind : span.from < from
  high : from ≤ span.to
  apart : (around : Around) → Apart from span.to (kp.points around)

lower : {a b c : ℕ} → a ≤ b → b < c → a ≤ c
lower first second = omega (arith, first, second)

mutual
  apart_kind : {e : Bool} {kind : StmtKind Slot Ty} {span : Span} {rows : List SlotInstr} → ArrangedKind e kind span rows → span.from < span.to → text_at kind span ≡ true → Within span (part_at kind)
  apart_kind (simple {span = span} value row is h) some fits = record {
    from = span.to;
    behind = some;
    high = omega arith;
    apart = λ around. subst (λ (p : Part). Apart span.to span.to (p.points around)) (sym (final_of is).part_is) (record { inside = tt; apart = tt });
  }
  apart_kind (choice {span = span} test yes_block no_block is h first second) some fits =
      let to = test.span.to in
      let us = unwrap_or no_block [] in
      let text : ((nat_lt span.from to && value_between span.from to test) && in_order to span.to (map text_of yes_block ++ map text_of us)) ≡ true =
      sym (ap (λ k. text_at k span) is ∙ if_text test yes_block no_block span) ∙ fits in
      let front = and_left (nat_lt span.from to && value_between span.from to test) (in_order to span.to (map text_of yes_block ++ map text_of us)) text in
      let c = cut_at to span.to (map text_of yes_block) (map text_of us) (and_right (nat_lt span.from to && value_between span.from to test) (in_order to span.to (map text_of yes_block ++ map text_of us)) text) in
      let low = less_is to c.mid (map text_of yes_block) c.front in
      let high = less_is c.mid span.to (map text_of us) c.back in record {
        from = to;
        behind = ltb-true span.from to (and_left (nat_lt span.from to) (value_between span.from to test) front);
        high = omega (arith, low, high);
        apart = λ around. subst (λ (p : Part). Apart to span.to (p.points around)) (sym (ap part_at is ∙ if_part test yes_block no_block))
            (apart_both (block_points (parts_of yes_block) (parts_of us) around) (block_points (parts_of us) (parts_of yes_block) around) low high
            (apart_block first to c.mid c.front (in_block (parts_of yes_block) (parts_of us) around))
            (apart_block second c.mid span.to c.back (in_block (parts_of us) (parts_of yes_block) around)));
      }

  apart_block : {e : Bool} {block : List TypedStmt} {span : Span} {rows : List SlotInstr} → ArrangedBlock e block span rows → (from to : ℕ) → in_order from to (map text_of block) ≡ true → (around : Around) → Apart from to (points_of (parts_of block) around)
  apart_block (inner h) from to is around = apart_body h from to is around
  apart_block (last h) from to is around = apart_body h from to is around

  apart_body : {e : Bool} {body : List TypedStmt} {rows : List SlotInstr} → ArrangedBody e body rows → (from to : ℕ) → in_order from to (map text_of body) ≡ true → (around : Around) → Apart from to (points_of (parts_of body) around)
  apart_body nothing_left from to is around = record { inside = tt; apart = tt }
  apart_body (in_turn {s = s} {body = body} h rest) from to is around =
      let text : ((nat_le from s.span.from && nat_lt s.span.from s.span.to) && (text_at s.kind s.span && in_order s.span.to to (map text_of body))) ≡ true =
      sym (ap (λ (t : Text). (nat_le from t.span.from && nat_lt t.span.from t.span.to) && (t.fits && in_order t.span.to to (map text_of body))) (whole_text s)) ∙ is in
      let first = and_left (nat_le from s.span.from && nat_lt s.span.from s.span.to) (text_at s.kind s.span && in_order s.span.to to (map text_of body)) text in
      let second = and_right (nat_le from s.span.from && nat_lt s.span.from s.span.to) (text_at s.kind s.span && in_order s.span.to to (map text_of body)) text in
      let low = leb-true from s.span.from (and_left (nat_le from s.span.from) (nat_lt s.span.from s.span.to) first) in
      let some = ltb-true s.span.from s.span.to (and_right (nat_le from s.span.from) (nat_lt s.span.from s.span.to) first) in
      let more_text = and_right (text_at s.kind s.span) (in_order s.span.to to (map text_of body)) second in
      let high = less_is s.span.to to (map text_of body) more_text in
      let w = apart_kind h some (and_left (text_at s.kind s.span) (in_order s.span.to to (map text_of body)) second) in
      let a = at_first (parts_of body) around in
      let kp = part_at s.kind in
      let inner_points = w.apart a in
      let own : Apart from s.span.to (point s.span kp a ∷ kp.points a) = record {
        inside = (record { low = low; some = some; high = omega arith }, every_as (IsIn w.from s.span.to) (IsIn from s.span.to) (λ x i. in_wider (lower low w.behind) (omega arith) x.statement i) (kp.points a) inner_points.inside);
        apart = (every_as (IsIn w.from s.span.to) (IsApart (point s.span kp a)) (λ y j same. absurd (omega (arith, w.behind, j.low, ap (λ (t : Span). t.from) same))) (kp.points a) inner_points.inside, inner_points.apart);
      } in
      subst (λ (q : Part). Apart from to (q.points a ++ points_of (parts_of body) (at_rest q around))) (sym (whole_part s))
      (apart_both (point s.span kp a ∷ kp.points a) (points_of (parts_of body) (at_rest kp around)) (lower low some) high own (apart_body rest s.span.to to more_text (at_rest kp around)))

pub are_apart : (contract : Contract Slot Ty) (f : Function Slot Ty) (g : SlotFunction) → Arranges f g → IsText f → AreApart (points contract f)
are_apart contract f g arranged text =
    (apart_body arranged.is f.span.from f.span.to text.is (at_start (names_of contract.params ++ names_of f.params) (parts_of f.body))).apart

-- ---- one point

among_every : (P : Point → Type 0) (ps : List Point) (x : Point) → Every P ps → Among ps x → P x
among_every P [] x h a = elim a [ ]
among_every P (p ∷ ps) x h (inl is) = subst P is h.0
among_every P (p ∷ ps) x h (inr a) = among_every P ps x h.1 a

pub one_point : (ps : List Point) → AreApart ps → (x y : Point) → Among ps x → Among ps y → x.statement ≡ y.statement → x ≡ y
one_point [] h x y a b same = elim a [ ]
one_point (p ∷ ps) h x y (inl is) (inl also) same = sym is ∙ also
one_point (p ∷ ps) h x y (inl is) (inr b) same = absurd (among_every (IsApart p) ps y h.0 b (ap (λ (q : Point). q.statement) is ∙ same))
one_point (p ∷ ps) h x y (inr a) (inl also) same = absurd (among_every (IsApart p) ps x h.0 a (ap (λ (q : Point). q.statement) also ∙ sym same))
one_point (p ∷ ps) h x y (inr a) (inr b) same = one_point ps h.1 x y a b same

pub has_one_point : (contract : Contract Slot Ty) (f : Function Slot Ty) (g : SlotFunction) → Arranges f g → IsText f → HasOnePoint contract f
has_one_point contract f g arranged text =
    let apart = are_apart contract f g arranged text in
    record { apart = apart; one = λ x y a b same. one_point (points contract f) apart x y a b same }
