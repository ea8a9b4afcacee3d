use Rattle.std.proofs.Common.{◌≡◌, true, List, [], ◌∷◌, refl, sym, ap, ◌∙◌}
use Rattle.std.proofs.lemmas.Bool.{false≢true, and_parts, and_from}
use lib.Pointwise.{pointwise}
use Rattle.cash_base.specs.declared.place.Slot.{Slot}
use Rattle.cash_base.specs.contracts.place.SlotPartialEq.TheImpl.{eq-value}
use Rattle.slot_liveness.proofs.Counts.{is_itself, same_slot}
use Rattle.slot_liveness.proofs.live.is_same.Goals as goal

one_same : (x y : Slot) → eq-value.it x y ≡ true → x ≡ y
one_same x y h = same_slot y x h

all_same : (a b : List Slot) → pointwise eq-value.it a b ≡ true → a ≡ b
all_same [] [] h = refl
all_same [] (y ∷ b) h = absurd (false≢true h)
all_same (x ∷ a) [] h = absurd (false≢true h)
all_same (x ∷ a) (y ∷ b) h =
    let k = and_parts (eq-value.it x y) (pointwise eq-value.it a b) h in
    ap (λ z. z ∷ a) (one_same x y k.0) ∙ ap (λ l. y ∷ l) (all_same a b k.1)

itself : (a : List Slot) → pointwise eq-value.it a a ≡ true
itself [] = refl
itself (x ∷ a) = and_from (eq-value.it x x) (pointwise eq-value.it a a) (is_itself x) (itself a)

pub returns : goal.returns
returns c =
    (λ h. all_same _ _ (sym c.eq.ensures ∙ h), λ e. c.eq.ensures ∙ sym (ap (pointwise eq-value.it c.args.a.now) e) ∙ itself c.args.a.now)
