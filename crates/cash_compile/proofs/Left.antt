-- A loop over functions.
use Rattle.std.proofs.Common.{◌≡◌, ℕ, ◌+◌, ◌≤◌, ◌<◌, get_or, List, [], ◌∷◌, ◌++◌, length, drop, sym, ap, ◌∙◌, subst, append_assoc}
use Rattle.std.specs.List.{AllZip}
use Rattle.std.proofs.lemmas.List.{append-nil, at_drop_more, drop_all}
use Rattle.script_codec.specs.declared.spans.Marked.{Marked}
use Rattle.slot_code.specs.declared.slots.SlotFunction.{SlotFunction}
use Rattle.cash_compile.specs.Code.{IsScheduled, AreScheduled, LeftCodes}

next_function : (gs : List SlotFunction) (g : SlotFunction) (i : ℕ) → i < length gs → g ≡ get_or gs i g → drop i gs ≡ g ∷ drop (i + 1) gs
next_function gs g i within is = at_drop_more (λ l. l) gs i g within ∙ ap (λ x. x ∷ drop (i + 1) gs) (sym is)

pub left_none : {gs : List SlotFunction} {none_yet : List Marked} → none_yet ≡ [] → LeftCodes gs none_yet 0
left_none {gs} {none_yet} none_is = record { by = λ rest t. subst (λ l. AllZip IsScheduled gs (l ++ rest)) (sym none_is) t }

pub left_more : {gs : List SlotFunction} {now next : List Marked} {g : SlotFunction} {code : Marked} {i : ℕ} → LeftCodes gs now i → i < length gs → g ≡ get_or gs i g
    → IsScheduled g code → next ≡ now ++ code ∷ [] → LeftCodes gs next (i + 1)
left_more {gs} {now} {next} {g} {code} {i} h within is scheduled grown =
    let at = next_function gs g i within is in record {
      by = λ rest t.
          let whole : AllZip IsScheduled gs (now ++ code ∷ rest) = h.by (code ∷ rest) (subst (λ l. AllZip IsScheduled l (code ∷ rest)) (sym at) (scheduled, t)) in
          subst (AllZip IsScheduled gs) (sym (ap (λ l. l ++ rest) grown ∙ append_assoc now (code ∷ []) rest)) whole;
    }

pub left_done : {gs : List SlotFunction} {now : List Marked} {i : ℕ} → LeftCodes gs now i → length gs ≤ i → AreScheduled gs now
left_done {gs} {now} {i} h past = record {
  all = subst (AllZip IsScheduled gs) (append-nil now) (h.by [] (subst (λ l. AllZip IsScheduled l []) (sym (drop_all i gs past)) tt));
}
