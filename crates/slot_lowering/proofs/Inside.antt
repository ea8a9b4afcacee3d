-- Where all spans of a contract lie in a source, those of its slot code do.
use Rattle.std.proofs.Common.{◌≡◌, ℕ, Bool, true, List, [], ◌∷◌, ◌++◌, map, refl, sym, ◌∙◌}
use Rattle.std.specs.Prelude.{◌&&◌, nat_le}
use Rattle.std.specs.List.{list_all, AllZip, AllByRecursion}
use Rattle.std.proofs.lemmas.Bool.{leb-true}
use Rattle.std.proofs.lemmas.List.Folds.{list_all-append}
use Rattle.cash_base.specs.declared.place.Span.{Span}
use Rattle.cash_base.specs.declared.place.Slot.{Slot}
use Rattle.cash_base.specs.Source.{AreInside}
use Rattle.cash_tree.specs.Nodes.{joined}
use Rattle.cash_tree.specs.Spans.{nothing as no_name, constraint_spans, param_spans, function_spans, tree_spans}
use Rattle.cash_tree.specs.declared.Ty.{Ty}
use Rattle.cash_tree.specs.declared.Contract.{Contract}
use Rattle.cash_tree.specs.declared.Function.{Function}
use Rattle.slot_code.specs.declared.slots.SlotFunction.{SlotFunction}
use Rattle.slot_code.specs.Spans.{slot_spans}
use Rattle.slot_expressions.proofs.Standing.{le_true}
use Rattle.slot_expressions.proofs.Tests.{and_left, and_right, and_intro}
use Rattle.slot_lowering.specs.Functions.{KeepsSpans}

abbrev is_inside : ℕ → Span → Bool
is_inside len span = nat_le span.from span.to && nat_le span.to len

tested : (len : ℕ) (spans : List Span) → AreInside len spans → list_all (is_inside len) spans ≡ true
tested len [] h = refl
tested len (span ∷ spans) h =
    and_intro (is_inside len span) (list_all (is_inside len) spans)
    (and_intro (nat_le span.from span.to) (nat_le span.to len) (le_true span.from span.to h.0.ordered) (le_true span.to len h.0.ends)) (tested len spans h.1)

inside : (len : ℕ) (spans : List Span) → list_all (is_inside len) spans ≡ true → AreInside len spans
inside len [] is = tt
inside len (span ∷ spans) is =
    let own = and_left (is_inside len span) (list_all (is_inside len) spans) is in (
      record {
        ordered = leb-true span.from span.to (and_left (nat_le span.from span.to) (nat_le span.to len) own);
        ends = leb-true span.to len (and_right (nat_le span.from span.to) (nat_le span.to len) own);
      },
      inside len spans (and_right (is_inside len span) (list_all (is_inside len) spans) is),
    )

each : (len : ℕ) (fs : List (Function Slot Ty)) (gs : List SlotFunction) → list_all (is_inside len) (joined (map (function_spans no_name) fs)) ≡ true → AllZip KeepsSpans fs gs
    → AllByRecursion (λ (g : SlotFunction). AreInside len (slot_spans g)) gs
each len [] [] is h = tt
each len [] (g ∷ gs) is h = elim h [ ]
each len (f ∷ fs) [] is h = elim h [ ]
each len (f ∷ fs) (g ∷ gs) is h =
    let own = function_spans no_name f in
    let more = joined (map (function_spans no_name) fs) in
    let both = sym (list_all-append (is_inside len) own more) ∙ is in (
      inside len (slot_spans g) (h.0.all (is_inside len) (and_left (list_all (is_inside len) own) (list_all (is_inside len) more) both)),
      each len fs gs (and_right (list_all (is_inside len) own) (list_all (is_inside len) more) both) h.1,
    )

pub spans_inside : (contract : Contract Slot Ty) (gs : List SlotFunction) (len : ℕ) → AllZip KeepsSpans contract.functions gs → AreInside len (tree_spans no_name contract)
    → AllByRecursion (λ (g : SlotFunction). AreInside len (slot_spans g)) gs
spans_inside contract gs len h whole =
    let test = is_inside len in
    let pragmas = joined (map constraint_spans contract.pragmas) in
    let params = joined (map (param_spans no_name) contract.params) in
    let functions = joined (map (function_spans no_name) contract.functions) in
    let named = and_right (test contract.name) (test contract.span && list_all test (pragmas ++ (params ++ functions))) (tested len (tree_spans no_name contract) whole) in
    let parts = sym (list_all-append test pragmas (params ++ functions)) ∙ and_right (test contract.span) (list_all test (pragmas ++ (params ++ functions))) named in
    let behind = sym (list_all-append test params functions) ∙ and_right (list_all test pragmas) (list_all test (params ++ functions)) parts in
    each len contract.functions gs (and_right (list_all test params) (list_all test functions) behind) h
