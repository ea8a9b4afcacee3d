-- What holds of every span of a contract holds of the places of its code.
use Rattle.std.proofs.Common.{◌≡◌, ℕ, Bool, true, List, [], ◌∷◌, ◌++◌, map, refl, sym, ◌∙◌, subst}
use Rattle.std.specs.Prelude.{◌&&◌, nat_le}
use Rattle.std.specs.List.{AllByRecursion, list_all}
use Rattle.std.proofs.lemmas.Bool.{and_parts, and_from, leb-true, le-leb}
use Rattle.std.proofs.lemmas.List.Folds.{list_all-append}
use Rattle.cash_base.specs.declared.place.Slot.{Slot}
use Rattle.cash_base.specs.declared.place.Span.{Span}
use Rattle.cash_base.specs.Source.{IsInside, AreInside}
use Rattle.cash_tree.specs.declared.Ty.{Ty}
use Rattle.cash_tree.specs.declared.Contract.{Contract}
use Rattle.cash_tree.specs.declared.Function.{Function}
use Rattle.cash_tree.specs.Nodes.{joined}
use Rattle.cash_tree.specs.Spans.{nothing as no_name, constraint_spans, param_spans, function_spans, tree_spans}
use Rattle.script_codec.specs.declared.spans.Spanned.{Spanned}
use Rattle.script_codec.specs.declared.spans.Marked.{Marked}
use Rattle.selector.specs.Pieces.{Piece, Own, Function as Piece-function, code_of, functions_of, own_of, AreOwn}
use Rattle.stack_schedule.specs.Spans.{have_places}
use Rattle.artifact_json.specs.Artifact.{IsRowInside}
use Rattle.artifact_json.specs.Reading.{is_inside}
use Rattle.tidied_code.specs.Ends.{places}

-- ---- the spans of a contract

abbrev Hold : (Span → Bool) → List Span → Type 0
Hold holds spans = list_all holds spans ≡ true

behind : (holds : Span → Bool) (first second : List Span) → Hold holds (first ++ second) → Hold holds second
behind holds first second h = (and_parts (list_all holds first) (list_all holds second) (sym (list_all-append holds first second) ∙ h)).1

pub its_own : (holds : Span → Bool) (contract : Contract Slot Ty) → Hold holds (tree_spans no_name contract) → holds contract.span ≡ true
its_own holds contract h = (and_parts _ _ (and_parts (holds contract.name) _ h).1).0

abbrev pub HoldsOf : (Span → Bool) → Function Slot Ty → Type 0
HoldsOf holds f = list_all holds (function_spans no_name f) ≡ true

each_function : (holds : Span → Bool) (fs : List (Function Slot Ty)) → Hold holds (joined (map (function_spans no_name) fs)) → AllByRecursion (HoldsOf holds) fs
each_function holds [] h = tt
each_function holds (f ∷ fs) h =
    let own = function_spans no_name f in
    let more = joined (map (function_spans no_name) fs) in
    let both = and_parts (list_all holds own) (list_all holds more) (sym (list_all-append holds own more) ∙ h) in
    (both.0, each_function holds fs both.1)

pub of_functions : (holds : Span → Bool) (contract : Contract Slot Ty) → Hold holds (tree_spans no_name contract) → AllByRecursion (HoldsOf holds) contract.functions
of_functions holds contract h =
    let pragmas = joined (map constraint_spans contract.pragmas) in
    let params = joined (map (param_spans no_name) contract.params) in
    let functions = joined (map (function_spans no_name) contract.functions) in
    let named = (and_parts (holds contract.name) (list_all holds (contract.span ∷ (pragmas ++ (params ++ functions)))) h).1 in
    let parts = (and_parts (holds contract.span) (list_all holds (pragmas ++ (params ++ functions))) named).1 in
    each_function holds contract.functions (behind holds params functions (behind holds pragmas (params ++ functions) parts))

-- ---- the places of rows

abbrev Placed : (Span → Bool) → List Spanned → Type 0
Placed holds rows = have_places holds rows ≡ true

abbrev place_test : (Span → Bool) → Spanned → Bool
place_test holds row = holds row.doing && holds row.checking

both_placed : (holds : Span → Bool) (first second : List Spanned) → Placed holds first → Placed holds second → Placed holds (first ++ second)
both_placed holds first second a b =
    list_all-append (place_test holds) first second ∙ and_from (have_places holds first) (have_places holds second) a b

own_placed : (holds : Span → Bool) (contract : Span) (rows : List Spanned) → holds contract ≡ true → AreOwn contract rows → Placed holds rows
own_placed holds contract [] h own = refl
own_placed holds contract (row ∷ rows) h own =
    let doing = subst (λ (s : Span). holds s ≡ true) (sym own.0.doing) h in
    let checking = subst (λ (s : Span). holds s ≡ true) (sym own.0.checking) h in
    and_from (place_test holds row) (have_places holds rows) (and_from (holds row.doing) (holds row.checking) doing checking)
    (own_placed holds contract rows h own.1)

first_own : (contract : Span) (first second : List Spanned) → AreOwn contract (first ++ second) → AreOwn contract first
first_own contract [] second own = tt
first_own contract (row ∷ first) second own = (own.0, first_own contract first second own.1)

other_own : (contract : Span) (first second : List Spanned) → AreOwn contract (first ++ second) → AreOwn contract second
other_own contract [] second own = own
other_own contract (row ∷ first) second own = other_own contract first second own.1

abbrev pub IsPlaced : (Span → Bool) → Marked → Type 0
IsPlaced holds function = have_places holds function.code.items ≡ true

-- code that is put together of the codes of functions and of rows at the contract's own place
pub pieces_placed : (holds : Span → Bool) (contract : Span) (pieces : List Piece) → holds contract ≡ true → AreOwn contract (own_of pieces)
    → AllByRecursion (IsPlaced holds) (functions_of pieces) → have_places holds (code_of pieces) ≡ true
pieces_placed holds contract [] h own all = refl
pieces_placed holds contract (Own rows ∷ pieces) h own all =
    both_placed holds rows (code_of pieces) (own_placed holds contract rows h (first_own contract rows (own_of pieces) own))
    (pieces_placed holds contract pieces h (other_own contract rows (own_of pieces) own) all)
pieces_placed holds contract (Piece-function function ∷ pieces) h own all =
    both_placed holds function.code.items (code_of pieces) all.0 (pieces_placed holds contract pieces h own all.1)

-- ---- inside a source

all_inside : (len : ℕ) (spans : List Span) → AreInside len spans → Hold (is_inside len) spans
all_inside len [] all = refl
all_inside len (span ∷ spans) all =
    and_from (is_inside len span) (list_all (is_inside len) spans)
    (and_from (nat_le span.from span.to) (nat_le span.to len) (le-leb span.from span.to all.0.ordered) (le-leb span.to len all.0.ends))
    (all_inside len spans all.1)

inside : (len : ℕ) (span : Span) → is_inside len span ≡ true → IsInside len span
inside len span is =
    let parts = and_parts (nat_le span.from span.to) (nat_le span.to len) is in
    record { ordered = leb-true span.from span.to parts.0; ends = leb-true span.to len parts.1 }

each_inside : (len : ℕ) (rows : List Spanned) → Placed (is_inside len) rows → AllByRecursion (IsRowInside len) (map places rows)
each_inside len [] is = tt
each_inside len (row ∷ rows) is =
    let parts = and_parts (place_test (is_inside len) row) (have_places (is_inside len) rows) is in
    let both = and_parts (is_inside len row.doing) (is_inside len row.checking) parts.0 in
    ((inside len row.doing both.0, inside len row.checking both.1), each_inside len rows parts.1)

-- where all spans of the contract lie in the source
pub rows_inside : (contract : Contract Slot Ty) (rows : List Spanned) (len : ℕ)
    → ((holds : Span → Bool) → list_all holds (tree_spans no_name contract) ≡ true → have_places holds rows ≡ true)
    → AreInside len (tree_spans no_name contract) → AllByRecursion (IsRowInside len) (map places rows)
rows_inside contract rows len keeps all = each_inside len rows (keeps (is_inside len) (all_inside len (tree_spans no_name contract) all))
