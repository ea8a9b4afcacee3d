-- Code has at most the bytes and the counted opcodes that the statements of its contract sum up to.
use Rattle.std.proofs.Common.{◌≡◌, ℕ, ◌+◌, ◌*◌, ◌≤◌, Bool, cond, List, [], ◌∷◌, length, map, refl, ap, arith}
use Rattle.std.specs.List.{AllZip}
use Rattle.std.proofs.lemmas.Bool.{le-ltb}
use Rattle.cash_base.specs.declared.place.Slot.{Slot}
use Rattle.cash_base.specs.declared.place.Span.{Span}
use Rattle.cash_tree.specs.declared.Ty.{Ty}
use Rattle.cash_tree.specs.declared.Contract.{Contract}
use Rattle.cash_tree.specs.declared.Function.{Function}
use Rattle.script_codec.specs.declared.spans.Marked.{Marked}
use Rattle.row_runs.specs.Rows.{instructions}
use Rattle.selector.specs.Pieces.{Piece, Own, Function as Piece-function, code_of, functions_of, own_of, size_of}
use Rattle.selector.specs.Selection.{Selects}
use Rattle.selector.proofs.Sizes.{size_append}
use Rattle.counting_laws.specs.Counts.{counted_of, counted_of_all, AreSpelled, HaveKnownKeys}
use Rattle.slot_expressions.specs.Room.{Price, nothing, price, sum, ◌⊕◌}
use Rattle.slot_lowering.specs.Room.{times, function_price, choice_price, room, ops_room}
use Rattle.cash_compile.specs.Compile.{code_size, code_count, FitsRoom}

-- ---- functions

-- the code of a function has at most the bytes and the opcodes of the function's price
pub record IsLight (contract : Contract Slot Ty) (f : Function Slot Ty) (code : Marked) : Type 0 where
  pub bytes : code_size (instructions code.code.items) ≤ (function_price contract f).bytes
  pub opcodes : code_count (instructions code.code.items) ≤ (function_price contract f).ops

-- the bytes of all functions
abbrev sizes : List Marked → ℕ
sizes [] = 0
sizes (function ∷ functions) = size_of function.code.items + sizes functions

all_sizes : (contract : Contract Slot Ty) (fs : List (Function Slot Ty)) (codes : List Marked) → AllZip (IsLight contract) fs codes
    → sizes codes ≤ (sum (map (function_price contract) fs)).bytes
all_sizes contract [] [] all = omega arith
all_sizes contract [] (m ∷ codes) all = absurd all
all_sizes contract (f ∷ fs) [] all = absurd all
all_sizes contract (f ∷ fs) (m ∷ codes) all =
    let one = all.0.bytes in
    let more = all_sizes contract fs codes all.1 in
    omega (arith, one, more)

all_counts : (contract : Contract Slot Ty) (fs : List (Function Slot Ty)) (codes : List Marked) → AllZip (IsLight contract) fs codes
    → counted_of_all codes ≤ (sum (map (function_price contract) fs)).ops
all_counts contract [] [] all = omega arith
all_counts contract [] (m ∷ codes) all = absurd all
all_counts contract (f ∷ fs) [] all = absurd all
all_counts contract (f ∷ fs) (m ∷ codes) all =
    let one = all.0.opcodes in
    let more = all_counts contract fs codes all.1 in
    omega (arith, one, more)

-- ---- one function

pub one_fits : (contract : Contract Slot Ty) (f : Function Slot Ty) (function : Marked) → contract.functions ≡ f ∷ [] → IsLight contract f function
    → FitsRoom contract (instructions function.code.items)
one_fits contract f function only light =
    let all = λ (fs : List (Function Slot Ty)). sum (map (function_price contract) fs) ⊕ choice_price (length fs) in
    let most : room contract ≡ (function_price contract f).bytes + 0 + 0 = ap (λ fs. (all fs).bytes) only in
    let most_ops : ops_room contract ≡ (function_price contract f).ops + 0 + 0 = ap (λ fs. (all fs).ops) only in
    let bytes = light.bytes in
    let opcodes = light.opcodes in
    record { bytes = omega (arith, bytes, most); opcodes = omega (arith, opcodes, most_ops) }

-- ---- several

pieces_size : (pieces : List Piece) → size_of (code_of pieces) ≡ size_of (own_of pieces) + sizes (functions_of pieces)
pieces_size [] = refl
pieces_size (Own rows ∷ pieces) =
    let apart = size_append rows (code_of pieces) in
    let own = size_append rows (own_of pieces) in
    let more = pieces_size pieces in
    omega (arith, apart, own, more)
pieces_size (Piece-function function ∷ pieces) =
    let apart = size_append function.code.items (code_of pieces) in
    let more = pieces_size pieces in
    omega (arith, apart, more)

choice_paid : (functions : ℕ) → 2 ≤ functions → choice_price functions ≡ price (functions * 15) (functions * 7)
choice_paid functions several = ap (λ (t : Bool). cond t nothing (times functions (price 15 7))) (le-ltb functions 2 several)

-- what the choice of a function counts
abbrev pub ChoicesCountFew : Type 0
ChoicesCountFew = (functions : List Marked) (ctors : ℕ) (contract : Span) (code : Marked) → Selects functions ctors contract code
    → AreSpelled functions → HaveKnownKeys functions
    → counted_of (instructions code.code.items) ≤ counted_of_all functions + 7 * length functions

pub several_fit : ChoicesCountFew → (contract : Contract Slot Ty) (functions : List Marked) (ctors : ℕ) (code : Marked)
    → AllZip (IsLight contract) contract.functions functions → length contract.functions ≡ length functions → 2 ≤ length functions
    → AreSpelled functions → HaveKnownKeys functions → Selects functions ctors contract.span code → FitsRoom contract (instructions code.code.items)
several_fit few contract functions ctors code all count several spelled known h =
    let paid = choice_paid (length contract.functions) (omega (arith, several, count)) in
    let paid_bytes = ap (λ (p : Price). p.bytes) paid in
    let paid_ops = ap (λ (p : Price). p.ops) paid in
    let rows = ap size_of h.rows in
    let parts = pieces_size h.pieces in
    let same = ap sizes h.in_order in
    let own = h.bytes in
    let lengths = ap length h.in_order in
    let bytes = all_sizes contract contract.functions functions all in
    let counted = few functions ctors contract.span code h spelled known in
    let opcodes = all_counts contract contract.functions functions all in
    record { bytes = omega (arith, paid_bytes, rows, parts, same, own, bytes, count); opcodes = omega (arith, paid_ops, counted, opcodes, count) }
