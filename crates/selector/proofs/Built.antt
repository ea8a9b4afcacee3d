-- The code and the marks that are put together.
use Rattle.std.proofs.Common.{◌≡◌, ℕ, ◌+◌, ◌≤◌, List, [], ◌∷◌, ◌++◌, length, map, refl, sym, ap, ◌∙◌, arith, length-append, append-nil}
use Rattle.std.proofs.lemmas.List.{append_assoc}
use Rattle.std.proofs.lemmas.Grind.{flat_map-append}
use Rattle.cash_base.specs.declared.place.Span.{Span}
use Rattle.script_codec.specs.declared.spans.Spanned.{Spanned}
use Rattle.script_codec.specs.declared.spans.Mark.{Mark}
use Rattle.script_codec.specs.declared.spans.Marked.{Marked}
use Rattle.run_laws.specs.Branches.{ELSE, ENDIF}
use Rattle.selector.specs.Pieces.{Piece, Own, Function, rows_of, code_of, marks_of, mark_behind}
use Rattle.selector.specs.Choice.{own, opening, choice}

pub code_append : (first second : List Piece) → code_of (first ++ second) ≡ code_of first ++ code_of second
code_append first second = flat_map-append rows_of first second

marks_at : (n m : ℕ) (pieces : List Piece) → n ≡ m → marks_of n pieces ≡ marks_of m pieces
marks_at n m pieces same = ap (λ k. marks_of k pieces) same

pub marks_append : (before : ℕ) (first second : List Piece)
    → marks_of before (first ++ second) ≡ marks_of before first ++ marks_of (before + length (code_of first)) second
marks_append before [] second = marks_at before (before + 0) second (omega arith)
marks_append before (Own rows ∷ first) second =
    let counted = length-append rows (code_of first) in
    marks_append (before + length rows) first second
    ∙ ap (λ marks. marks_of (before + length rows) first ++ marks)
    (marks_at (before + length rows + length (code_of first)) (before + length (code_of (Own rows ∷ first))) second (omega (arith, counted)))
marks_append before (Function function ∷ first) second =
    let rows = function.code.items in
    let counted = length-append rows (code_of first) in
    let here = map (mark_behind before) function.marks.items in
    ap (λ marks. here ++ marks)
    (marks_append (before + length rows) first second
    ∙ ap (λ marks. marks_of (before + length rows) first ++ marks)
    (marks_at (before + length rows + length (code_of first)) (before + length (code_of (Function function ∷ first))) second (omega (arith, counted))))
    ∙ sym (append_assoc here (marks_of (before + length rows) first)
    (marks_of (before + length (code_of (Function function ∷ first))) second))

-- the rows in front of those of the others
pub split : (contract : Span) (n : ℕ) (function next : Marked) (functions : List Marked)
    → code_of (choice contract n (function ∷ next ∷ functions))
    ≡ (opening contract n ++ (function.code.items ++ own contract ELSE ∷ []))
    ++ code_of (choice contract (n + 1) (next ∷ functions) ++ Own (own contract ENDIF ∷ []) ∷ [])
split contract n function next functions =
    let tail = code_of (choice contract (n + 1) (next ∷ functions) ++ Own (own contract ENDIF ∷ []) ∷ []) in
    ap (λ rows. opening contract n ++ rows) (sym (append_assoc function.code.items (own contract ELSE ∷ []) tail))

-- ---- another, in front of others

more_marks : (contract : Span) (n : ℕ) (function : Marked) (others functions : List Marked) (c0 c1 c2 c3 : List Spanned) (m0 m1 m2 : List Mark)
    → 1 ≤ length others → functions ≡ function ∷ others
    → c1 ≡ c0 ++ opening contract n → c2 ≡ c1 ++ function.code.items → c3 ≡ c2 ++ own contract ELSE ∷ []
    → m1 ≡ m0 ++ map (mark_behind (length c1)) function.marks.items
    → m2 ≡ m1 ++ marks_of (length c3) (choice contract (n + 1) others)
    → m2 ≡ m0 ++ marks_of (length c0) (choice contract n functions)
more_marks contract n function [] functions c0 c1 c2 c3 m0 m1 m2 some are a b c d e = absurd (omega (arith, some))
more_marks contract n function (next ∷ others) functions c0 c1 c2 c3 m0 m1 m2 some are a b c d e =
    let inner = choice contract (n + 1) (next ∷ others) in
    let ends : List Piece = Own (own contract ENDIF ∷ []) ∷ [] in
    let glue = length (opening contract n) in
    let len1 : length c1 ≡ length c0 + glue = ap length a ∙ length-append c0 (opening contract n) in
    let len2 : length c2 ≡ length c1 + length function.code.items = ap length b ∙ length-append c1 function.code.items in
    let len3 : length c3 ≡ length c2 + 1 = ap length c ∙ length-append c2 (own contract ELSE ∷ []) in
    let here = map (mark_behind (length c0 + glue)) function.marks.items in
    e ∙ ap (λ marks. marks ++ marks_of (length c3) inner) (d ∙ ap (λ k. m0 ++ map (mark_behind k) function.marks.items) len1)
    ∙ append_assoc m0 here (marks_of (length c3) inner)
    ∙ ap (λ k. m0 ++ (here ++ marks_of k inner)) (len3 ∙ ap (λ k. k + 1) (len2 ∙ ap (λ k. k + length function.code.items) len1))
    ∙ ap (λ marks. m0 ++ (here ++ marks))
    (sym (append-nil (marks_of (length c0 + glue + length function.code.items + 1) inner))
    ∙ sym (marks_append (length c0 + glue + length function.code.items + 1) inner ends))
    ∙ ap (λ fs. m0 ++ marks_of (length c0) (choice contract n fs)) (sym are)

-- the same in the steps of the code
pub chosen_marks : (contract k2 k3 : Span) (n : ℕ) (function : Marked) (others functions : List Marked) (c0 c1 c2 c3 : List Spanned)
    (m0 m1 m2 m3 m4 m5 : List Mark) → 1 ≤ length others → functions ≡ function ∷ others → k2 ≡ contract → k3 ≡ contract
    → c1 ≡ c0 ++ opening contract n → c2 ≡ c1 ++ function.code.items → c3 ≡ c2 ++ own k2 ELSE ∷ []
    → m1 ≡ m0 → m2 ≡ m1 ++ map (mark_behind (length c1)) function.marks.items → m3 ≡ m2
    → m4 ≡ m3 ++ marks_of (length c3) (choice k3 (n + 1) others) → m5 ≡ m4
    → m5 ≡ m0 ++ marks_of (length c0) (choice contract n functions)
chosen_marks contract k2 k3 n function others functions c0 c1 c2 c3 m0 m1 m2 m3 m4 m5 some are same2 same3 a b c d e f g h =
    more_marks contract n function others functions c0 c1 c2 c3 m0 m2 m5 some are a b
    (c ∙ ap (λ k. c2 ++ own k ELSE ∷ []) same2)
    (e ∙ ap (λ m. m ++ map (mark_behind (length c1)) function.marks.items) d)
    (h ∙ g ∙ ap (λ m. m ++ marks_of (length c3) (choice k3 (n + 1) others)) f
    ∙ ap (λ k. m2 ++ marks_of (length c3) (choice k (n + 1) others)) same3)

-- ---- the code of one function

pub marks_behind_nothing : (marks : List Mark) → map (mark_behind 0) marks ≡ marks
marks_behind_nothing [] = refl
marks_behind_nothing (mark ∷ marks) =
    let index : 0 + mark.at ≡ mark.at = omega arith in
    ap (λ (k : ℕ). record { at = k; height = mark.height; statement = mark.statement } ∷ map (mark_behind 0) marks) index
    ∙ ap (λ more. mark ∷ more) (marks_behind_nothing marks)
