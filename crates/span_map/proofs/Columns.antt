-- The column after one more byte.
use Rattle.std.proofs.Common.{◌≡◌, ℕ, ◌+◌, ◌-◌, ◌<◌, Bool, true, false, cond, not, List, [], length, get_or, take, refl, ap, ◌∙◌, arith}
use Rattle.std.specs.List.{suffix_len}
use Rattle.std.proofs.lemmas.List.Sums.{suffix_len-take_yes, suffix_len-take_no}
use Rattle.span_map.specs.Lines.{is_feed, in_line, column_after}

by_test : (text : List ℕ) (i : ℕ) (t : Bool) → i < length text → is_feed (get_or text i 0) ≡ t
    → suffix_len in_line (take (i + 1) text) + 1 ≡ cond t 1 (suffix_len in_line (take i text) + 1 + 1)
by_test text i true within is =
    let same : i + 1 - 1 ≡ i = omega arith in
    let none = suffix_len-take_no in_line text (i + 1) 0 (omega arith) (omega arith) (ap (λ (k : ℕ). not (is_feed (get_or text k 0))) same ∙ ap not is) in
    omega (arith, none)
by_test text i false within is =
    let same : i + 1 - 1 ≡ i = omega arith in
    let more = suffix_len-take_yes in_line text (i + 1) 0 (omega arith) (omega arith) (ap (λ (k : ℕ). not (is_feed (get_or text k 0))) same ∙ ap not is) in
    let rest = ap (λ (k : ℕ). suffix_len in_line (take k text)) same in
    omega (arith, more, rest)

pub column_step : (text : List ℕ) (i : ℕ) → i < length text
    → column_after (take (i + 1) text) ≡ cond (is_feed (get_or text i 0)) 1 (column_after (take i text) + 1)
unfolding column_after
column_step text i within = by_test text i (is_feed (get_or text i 0)) within refl

pub column_start : column_after [] ≡ 1
unfolding column_after
column_start = refl
