-- All that is kept of tidied code.
use Rattle.std.proofs.Common.{◌≡◌, Bool, true, ◌&&◌, IsTrue, List, [], ◌∷◌, map, inl, inr, refl, sym, ap, ◌∙◌, subst}
use Rattle.std.specs.List.{list_all}
use Rattle.std.proofs.lemmas.Bool.{and_parts, and_from}
use Rattle.cash_base.specs.declared.place.Span.{Span}
use Rattle.script_codec.specs.declared.spans.Spanned.{Spanned}
use Rattle.row_runs.specs.Rows.{instructions}
use Rattle.selector.specs.Place.{is_unseparated}
use Rattle.peephole.specs.Sublists.{Sublist}
use Rattle.peephole.specs.Tidy.{spans_of, Tidied}
use Rattle.tidied_code.specs.Keeps.{Keeps, KeepsPlaces}
use Rattle.tidied_code.proofs.Ends.{Law, keeps_ends}

-- ---- places

all_of : {A : Type 0} (test : A → Bool) (xs ys : List A) → Sublist xs ys → list_all test ys ≡ true → list_all test xs ≡ true
all_of test xs [] s h = subst (λ l. list_all test l ≡ true) (sym s) refl
all_of test xs (y ∷ ys) (inl s) h = all_of test xs ys s (and_parts (test y) (list_all test ys) h).1
all_of test xs (y ∷ ys) (inr (rest, is, s)) h =
    let parts = and_parts (test y) (list_all test ys) h in
    subst (λ l. list_all test l ≡ true) (sym is) (and_from (test y) (list_all test rest) parts.0 (all_of test rest ys s parts.1))

abbrev tests : (Span → Span → Bool) → Spanned → Bool
tests test row = test row.doing row.checking

as_spans : (test : Span → Span → Bool) (rows : List Spanned) → list_all (tests test) rows ≡ list_all (λ p. test p.0 p.1) (map spans_of rows)
as_spans test [] = refl
as_spans test (r ∷ rows) = ap (λ b. tests test r && b) (as_spans test rows)

keeps_places : (before after : List Spanned) → Sublist (map spans_of after) (map spans_of before) → KeepsPlaces before after
keeps_places before after s test h =
    as_spans test after ∙ all_of (λ p. test p.0 p.1) (map spans_of after) (map spans_of before) s (sym (as_spans test before) ∙ h)

-- ---- the whole

pub keeps : Law → (before after : List Spanned) → IsTrue (is_unseparated (instructions before)) → Tidied before after → Keeps before after
keeps law before after plain t = record {
  tidied = t;
  ends = keeps_ends law before after plain t;
  places = keeps_places before after t.tidy.stands.spans;
}
