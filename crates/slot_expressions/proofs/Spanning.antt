-- How the spans of rows add up.
use Rattle.std.proofs.Common.{◌≡◌, Bool, true, List, [], ◌∷◌, ◌++◌, refl, sym, ap, ◌∙◌, append_assoc}
use Rattle.std.specs.Prelude.{◌&&◌}
use Rattle.std.specs.List.{list_all}
use Rattle.std.proofs.lemmas.List.{append-nil}
use Rattle.std.proofs.lemmas.List.Folds.{list_all-append}
use Rattle.cash_base.specs.declared.place.Span.{Span}
use Rattle.cash_base.specs.declared.place.Slot.{Slot}
use Rattle.cash_tree.specs.declared.Ty.{Ty}
use Rattle.cash_tree.specs.declared.ExprKind.{ExprKind}
use Rattle.slot_code.specs.declared.slots.SlotInstr.{SlotInstr}
use Rattle.slot_code.specs.declared.slots.SlotKind.{SlotKind}
use Rattle.slot_code.specs.Spans.{spans_of, spans_at, code_spans}
use Rattle.slot_code.proofs.Steps as steps
use Rattle.slot_expressions.specs.Pieces.{instruction}
use Rattle.slot_expressions.specs.Spans.{SpannedBy, own_spans_at}
use Rattle.slot_expressions.proofs.Tests.{and_left, and_right, and_intro}

-- ---- lists of spans

-- what holds of the one list holds of the other
pub record Covers (own parts : List Span) : Type 0 where
  pub covers : (test : Span → Bool) → list_all test own ≡ true → list_all test parts ≡ true

pub covers_as : {own parts : List Span} → own ≡ parts → Covers own parts
covers_as is = record { covers = λ test holds. sym (ap (list_all test) is) ∙ holds }

pub covers_then : {a b c : List Span} → Covers a b → Covers b c → Covers a c
covers_then x y = record { covers = λ test holds. y.covers test (x.covers test holds) }

pub covers_first : {own more : List Span} {span : Span} → Covers own (span ∷ more) → Covers own (span ∷ [])
covers_first {own} {more} {span} h = record {
  covers = λ test holds. and_intro (test span) true (and_left (test span) (list_all test more) (h.covers test holds)) refl;
}

pub covers_rest : {own more : List Span} {span : Span} → Covers own (span ∷ more) → Covers own more
covers_rest {own} {more} {span} h = record { covers = λ test holds. and_right (test span) (list_all test more) (h.covers test holds) }

pub covers_left : {own : List Span} (xs ys : List Span) → Covers own (xs ++ ys) → Covers own xs
covers_left xs ys h = record {
  covers = λ test holds. and_left (list_all test xs) (list_all test ys) (sym (list_all-append test xs ys) ∙ h.covers test holds);
}

pub covers_right : {own : List Span} (xs ys : List Span) → Covers own (xs ++ ys) → Covers own ys
covers_right xs ys h = record {
  covers = λ test holds. and_right (list_all test xs) (list_all test ys) (sym (list_all-append test xs ys) ∙ h.covers test holds);
}

pub covers_cons : {own more : List Span} {span : Span} → Covers own (span ∷ []) → Covers own more → Covers own (span ∷ more)
covers_cons {own} {more} {span} x y = record {
  covers = λ test holds. and_intro (test span) (list_all test more) (and_left (test span) true (x.covers test holds)) (y.covers test holds);
}

-- behind a span of its own
pub covers_kind : (kind : ExprKind Slot Ty) {parts : List Span} (span : Span) → own_spans_at kind ≡ parts → Covers (span ∷ own_spans_at kind) (span ∷ parts)
covers_kind kind span is = covers_as (ap (λ l. span ∷ l) is)

-- ---- rows

pub code_append : (a b : List SlotInstr) → code_spans (a ++ b) ≡ code_spans a ++ code_spans b
code_append [] b = refl
code_append (i ∷ a) b = ap (λ l. spans_of i ++ l) (code_append a b) ∙ sym (append_assoc (spans_of i) (code_spans a) (code_spans b))

pub spanned_none : {checking : Span} {own : List Span} → SpannedBy [] checking own
spanned_none = record { all = λ test at own. refl }

pub spanned_in : {rows : List SlotInstr} {checking : Span} {own parts : List Span} → Covers own parts → SpannedBy rows checking parts → SpannedBy rows checking own
spanned_in c h = record { all = λ test at holds. h.all test at (c.covers test holds) }

pub spanned_both : {a b : List SlotInstr} {checking : Span} {own : List Span} → SpannedBy a checking own → SpannedBy b checking own → SpannedBy (a ++ b) checking own
spanned_both {a} {b} x y = record {
  all = λ test at holds.
      ap (list_all test) (code_append a b) ∙ list_all-append test (code_spans a) (code_spans b)
      ∙ and_intro (list_all test (code_spans a)) (list_all test (code_spans b)) (x.all test at holds) (y.all test at holds);
}

row_all : (kind : SlotKind) (doing checking : Span) (test : Span → Bool) → spans_at kind ≡ [] → test doing ≡ true → test checking ≡ true → list_all test (code_spans (instruction kind doing checking ∷ [])) ≡ true
row_all kind doing checking test is here there =
    ap (list_all test) (append-nil (spans_of (instruction kind doing checking)) ∙ steps.whole_spans (instruction kind doing checking) ∙ ap (λ l. doing ∷ checking ∷ l) is)
    ∙ and_intro (test doing) (test checking && true) here (and_intro (test checking) true there refl)

-- a row without blocks, where one of these spans is done
pub spanned_row : {own : List Span} (kind : SlotKind) (doing checking : Span) → spans_at kind ≡ [] → Covers own (doing ∷ []) → SpannedBy (instruction kind doing checking ∷ []) checking own
spanned_row kind doing checking is c = record {
  all = λ test at holds. row_all kind doing checking test is (and_left (test doing) true (c.covers test holds)) at;
}

-- ... and one that serves its statement
pub spanned_own : {own : List Span} (kind : SlotKind) (checking : Span) → spans_at kind ≡ [] → SpannedBy (instruction kind checking checking ∷ []) checking own
spanned_own kind checking is = record { all = λ test at holds. row_all kind checking checking test is at at }

-- ---- rows of parts

pub spanned_sum : {a b : List SlotInstr} {checking : Span} {xs ys : List Span} → SpannedBy a checking xs → SpannedBy b checking ys → SpannedBy (a ++ b) checking (xs ++ ys)
spanned_sum {a} {b} {checking} {xs} {ys} x y =
    let whole : Covers (xs ++ ys) (xs ++ ys) = covers_as refl in
    spanned_both (spanned_in (covers_left xs ys whole) x) (spanned_in (covers_right xs ys whole) y)

pub spanned_two : {a b : List SlotInstr} {checking span : Span} {own xs ys : List Span} → Covers own (span ∷ (xs ++ ys)) → SpannedBy a checking xs → SpannedBy b checking ys → SpannedBy (a ++ b) checking own
spanned_two covers x y = spanned_in (covers_rest covers) (spanned_sum x y)
