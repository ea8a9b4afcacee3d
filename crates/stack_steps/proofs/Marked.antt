-- Whether a statement has begun, found from the last mark.
use Rattle.std.proofs.Common.{◌≡◌, Bool, true, false, List, [], ◌∷◌, ◌++◌, refl, ap, ◌∙◌}
use Rattle.std.specs.Prelude.{◌||◌}
use Rattle.cash_base.specs.declared.place.Span.{Span}
use Rattle.script_codec.specs.declared.spans.Mark.{Mark}
use Rattle.slot_code.specs.Shape.{is_span, has_span}
use Rattle.stack_steps.specs.Lower.{statements_of}

at_end : (span : Span) (before : List Mark) (last : Mark)
    → has_span span (statements_of (before ++ last ∷ [])) ≡ (is_span span last.statement || has_span span (statements_of before))
at_end span [] last = refl
at_end span (m ∷ before) last =
    ap (λ b. is_span span m.statement || b) (at_end span before last)
    ∙ turned (is_span span m.statement) (is_span span last.statement) (has_span span (statements_of before))
  where
    turned : (a b c : Bool) → (a || (b || c)) ≡ (b || (a || c))
    turned true true c = refl
    turned true false c = refl
    turned false b c = refl

pub found : (span : Span) (marks before : List Mark) (last : Mark) → marks ≡ before ++ last ∷ [] → is_span span last.statement ≡ true
    → has_span span (statements_of marks) ≡ true
found span marks before last is h =
    ap (λ l. has_span span (statements_of l)) is ∙ at_end span before last ∙ ap (λ b. b || has_span span (statements_of before)) h

pub not_found : (span : Span) (marks before : List Mark) (last : Mark) → marks ≡ before ++ last ∷ [] → is_span span last.statement ≡ false
    → has_span span (statements_of marks) ≡ has_span span (statements_of before)
not_found span marks before last is h =
    ap (λ l. has_span span (statements_of l)) is ∙ at_end span before last ∙ ap (λ b. b || has_span span (statements_of before)) h
