-- What is read of a number, for the code.
use Rattle.std.proofs.Common.{◌≡◌, ◌∙◌, ap, sym, subst, ℕ}
use Rattle.std.specs.Prelude.{Result}
use Rattle.cash_base.specs.declared.place.Span.{Span}
use Rattle.cash_tree.specs.declared.ExprKind.TheVariants as exprs
use Rattle.type_tables.specs.declared.fault.TypeFault.{TypeFault}
use Rattle.type_check.specs.declared.nodes.Judged.{Judged}
use Rattle.type_tables.specs.Tables.{Answer, Env, number_type}
use Rattle.type_tables.specs.Places.{Gives}
use Rattle.type_check.specs.Shapes.{Place, NamedKind}
use Rattle.type_check.specs.Outline as outlines
use Rattle.type_check.specs.Reading.{reading_of_kind, with_type}
use Rattle.type_check.proofs.Unfolds.{int_read}

abbrev Answers : Result Judged TypeFault → Answer outlines.Judged → Type 0
Answers r a = Gives {A = Judged} {B = outlines.Judged} (λ j. (j.kind, j.ty)) r a

pub int_given : (kind : NamedKind) (digits unit : ℕ) (span : Span) (place : Place) (env : Env)
    (r : Result Judged TypeFault) → kind ≡ exprs.Int digits unit
    → Answers r (with_type (exprs.Int digits unit) (number_type span digits unit))
    → Answers r (reading_of_kind kind span place env)
int_given kind digits unit span place env r is given =
    subst (λ a. Answers r a)
    (sym (ap (λ k. reading_of_kind k span place env) is ∙ int_read digits unit span place env)) given
