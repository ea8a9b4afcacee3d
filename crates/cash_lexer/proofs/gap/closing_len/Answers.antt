use Rattle.std.proofs.Common.{◌≡◌, ℕ, ◌-◌, List, drop, take, length, false, sym, ap, ◌∙◌, arith}
use Rattle.std.specs.Prelude.{nat_eq, codes}
use Rattle.std.specs.List.{starts_with}
use Rattle.std.proofs.lemmas.List.{take_all, length-drop}
use Rattle.cash_lexer.proofs.Lengths.{closing_step}
use Rattle.cash_lexer.proofs.gap.closing_len.Goals as goal

pub loop-i-preserved : goal.loop-i-preserved
loop-i-preserved c =
    let i = c.loop-i.i in
    let text = c.args.text.now in
    let rest : take (length text - i) (drop i text) ≡ drop i text = take_all (length text - i) (drop i text) (omega (arith, length-drop i text)) in
    let other : starts_with nat_eq (drop i text) (codes "*/") ≡ false = ap (λ (t : List ℕ). starts_with nat_eq t (codes "*/")) (sym rest) ∙ sym c.starts_with.ensures.value ∙ c.if-starts_with.false in
    closing_step text i _ c.loop-i-test.true other c.loop-i.invariant
