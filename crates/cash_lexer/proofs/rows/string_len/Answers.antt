use Rattle.std.proofs.Common.{◌≡◌, ◌+◌, Some, None, drop, false, ◌∙◌, arith}
use Rattle.std.specs.Option.{option_map}
use Rattle.cash_lexer.proofs.Lengths.{walked_len, walked_is, string_at, walked_none}
use Rattle.cash_lexer.proofs.rows.string_len.Goals as goal

pub returns-then-byte-quote-clause-value : goal.returns-then-byte-quote-clause-value
returns-then-byte-quote-clause-value c =
    let left : option_map (λ n. n + c.loop-i.i) (walked_len c.args.quote c.loop-i.escaped (drop c.loop-i.i c.args.text.now)) ≡ walked_len c.args.quote false c.args.text.now = c.loop-i.invariant in
    let at = string_at c.args.quote c.loop-i.escaped c.args.text.now c.loop-i.i c.loop-i-test.true in
    let walked : Some (c.loop-i.i + 1) ≡ walked_len c.args.quote false c.args.text.now = grind (arith, left, at) in
    walked ∙ walked_is c.args.quote c.args.text.now

pub returns-then-is_line_end-clause-value : goal.returns-then-is_line_end-clause-value
returns-then-is_line_end-clause-value c =
    let left : option_map (λ n. n + c.loop-i.i) (walked_len c.args.quote c.loop-i.escaped (drop c.loop-i.i c.args.text.now)) ≡ walked_len c.args.quote false c.args.text.now = c.loop-i.invariant in
    let at = string_at c.args.quote c.loop-i.escaped c.args.text.now c.loop-i.i c.loop-i-test.true in
    let walked : None ≡ walked_len c.args.quote false c.args.text.now = grind (arith, left, at) in
    walked ∙ walked_is c.args.quote c.args.text.now

pub returns-clause-value : goal.returns-clause-value
returns-clause-value c =
    let walked : None ≡ walked_len c.args.quote false c.args.text.now = walked_none c.args.quote c.loop-i.escaped c.args.text.now c.loop-i.i _ c.loop-i-test.false c.loop-i.invariant in
    walked ∙ walked_is c.args.quote c.args.text.now
