use Rattle.std.proofs.Common.{◌≡◌, ℕ, List, drop, Some, Ok, sym, ap, ◌∙◌, arith}
use Rattle.cash_lexer.specs.Tokens.{first_found}
use Rattle.cash_lexer.proofs.Cut.{token_ends, one_more_token}
use Rattle.cash_lexer.proofs.lexing.tokens.Goals as goal
use Rattle.cash_lexer.proofs.lexing.tokens.Goals.{In-Some}

-- the token that was found is the next one of the source
found_is : (c : In-Some) → first_found c.loop-tokens.at (drop c.loop-tokens.at c.args.source.now) ≡ Ok (Some c.in-Some.token)
found_is c =
    ap (λ (source : List ℕ). first_found c.loop-tokens.at (drop c.loop-tokens.at source)) (sym c.as_bytes-source.ensures.value)
    ∙ sym c.in_ok-token.ensures.value ∙ ap Ok c.in-Some.is

pub loop-tokens-smaller : goal.loop-tokens-smaller
loop-tokens-smaller c =
    let ends = token_ends c.loop-tokens.at c.args.source.now c.in-Some.token c.loop-tokens.invariant.within (found_is (goal.at.loop-tokens-smaller c).In-Some) in
    omega (arith, ends)

pub loop-tokens-preserved : goal.loop-tokens-preserved
loop-tokens-preserved c =
    let found = found_is (goal.at.loop-tokens-preserved c).In-Some in
    let ends = token_ends c.loop-tokens.at c.args.source.now c.in-Some.token c.loop-tokens.invariant.within found in
    record {
      within = ends.1;
      whole = rw c.in_ok-push.ensures.items (one_more_token c.loop-tokens.tokens.items c.loop-tokens.at c.args.source.now c.in-Some.token _ found c.loop-tokens.invariant.whole);
    }
