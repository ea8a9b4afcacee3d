use Rattle.std.proofs.Common.{List, arith, sym, ◌∙◌, codes}
use Rattle.cash_symbols.specs.Words.{loosest}
use Rattle.cash_symbols.specs.Lexemes.{Lexeme, lexemes}
use Rattle.cash_expressions.specs.Grammar.{level}
use Rattle.cash_statements.specs.Statements.{Statement}
use Rattle.cash_symbols.proofs.Steps.{eaten_shorter}
use Rattle.cash_expressions.proofs.Unrolled.{reading_shorter}
use Rattle.cash_statements.proofs.StatementSound.{statement_shorter, block_shorter}
use Rattle.cash_statements.proofs.StatementLoop.{no_more, one_more}
use Rattle.cash_statements.proofs.statements.+statements.Goals as goal

pub one-body-requires : goal.one-body-requires
one-body-requires t c =
    let s = c.args.source.now in
    let a = eaten_shorter (codes "if") (lexemes s c.args.tokens.now) (c.in-Some.start, lexemes s c.in-Some.rest.now)
    (sym c.in-Some.ensures) in
    let b = eaten_shorter (codes "(") (lexemes s c.in-Some.rest.now)
    (c.in_ok-rest.field-0-0, lexemes s c.in_ok-rest.rest.now) c.in_ok-rest.ensures in
    let d = reading_shorter (level loosest) (lexemes s c.in_ok-rest.rest.now)
    (c.in_ok-test.test, lexemes s c.in_ok-test.rest.now) c.in_ok-test.ensures in
    let e = eaten_shorter (codes ")") (lexemes s c.in_ok-test.rest.now)
    (c.in_ok-rest-2.field-0-0, lexemes s c.in_ok-rest-2.rest.now) c.in_ok-rest-2.ensures in
    (omega arith, tt)

pub one-body-requires-2 : goal.one-body-requires-2
one-body-requires-2 t c =
    let s = c.args.source.now in
    let a = eaten_shorter (codes "if") (lexemes s c.args.tokens.now) (c.in-Some.start, lexemes s c.in-Some.rest.now)
    (sym c.in-Some.ensures) in
    let b = eaten_shorter (codes "(") (lexemes s c.in-Some.rest.now)
    (c.in_ok-rest.field-0-0, lexemes s c.in_ok-rest.rest.now) c.in_ok-rest.ensures in
    let d = reading_shorter (level loosest) (lexemes s c.in_ok-rest.rest.now)
    (c.in_ok-test.test, lexemes s c.in_ok-test.rest.now) c.in_ok-test.ensures in
    let e = eaten_shorter (codes ")") (lexemes s c.in_ok-test.rest.now)
    (c.in_ok-rest-2.field-0-0, lexemes s c.in_ok-rest-2.rest.now) c.in_ok-rest-2.ensures in
    let f = block_shorter (lexemes s c.in_ok-rest-2.rest.now)
    ((c.in_ok-yes.yes, c.in_ok-yes.end), lexemes s c.in_ok-yes.rest.now) c.in_ok-yes.ensures in
    let h = eaten_shorter (codes "else") (lexemes s c.in_ok-yes.rest.now)
    (c.in-Some-eat.field-0-0, lexemes s c.in-Some-eat.rest.now) (sym c.in-Some-eat.ensures) in
    (omega arith, tt)

pub several-returns-in-Some : goal.several-returns-in-Some
several-returns-in-Some t c =
    let s = c.args.source.now in
    sym c.loop-close.invariant.same ∙ no_more c.loop-close.statements (lexemes s c.loop-close.rest.now)
    (c.in-Some.close, lexemes s c.in-Some.after.now) (sym c.in-Some.ensures)

pub several-loop-close-smaller : goal.several-loop-close-smaller
several-loop-close-smaller t c =
    let s = c.args.source.now in
    let a = statement_shorter (lexemes s c.loop-close.rest.now)
    (c.in_ok-statement.statement, lexemes s c.in_ok-statement.after.now) c.in_ok-statement.ensures in
    omega arith

pub several-loop-close-preserved : goal.several-loop-close-preserved
several-loop-close-preserved t c =
    let s = c.args.source.now in
    let x : Statement × List Lexeme = (c.in_ok-statement.statement, lexemes s c.in_ok-statement.after.now) in
    let a = statement_shorter (lexemes s c.loop-close.rest.now) x c.in_ok-statement.ensures in
    let one = one_more c.loop-close.statements (lexemes s c.loop-close.rest.now) x (sym c.in_default.ensures)
    c.in_ok-statement.ensures in
    record { shorter = omega arith; same = rw c.in_ok-push.ensures.ok (sym one ∙ c.loop-close.invariant.same) }
