use Rattle.std.proofs.Common.{List, ◌-◌, arith, sym, ◌∙◌, codes}
use Rattle.cash_base.specs.declared.place.Span.{Span}
use Rattle.cash_symbols.specs.Words.{loosest}
use Rattle.cash_symbols.specs.Lexemes.{Lexeme, lexemes}
use Rattle.cash_expressions.specs.Grammar.{Expression, primary, level}
use Rattle.cash_symbols.specs.Front.{number_value}
use Rattle.cash_symbols.proofs.Steps.{eaten_shorter, taken_shorter}
use Rattle.cash_expressions.proofs.Unrolled.{operator_shorter, reading_shorter}
use Rattle.cash_expressions.proofs.Loops.{no_more, one_more}
use Rattle.cash_expressions.proofs.expressions.+parser.Goals as goal

pub binary-operators-requires : goal.binary-operators-requires
binary-operators-requires t c =
    let s = c.args.source.now in
    let a = reading_shorter (level (c.args.loosest - 1)) (lexemes s c.args.tokens.now)
    (c.in_ok-left.left, lexemes s c.in_ok-left.rest.now) c.in_ok-left.ensures in
    (omega arith, omega arith)

pub operators-operators-requires : goal.operators-operators-requires
operators-operators-requires t c =
    let s = c.args.source.now in
    let a = operator_shorter c.args.loosest (lexemes s c.args.tokens.now)
    (c.in-Some.op, lexemes s c.in-Some.past.now) (sym c.in-Some.ensures) in
    let b = reading_shorter (level (c.args.loosest - 1)) (lexemes s c.in-Some.past.now)
    (c.in_ok-right.right, lexemes s c.in_ok-right.rest.now) c.in_ok-right.ensures in
    (omega arith, omega arith)

pub suffixed-suffixes-requires : goal.suffixed-suffixes-requires
suffixed-suffixes-requires t c =
    let s = c.args.source.now in
    let a = reading_shorter primary (lexemes s c.args.tokens.now) (c.in_ok-e.e, lexemes s c.in_ok-e.rest.now)
    c.in_ok-e.ensures in
    (omega arith, tt)

pub suffixes-suffixes-requires : goal.suffixes-suffixes-requires
suffixes-suffixes-requires t c =
    let s = c.args.source.now in
    let a = eaten_shorter (codes "[") (lexemes s c.args.tokens.now)
    (c.in-Some-eat.field-0-0, lexemes s c.in-Some-eat.rest.now) (sym c.in-Some-eat.ensures) in
    let b = taken_shorter number_value (lexemes s c.in-Some-eat.rest.now)
    ((c.in-Some-number.n, c.in-Some-number.field-0-0-1), lexemes s c.in-Some-number.rest.now)
    (sym c.in-Some-number.ensures) in
    let d = eaten_shorter (codes "]") (lexemes s c.in-Some-number.rest.now)
    (c.in_ok-close.close, lexemes s c.in_ok-close.rest.now) c.in_ok-close.ensures in
    (omega arith, tt)

pub with_word-suffixes-requires-in-Split : goal.with_word-suffixes-requires-in-Split
with_word-suffixes-requires-in-Split t c =
    let s = c.args.source.now in
    let a = eaten_shorter (codes "(") (lexemes s c.args.tokens.now)
    (c.in_ok-rest-in-Split.field-0-0, lexemes s c.in_ok-rest-in-Split.rest.now) c.in_ok-rest-in-Split.ensures in
    let b = reading_shorter (level loosest) (lexemes s c.in_ok-rest-in-Split.rest.now)
    (c.in_ok-at-in-Split.at, lexemes s c.in_ok-at-in-Split.rest.now) c.in_ok-at-in-Split.ensures in
    let d = eaten_shorter (codes ")") (lexemes s c.in_ok-at-in-Split.rest.now)
    (c.in_ok-close-in-Split.close, lexemes s c.in_ok-close-in-Split.rest.now) c.in_ok-close-in-Split.ensures in
    (omega arith, tt)

pub items-returns-in-Some : goal.items-returns-in-Some
items-returns-in-Some t c =
    let s = c.args.source.now in
    sym c.loop-end.invariant.same ∙ no_more c.loop-end.found c.args.close.now (lexemes s c.loop-end.rest.now)
    (c.in-Some.end, lexemes s c.in-Some.after.now) (sym c.in-Some.ensures)

pub items-loop-end-smaller : goal.items-loop-end-smaller
items-loop-end-smaller t c =
    let s = c.args.source.now in
    let a = reading_shorter (level loosest) (lexemes s c.loop-end.rest.now)
    (c.in_ok-e.e, lexemes s c.in_ok-e.past.now) c.in_ok-e.ensures in
    let b = eaten_shorter (codes ",") (lexemes s c.in_ok-e.past.now)
    (c.in-Some-eat.field-0-0, lexemes s c.in-Some-eat.after.now) (sym c.in-Some-eat.ensures) in
    omega arith

pub items-loop-end-preserved : goal.items-loop-end-preserved
items-loop-end-preserved t c =
    let s = c.args.source.now in
    let e : Expression × List Lexeme = (c.in_ok-e.e, lexemes s c.in_ok-e.past.now) in
    let comma : Span × List Lexeme = (c.in-Some-eat.field-0-0, lexemes s c.in-Some-eat.after.now) in
    let a = reading_shorter (level loosest) (lexemes s c.loop-end.rest.now) e c.in_ok-e.ensures in
    let b = eaten_shorter (codes ",") (lexemes s c.in_ok-e.past.now) comma (sym c.in-Some-eat.ensures) in
    let one = one_more c.loop-end.found c.args.close.now (lexemes s c.loop-end.rest.now) e comma
    (sym c.in_default.ensures) c.in_ok-e.ensures (sym c.in-Some-eat.ensures) in
    record { shorter = omega arith; same = rw c.in_ok-push.ensures.ok (sym one ∙ c.loop-end.invariant.same) }
