use Rattle.std.proofs.Common.{List, arith, sym, ◌∙◌}
use Rattle.cash_symbols.specs.Lexemes.{Lexeme, lexemes}
use Rattle.cash_parser.specs.Files.{FunctionTree}
use Rattle.cash_parser.proofs.FileSound.{function_shorter_of}
use Rattle.cash_parser.proofs.FileLoop.{no_more_functions, one_more_function}
use Rattle.cash_parser.proofs.file.functions.Goals as goal

pub returns-in-Some : goal.returns-in-Some
returns-in-Some c =
    let s = c.args.source.now in
    sym c.loop-end.invariant ∙ no_more_functions c.loop-end.found (lexemes s c.loop-end.rest.now)
    (c.in-Some.end, lexemes s c.in-Some.after.now) (sym c.in-Some.ensures)

pub loop-end-smaller : goal.loop-end-smaller
loop-end-smaller c =
    let s = c.args.source.now in
    let a = function_shorter_of (lexemes s c.loop-end.rest.now) (c.in_ok-one.one, lexemes s c.in_ok-one.after.now)
    c.in_ok-one.ensures in
    omega arith

pub loop-end-preserved : goal.loop-end-preserved
loop-end-preserved c =
    let s = c.args.source.now in
    let f : FunctionTree × List Lexeme = (c.in_ok-one.one, lexemes s c.in_ok-one.after.now) in
    let one = one_more_function c.loop-end.found (lexemes s c.loop-end.rest.now) f (sym c.in_default.ensures)
    c.in_ok-one.ensures in
    rw c.in_ok-push.ensures.ok (sym one ∙ c.loop-end.invariant)
