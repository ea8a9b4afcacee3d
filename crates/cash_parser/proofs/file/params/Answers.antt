use Rattle.std.proofs.Common.{List, arith, sym, ◌∙◌, codes}
use Rattle.cash_base.specs.declared.place.Span.{Span}
use Rattle.cash_tree.specs.declared.Param.{Param}
use Rattle.cash_symbols.specs.Lexemes.{Lexeme, lexemes}
use Rattle.cash_symbols.proofs.Steps.{eaten_shorter}
use Rattle.cash_parser.proofs.FileSound.{param_shorter_of}
use Rattle.cash_parser.proofs.FileLoop.{no_more_params, one_more_param}
use Rattle.cash_parser.proofs.file.params.Goals as goal

pub returns-in-Some : goal.returns-in-Some
returns-in-Some c =
    let s = c.args.source.now in
    sym c.loop-end.invariant ∙ no_more_params c.loop-end.found (lexemes s c.loop-end.rest.now)
    (c.in-Some.end, lexemes s c.in-Some.after.now) (sym c.in-Some.ensures)

pub loop-end-smaller : goal.loop-end-smaller
loop-end-smaller c =
    let s = c.args.source.now in
    let a = param_shorter_of (lexemes s c.loop-end.rest.now) (c.in_ok-one.one, lexemes s c.in_ok-one.past.now)
    c.in_ok-one.ensures in
    let b = eaten_shorter (codes ",") (lexemes s c.in_ok-one.past.now)
    (c.in-Some-eat.field-0-0, lexemes s c.in-Some-eat.after.now) (sym c.in-Some-eat.ensures) in
    omega arith

pub loop-end-preserved : goal.loop-end-preserved
loop-end-preserved c =
    let s = c.args.source.now in
    let p : Param Span × List Lexeme = (c.in_ok-one.one, lexemes s c.in_ok-one.past.now) in
    let comma : Span × List Lexeme = (c.in-Some-eat.field-0-0, lexemes s c.in-Some-eat.after.now) in
    let one = one_more_param c.loop-end.found (lexemes s c.loop-end.rest.now) p comma (sym c.in_default.ensures)
    c.in_ok-one.ensures (sym c.in-Some-eat.ensures) in
    rw c.in_ok-push.ensures.ok (sym one ∙ c.loop-end.invariant)
