use Rattle.std.proofs.Common.{List, arith, sym, ◌∙◌, codes}
use Rattle.cash_base.specs.declared.place.Span.{Span}
use Rattle.cash_tree.specs.declared.Constraint.{Constraint}
use Rattle.cash_symbols.specs.Lexemes.{Lexeme, lexemes}
use Rattle.cash_symbols.proofs.Steps.{eaten_shorter}
use Rattle.cash_parser.proofs.FileSound.{pragma_shorter_of}
use Rattle.cash_parser.proofs.FileLoop.{one_more_pragma}
use Rattle.cash_parser.proofs.file.file.Goals as goal

pub loop-after-smaller : goal.loop-after-smaller
loop-after-smaller c =
    let s = c.args.source.now in
    let a = eaten_shorter (codes "pragma") (lexemes s c.loop-after.rest.now)
    (c.in-Some.field-0-0, lexemes s c.in-Some.after.now) (sym c.in-Some.ensures) in
    let b = pragma_shorter_of (lexemes s c.in-Some.after.now) (c.in_ok-more.more, lexemes s c.in_ok-more.past.now)
    c.in_ok-more.ensures in
    omega arith

pub loop-after-preserved : goal.loop-after-preserved
loop-after-preserved c =
    let s = c.args.source.now in
    let p : Span × List Lexeme = (c.in-Some.field-0-0, lexemes s c.in-Some.after.now) in
    let more : List Constraint × List Lexeme = (c.in_ok-more.more, lexemes s c.in_ok-more.past.now) in
    let one = one_more_pragma c.loop-after.pragmas (lexemes s c.loop-after.rest.now) p more (sym c.in-Some.ensures)
    c.in_ok-more.ensures in
    rw c.in_ok-append.ensures (sym one ∙ c.loop-after.invariant)
