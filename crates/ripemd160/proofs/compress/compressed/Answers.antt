use Rattle.std.proofs.Common.{◌∙◌, ap}
use Rattle.ripemd160.specs.Ripemd160.{line}
use Rattle.ripemd160.proofs.Blocks.{joined_lines, left_steps, right_steps}
use Rattle.ripemd160.proofs.compress.compressed.Goals as goal

pub returns : goal.returns
returns c =
    joined_lines c.args.block.now c.words_of-words.result c.args.state c.line-left.result c.line-right.result _
    c.words_of-words.ensures
    (c.line-left.ensures ∙ ap (λ t. line t c.words_of-words.result c.args.state) left_steps)
    (c.line-right.ensures ∙ ap (λ t. line t c.words_of-words.result c.args.state) right_steps)
    c.joined.ensures
