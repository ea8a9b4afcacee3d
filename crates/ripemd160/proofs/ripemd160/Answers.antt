use Rattle.std.proofs.Common.{◌∙◌, ap}
use Rattle.ripemd160.specs.Ripemd160.{ripemd160, bytes_of}
use Rattle.ripemd160.proofs.Blocks.{whole_message}
use Rattle.ripemd160.proofs.ripemd160.Goals as goal

pub returns : goal.returns
unfolding ripemd160
returns c =
    c.bytes_of.ensures
    ∙ ap bytes_of (whole_message c.args.message.now _ _ _ _ _ c.after_blocks-state.ensures c.after_padding.ensures c.as_chunks.ensures.front c.as_chunks.ensures.back)
