use Rattle.std.proofs.Common.{◌≡◌, ap, ◌∙◌, refl, None, ◌∷◌, drop}
use Rattle.stack_emitter.specs.Places.{spot}
use Rattle.stack_pieces.proofs.Chunks.{adds_chunk, chunk_bytes, chunk_ops}
use Rattle.stack_pieces.proofs.pieces.chunk.Goals as goal

pub returns-clause-adds : goal.returns-clause-adds
returns-clause-adds c =
    adds_chunk c.args.emitter.now _ c.args.doing c.args.checking c.requires c.in_ok-put_pieces.ensures.code
    (c.in_ok-put.ensures ∙ ap (λ p. spot (None ∷ p.operands) p.slots) (c.take.ensures ∙ ap (λ p. spot (drop 2 p.operands) p.slots) c.in_ok-put_pieces.ensures.place))

pub returns-clause-bytes : goal.returns-clause-bytes
returns-clause-bytes c = chunk_bytes _ _ c.args.doing c.args.checking c.in_ok-put_pieces.ensures.code

pub returns-clause-ops : goal.returns-clause-ops
returns-clause-ops c = chunk_ops _ _ c.args.doing c.args.checking c.in_ok-put_pieces.ensures.code
