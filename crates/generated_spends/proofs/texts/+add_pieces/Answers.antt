use Rattle.generated_spends.proofs.Steps.{pieces_more}
use Rattle.generated_spends.proofs.texts.+add_pieces.Goals as goal

pub returns-clause-text : goal.returns-clause-text
returns-clause-text t c = pieces_more c.args.count c.args.draws.now.state c.add_piece.new.draws.state c.args.text.now.items c.add_piece.new.text.items
    c.add_pieces.new.text.items c.if-count-eq0.false c.in_ok-add_piece.ensures.text c.in_ok-add_piece.ensures.state c.in_ok-add_pieces.ensures.text
