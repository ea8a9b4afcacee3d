use Rattle.std.proofs.Common.{ap, ◌∙◌}
use Rattle.std.proofs.lemmas.List.{map-append}
use Rattle.generated_spends.proofs.Steps.{spends_more, texts_of}
use Rattle.generated_spends.proofs.spends.+add_spends.Goals as goal

pub returns : goal.returns
returns t c = spends_more c.args.count c.args.draws.now.state c.spend_text.new.draws.state (texts_of c.args.spends.now.items)
    (texts_of c.push.new.self.items) (texts_of c.add_spends.new.spends.items) c.in_ok-text.text.items c.if-count-eq0.false c.in_ok-text.ensures.text
    c.in_ok-text.ensures.state (ap texts_of c.in_ok-push.ensures.items ∙ map-append _ _ _) c.in_ok-add_spends.ensures
