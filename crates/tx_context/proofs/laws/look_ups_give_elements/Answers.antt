use Rattle.tx_context.proofs.Elements.{whole, indexed}
use Rattle.tx_context.proofs.laws.look_ups_give_elements.Goals as goal

pub returns-clause-whole : goal.returns-clause-whole
returns-clause-whole c = whole c.written_is_element.ensures

pub returns-clause-indexed : goal.returns-clause-indexed
returns-clause-indexed c = indexed c.written_is_element.ensures
