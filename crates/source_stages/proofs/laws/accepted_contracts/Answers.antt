use Rattle.source_stages.proofs.Counts.{typed_counted}
use Rattle.source_stages.proofs.Inside as spans
use Rattle.source_stages.proofs.Words as words
use Rattle.source_stages.proofs.laws.accepted_contracts.Goals as goal

pub returns : goal.returns
returns c =
    let placed : spans.Laws = record {
      order = c.tokens_stand_in_order.ensures;
      tree = c.trees_hold.ensures.inside;
      named = c.spans_are_kept.ensures.inside;
      typed = c.types_keep.ensures.contracts;
    } in
    let worded : words.Laws = record { words = c.words_have_texts.ensures; names = c.names_have_texts.ensures; judged = c.judged_once.ensures } in
    record {
      counted = λ source contract h. typed_counted contract h.resolved.names ((c.judged_once.ensures h.named).kept contract h.types.0);
      inside = spans.spans_are_inside placed;
      texts = words.names_are_texts worded;
    }
