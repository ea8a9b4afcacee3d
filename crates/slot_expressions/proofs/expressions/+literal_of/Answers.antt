use Rattle.std.proofs.Common.{sym, ◌∙◌}
use Rattle.slot_expressions.proofs.Chunks.{spelled_hex, spelled_text, spelled_cast}
use Rattle.slot_expressions.proofs.expressions.+literal_of.Goals as goal

pub returns-in-Hex : goal.returns-in-Hex
returns-in-Hex t c = spelled_hex c.in-Hex.is c.as_slice.ensures c.requires

pub returns-in-Text : goal.returns-in-Text
returns-in-Text t c = spelled_text c.in-Text.is c.as_slice-in-Text.ensures c.requires

pub returns-in_ok-bytes-in-Cast : goal.returns-in_ok-bytes-in-Cast
returns-in_ok-bytes-in-Cast t c =
    spelled_cast c.in-Cast.value c.in-Cast.size c.in-Cast.is c.get-inner.ensures
    (sym c.leaves_it.ensures ∙ c.if-not-leaves_it.false) c.in_ok-bytes-in-Cast.ensures
