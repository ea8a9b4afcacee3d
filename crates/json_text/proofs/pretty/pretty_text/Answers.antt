use Rattle.std.proofs.Common.{◌++◌, string_bytes, ap, ◌∙◌, arith}
use Rattle.std.proofs.lemmas.Str.{encode_ascii}
use Rattle.json_text.proofs.Plain.{text_is}
use Rattle.json_text.proofs.pretty.pretty_text.Goals as goal

pub returns : goal.returns
returns c =
    c.in_ok-push.ensures.bytes
    ∙ ap (λ l. string_bytes c.in_ok-text.text ++ l) (encode_ascii 10 (omega arith))
    ∙ text_is _ _ c.in_ok-text.ensures.layout c.in_ok-text.ensures.order c.requires
