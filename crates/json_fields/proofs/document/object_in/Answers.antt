use Rattle.std.proofs.Common.{rules, sym, ◌∙◌}
use Rattle.std.proofs.lemmas.Bool.{false≢true}
use Rattle.json_fields.proofs.Bytes.{object_given, other_given, no_value}
use Rattle.json_fields.proofs.document.object_in.Goals as goal

pub returns-in-Err : goal.returns-in-Err
returns-in-Err c = no_value c.args.bytes.now (c.in-Err.ensures.err (λ m. false≢true (sym c.if-is_memory.false ∙ c.is_memory.ensures.1 m)))

pub returns : goal.returns
returns c = object_given c.args.bytes.now _ c.in-Ok.ensures.ok.0 c.in-Ok.ensures.ok.1 (search rules)

pub returns-then-not-is_object : goal.returns-then-not-is_object
returns-then-not-is_object c = other_given c.args.bytes.now _ c.in-Ok.ensures.ok.0 c.in-Ok.ensures.ok.1 (search rules)
