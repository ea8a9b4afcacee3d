use Rattle.std.proofs.Common.{◌≡◌, string_bytes, IsUtf8, ap, subst, ◌∙◌}
use Rattle.std.proofs.lemmas.Str.{IsUtf8-string_bytes}
use Rattle.serde_json.specs.Written.{has_float}
use Rattle.json_text.specs.Text.{pretty_text}
use Rattle.artifact_json.specs.Reading.{artifact_reading}
use Rattle.artifact_json.specs.Text.{artifact_text, HasTypes}
use Rattle.artifact_json.proofs.WholeLaw.{value_whole, program_read}
use Rattle.artifact_json.proofs.writing.write.Goals as goal

pub pretty_text-requires : goal.pretty_text-requires
pretty_text-requires c = ap has_float c.in_ok-value.ensures ∙ value_whole c.args.program.now

pub returns-clause-read_back : goal.returns-clause-read_back
unfolding artifact_text
returns-clause-read_back c =
    let text : string_bytes c.in_ok-text.text ≡ artifact_text c.args.program.now = c.in_ok-text.ensures ∙ ap pretty_text c.in_ok-value.ensures in
    let types : HasTypes c.args.program.now = record {
      text = subst IsUtf8 text (IsUtf8-string_bytes c.in_ok-text.text);
      pushes = c.parts_have_types.ensures.pushes;
      places = c.parts_have_types.ensures.places;
    } in
    λ h. ap artifact_reading text ∙ program_read c.args.program.now types h
