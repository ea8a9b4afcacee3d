-- The text of a program reads as the program.
use Rattle.std.proofs.Common.{◌≡◌, ◌≤◌, false, true, List, [], ◌∷◌, map, Option, Some, None, Ok, IfSome, refl, ap, ◌∙◌, arith}
use Rattle.std.specs.Prelude.{ok_or}
use Rattle.std.specs.List.{AllByRecursion}
use Rattle.cash_base.specs.Failing.{◌>>=◌}
use Rattle.serde_json.specs.Data.{depth, items_depth}
use Rattle.serde_json.specs.Read.{max_depth}
use Rattle.serde_json.specs.View.{items_of}
use Rattle.serde_json.specs.Written.{has_float, items_have_float}
use Rattle.json_fields.specs.Document.{object_in}
use Rattle.json_fields.specs.Fields.{is_object}
use Rattle.json_fields.proofs.Bytes.{object_given}
use Rattle.json_text.specs.Text.{IsPlain, ArePlain}
use Rattle.json_text.proofs.Plain.{text_read}
use Rattle.span_map.specs.declared.SpanRow.{SpanRow}
use Rattle.artifact_json.specs.declared.fault.ArtifactFault.TheVariants.{NotJson}
use Rattle.artifact_json.specs.Artifact.{AbiParam, AbiCall, Artifact, IsStorable}
use Rattle.artifact_json.specs.Reading.{program_of, artifact_reading}
use Rattle.artifact_json.specs.Text.{input_value, call_value, compiler_value, row_value, program_value, artifact_text, IsSmallRow, HasTypes}
use Rattle.artifact_json.proofs.Rereads.{program_back}

-- ---- its value is plain

inputs_plain : (inputs : List AbiParam) → ArePlain (items_of (map input_value inputs))
unfolding input_value
inputs_plain [] = tt
inputs_plain (input ∷ inputs) = (((tt, (tt, tt)), (tt, ((refl, tt), tt))), inputs_plain inputs)

calls_plain : (calls : List AbiCall) → ArePlain (items_of (map call_value calls))
unfolding call_value
calls_plain [] = tt
calls_plain (call ∷ calls) = (((inputs_plain call.inputs, (tt, tt)), (tt, ((refl, tt), tt))), calls_plain calls)

compiler_plain : IsPlain compiler_value
unfolding compiler_value
compiler_plain = ((tt, (tt, tt)), (tt, ((refl, tt), tt)))

rows_plain : (rows : List SpanRow) → AllByRecursion IsSmallRow rows → ArePlain (items_of (map row_value rows))
unfolding row_value
rows_plain [] h = tt
rows_plain (row ∷ rows) h =
    ((omega (arith, h.0.0.0), (omega (arith, h.0.0.1), (omega (arith, h.0.1.0), (omega (arith, h.0.1.1), tt)))), rows_plain rows h.1)

value_plain : (p : Artifact) → HasTypes p → IsPlain (program_value p)
unfolding program_value
value_plain p t = by_spans p.spans t.places
  where
    by_spans : (spans : Option (List SpanRow)) → IfSome spans (AllByRecursion IsSmallRow) → IsPlain (program_value (record p { spans = spans }))
    by_spans None places = (
      (calls_plain p.abi, (tt, (compiler_plain, (inputs_plain p.ctor, (tt, (tt, (tt, tt))))))),
      (tt, ((refl, tt), ((refl, (refl, tt)), ((refl, (refl, (refl, tt))), ((refl, (refl, (refl, (refl, tt)))), ((refl, (refl, (refl, (refl, (refl, tt))))), ((refl, (refl, (refl, (refl, (refl, (refl, tt)))))), tt))))))),
    )
    by_spans (Some rows) places = (
      (calls_plain p.abi, (tt, (compiler_plain, (inputs_plain p.ctor, (tt, (tt, (rows_plain rows places, (tt, tt)))))))),
      (tt, ((refl, tt), ((refl, (refl, tt)), ((refl, (refl, (refl, tt))), ((refl, (refl, (refl, (refl, tt)))), ((refl, (refl, (refl, (refl, (refl, tt))))), ((refl, (refl, (refl, (refl, (refl, (refl, tt)))))), ((refl, (refl, (refl, (refl, (refl, (refl, (refl, tt))))))), tt)))))))),
    )

-- ---- it has no float

inputs_whole : (inputs : List AbiParam) → items_have_float (items_of (map input_value inputs)) ≡ false
unfolding input_value
inputs_whole [] = refl
inputs_whole (input ∷ inputs) = inputs_whole inputs

calls_whole : (calls : List AbiCall) → items_have_float (items_of (map call_value calls)) ≡ false
unfolding call_value
calls_whole [] = refl
calls_whole (call ∷ calls) = rw (inputs_whole call.inputs, calls_whole calls) refl

rows_whole : (rows : List SpanRow) → items_have_float (items_of (map row_value rows)) ≡ false
unfolding row_value
rows_whole [] = refl
rows_whole (row ∷ rows) = rows_whole rows

pub value_whole : (p : Artifact) → has_float (program_value p) ≡ false
unfolding program_value compiler_value
value_whole p = by_spans p.spans
  where
    by_spans : (spans : Option (List SpanRow)) → has_float (program_value (record p { spans = spans })) ≡ false
    by_spans None = rw (calls_whole p.abi, inputs_whole p.ctor) refl
    by_spans (Some rows) = rw (calls_whole p.abi, inputs_whole p.ctor, rows_whole rows) refl

-- ---- it is shallow

inputs_depth : (inputs : List AbiParam) → items_depth (items_of (map input_value inputs)) ≤ 1
unfolding input_value
inputs_depth [] = omega arith
inputs_depth (input ∷ inputs) = omega (arith, inputs_depth inputs)

calls_depth : (calls : List AbiCall) → items_depth (items_of (map call_value calls)) ≤ 3
unfolding call_value
calls_depth [] = omega arith
calls_depth (call ∷ calls) = omega (arith, inputs_depth call.inputs, calls_depth calls)

rows_depth : (rows : List SpanRow) → items_depth (items_of (map row_value rows)) ≤ 1
unfolding row_value
rows_depth [] = omega arith
rows_depth (row ∷ rows) = omega (arith, rows_depth rows)

value_depth : (p : Artifact) → depth (program_value p) ≤ max_depth
unfolding program_value compiler_value
value_depth p = by_spans p.spans
  where
    by_spans : (spans : Option (List SpanRow)) → depth (program_value (record p { spans = spans })) ≤ max_depth
    by_spans None = omega (arith, calls_depth p.abi, inputs_depth p.ctor)
    by_spans (Some rows) = omega (arith, calls_depth p.abi, inputs_depth p.ctor, rows_depth rows)

-- ---- the law

is_one : (p : Artifact) → is_object (program_value p) ≡ true
unfolding program_value
is_one p = refl

value_read : (p : Artifact) → HasTypes p → object_in (artifact_text p) ≡ Some (program_value p)
unfolding artifact_text
value_read p t =
    object_given (artifact_text p) (program_value p) t.text (text_read (program_value p) (value_plain p t) (value_depth p)) (is_one p)

pub program_read : (p : Artifact) → HasTypes p → IsStorable p → artifact_reading (artifact_text p) ≡ Ok p
unfolding artifact_reading
program_read p t h = ap (λ o. ok_or o NotJson >>= program_of) (value_read p t) ∙ program_back p h t
