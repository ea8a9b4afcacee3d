-- A program is read from its value, field by field.
use Rattle.std.proofs.Common.{◌≡◌, ℕ, suc, ◌≤◌, ◌<◌, ◌^◌, true, false, ◌&&◌, List, [], ◌∷◌, length, map, Option, Some, None, option_map, Result, Ok, IfSome, refl, ap, arith, le-leb, eq-eqb}
use Rattle.std.specs.Prelude.{nat_le, nat_lt}
use Rattle.std.specs.List.{AllByRecursion}
use Rattle.std.proofs.lemmas.Bool.{and_parts, and_from}
use Rattle.std.proofs.lemmas.Bool.Decides.{nat_tests}
use Rattle.cash_base.specs.Source.{IsInside}
use Rattle.cash_base.specs.declared.place.Span.{Span}
use Rattle.serde_json.specs.Data.{Data, array, string, no_members, member}
use Rattle.serde_json.specs.Events.{items_len}
use Rattle.serde_json.specs.Find.{get_member}
use Rattle.serde_json.specs.View.{items_of}
use Rattle.json_fields.specs.Fields.{all_of, is_object, objects_of, whole_of, each, if_there}
use Rattle.script_codec.specs.Names.{are_named}
use Rattle.asm_text.proofs.Again.{text_read}
use Rattle.span_map.specs.declared.SpanRow.{SpanRow}
use Rattle.artifact_json.specs.declared.fault.Field.{Field}
use Rattle.artifact_json.specs.declared.fault.Field.TheVariants as fields
use Rattle.artifact_json.specs.Types.{is_named_type}
use Rattle.artifact_json.specs.Artifact.{AbiParam, AbiCall, Artifact, have_named_types, take_named_types, IsRowInside, HasRows, IsStorable}
use Rattle.artifact_json.specs.Fields.{key, needed, text_at, object_at, objects_at}
use Rattle.artifact_json.specs.Reading.{code_at, number_at, is_inside, span_at, row_of, rows_of, spans_at, input_of, call_of, compiler_check, count_check, program_of}
use Rattle.artifact_json.specs.Text.{input_value, inputs_value, call_value, compiler_value, row_value, with_spans, program_value, IsSmall, IsSmallRow, HasTypes}
use Rattle.artifact_json.proofs.Spellings.{spelling_read}

record AreSpelled (p : Artifact) : Type 0 where
  pub opcodes : are_named p.code ≡ true
  pub ctor_types : have_named_types p.ctor ≡ true
  pub abi_types : take_named_types p.abi ≡ true

spelled_parts : (p : Artifact) → IsStorable p → AreSpelled p
spelled_parts p h =
    let all = and_parts (are_named p.code) (have_named_types p.ctor && take_named_types p.abi) h.spelled in
    let types = and_parts (have_named_types p.ctor) (take_named_types p.abi) all.1 in
    record { opcodes = all.0; ctor_types = types.0; abi_types = types.1 }

-- ---- lists

count_values : {A : Type 0} (f : A → Data) (xs : List A) → items_len (items_of (map f xs)) ≡ length xs
count_values f [] = refl
count_values f (x ∷ xs) = ap suc (count_values f xs)

are_objects : {A : Type 0} (f : A → Data) → ((x : A) → is_object (f x) ≡ true) → (xs : List A) → all_of is_object (items_of (map f xs)) ≡ true
are_objects f h [] = refl
are_objects f h (x ∷ xs) = and_from (is_object (f x)) _ (h x) (are_objects f h xs)

-- what is read of each item of a list
each_back : {A E : Type 0} (f : A → Data) (read : Data → Result A E) (P : A → Type 0) → ((x : A) → P x → read (f x) ≡ Ok x) → (xs : List A) → AllByRecursion P xs
    → each read (items_of (map f xs)) ≡ Ok xs
each_back f read P back [] h = refl
each_back f read P back (x ∷ xs) h = rw (back x h.0, each_back f read P back xs h.1) refl

objects_back : {A : Type 0} (least most : ℕ) (field : Field) (d : Data) (f : A → Data) (xs : List A) → ((x : A) → is_object (f x) ≡ true)
    → needed field d ≡ Ok (array (items_of (map f xs))) → least ≤ length xs → length xs ≤ most → objects_at least most field d ≡ Ok (items_of (map f xs))
unfolding objects_at objects_of
objects_back least most field d f xs h is low high =
    let count = count_values f xs in
    let some : nat_lt (items_len (items_of (map f xs))) least ≡ false = rw count (grind (arith, nat_tests, low)) in
    let few : nat_lt most (items_len (items_of (map f xs))) ≡ false = rw count (grind (arith, nat_tests, high)) in
    rw (is, are_objects f h xs, some, few) refl

-- ---- parameters and functions

abbrev IsTyped : AbiParam → Type 0
IsTyped param = is_named_type param.ty ≡ true

all_typed : (params : List AbiParam) → have_named_types params ≡ true → AllByRecursion IsTyped params
all_typed [] h = tt
all_typed (param ∷ params) h =
    let parts = and_parts (is_named_type param.ty) (have_named_types params) h in
    (parts.0, all_typed params parts.1)

input_back : (input : AbiParam) → IsTyped input → input_of (input_value input) ≡ Ok input
unfolding input_of text_at needed input_value
input_back input h = rw (spelling_read input.ty h) refl

input_object : (input : AbiParam) → is_object (input_value input) ≡ true
unfolding input_value
input_object input = refl

record IsCall (call : AbiCall) : Type 0 where
  pub types : have_named_types call.inputs ≡ true
  pub few : length call.inputs ≤ 16

all_calls : (calls : List AbiCall) → take_named_types calls ≡ true → AllByRecursion (λ call. length call.inputs ≤ 16) calls → AllByRecursion IsCall calls
all_calls [] h few = tt
all_calls (call ∷ calls) h few =
    let parts = and_parts (have_named_types call.inputs) (take_named_types calls) h in
    (record { types = parts.0; few = few.0 }, all_calls calls parts.1 few.1)

call_inputs : (call : AbiCall) → needed fields.Inputs (call_value call) ≡ Ok (inputs_value call.inputs)
unfolding needed call_value
call_inputs call = refl

call_name : (call : AbiCall) → text_at fields.Name (call_value call) ≡ Ok call.name
unfolding text_at needed call_value
call_name call = refl

call_back : (call : AbiCall) → IsCall call → call_of (call_value call) ≡ Ok call
unfolding call_of
call_back call h =
    let few : 0 ≤ length call.inputs = omega arith in
    rw (
      call_name call,
      objects_back 0 16 fields.Inputs (call_value call) input_value call.inputs input_object (call_inputs call) few h.few,
      each_back input_value input_of IsTyped input_back call.inputs (all_typed call.inputs h.types),
    ) refl

call_object : (call : AbiCall) → is_object (call_value call) ≡ true
unfolding call_value
call_object call = refl

-- ---- rows

small : (n : ℕ) → n < 2 ^ 32 → nat_le n 4294967295 ≡ true
small n h = le-leb n 4294967295 (omega arith)

inside : (size : ℕ) (span : Span) → IsInside size span → is_inside size span ≡ true
inside size span h = and_from (nat_le span.from span.to) (nat_le span.to size) (le-leb _ _ h.ordered) (le-leb _ _ h.ends)

doing_back : (size : ℕ) (row : SpanRow) → IsInside size row.doing → IsSmall row.doing → span_at size 0 1 (row_value row) ≡ Ok row.doing
unfolding span_at number_at whole_of row_value
doing_back size row h s = rw (small row.doing.from s.0, small row.doing.to s.1, inside size row.doing h) refl

checking_back : (size : ℕ) (row : SpanRow) → IsInside size row.checking → IsSmall row.checking → span_at size 2 3 (row_value row) ≡ Ok row.checking
unfolding span_at number_at whole_of row_value
checking_back size row h s = rw (small row.checking.from s.0, small row.checking.to s.1, inside size row.checking h) refl

abbrev IsRow : ℕ → SpanRow → Type 0
IsRow size row = IsRowInside size row × IsSmallRow row

all_rows : (size : ℕ) (rows : List SpanRow) → AllByRecursion (IsRowInside size) rows → AllByRecursion IsSmallRow rows → AllByRecursion (IsRow size) rows
all_rows size [] h s = tt
all_rows size (row ∷ rows) h s = ((h.0, s.0), all_rows size rows h.1 s.1)

row_back : (size : ℕ) (row : SpanRow) → IsRow size row → row_of size (row_value row) ≡ Ok row
unfolding row_of row_value
row_back size row h = rw (doing_back size row h.0.0 h.1.0, checking_back size row h.0.1 h.1.1) refl

rows_back : (size : ℕ) (rows : List SpanRow) → AllByRecursion (IsRow size) rows → rows_of size (array (items_of (map row_value rows))) ≡ Ok rows
unfolding rows_of
rows_back size rows h = each_back row_value (row_of size) (IsRow size) (row_back size) rows h

abbrev rows_value : List SpanRow → Data
rows_value rows = array (items_of (map row_value rows))

spans_found : (spans : Option (List SpanRow)) (updated : Data)
    → get_member (key fields.Spans) (with_spans spans (member (key fields.UpdatedAt) updated no_members)) ≡ option_map rows_value spans
spans_found None updated = refl
spans_found (Some rows) updated = refl

spans_back : (p : Artifact) → IsStorable p → HasTypes p → spans_at (length p.source) (program_value p) ≡ Ok p.spans
unfolding spans_at program_value
spans_back p h t = rw (spans_found p.spans (string p.updated)) (by_spans p.spans h.placed t.places)
  where
    by_spans : (spans : Option (List SpanRow)) → IfSome spans (HasRows p) → IfSome spans (AllByRecursion IsSmallRow)
        → if_there (rows_of (length p.source)) (option_map rows_value spans) ≡ Ok spans
    by_spans None placed places = refl
    by_spans (Some rows) placed places = rw (rows_back (length p.source) rows (all_rows (length p.source) rows placed.inside places)) refl

-- ---- the other fields

name_back : (p : Artifact) → text_at fields.ContractName (program_value p) ≡ Ok p.name
unfolding text_at needed program_value
name_back p = refl

source_back : (p : Artifact) → text_at fields.Source (program_value p) ≡ Ok p.source
unfolding text_at needed program_value
source_back p = refl

compiler_back : (p : Artifact) → object_at fields.Compiler (program_value p) ≡ Ok compiler_value
unfolding object_at needed program_value compiler_value
compiler_back p = refl

compiler_texts : compiler_check compiler_value ≡ Ok tt
unfolding compiler_check text_at needed compiler_value
compiler_texts = refl

updated_found : (spans : Option (List SpanRow)) (updated : Data)
    → get_member (key fields.UpdatedAt) (with_spans spans (member (key fields.UpdatedAt) updated no_members)) ≡ Some updated
updated_found None updated = refl
updated_found (Some rows) updated = refl

updated_back : (p : Artifact) → text_at fields.UpdatedAt (program_value p) ≡ Ok p.updated
unfolding text_at needed program_value
updated_back p = rw (updated_found p.spans (string p.updated)) refl

code_back : (p : Artifact) → IsStorable p → HasTypes p → code_at (program_value p) ≡ Ok p.code
unfolding code_at text_at needed program_value
code_back p h t = rw (text_read p.code (spelled_parts p h).opcodes t.pushes, le-leb _ _ h.short) refl

params_are : (p : Artifact) → needed fields.ConstructorInputs (program_value p) ≡ Ok (inputs_value p.ctor)
unfolding needed program_value
params_are p = refl

functions_are : (p : Artifact) → needed fields.Abi (program_value p) ≡ Ok (array (items_of (map call_value p.abi)))
unfolding needed program_value
functions_are p = refl

params_back : (p : Artifact) → IsStorable p → objects_at 0 16 fields.ConstructorInputs (program_value p) ≡ Ok (items_of (map input_value p.ctor))
params_back p h =
    let some : 0 ≤ length p.ctor = omega arith in
    objects_back 0 16 fields.ConstructorInputs (program_value p) input_value p.ctor input_object (params_are p) some h.few_params

functions_back : (p : Artifact) → IsStorable p → objects_at 1 64 fields.Abi (program_value p) ≡ Ok (items_of (map call_value p.abi))
functions_back p h = objects_back 1 64 fields.Abi (program_value p) call_value p.abi call_object (functions_are p) h.some_function h.few_functions

count_back : (p : Artifact) → IsStorable p → count_check p.code p.spans ≡ Ok tt
count_back p h = by_spans p.spans h.placed
  where
    by_spans : (spans : Option (List SpanRow)) → IfSome spans (HasRows p) → count_check p.code spans ≡ Ok tt
    by_spans None placed = refl
    by_spans (Some rows) placed = rw (eq-eqb _ _ placed.each) refl

-- ---- the whole

pub program_back : (p : Artifact) → IsStorable p → HasTypes p → program_of (program_value p) ≡ Ok p
unfolding program_of
program_back p h t =
    rw (
      name_back p,
      params_back p h,
      functions_back p h,
      code_back p h t,
      source_back p,
      compiler_back p,
      updated_back p,
      spans_back p h t,
      each_back input_value input_of IsTyped input_back p.ctor (all_typed p.ctor (spelled_parts p h).ctor_types),
      each_back call_value call_of IsCall call_back p.abi (all_calls p.abi (spelled_parts p h).abi_types h.few_inputs),
      compiler_texts,
      count_back p h,
    ) refl
