-- What is read of a file can be stored.
use Rattle.std.proofs.Common.{◌≡◌, ℕ, suc, ◌≤◌, Bool, true, false, not, ◌&&◌, ◌==◌, cond, List, [], ◌∷◌, length, Option, Some, None, Result, Ok, Err, IfOk, IfSome, refl, sym, ap, arith}
use Rattle.std.specs.Prelude.{nat_le, nat_lt, ok_or}
use Rattle.std.specs.List.{AllByRecursion}
use Rattle.std.proofs.lemmas.Bool.{and_parts, and_from, leb-true, eqb-true, false≢true}
use Rattle.std.proofs.lemmas.Bool.Decides.{nat_tests}
use Rattle.cash_base.specs.Failing.{◌>>=◌, ◌>>◌, refused_if}
use Rattle.cash_base.specs.Source.{IsInside}
use Rattle.cash_base.specs.declared.place.Span.{Span}
use Rattle.cash_symbols.specs.Words.{type_of}
use Rattle.cash_tree.specs.declared.Ty.{Ty}
use Rattle.serde_json.specs.Data.{Data, Items, no_items, item}
use Rattle.serde_json.specs.Events.{items_len}
use Rattle.serde_json.specs.Find.{get, as_array}
use Rattle.json_fields.specs.Fields.{objects_of, each, if_there}
use Rattle.json_fields.specs.Document.{object_in}
use Rattle.script_codec.specs.declared.instr.Instr.{Instr}
use Rattle.script_codec.specs.Spelling.{spellings}
use Rattle.script_codec.specs.Names.{are_named}
use Rattle.asm_text.specs.declared.fault.AsmFault.{AsmFault}
use Rattle.asm_text.specs.Assembly.{assembly_code}
use Rattle.span_map.specs.declared.SpanRow.{SpanRow}
use Rattle.artifact_json.specs.declared.fault.Field.{Field}
use Rattle.artifact_json.specs.declared.fault.Field.TheVariants as fields
use Rattle.artifact_json.specs.declared.fault.ArtifactFault.{ArtifactFault}
use Rattle.artifact_json.specs.declared.fault.ArtifactFault.TheVariants as faults
use Rattle.artifact_json.specs.Types.{is_named_type}
use Rattle.artifact_json.specs.Artifact.{AbiParam, AbiCall, Artifact, have_named_types, take_named_types, is_spelled, IsRowInside, HasRows, IsStorable}
use Rattle.artifact_json.specs.Fields.{key, text_at, object_at, objects_at, needed}
use Rattle.artifact_json.specs.Reading.{capped, if_code, if_short, code_at, no_spans, number_at, is_inside, span_at, row_of, rows_of, spans_at, input_of, call_of, compiler_check, count_check, program_of, artifact_reading}
use Rattle.artifact_json.proofs.Named.{then_ok, code_named}
use Rattle.artifact_json.proofs.Spellings.{type_named}

-- ---- steps in turn

-- a step that says nothing of what it gives
after : {A B E : Type 0} (r : Result A E) (f : A → Result B E) (Q : B → Type 0) → ((x : A) → IfOk (f x) Q) → IfOk (r >>= f) Q
after (Ok x) f Q next = next x
after (Err e) f Q next = tt

-- a test that has passed
passed : {B E : Type 0} (test : Result (Unit {0}) E) (next : Result B E) (Q : B → Type 0) → (test ≡ Ok tt → IfOk next Q) → IfOk (test >> next) Q
passed (Ok tt) next Q h = h refl
passed (Err e) next Q h = tt

-- a refusal that didn't come
unrefused : {B E : Type 0} (t : Bool) (fault : E) (next : Result B E) (Q : B → Type 0) → (t ≡ false → IfOk next Q) → IfOk (refused_if t fault >> next) Q
unrefused true fault next Q h = tt
unrefused false fault next Q h = h refl

found : {A E : Type 0} (o : Option A) (fault : E) (P : A → Type 0) → IfSome o P → IfOk (ok_or o fault) P
found None fault P h = tt
found (Some x) fault P h = h

-- what holds of each item
pub each_all : {B E : Type 0} (read : Data → Result B E) (P : B → Type 0) → ((d : Data) → IfOk (read d) P) → (items : Items)
    → IfOk (each read items) (λ xs. AllByRecursion P xs × (length xs ≡ items_len items))
each_all read P h no_items = (tt, refl)
each_all read P h (item d ds) =
    then_ok (read d) (λ x. each read ds >>= λ xs. Ok (x ∷ xs)) P (λ xs. AllByRecursion P xs × (length xs ≡ items_len (item d ds))) (h d)
    (λ x first. then_ok (each read ds) (λ xs. Ok (x ∷ xs)) (λ xs. AllByRecursion P xs × (length xs ≡ items_len ds)) (λ xs. AllByRecursion P xs × (length xs ≡ items_len (item d ds)))
    (each_all read P h ds) (λ xs others. ((first, others.0), ap suc others.1)))

-- ---- lists

pub record AreWithin (least most : ℕ) (items : Items) : Type 0 where
  pub some : least ≤ items_len items
  pub few : items_len items ≤ most

pub objects_within : (least most : ℕ) (field : Field) (d : Data) → IfOk (objects_at least most field d) (AreWithin least most)
unfolding objects_at
objects_within least most field d =
    after (needed field d) _ (AreWithin least most)
    (λ value. after (ok_or (objects_of value) (faults.WrongKind field)) _ (AreWithin least most)
    (λ items. unrefused (nat_lt (items_len items) least) _ _ (AreWithin least most)
    (λ some. unrefused (nat_lt most (items_len items)) _ (Ok items) (AreWithin least most)
    (λ few. record { some = grind (arith, nat_tests, some); few = grind (arith, nat_tests, few) }))))

-- ---- parameters and functions

abbrev IsTyped : AbiParam → Type 0
IsTyped param = is_named_type param.ty ≡ true

input_typed : (d : Data) → IfOk (input_of d) IsTyped
unfolding input_of
input_typed d =
    after (text_at fields.Name d) _ IsTyped
    (λ name. after (text_at fields.TypeName d) _ IsTyped
    (λ spelled. then_ok (ok_or (type_of spelled) (faults.WrongKind fields.TypeName)) (λ ty. Ok (record { name = name; ty = ty })) (λ (t : Ty). is_named_type t ≡ true) IsTyped
    (found (type_of spelled) (faults.WrongKind fields.TypeName) (λ (t : Ty). is_named_type t ≡ true) (type_named spelled)) (λ ty h. h)))

all_typed : (params : List AbiParam) → AllByRecursion IsTyped params → have_named_types params ≡ true
all_typed [] h = refl
all_typed (param ∷ params) h = and_from (is_named_type param.ty) (have_named_types params) h.0 (all_typed params h.1)

-- parameters that are read of some items
pub record AreInputs (items : Items) (inputs : List AbiParam) : Type 0 where
  pub types : have_named_types inputs ≡ true
  pub count : length inputs ≡ items_len items

pub inputs_typed : (items : Items) → IfOk (each input_of items) (AreInputs items)
inputs_typed items = weaker (each input_of items) (each_all input_of IsTyped input_typed items)
  where
    weaker : (r : Result (List AbiParam) ArtifactFault) → IfOk r (λ xs. AllByRecursion IsTyped xs × (length xs ≡ items_len items)) → IfOk r (AreInputs items)
    weaker (Ok xs) h = record { types = all_typed xs h.0; count = h.1 }
    weaker (Err e) h = tt

record IsCall (call : AbiCall) : Type 0 where
  pub types : have_named_types call.inputs ≡ true
  pub few : length call.inputs ≤ 16

call_typed : (d : Data) → IfOk (call_of d) IsCall
unfolding call_of
call_typed d =
    after (text_at fields.Name d) _ IsCall
    (λ name. then_ok (objects_at 0 16 fields.Inputs d) (λ items. each input_of items >>= λ inputs. Ok (record { name = name; inputs = inputs })) (AreWithin 0 16) IsCall
    (objects_within 0 16 fields.Inputs d)
    (λ items within. then_ok (each input_of items) (λ inputs. Ok (record { name = name; inputs = inputs })) (AreInputs items) IsCall
    (inputs_typed items) (λ inputs h. record { types = h.types; few = omega (arith, h.count, within.few) })))

calls_types : (calls : List AbiCall) → AllByRecursion IsCall calls → take_named_types calls ≡ true
calls_types [] h = refl
calls_types (call ∷ calls) h = and_from (have_named_types call.inputs) (take_named_types calls) h.0.types (calls_types calls h.1)

calls_few : (calls : List AbiCall) → AllByRecursion IsCall calls → AllByRecursion (λ call. length call.inputs ≤ 16) calls
calls_few [] h = tt
calls_few (call ∷ calls) h = (h.0.few, calls_few calls h.1)

-- functions that are read of some items
pub record AreCalls (items : Items) (calls : List AbiCall) : Type 0 where
  pub types : take_named_types calls ≡ true
  pub few : AllByRecursion (λ call. length call.inputs ≤ 16) calls
  pub count : length calls ≡ items_len items

pub calls_typed : (items : Items) → IfOk (each call_of items) (AreCalls items)
calls_typed items = weaker (each call_of items) (each_all call_of IsCall call_typed items)
  where
    weaker : (r : Result (List AbiCall) ArtifactFault) → IfOk r (λ xs. AllByRecursion IsCall xs × (length xs ≡ items_len items)) → IfOk r (AreCalls items)
    weaker (Ok xs) h = record { types = calls_types xs h.0; few = calls_few xs h.0; count = h.1 }
    weaker (Err e) h = tt

-- ---- code

pub record IsCode (code : List Instr) : Type 0 where
  pub named : are_named code ≡ true
  pub short : length (spellings code) ≤ 520

words_read : (read : Result (List Instr) AsmFault) → IfOk read (λ code. are_named code ≡ true) → IfOk (if_code read) (λ code. are_named code ≡ true)
words_read (Ok code) h = h
words_read (Err fault) h = tt

short_read : (code : List Instr) → are_named code ≡ true → IfOk (if_short code) IsCode
short_read code named = by_test (nat_le (length (spellings code)) 520) refl
  where
    by_test : (t : Bool) → nat_le (length (spellings code)) 520 ≡ t
        → IfOk (cond t (Ok code) (Err (faults.TooLong (capped (length (spellings code)))))) IsCode
    by_test true is = record { named = named; short = leb-true _ _ is }
    by_test false is = tt

pub code_read : (d : Data) → IfOk (code_at d) IsCode
unfolding code_at
code_read d =
    after (text_at fields.Bytecode d) _ IsCode
    (λ text. then_ok (if_code (assembly_code text)) if_short (λ code. are_named code ≡ true) IsCode
    (words_read (assembly_code text) (code_named text)) short_read)

-- ---- rows

not_false : (t : Bool) → not t ≡ false → t ≡ true
not_false true h = refl
not_false false h = absurd (false≢true (sym h))

inside : (size : ℕ) (span : Span) → is_inside size span ≡ true → IsInside size span
inside size span h =
    let parts = and_parts (nat_le span.from span.to) (nat_le span.to size) h in
    record { ordered = leb-true span.from span.to parts.0; ends = leb-true span.to size parts.1 }

span_inside : (size place next : ℕ) (d : Data) → IfOk (span_at size place next d) (IsInside size)
unfolding span_at
span_inside size place next d =
    after (number_at place d) _ (IsInside size)
    (λ from. after (number_at next d) _ (IsInside size)
    (λ to. unrefused (not (is_inside size (record { from = from; to = to }))) _ (Ok (record { from = from; to = to })) (IsInside size)
    (λ h. inside size (record { from = from; to = to }) (not_false _ h))))

row_inside : (size : ℕ) (d : Data) → IfOk (row_of size d) (IsRowInside size)
unfolding row_of
row_inside size d =
    after (ok_or (as_array d) no_spans) _ (IsRowInside size)
    (λ items. unrefused (not (items_len items == 4)) _ _ (IsRowInside size)
    (λ four. then_ok (span_at size 0 1 d) (λ doing. span_at size 2 3 d >>= λ checking. Ok (record { doing = doing; checking = checking })) (IsInside size) (IsRowInside size)
    (span_inside size 0 1 d)
    (λ doing first. then_ok (span_at size 2 3 d) (λ checking. Ok (record { doing = doing; checking = checking })) (IsInside size) (IsRowInside size)
    (span_inside size 2 3 d) (λ checking second. (first, second)))))

abbrev AreInside : ℕ → List SpanRow → Type 0
AreInside size rows = AllByRecursion (IsRowInside size) rows

rows_inside : (size : ℕ) (d : Data) → IfOk (rows_of size d) (AreInside size)
unfolding rows_of
rows_inside size d =
    after (ok_or (as_array d) no_spans) _ (AreInside size)
    (λ items. weaker items (each (row_of size) items) (each_all (row_of size) (IsRowInside size) (row_inside size) items))
  where
    weaker : (items : Items) (r : Result (List SpanRow) ArtifactFault) → IfOk r (λ xs. AreInside size xs × (length xs ≡ items_len items)) → IfOk r (AreInside size)
    weaker items (Ok xs) h = h.0
    weaker items (Err e) h = tt

abbrev AreSpans : ℕ → Option (List SpanRow) → Type 0
AreSpans size spans = IfSome spans (AreInside size)

spans_inside : (size : ℕ) (d : Data) → IfOk (spans_at size d) (AreSpans size)
unfolding spans_at
spans_inside size d = by_field (get (key fields.Spans) d)
  where
    by_field : (o : Option Data) → IfOk (if_there (rows_of size) o) (AreSpans size)
    by_field None = tt
    by_field (Some value) =
        then_ok (rows_of size value) (λ rows. Ok (Some rows)) (AreInside size) (AreSpans size) (rows_inside size value) (λ rows h. h)

-- ---- the whole

pub all_spelled : (code : List Instr) (ctor : List AbiParam) (abi : List AbiCall) → are_named code ≡ true → have_named_types ctor ≡ true
    → take_named_types abi ≡ true → is_spelled code ctor abi ≡ true
all_spelled code ctor abi named ctor_types abi_types =
    and_from (are_named code) (have_named_types ctor && take_named_types abi) named
    (and_from (have_named_types ctor) (take_named_types abi) ctor_types abi_types)

abbrev all_counted : Result (Unit {0}) ArtifactFault
all_counted = Ok tt

rows_counted : (code : List Instr) (spans : Option (List SpanRow)) → count_check code spans ≡ Ok tt → IfSome spans (λ rows. length rows ≡ length code)
rows_counted code None h = tt
rows_counted code (Some rows) h = by_test (length rows == length code) refl h
  where
    by_test : (t : Bool) → (length rows == length code) ≡ t
        → cond t all_counted (Err (faults.SpanCount (capped (length rows)) (capped (length code)))) ≡ all_counted → length rows ≡ length code
    by_test true same is = eqb-true _ _ same
    by_test false other is = absurd cc

placed : (program : Artifact) (spans : Option (List SpanRow)) → IfSome spans (λ rows. length rows ≡ length program.code)
    → AreSpans (length program.source) spans → IfSome spans (HasRows program)
placed program None count within = tt
placed program (Some rows) count within = record { each = count; inside = within }

pub program_storable : (d : Data) → IfOk (program_of d) IsStorable
unfolding program_of
program_storable d =
    after (text_at fields.ContractName d) _ IsStorable
    (λ name. then_ok (objects_at 0 16 fields.ConstructorInputs d) _ (AreWithin 0 16) IsStorable (objects_within 0 16 fields.ConstructorInputs d)
    (λ params few_params. then_ok (objects_at 1 64 fields.Abi d) _ (AreWithin 1 64) IsStorable (objects_within 1 64 fields.Abi d)
    (λ functions few_functions. then_ok (code_at d) _ IsCode IsStorable (code_read d)
    (λ code is_code. after (text_at fields.Source d) _ IsStorable
    (λ source. after (object_at fields.Compiler d) _ IsStorable
    (λ compiler. after (text_at fields.UpdatedAt d) _ IsStorable
    (λ updated. then_ok (spans_at (length source) d) _ (AreSpans (length source)) IsStorable (spans_inside (length source) d)
    (λ spans within. then_ok (each input_of params) _ (AreInputs params) IsStorable (inputs_typed params)
    (λ ctor are_inputs. then_ok (each call_of functions) _ (AreCalls functions) IsStorable (calls_typed functions)
    (λ abi are_calls. passed (compiler_check compiler) _ IsStorable
    (λ texts. passed (count_check code spans) _ IsStorable
    (λ counted.
    let program : Artifact = record { code = code; spans = spans; ctor = ctor; abi = abi; name = name; source = source; updated = updated } in
    record {
      few_params = omega (arith, are_inputs.count, few_params.few);
      some_function = omega (arith, are_calls.count, few_functions.some);
      few_functions = omega (arith, are_calls.count, few_functions.few);
      few_inputs = are_calls.few;
      spelled = all_spelled code ctor abi is_code.named are_inputs.types are_calls.types;
      short = is_code.short;
      placed = placed program spans (rows_counted code spans counted) within;
    }))))))))))))

pub reading_storable : (bytes : List ℕ) → IfOk (artifact_reading bytes) IsStorable
unfolding artifact_reading
reading_storable bytes = after (ok_or (object_in bytes) faults.NotJson) program_of IsStorable program_storable
