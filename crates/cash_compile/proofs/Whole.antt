-- The code of a contract, from the code of its functions; and the program of such code.
use Rattle.std.proofs.Common.{◌≡◌, ℕ, ◌+◌, ◌≤◌, ◌<◌, Bool, true, false, not, IsTrue, List, [], ◌∷◌, length, map, zero, suc, Option, Some, refl, sym, ap, ◌∙◌, subst, arith}
use Rattle.std.specs.Prelude.{slice_get, IfSome}
use Rattle.std.specs.List.{AllZip, AllByRecursion, list_all}
use Rattle.std.proofs.lemmas.Bool.{and_parts, and_from}
use Rattle.std.proofs.lemmas.List.{length-map}
use Rattle.std.proofs.lemmas.Option.{same_Some, none-some}
use Rattle.cash_base.specs.declared.place.Slot.{Slot}
use Rattle.cash_base.specs.declared.place.Span.{Span}
use Rattle.cash_base.specs.Source.{text_at}
use Rattle.cash_tree.specs.declared.Ty.{Ty}
use Rattle.cash_tree.specs.declared.Contract.{Contract}
use Rattle.cash_tree.specs.declared.Function.{Function}
use Rattle.cash_tree.specs.Spans.{nothing as no_name, tree_spans}
use Rattle.script_codec.specs.declared.instr.Instr.{Instr}
use Rattle.script_codec.specs.declared.spans.Spanned.{Spanned}
use Rattle.script_codec.specs.declared.spans.Marked.{Marked}
use Rattle.script_codec.specs.Names.{are_named}
use Rattle.script_codec.specs.Spelling.{are_instructions, is_instruction}
use Rattle.bch_vm.specs.Law.{are_keys_known}
use Rattle.script_codec.specs.declared.instr.Instr.TheVariants.{Push, Do}
use Rattle.opcode_table.specs.declared.rows.Row.{Row}
use Rattle.opcode_table.specs.declared.rows.Row.TheVariants.{Separates}
use Rattle.opcode_table.specs.Table.{row_of}
use Rattle.row_runs.specs.Rows.{instructions}
use Rattle.row_runs.specs.Code.{row_is_simple, is_simple}
use Rattle.selector.specs.Place.{row_separates, separates, is_unseparated}
use Rattle.selector.specs.Selection.{IsAlone, Selects, AreNested, AreUnseparated}
use Rattle.slot_code.specs.declared.slots.SlotFunction.{SlotFunction}
use Rattle.slot_code.specs.Shape.{first_slots}
use Rattle.slot_lowering.specs.Functions.{HasCounts, RunsAs, IsWeighed, KeepsSpans}
use Rattle.stack_emitter.specs.Codes.{is_sound, are_sound}
use Rattle.stack_schedule.specs.Schedule.{HasForm}
use Rattle.stack_schedule.specs.Spans.{have_places}
use Rattle.span_map.specs.declared.SpanRow.{SpanRow}
use Rattle.artifact_json.specs.Artifact.{Artifact, HasFewInputs, HasRows, IsRowInside, is_spelled, AbiCall}
use Rattle.typed_sources.specs.Fits.{Fits}
use Rattle.cash_compile.specs.Describes.{described_param, described_function, lossy_at, DescribesBy, Describes}
use Rattle.tidied_code.specs.Ends.{places}
use Rattle.cash_compile.specs.Correct.{SpendsAgree}
use Rattle.cash_compile.specs.Runs.{DecidesByRun}
use Rattle.cash_compile.specs.Compile.{IsAccepted}
use Rattle.cash_compile.specs.Compile.{code_size, code_count, most_bytes, most_opcodes, IsWithin, FitsRoom, IsCompiled, IsTooLong, HasTooMany, IsUncompiled}
use Rattle.cash_compile.specs.declared.refusal.Refusal.{Refusal}
use Rattle.cash_compile.specs.declared.refusal.Refusal.TheVariants.{CodeTooLong, TooManyOps}
use Rattle.cash_compile.specs.Code.{FunctionAgrees, IsScheduled, AreScheduled, IsCode, IsOver}
use Rattle.cash_compile.proofs.Spends as spends
use Rattle.cash_compile.proofs.Spends.{IsGood}
use Rattle.cash_compile.proofs.Described.{few_inputs}
use Rattle.cash_compile.proofs.Placed.{HoldsOf, IsPlaced, its_own, of_functions, pieces_placed}
use Rattle.cash_compile.proofs.Priced.{IsLight, ChoicesCountFew, one_fits, several_fit}
use Rattle.cash_compile.proofs.Alike as alike
use Rattle.cash_compile.proofs.Chosen as choices
use Rattle.cash_compile.proofs.Chosen.{AreAgreeing, one_agrees, chosen_agrees}

-- ---- the code of a function

sound_spelled : (rows : List Spanned) → are_sound rows ≡ true → are_instructions (instructions rows) ≡ true
sound_spelled [] sound = refl
sound_spelled (r ∷ rows) sound =
    let parts = and_parts (is_sound r.instr) (are_sound rows) sound in
    and_from (is_instruction r.instr) _ (and_parts _ _ parts.0).0 (sound_spelled rows parts.1)

-- what is known of a function of a contract and of its code
pub record IsCodeOf (contract : Contract Slot Ty) (f : Function Slot Ty) (code : Marked) : Type 0 where
  pub agrees : FunctionAgrees contract f code.code.items
  pub spelled : IsTrue (are_instructions (instructions code.code.items))
  pub keys : IsTrue (are_keys_known false (instructions code.code.items))
  pub form : HasForm code.code.items
  pub named : IsTrue (are_named (instructions code.code.items))
  pub placed : (holds : Span → Bool) → HoldsOf holds f → IsPlaced holds code
  pub light : IsLight contract f code

is_code_of : alike.Law → (contract : Contract Slot Ty) (f : Function Slot Ty) (g : SlotFunction) (code : Marked) → HasCounts contract f g → RunsAs contract f g
    → IsWeighed contract f g → KeepsSpans f g → IsScheduled g code → IsCodeOf contract f code
is_code_of law contract f g code counts runs_as weighed keeps h = record {
  agrees = alike.function_agrees law contract f g (first_slots (g.ctors + g.params)) code.code.items refl counts runs_as h.decides h.own h.form;
  spelled = sound_spelled code.code.items h.form.sound;
  keys = h.keys;
  form = h.form;
  named = h.named;
  placed = λ holds is. h.spans holds (keeps.all holds is);
  light = (let bytes = h.within.bytes in
      let ops = h.within.ops in
      let most_bytes = weighed.bytes in
      let most_ops = weighed.ops in
      record { bytes = omega (arith, bytes, most_bytes); opcodes = omega (arith, ops, most_ops) });
}

-- ---- the functions of a contract

-- what lowering says of a contract's functions
pub record AreLowered (contract : Contract Slot Ty) (fs : List (Function Slot Ty)) (gs : List SlotFunction) : Type 0 where
  pub counts : AllZip (HasCounts contract) fs gs
  pub runs : AllZip (RunsAs contract) fs gs
  pub weights : AllZip (IsWeighed contract) fs gs
  pub spans : AllZip KeepsSpans fs gs

all_codes : alike.Law → (contract : Contract Slot Ty) (fs : List (Function Slot Ty)) (gs : List SlotFunction) (codes : List Marked) → AreLowered contract fs gs
    → AllZip IsScheduled gs codes → AllZip (IsCodeOf contract) fs codes
all_codes law contract [] [] [] h e = tt
all_codes law contract [] [] (m ∷ codes) h e = absurd e
all_codes law contract [] (g ∷ gs) codes h e = absurd h.counts
all_codes law contract (f ∷ fs) [] codes h e = absurd h.counts
all_codes law contract (f ∷ fs) (g ∷ gs) [] h e = absurd e
all_codes law contract (f ∷ fs) (g ∷ gs) (m ∷ codes) h e = (
  is_code_of law contract f g m h.counts.0 h.runs.0 h.weights.0 h.spans.0 e.0,
  all_codes law contract fs gs codes (record { counts = h.counts.1; runs = h.runs.1; weights = h.weights.1; spans = h.spans.1 }) e.1,
)

-- ---- a contract with one function

one_code : (contract : Contract Slot Ty) (f : Function Slot Ty) (function code : Marked) → contract.functions ≡ f ∷ [] → IsCodeOf contract f function → IsAlone function code → IsCode contract code.code.items
one_code contract f function code only h alone =
    let all : AreAgreeing contract (function ∷ []) = subst (λ fs. AllZip (λ k (m : Marked). FunctionAgrees contract k m.code.items) fs (function ∷ [])) (sym only) (h.agrees, tt) in
    let whole : IsCode contract function.code.items = record {
      agrees = one_agrees contract (function ∷ []) function function all refl (record { rows = refl; marks = refl });
      spelled = h.spelled;
      keys = h.keys;
      named = h.named;
      spans = λ holds is. h.placed holds (subst (AllByRecursion (HoldsOf holds)) only (of_functions holds contract is)).0;
      fits = one_fits contract f function only h.light;
    } in
    subst (λ (rows : List Spanned). IsCode contract rows) (sym alone.rows) whole

-- ---- a contract with several functions

abbrev pub AreCodes : Contract Slot Ty → List Marked → Type 0
AreCodes contract functions = AllZip (IsCodeOf contract) contract.functions functions

each : {A : Type 0} {R Q : A → Marked → Type 0} (xs : List A) (ms : List Marked) → ((x : A) (m : Marked) → R x m → Q x m) → AllZip R xs ms → AllZip Q xs ms
each [] [] to h = tt
each [] (m ∷ ms) to h = absurd h
each (x ∷ xs) [] to h = absurd h
each (x ∷ xs) (m ∷ ms) to h = (to x m h.0, each xs ms to h.1)

of_all : {A : Type 0} {R : A → Marked → Type 0} {P : Marked → Type 0} (xs : List A) (ms : List Marked) → ((x : A) (m : Marked) → R x m → P m) → AllZip R xs ms → AllByRecursion P ms
of_all [] [] to h = tt
of_all [] (m ∷ ms) to h = absurd h
of_all (x ∷ xs) [] to h = absurd h
of_all (x ∷ xs) (m ∷ ms) to h = (to x m h.0, of_all xs ms to h.1)

of_both : {A : Type 0} {R : A → Marked → Type 0} {Q : A → Type 0} {P : Marked → Type 0} (xs : List A) (ms : List Marked) → ((x : A) (m : Marked) → R x m → Q x → P m)
    → AllZip R xs ms → AllByRecursion Q xs → AllByRecursion P ms
of_both [] [] to h k = tt
of_both [] (m ∷ ms) to h k = absurd h
of_both (x ∷ xs) [] to h k = absurd h
of_both (x ∷ xs) (m ∷ ms) to h k = (to x m h.0 k.0, of_both xs ms to h.1 k.1)

several_placed : (contract : Contract Slot Ty) (functions : List Marked) (ctors : ℕ) (code : Marked) → AreCodes contract functions → Selects functions ctors contract.span code
    → (holds : Span → Bool) → list_all holds (tree_spans no_name contract) ≡ true → have_places holds code.code.items ≡ true
several_placed contract functions ctors code all h holds is =
    let placed : AllByRecursion (IsPlaced holds) functions =
    of_both contract.functions functions (λ f m k own. k.placed holds own) all (of_functions holds contract is) in
    subst (λ (rows : List Spanned). have_places holds rows ≡ true) (sym h.rows)
    (pieces_placed holds contract.span h.pieces (its_own holds contract is) h.own (subst (AllByRecursion (IsPlaced holds)) (sym h.in_order) placed))

several_code : choices.Written → ChoicesCountFew → (contract : Contract Slot Ty) (functions : List Marked) (ctors : ℕ) (code : Marked) → AreCodes contract functions
    → ctors ≡ length contract.params → 2 ≤ length functions → length functions ≤ 64 → Selects functions ctors contract.span code → IsCode contract code.code.items
several_code written counted contract functions ctors code all ctors_is several few h =
    let agreeing : AreAgreeing contract functions = each contract.functions functions (λ f m is. is.agrees) all in
    let light : AllZip (IsLight contract) contract.functions functions = each contract.functions functions (λ f m is. is.light) all in
    let spelled = of_all contract.functions functions (λ f m is. is.spelled) all in
    let keys = of_all contract.functions functions (λ f m is. is.keys) all in
    record {
      agrees = chosen_agrees written contract functions ctors code agreeing ctors_is several few h;
      spelled = h.spelled spelled;
      keys = h.keys keys;
      named = h.named (of_all contract.functions functions (λ f m is. is.named) all);
      spans = several_placed contract functions ctors code all h;
      fits = several_fit counted contract functions ctors code light (choices.same_length (IsCodeOf contract) contract.functions functions all) several spelled keys h;
    }

-- ---- any number of functions

pub planned : alike.Law → (contract : Contract Slot Ty) (gs now : List SlotFunction) (codes : List Marked) → now ≡ gs → AreLowered contract contract.functions gs
    → AreScheduled now codes → AreCodes contract codes
planned law contract gs now codes is lowered h =
    all_codes law contract contract.functions gs codes lowered (subst (λ l. AllZip IsScheduled l codes) is h.all)

pub as_many : (contract : Contract Slot Ty) (codes : List Marked) → AreCodes contract codes → length contract.functions ≡ length codes
as_many contract codes all = choices.same_length (IsCodeOf contract) contract.functions codes all

simple_plain : (row : Row) → row_is_simple row ≡ true → not (row_separates row) ≡ true
simple_plain Separates is = absurd cc
simple_plain _ is = refl

plain_instr : (instr : Instr) → is_simple instr ≡ true → not (separates instr) ≡ true
plain_instr (Push e) is = refl
plain_instr (Do opcode) is = simple_plain (row_of opcode.0) is

sound_plain : (rows : List Spanned) → are_sound rows ≡ true → is_unseparated (instructions rows) ≡ true
sound_plain [] sound = refl
sound_plain (r ∷ rows) sound =
    let parts = and_parts (is_sound r.instr) (are_sound rows) sound in
    and_from _ _ (plain_instr r.instr (and_parts _ _ (and_parts _ _ parts.0).1).0) (sound_plain rows parts.1)

pub all_nested : (contract : Contract Slot Ty) (codes : List Marked) → AreCodes contract codes → AreNested codes
all_nested contract codes all = of_all contract.functions codes (λ f m is. is.form.nested) all

pub all_plain : (contract : Contract Slot Ty) (codes : List Marked) → AreCodes contract codes → AreUnseparated codes
all_plain contract codes all = of_all contract.functions codes (λ f m is. sound_plain m.code.items is.form.sound) all

record Only {A : Type 0} (R : A → Marked → Type 0) (xs : List A) (m : Marked) : Type 0 where
  x : A
  is : xs ≡ x ∷ []
  holds : R x m

only : {A : Type 0} (R : A → Marked → Type 0) (xs : List A) (m : Marked) → AllZip R xs (m ∷ []) → Only R xs m
only R [] m h = absurd h
only R (x ∷ []) m h = record { x = x; is = refl; holds = h.0 }
only R (x ∷ y ∷ xs) m h = absurd h.1

pub whole_code : choices.Written → ChoicesCountFew → (contract : Contract Slot Ty) (codes : List Marked) (ctors : ℕ) (code : Marked) → AreCodes contract codes
    → ctors ≡ length contract.params → 1 ≤ length codes → length codes ≤ 64
    → ((function : Marked) → codes ≡ function ∷ [] → IsAlone function code) → (2 ≤ length codes → Selects codes ctors contract.span code) → IsCode contract code.code.items
whole_code written counted contract [] ctors code all is some few one several = absurd (omega (arith, some))
whole_code written counted contract (m ∷ []) ctors code all is some few one several =
    let h = only (IsCodeOf contract) contract.functions m all in
    one_code contract h.x m code h.is h.holds (one m refl)
whole_code written counted contract (m ∷ n ∷ codes) ctors code all is some few one several =
    let two : 2 ≤ length (m ∷ n ∷ codes) = omega arith in
    several_code written counted contract (m ∷ n ∷ codes) ctors code all is two few (several two)

-- ---- programs

-- what is known of each contract of an accepted source
pub record IsModest (contract : Contract Slot Ty) (program : Artifact) : Type 0 where
  pub few_params : length contract.params ≤ 16
  pub some_function : 1 ≤ length contract.functions
  pub few_functions : length contract.functions ≤ 64
  pub few_inputs : HasFewInputs program
  pub each : (chosen : ℕ) (function : Function Slot Ty) → slice_get contract.functions chosen ≡ Some function → length function.params ≤ 16
  pub spelled : IsTrue (is_spelled program.code program.ctor program.abi)

at_found : {A : Type 0} (P : A → Type 0) (xs : List A) (k : ℕ) (x : A) → AllByRecursion P xs → slice_get xs k ≡ Some x → P x
at_found P [] k x all found = absurd (none-some x found)
at_found P (y ∷ xs) zero x all found = subst P (same_Some y x found) all.0
at_found P (y ∷ xs) (suc k) x all found = at_found P xs k x all.1 found

pub modest_is : (source : List ℕ) (contract : Contract Slot Ty) (rows : List Spanned) (program : Artifact) (spans : List SpanRow) → IsTrue (are_named (instructions rows)) → Fits source contract
    → program.code ≡ instructions rows → DescribesBy (lossy_at source) source contract program spans → IsModest contract program
modest_is source contract rows program spans named fits code_is told = record {
  few_params = fits.few_params;
  some_function = fits.some_function;
  few_functions = fits.few_functions;
  few_inputs = subst (AllByRecursion (λ (f : AbiCall). length f.inputs ≤ 16)) (sym told.abi) (few_inputs (lossy_at source) contract.functions fits.few_inputs);
  each = λ chosen function found. at_found (λ (f : Function Slot Ty). length f.params ≤ 16) contract.functions chosen function fits.few_inputs found;
  spelled = subst (λ (c : List Instr). IsTrue (is_spelled c program.ctor program.abi)) (sym code_is)
      (subst (λ ctor. IsTrue (is_spelled (instructions rows) ctor program.abi)) (sym told.ctor)
      (subst (λ abi. IsTrue (is_spelled (instructions rows) (map (described_param (lossy_at source)) contract.params) abi)) (sym told.abi)
      (and_from _ _ named (fits.types (described_param (lossy_at source)) (described_function (lossy_at source)) (λ p. refl) (λ f. refl)))));
}

pub is_compiled : spends.Law → spends.Written → spends.PushesCountNothing → (source : List ℕ) (contract : Contract Slot Ty) (rows : List Spanned) (program : Artifact)
    → IsAccepted source contract → IsCode contract rows → IsModest contract program → program.code ≡ instructions rows
    → Describes source contract program (map places rows) → code_size (instructions rows) ≤ most_bytes → code_count (instructions rows) ≤ most_opcodes
    → IsCompiled source contract program
is_compiled law written uncounted source contract rows program accepted h modest code_is describes short few =
    let good : IsGood contract (instructions rows) = record { spelled = h.spelled; keys = h.keys; opcodes = few; few = modest.each } in
    let agrees = spends.spends_agree law written uncounted contract (instructions rows) (map places rows) good h.agrees in
    let whole = spends.decides_by_run contract (instructions rows) (map places rows) h.agrees in
    let params = ap length describes.ctor ∙ length-map contract.params (described_param (text_at source)) in
    let functions = ap length describes.abi ∙ length-map contract.functions (described_function (text_at source)) in
    let few_params = modest.few_params in
    let some = modest.some_function in
    let few_functions = modest.few_functions in
    record {
      accepted = accepted;
      correct = record {
        rows = map places rows;
        describes = describes;
        spelled = subst (λ (c : List Instr). IsTrue (are_instructions c)) (sym code_is) h.spelled;
        agrees = subst (λ (c : List Instr). SpendsAgree contract c (map places rows)) (sym code_is) agrees;
      };
      decides = subst (λ (c : List Instr). DecidesByRun contract c) (sym code_is) whole;
      within = subst (λ (c : List Instr). IsWithin c) (sym code_is) (record { bytes = short; opcodes = few });
      fits = subst (FitsRoom contract) (sym code_is) h.fits;
      storable = record {
        few_params = omega (arith, params, few_params);
        some_function = omega (arith, functions, some);
        few_functions = omega (arith, functions, few_functions);
        few_inputs = modest.few_inputs;
        spelled = modest.spelled;
        short = subst (λ (c : List Instr). code_size c ≤ 520) (sym code_is) short;
        placed = subst (λ (o : Option (List SpanRow)). IfSome o (HasRows program)) (sym describes.placed)
            (record { each = describes.each; inside = subst (λ (t : List ℕ). AllByRecursion (IsRowInside (length t)) (map places rows)) (sym describes.source) describes.inside });
      };
    }

pub is_too_long : (contract : Contract Slot Ty) (rows : List Spanned) (bytes : ℕ) → IsCode contract rows → bytes ≡ code_size (instructions rows) → most_bytes < bytes
    → IsTooLong contract (instructions rows) bytes
is_too_long contract rows bytes h is over = record {
  spelled = h.spelled;
  decides = spends.decides_by_run contract (instructions rows) (map places rows) h.agrees;
  number = is;
  over = over;
  most = (let most = h.fits.bytes in omega (arith, is, most));
}

pub has_too_many : (contract : Contract Slot Ty) (rows : List Spanned) (count : ℕ) → IsCode contract rows → code_size (instructions rows) ≤ most_bytes
    → count ≡ code_count (instructions rows) → most_opcodes < count → HasTooMany contract (instructions rows) count
has_too_many contract rows count h short is over = record {
  spelled = h.spelled;
  decides = spends.decides_by_run contract (instructions rows) (map places rows) h.agrees;
  bytes = short;
  number = is;
  over = over;
  most = (let most = h.fits.opcodes in omega (arith, is, most));
}

pub uncompiled : (source : List ℕ) (contract : Contract Slot Ty) (rows : List Spanned) (code : List Instr) (refusal : Refusal) → IsAccepted source contract → IsCode contract rows
    → code ≡ instructions rows → IsOver code refusal → IsUncompiled source refusal
uncompiled source contract rows code (CodeTooLong bytes carried) accepted h is (same, number, over) =
    (contract, accepted, subst (λ (c : List Instr). IsTooLong contract c bytes) (sym (same ∙ is)) (is_too_long contract rows bytes h (number ∙ ap code_size is) over))
uncompiled source contract rows code (TooManyOps count carried) accepted h is (same, short, number, over) = (
  contract,
  accepted,
  subst (λ (c : List Instr). HasTooMany contract c count) (sym (same ∙ is))
      (has_too_many contract rows count h (subst (λ (c : List Instr). code_size c ≤ most_bytes) is short) (number ∙ ap code_count is) over),
)
uncompiled source contract rows code _ accepted h is over = absurd over
