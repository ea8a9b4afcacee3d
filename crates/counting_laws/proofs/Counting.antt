-- What spelled code counts is told of its instructions, and adds up.
use Rattle.std.proofs.Common.{◌≡◌, ℕ, ◌+◌, Bool, true, false, not, ◌||◌, ltb, eqb, cond, List, [], ◌∷◌, ◌++◌, map, refl, sym, ap, ◌∙◌, arith}
use Rattle.std.proofs.lemmas.Bool.{and_parts, and_from, eqb-true, false≢true}
use Rattle.script_codec.specs.declared.instr.Instr.{Instr}
use Rattle.script_codec.specs.declared.instr.Instr.TheVariants.{Push, Do}
use Rattle.script_codec.specs.Spelling.{is_instruction, are_instructions}
use Rattle.script_codec.specs.Reading.{spelled, instruction, push}
use Rattle.script_codec.specs.Counting.{weight, takes_keys, keys_for, keys_pushed as raw_keys, key_count, number_pushed, counted_in}
use Rattle.opcode_table.specs.Stack.{Stack}
use Rattle.bch_vm.specs.Law.{asks_for_keys, pushes_key_count, are_keys_known}
use Rattle.spend_laws.proofs.Spelled.{Laws, pieces_of, code_read, push_opcode}
use Rattle.selector.specs.Pieces.{opcode_weight}
use Rattle.counting_laws.specs.Counts.{keys_pushed, keys_taken, opcodes_in, counted_of}

-- ---- one instruction

-- an opcode up to 60 takes no keys
low_takes : (opcode : ℕ) → ltb 0x60 opcode ≡ false → takes_keys opcode ≡ false
low_takes opcode low = by_tests (eqb opcode 0xae) (eqb opcode 0xaf) refl refl
  where
    no : (n : ℕ) → ltb 0x60 n ≡ true → eqb opcode n ≡ true → takes_keys opcode ≡ false
    no n high is = absurd (false≢true (sym low ∙ ap (ltb 0x60) (eqb-true opcode n is) ∙ high))

    by_tests : (one other : Bool) → eqb opcode 0xae ≡ one → eqb opcode 0xaf ≡ other → takes_keys opcode ≡ false
    by_tests true other a b = no 0xae refl a
    by_tests false true a b = no 0xaf refl b
    by_tests false false a b = ap (λ t. t || eqb opcode 0xaf) a ∙ b

pushed_low : Laws → (e : List ℕ) → ltb 0x60 (spelled (push e)).opcode ≡ false
pushed_low laws e = push_opcode (spelled (push e)) e (laws.meaning (push e) refl).0

takes_same : Laws → (instr : Instr) → takes_keys (spelled instr).opcode ≡ asks_for_keys instr
takes_same laws (Push e) = low_takes (spelled (push e.items)).opcode (pushed_low laws e.items)
takes_same laws (Do opcode) = refl

weight_same : Laws → (instr : Instr) → weight (spelled instr).opcode ≡ opcode_weight instr
weight_same laws (Push e) = ap (λ t. cond t 1 0) (pushed_low laws e.items)
weight_same laws (Do opcode) = refl

keys_same : Laws → (instr : Instr) → is_instruction instr ≡ true → raw_keys (spelled instr) ≡ keys_pushed instr
keys_same laws instr is =
    let known = laws.meaning instr is in
    ap (λ t. cond t (key_count (number_pushed (instruction (spelled instr)))) 0) known.1
    ∙ ap (λ i. key_count (number_pushed i)) known.0

taken_same : Laws → (keys : ℕ) (code : List Instr) → keys_for keys (pieces_of code) ≡ keys_taken keys code
taken_same laws keys [] = refl
taken_same laws keys (instr ∷ code) = ap (λ t. cond t keys 0) (takes_same laws instr)

-- ---- code

pieces_count : Laws → (code : List Instr) → are_instructions code ≡ true → counted_in (pieces_of code) ≡ opcodes_in code
pieces_count laws [] are = refl
pieces_count laws (instr ∷ code) are =
    let parts = and_parts (is_instruction instr) (are_instructions code) are in
    let one = weight_same laws instr in
    let keys : keys_for (raw_keys (spelled instr)) (pieces_of code) ≡ keys_taken (keys_pushed instr) code =
    ap (λ n. keys_for n (pieces_of code)) (keys_same laws instr parts.0) ∙ taken_same laws (keys_pushed instr) code in
    let more = pieces_count laws code parts.1 in
    omega (arith, one, keys, more)

pub counts : Laws → (code : List Instr) → are_instructions code ≡ true → counted_of code ≡ opcodes_in code
counts laws code are = ap counted_in (code_read laws code are) ∙ pieces_count laws code are

-- what the law of it says
abbrev pub Counts : Type 0
Counts = (code : List Instr) → are_instructions code ≡ true → counted_of code ≡ opcodes_in code

-- ---- code behind code

pub spelled_append : (first second : List Instr) → are_instructions first ≡ true → are_instructions second ≡ true
    → are_instructions (first ++ second) ≡ true
spelled_append [] second a b = b
spelled_append (instr ∷ first) second a b =
    let parts = and_parts (is_instruction instr) (are_instructions first) a in
    and_from (is_instruction instr) (are_instructions (first ++ second)) parts.0 (spelled_append first second parts.1 b)

not_true : (t : Bool) → not t ≡ true → t ≡ false
not_true true is = absurd (false≢true is)
not_true false is = refl

-- code in which keys are known takes none from what stands before it
none_taken : (keys : ℕ) (code : List Instr) → are_keys_known false code ≡ true → keys_taken keys code ≡ 0
none_taken keys [] known = refl
none_taken keys (instr ∷ code) known =
    ap (λ t. cond t keys 0)
    (not_true (asks_for_keys instr) (and_parts (not (asks_for_keys instr)) (are_keys_known (pushes_key_count instr) code) known).0)

pub opcodes_append : (first second : List Instr) → are_keys_known false second ≡ true
    → opcodes_in (first ++ second) ≡ opcodes_in first + opcodes_in second
opcodes_append [] second known = omega arith
opcodes_append (instr ∷ []) second known =
    let none = none_taken (keys_pushed instr) second known in
    omega (arith, none)
opcodes_append (instr ∷ next ∷ first) second known =
    let more = opcodes_append (next ∷ first) second known in
    omega (arith, more)

pub adds_up : Counts → (first second : List Instr) → are_instructions first ≡ true → are_instructions second ≡ true
    → are_keys_known false second ≡ true → counted_of (first ++ second) ≡ counted_of first + counted_of second
adds_up counted first second a b known =
    let whole = counted (first ++ second) (spelled_append first second a b) in
    let one = counted first a in
    let other = counted second b in
    let sum = opcodes_append first second known in
    omega (arith, whole, one, other, sum)

pushes_spelled : (elements : Stack) (code : List Instr) → are_instructions code ≡ true → are_instructions (map push elements ++ code) ≡ true
pushes_spelled [] code are = are
pushes_spelled (e ∷ elements) code are = pushes_spelled elements code are

pushes_opcodes : (elements : Stack) (code : List Instr) → are_keys_known false code ≡ true
    → opcodes_in (map push elements ++ code) ≡ opcodes_in code
pushes_opcodes [] code known = refl
pushes_opcodes (e ∷ []) code known =
    let none = none_taken (keys_pushed (push e)) code known in
    omega (arith, none)
pushes_opcodes (e ∷ next ∷ elements) code known = let more = pushes_opcodes (next ∷ elements) code known in omega (arith, more)

pub pushes_none : Counts → (elements : Stack) (code : List Instr) → are_instructions code ≡ true → are_keys_known false code ≡ true
    → counted_of (map push elements ++ code) ≡ counted_of code
pushes_none counted elements code are known =
    counted (map push elements ++ code) (pushes_spelled elements code are)
    ∙ pushes_opcodes elements code known
    ∙ sym (counted code are)
