-- A filled frame is within the limits, as the frame was.
use Rattle.std.proofs.Common.{◌≡◌, ℕ, ◌+◌, ◌≤◌, Bool, true, false, ◌||◌, ◌&&◌, List, [], ◌∷◌, ◌++◌, length, map, Some, None, refl, ap, ◌∙◌, arith}
use Rattle.std.proofs.lemmas.Bool.{or_parts, and_parts}
use Rattle.std.specs.Prelude.{unwrap_or, option_to_list, if◌then◌else◌, ◌==◌}
use Rattle.std.specs.List.{list_any, list_all, enumerate_from}
use Rattle.tx_context.specs.Bytes.{are_bytes}
use Rattle.tx_context.specs.Transaction.{InputParts, OutputParts, Transaction, Locking}
use Rattle.tx_context.specs.Limits.{is_great_value, is_long, is_numbered, is_typed_input, is_typed_output, bytecodes_of, IsFrame, IsContext}
use Rattle.tx_context.specs.declared.frame.TheConstants.{LONGEST_BYTECODE}
use Rattle.tx_context.proofs.Within.{facts_of, checked_of}
use Rattle.tx_context.specs.World.{filled_inputs, filled_output, filled_context}

-- a sum of two tests that are false
both_false : (a b : Bool) → a ≡ false → b ≡ false → a || b ≡ false
both_false a b p q = grind arith

length-filled : (a : ℕ) (own unlocking : List ℕ) (n : ℕ) (xs : List (InputParts Locking)) →
    length (filled_inputs a own unlocking (enumerate_from n xs)) ≡ length xs
length-filled a own unlocking n [] = refl
length-filled a own unlocking n (x ∷ xs) = grind (arith, length-filled a own unlocking (n + 1) xs)

-- tests that both hold
both_true : (a b : Bool) → a ≡ true → b ≡ true → a && b ≡ true
both_true a b p q = grind arith

typed_bytecodes : (t : Bool) (given : Locking) (bytes own unlocking : List ℕ) → are_bytes own ≡ true → are_bytes unlocking ≡ true
    → list_all are_bytes (option_to_list given ++ bytes ∷ []) ≡ true
    → list_all are_bytes ((if t then own else unwrap_or given own) ∷ (if t then unlocking else bytes) ∷ []) ≡ true
typed_bytecodes true given bytes own unlocking p q h = both_true _ _ p (both_true _ _ q refl)
typed_bytecodes false None bytes own unlocking p q h = both_true _ _ p h
typed_bytecodes false (Some given) bytes own unlocking p q h = h

typed_inputs : (a : ℕ) (own unlocking : List ℕ) (n : ℕ) (xs : List (InputParts Locking)) → are_bytes own ≡ true → are_bytes unlocking ≡ true
    → list_all (is_typed_input option_to_list) xs ≡ true
    → list_all (is_typed_input (λ bytes. bytes ∷ [])) (filled_inputs a own unlocking (enumerate_from n xs)) ≡ true
typed_inputs a own unlocking n [] p q h = refl
typed_inputs a own unlocking n (x ∷ xs) p q h =
    let parts : (is_typed_input option_to_list x ≡ true) × (list_all (is_typed_input option_to_list) xs ≡ true) = and_parts _ _ h in
    let first : (is_numbered x ≡ true) × (are_bytes x.hash && list_all are_bytes (bytecodes_of option_to_list x) ≡ true) = and_parts _ _ parts.0 in
    let bytes : (are_bytes x.hash ≡ true) × (list_all are_bytes (bytecodes_of option_to_list x) ≡ true) = and_parts _ _ first.1 in
    both_true _ _ (both_true _ _ first.0 (both_true _ _ bytes.0 (typed_bytecodes (n == a) x.locking x.unlocking own unlocking p q bytes.1)))
    (typed_inputs a own unlocking (n + 1) xs p q parts.1)

typed_output : (given : Locking) (own : List ℕ) → are_bytes own ≡ true → list_all are_bytes (option_to_list given) ≡ true
    → list_all are_bytes (unwrap_or given own ∷ []) ≡ true
typed_output None own p h = both_true _ _ p refl
typed_output (Some given) own p h = h

typed_outputs : (own : List ℕ) (xs : List (OutputParts Locking)) → are_bytes own ≡ true → list_all (is_typed_output option_to_list) xs ≡ true
    → list_all (is_typed_output (λ bytes. bytes ∷ [])) (map (filled_output own) xs) ≡ true
typed_outputs own [] p h = refl
typed_outputs own (x ∷ xs) p h =
    let parts : (is_typed_output option_to_list x ≡ true) × (list_all (is_typed_output option_to_list) xs ≡ true) = and_parts _ _ h in
    both_true _ _ (typed_output x.locking own p parts.0) (typed_outputs own xs p parts.1)

values-filled : (a : ℕ) (own unlocking : List ℕ) (n : ℕ) (xs : List (InputParts Locking)) →
    list_any (λ i. is_great_value i.value) (filled_inputs a own unlocking (enumerate_from n xs))
    ≡ list_any (λ i. is_great_value i.value) xs
values-filled a own unlocking n [] = refl
values-filled a own unlocking n (x ∷ xs) =
    ap (λ b. is_great_value x.value || b) (values-filled a own unlocking (n + 1) xs)

output_values-filled : (own : List ℕ) (xs : List (OutputParts Locking)) →
    list_any (λ o. is_great_value o.value) (map (filled_output own) xs) ≡ list_any (λ o. is_great_value o.value) xs
output_values-filled own [] = refl
output_values-filled own (x ∷ xs) = ap (λ b. is_great_value x.value || b) (output_values-filled own xs)

length-outputs : (own : List ℕ) (xs : List (OutputParts Locking)) → length (map (filled_output own) xs) ≡ length xs
length-outputs own [] = refl
length-outputs own (x ∷ xs) = grind (arith, length-outputs own xs)

-- an input's bytecodes are short where those of the frame and of the spend are
short_input : (t : Bool) (given : Locking) (bytes own unlocking : List ℕ) → is_long own ≡ false →
    is_long unlocking ≡ false → list_any is_long (option_to_list given ++ bytes ∷ []) ≡ false →
    list_any is_long ((if t then own else unwrap_or given own) ∷ (if t then unlocking else bytes) ∷ []) ≡ false
short_input true given bytes own unlocking p q h = both_false _ _ p (both_false _ _ q refl)
short_input false None bytes own unlocking p q h = both_false _ _ p h
short_input false (Some given) bytes own unlocking p q h = h

short_inputs : (a : ℕ) (own unlocking : List ℕ) (n : ℕ) (xs : List (InputParts Locking)) → is_long own ≡ false →
    is_long unlocking ≡ false → list_any (λ i. list_any is_long (bytecodes_of option_to_list i)) xs ≡ false →
    list_any (λ i. list_any is_long (bytecodes_of (λ bytes. bytes ∷ []) i))
    (filled_inputs a own unlocking (enumerate_from n xs)) ≡ false
short_inputs a own unlocking n [] p q h = refl
short_inputs a own unlocking n (x ∷ xs) p q h =
    let parts : (list_any is_long (bytecodes_of option_to_list x) ≡ false)
    × (list_any (λ i. list_any is_long (bytecodes_of option_to_list i)) xs ≡ false) = or_parts _ _ h in
    both_false _ _ (short_input (n == a) x.locking x.unlocking own unlocking p q parts.0)
    (short_inputs a own unlocking (n + 1) xs p q parts.1)

short_output : (given : Locking) (own : List ℕ) → is_long own ≡ false →
    list_any is_long (option_to_list given) ≡ false → list_any is_long (unwrap_or given own ∷ []) ≡ false
short_output None own p h = both_false _ _ p refl
short_output (Some given) own p h = h

short_outputs : (own : List ℕ) (xs : List (OutputParts Locking)) → is_long own ≡ false →
    list_any (λ o. list_any is_long (option_to_list o.locking)) xs ≡ false →
    list_any (λ o. list_any is_long (o.locking ∷ [])) (map (filled_output own) xs) ≡ false
short_outputs own [] p h = refl
short_outputs own (x ∷ xs) p h =
    let parts : (list_any is_long (option_to_list x.locking) ≡ false)
    × (list_any (λ o. list_any is_long (option_to_list o.locking)) xs ≡ false) = or_parts _ _ h in
    both_false _ _ (short_output x.locking own p parts.0) (short_outputs own xs p parts.1)

not_long : (bytes : List ℕ) → length bytes ≤ LONGEST_BYTECODE → is_long bytes ≡ false
not_long bytes h = grind arith

-- what a frame is filled to is a context
pub context_of_frame : (frame : Transaction Locking) (own unlocking : List ℕ) → IsFrame frame → are_bytes own ≡ true → are_bytes unlocking ≡ true
    → length own ≤ LONGEST_BYTECODE → length unlocking ≤ LONGEST_BYTECODE → IsContext (filled_context frame own unlocking)
context_of_frame frame own unlocking f b c p q =
    let facts = facts_of option_to_list frame f in
    record {
      limits = checked_of (λ bytes. bytes ∷ []) (filled_context frame own unlocking) (record {
        version = facts.version;
        some = rw length-filled facts.some;
        input_count = rw length-filled facts.input_count;
        output_count = rw length-outputs facts.output_count;
        input_values = values-filled frame.active own unlocking 0 frame.inputs ∙ facts.input_values;
        output_values = output_values-filled own frame.outputs ∙ facts.output_values;
        input_bytecodes = short_inputs frame.active own unlocking 0 frame.inputs (not_long own p) (not_long unlocking q) facts.input_bytecodes;
        output_bytecodes = short_outputs own frame.outputs (not_long own p) facts.output_bytecodes;
        active = rw length-filled facts.active;
      });
      locktime = f.locktime;
      inputs = typed_inputs frame.active own unlocking 0 frame.inputs b c f.inputs;
      outputs = typed_outputs own frame.outputs b f.outputs;
    }
