-- What a context is asked is an element, where there is an answer.
use Rattle.std.proofs.Common.{◌≡◌, ℕ, ◌≤◌, Bool, true, false, List, [], ◌∷◌, length, Result, Ok, Err, refl, arith}
use Rattle.std.specs.Prelude.{ℤ, pos, IfOk, nat_lt, if◌then◌else◌, ◌==◌, ◌&&◌, ◌^◌}
use Rattle.std.specs.List.{list_all}
use Rattle.std.proofs.lemmas.Bool.{and_parts}
use Rattle.std.proofs.lemmas.Bool.Decides.{nat_tests}
use Rattle.cash_base.specs.declared.fault.Cause.{Cause}
use Rattle.cash_base.specs.declared.fault.Cause.TheVariants.{Oversize}
use Rattle.cash_base.specs.declared.element.TheConstants.{MAX_ELEMENT_LEN}
use Rattle.cash_base.specs.declared.look.Look0.{Look0}
use Rattle.cash_base.specs.declared.look.Look0.TheVariants.{Version, Locktime, InputCount, OutputCount, ActiveIndex, ActiveBytecode}
use Rattle.cash_base.specs.declared.look.LookAt.{LookAt}
use Rattle.cash_base.specs.declared.look.LookAt.TheVariants.{UtxoValue, UtxoBytecode, OutpointHash, OutpointIndex, InputBytecode, InputSequence, OutputValue, OutputBytecode}
use Rattle.cash_base.specs.Element.{IsElement}
use Rattle.cash_base.specs.Failing.{◌>>=◌}
use Rattle.cash_base.specs.Number.{IsBytes, minimal_bytes}
use Rattle.cash_base.specs.Operand.{operand_number}
use Rattle.tx_context.specs.Bytes.{are_bytes}
use Rattle.tx_context.specs.Transaction.{InputParts, OutputParts, Transaction}
use Rattle.tx_context.specs.Limits.{IsContext, is_typed_input, is_typed_output}
use Rattle.tx_context.specs.Lookup.{sized, context_value, item_at, value_at, indexed_value}
use Rattle.tx_context.proofs.Bytes.{IsBytes-from_test}
use Rattle.tx_context.proofs.Amounts.{all_at_number}

-- each number is written as an element
abbrev Written : Type 0
Written = (n : ℤ) → IsElement (minimal_bytes n)

of_size : (bytes : List ℕ) (long : Bool) → long ≡ nat_lt MAX_ELEMENT_LEN (length bytes) → IsBytes bytes →
    IfOk (if long then Err Oversize else Ok bytes) IsElement
of_size bytes true is all = tt
of_size bytes false is all = record { size = grind (arith, nat_tests, is); bytes = all }

sized-element : (bytes : List ℕ) → IsBytes bytes → IfOk (sized bytes) IsElement
sized-element bytes all = of_size bytes (nat_lt MAX_ELEMENT_LEN (length bytes)) refl all

pub whole : Written → (t : Transaction (List ℕ)) → IsContext t → (what : Look0) → (active : List ℕ) → IsBytes active →
    IfOk (context_value t what active) IsElement
whole written t h Version active all = written (pos t.version)
whole written t h Locktime active all = written (pos t.locktime)
whole written t h InputCount active all = written (pos (length t.inputs))
whole written t h OutputCount active all = written (pos (length t.outputs))
whole written t h ActiveIndex active all = written (pos t.active)
whole written t h ActiveBytecode active all = sized-element active all

-- of an item, where there is one at the number
by_item : {A : Type 0} (item : Result A Cause) (value : A → Result (List ℕ) Cause) → ((x : A) → item ≡ Ok x → IfOk (value x) IsElement) →
    IfOk (item >>= value) IsElement
by_item (Ok x) value h = h x refl
by_item (Err cause) value h = tt

record InputBytes (i : InputParts (List ℕ)) : Type 0 where
  hash_size : length i.hash ≤ MAX_ELEMENT_LEN
  hash : IsBytes i.hash
  locking : IsBytes i.locking
  unlocking : IsBytes i.unlocking

input_bytes : (t : Transaction (List ℕ)) (n : ℤ) (i : InputParts (List ℕ)) → IsContext t → item_at n t.inputs ≡ Ok i → InputBytes i
input_bytes t n i h e =
    let typed = and_parts _ _ (all_at_number (is_typed_input (λ bytes. bytes ∷ [])) t.inputs n i h.inputs e) in
    let numbers : ((length i.hash == 32) ≡ true) × ((nat_lt i.index (2 ^ 32) && nat_lt i.sequence (2 ^ 32)) ≡ true) = and_parts _ _ typed.0 in
    let bytes : (are_bytes i.hash ≡ true) × (list_all are_bytes (i.locking ∷ i.unlocking ∷ []) ≡ true) = and_parts _ _ typed.1 in
    let locking = and_parts _ _ bytes.1 in
    let unlocking = and_parts _ _ locking.1 in
    record {
      hash_size = grind (arith, nat_tests, numbers.0);
      hash = IsBytes-from_test i.hash bytes.0;
      locking = IsBytes-from_test i.locking locking.0;
      unlocking = IsBytes-from_test i.unlocking unlocking.0;
    }

output_bytes : (t : Transaction (List ℕ)) (n : ℤ) (o : OutputParts (List ℕ)) → IsContext t → item_at n t.outputs ≡ Ok o → IsBytes o.locking
output_bytes t n o h e =
    let typed = and_parts _ _ (all_at_number (is_typed_output (λ bytes. bytes ∷ [])) t.outputs n o h.outputs e) in
    IsBytes-from_test o.locking typed.0

at_number : Written → (t : Transaction (List ℕ)) → IsContext t → (what : LookAt) → (n : ℤ) → IfOk (value_at t what n) IsElement
at_number written t h UtxoValue n = by_item (item_at n t.inputs) _ (λ i e. written (pos i.value))
at_number written t h UtxoBytecode n = by_item (item_at n t.inputs) _ (λ i e. sized-element i.locking (input_bytes t n i h e).locking)
at_number written t h OutpointHash n =
    by_item (item_at n t.inputs) _ (λ i e. let bytes = input_bytes t n i h e in record { size = bytes.hash_size; bytes = bytes.hash })
at_number written t h OutpointIndex n = by_item (item_at n t.inputs) _ (λ i e. written (pos i.index))
at_number written t h InputBytecode n = by_item (item_at n t.inputs) _ (λ i e. sized-element i.unlocking (input_bytes t n i h e).unlocking)
at_number written t h InputSequence n = by_item (item_at n t.inputs) _ (λ i e. written (pos i.sequence))
at_number written t h OutputValue n = by_item (item_at n t.outputs) _ (λ o e. written (pos o.value))
at_number written t h OutputBytecode n = by_item (item_at n t.outputs) _ (λ o e. sized-element o.locking (output_bytes t n o h e))

pub indexed : Written → (t : Transaction (List ℕ)) → IsContext t → (what : LookAt) → (index : List ℕ) →
    IfOk (indexed_value t what index) IsElement
indexed written t h what index = by_item (operand_number index) (λ n. value_at t what n) (λ n e. at_number written t h what n)
