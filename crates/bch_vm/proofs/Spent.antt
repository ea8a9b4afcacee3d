-- The bytecodes of the input that is spent, as a look-up gives it.
use Rattle.std.proofs.Common.{◌≡◌, ℕ, List, [], Some, slice_get, sym, ap}
use Rattle.std.proofs.lemmas.Option.{get_or_from_slice_get}
use Rattle.tx_context.specs.Transaction.{InputParts, Transaction, plain_input}
use Rattle.bch_vm.specs.Spend.{spent_input}

spent_is : (context : Transaction (List ℕ)) (input : InputParts (List ℕ))
    → slice_get context.inputs context.active ≡ Some input → input ≡ spent_input context
spent_is context input found = sym (get_or_from_slice_get context.inputs context.active input (plain_input 0 [] []) found)

pub unlocking_is : (context : Transaction (List ℕ)) (input : InputParts (List ℕ))
    → slice_get context.inputs context.active ≡ Some input → input.unlocking ≡ (spent_input context).unlocking
unlocking_is context input found = ap (λ (i : InputParts (List ℕ)). i.unlocking) (spent_is context input found)

pub locking_is : (context : Transaction (List ℕ)) (input : InputParts (List ℕ))
    → slice_get context.inputs context.active ≡ Some input → input.locking ≡ (spent_input context).locking
locking_is context input found = ap (λ (i : InputParts (List ℕ)). i.locking) (spent_is context input found)
