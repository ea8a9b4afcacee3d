-- A source whose contract has little room is never refused.
use Rattle.std.proofs.Common.{◌≡◌, ℕ, ◌≤◌, List, subst, arith}
use Rattle.cash_base.specs.declared.place.Slot.{Slot}
use Rattle.cash_tree.specs.declared.Ty.{Ty}
use Rattle.cash_tree.specs.declared.Contract.{Contract}
use Rattle.slot_lowering.specs.Room.{room, ops_room}
use Rattle.cash_compile.specs.declared.refusal.Refusal.{Refusal}
use Rattle.cash_compile.specs.declared.refusal.Refusal.TheVariants.{SourceTooLong, NotUtf8, Lex, Parse, Name, Typing, CodeTooLong, TooManyOps, Memory}
use Rattle.cash_compile.specs.Compile.{IsAccepted, IsRefused, IsUncompiled, most_bytes, most_opcodes}

abbrev pub OneContract : Type 0
OneContract = (source : List ℕ) (a b : Contract Slot Ty) → IsAccepted source a → IsAccepted source b → a ≡ b

abbrev pub NeverBoth : Type 0
NeverBoth = (source : List ℕ) (contract : Contract Slot Ty) (refusal : Refusal) → IsAccepted source contract → IsRefused source refusal → ⊥

pub never_refused : OneContract → NeverBoth → (source : List ℕ) (contract : Contract Slot Ty) (refusal : Refusal) → IsAccepted source contract
    → room contract ≤ most_bytes → ops_room contract ≤ most_opcodes → IsUncompiled source refusal → ⊥
never_refused one never source contract (CodeTooLong bytes code) accepted small few (other, accepts, long) =
    let same = one source other contract accepts accepted in
    let over = long.over in
    let most : bytes ≤ room contract = subst (λ (c : Contract Slot Ty). bytes ≤ room c) same long.most in
    absurd (omega (arith, over, most, small))
never_refused one never source contract (TooManyOps count code) accepted small few (other, accepts, many) =
    let same = one source other contract accepts accepted in
    let over = many.over in
    let most : count ≤ ops_room contract = subst (λ (c : Contract Slot Ty). count ≤ ops_room c) same many.most in
    absurd (omega (arith, over, most, few))
never_refused one never source contract (SourceTooLong bytes) accepted small few refused = never source contract (SourceTooLong bytes) accepted refused
never_refused one never source contract (NotUtf8 at) accepted small few refused = never source contract (NotUtf8 at) accepted refused
never_refused one never source contract (Lex fault) accepted small few refused = never source contract (Lex fault) accepted refused
never_refused one never source contract (Parse fault) accepted small few refused = never source contract (Parse fault) accepted refused
never_refused one never source contract (Name fault) accepted small few refused = never source contract (Name fault) accepted refused
never_refused one never source contract (Typing fault) accepted small few refused = never source contract (Typing fault) accepted refused
never_refused one never source contract Memory accepted small few refused = absurd refused
