-- A source is accepted as one contract, or refused in one way, and one of the two.
use Rattle.std.proofs.Common.{◌≡◌, ℕ, ◌⊎◌, inl, inr, List, refl, ap, subst}
use Rattle.cash_base.specs.declared.place.Slot.{Slot}
use Rattle.cash_tree.specs.declared.Ty.{Ty}
use Rattle.cash_tree.specs.declared.Contract.{Contract}
use Rattle.cash_parser.specs.declared.fault.ParseFault.TheVariants as parser
use Rattle.source_stages.specs.declared.fault.SourceFault.{SourceFault}
use Rattle.source_stages.specs.declared.fault.SourceFault.TheVariants as faults
use Rattle.source_stages.specs.Stages as stages
use Rattle.cash_compile.specs.declared.refusal.Refusal.{Refusal}
use Rattle.cash_compile.specs.declared.refusal.Refusal.TheVariants.{SourceTooLong, NotUtf8, Lex, Parse, Name, Typing, CodeTooLong, TooManyOps, Memory}
use Rattle.cash_compile.specs.Compile.{IsAccepted, IsRefused, AreSame}

-- what is known of the stages of a source
pub record Laws : Type 0 where
  pub either : (source : List ℕ) → ((contract : Contract Slot Ty) × stages.IsAccepted source contract) ⊎ ((fault : SourceFault) × stages.IsRefused source fault)
  pub never_both : (source : List ℕ) (contract : Contract Slot Ty) (fault : SourceFault) → stages.IsAccepted source contract → stages.IsRefused source fault → ⊥
  pub one_fault : (source : List ℕ) (a b : SourceFault) → stages.IsRefused source a → stages.IsRefused source b → stages.AreSame a b

-- ---- a refusal is a fault of the stages

abbrev refusal_of : SourceFault → Refusal
refusal_of (faults.TooLong bytes) = SourceTooLong bytes
refusal_of (faults.NotUtf8 at) = NotUtf8 at
refusal_of (faults.Lex fault) = Lex fault
refusal_of (faults.Parse fault) = Parse fault
refusal_of (faults.Name fault) = Name fault
refusal_of (faults.Typing fault) = Typing fault
refusal_of faults.Memory = Memory

abbrev IsFault : List ℕ → Refusal → Type 0
IsFault source r = (fault : SourceFault) × stages.IsRefused source fault × (refusal_of fault ≡ r)

told : (source : List ℕ) (r : Refusal) → IsRefused source r → IsFault source r
told source (SourceTooLong bytes) h = (faults.TooLong bytes, h, refl)
told source (NotUtf8 at) h = (faults.NotUtf8 at, h, refl)
told source (Lex fault) h = (faults.Lex fault, h, refl)
told source (Parse fault) h = (faults.Parse fault, h, refl)
told source (Name fault) h = (faults.Name fault, h, refl)
told source (Typing fault) h = (faults.Typing fault, h, refl)
told source (CodeTooLong bytes code) h = absurd h
told source (TooManyOps count code) h = absurd h
told source Memory h = absurd h

pub never_both_are : Laws → (source : List ℕ) (contract : Contract Slot Ty) (refusal : Refusal) → IsAccepted source contract → IsRefused source refusal → ⊥
never_both_are laws source contract refusal h r =
    let f = told source refusal r in laws.never_both source contract f.0 h f.1

same_refusals : (a b : SourceFault) → stages.AreSame a b → AreSame (refusal_of a) (refusal_of b)
same_refusals (faults.TooLong bytes) b is = ap refusal_of is
same_refusals (faults.NotUtf8 at) b is = ap refusal_of is
same_refusals (faults.Lex fault) b is = ap refusal_of is
same_refusals (faults.Parse (parser.TooDeep rule span)) b is = ap refusal_of is
same_refusals (faults.Parse parser.Memory) b is = ap refusal_of is
same_refusals (faults.Parse (parser.Syntax token)) (faults.TooLong bytes) is = ap refusal_of is
same_refusals (faults.Parse (parser.Syntax token)) (faults.NotUtf8 at) is = ap refusal_of is
same_refusals (faults.Parse (parser.Syntax token)) (faults.Lex fault) is = ap refusal_of is
same_refusals (faults.Parse (parser.Syntax token)) (faults.Parse (parser.TooDeep rule span)) is = ap refusal_of is
same_refusals (faults.Parse (parser.Syntax token)) (faults.Parse (parser.Syntax other)) is = tt
same_refusals (faults.Parse (parser.Syntax token)) (faults.Parse parser.Memory) is = ap refusal_of is
same_refusals (faults.Parse (parser.Syntax token)) (faults.Name fault) is = ap refusal_of is
same_refusals (faults.Parse (parser.Syntax token)) (faults.Typing fault) is = ap refusal_of is
same_refusals (faults.Parse (parser.Syntax token)) faults.Memory is = ap refusal_of is
same_refusals (faults.Name fault) b is = ap refusal_of is
same_refusals (faults.Typing fault) b is = ap refusal_of is
same_refusals faults.Memory b is = ap refusal_of is

pub one_refusal_is : Laws → (source : List ℕ) (a b : Refusal) → IsRefused source a → IsRefused source b → AreSame a b
one_refusal_is laws source a b h k =
    let f = told source a h in
    let g = told source b k in
    subst (λ (r : Refusal). AreSame r b) f.2 (subst (λ (r : Refusal). AreSame (refusal_of f.0) r) g.2 (same_refusals f.0 g.0 (laws.one_fault source f.0 g.0 f.1 g.1)))

-- ---- each source ends in one of the two

abbrev pub IsDecided : List ℕ → Type 0
IsDecided source = ((contract : Contract Slot Ty) × IsAccepted source contract) ⊎ ((refusal : Refusal) × IsRefused source refusal)

by_fault : (source : List ℕ) (fault : SourceFault) → stages.IsRefused source fault → IsDecided source
by_fault source (faults.TooLong bytes) h = inr (SourceTooLong bytes, h)
by_fault source (faults.NotUtf8 at) h = inr (NotUtf8 at, h)
by_fault source (faults.Lex fault) h = inr (Lex fault, h)
by_fault source (faults.Parse fault) h = inr (Parse fault, h)
by_fault source (faults.Name fault) h = inr (Name fault, h)
by_fault source (faults.Typing fault) h = inr (Typing fault, h)
by_fault source faults.Memory h = absurd h

by_stages : (source : List ℕ) → ((contract : Contract Slot Ty) × stages.IsAccepted source contract) ⊎ ((fault : SourceFault) × stages.IsRefused source fault) → IsDecided source
by_stages source (inl (contract, h)) = inl (contract, h)
by_stages source (inr (fault, h)) = by_fault source fault h

pub decided_is : Laws → (source : List ℕ) → IsDecided source
decided_is laws source = by_stages source (laws.either source)
