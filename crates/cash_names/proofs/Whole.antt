-- What is read of a tree is its named tree, or the first place that is refused.
use Rattle.std.proofs.Common.{◌≡◌, ◌∙◌, ap, sym, refl, ℕ, List, inl, inr}
use Rattle.std.specs.Prelude.{Option, Some, None, Result, Ok, Err, IfOk, IfErr, ◌⊎◌}
use Rattle.name_scopes.specs.declared.fault.NameFault.{NameFault}
use Rattle.name_scopes.specs.Wants.{first_refused, granted, Gives}
use Rattle.cash_names.specs.Outline.{Tree, NamedTree, outline_of_tree}
use Rattle.name_scopes.specs.Uses.{Answer}
use Rattle.cash_names.specs.Reading.{tree_reading}
use Rattle.cash_names.specs.Scopes.{IsNamed, first_name_fault}
use Rattle.cash_names.specs.Answer.{IsFaultOf, HasOne, HasNone, HasFault}
use Rattle.name_scopes.proofs.Granted.{ok_inner}
use Rattle.cash_names.proofs.StmtPlaces.{tree_agrees}
use Rattle.cash_names.proofs.StmtNamed.{tree_complete, tree_sound}

refused : {A : Type 0} (p : Option NameFault) (v : A) (fault : NameFault) → granted p v ≡ Err fault → p ≡ Some fault
refused None v fault e = cc
refused (Some f) v fault e = cc

not_both : {A : Type 0} (x : A) (fault : NameFault) (r : Answer A) → r ≡ Ok x → r ≡ Err fault → ⊥
not_both x fault r d e = cc

pub named_from : (source : List ℕ) (tree : Tree) (r : Result NamedTree NameFault)
    → Gives (λ x. x) r (tree_reading source tree) → IfOk r (IsNamed source tree)
named_from source tree (Err f) g = tt
named_from source tree (Ok x) g = tree_sound source tree x g

pub fault_from : (source : List ℕ) (tree : Tree) (r : Result NamedTree NameFault)
    → Gives (λ x. x) r (tree_reading source tree) → IfErr r (IsFaultOf source tree)
fault_from source tree (Ok x) g = tt
fault_from source tree (Err f) (inl m) = inl m
fault_from source tree (Err f) (inr g) =
    let o = outline_of_tree source tree in
    inr (refused (first_refused source o.wants) o.value f (sym (tree_agrees source tree) ∙ g))

pub one_named : (source : List ℕ) (tree : Tree) (a b : NamedTree) → IsNamed source tree a → IsNamed source tree b → a ≡ b
one_named source tree a b m n = ok_inner a b (tree_reading source tree) (tree_complete source tree a m) (tree_complete source tree b n)

by_fault : (source : List ℕ) (tree : Tree) (p : Option NameFault) (v : NamedTree) → first_name_fault source tree ≡ p
    → tree_reading source tree ≡ granted p v → HasOne source tree ⊎ HasFault source tree
by_fault source tree None v is e = inl (v, tree_sound source tree v e)
by_fault source tree (Some f) v is e = inr (f, is)

pub one_or_fault : (source : List ℕ) (tree : Tree) → HasOne source tree ⊎ HasFault source tree
one_or_fault source tree =
    let o = outline_of_tree source tree in
    by_fault source tree (first_refused source o.wants) o.value refl (tree_agrees source tree)

pub fault_alone : (source : List ℕ) (tree : Tree) (fault : NameFault) → first_name_fault source tree ≡ Some fault
    → HasNone source tree
fault_alone source tree fault is named n =
    let o = outline_of_tree source tree in
    not_both named fault (tree_reading source tree) (tree_complete source tree named n) (tree_agrees source tree ∙ ap (λ p. granted p o.value) is)
