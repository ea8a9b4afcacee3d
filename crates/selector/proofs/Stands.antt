-- Rows at the contract's place, among others.
use Rattle.std.proofs.Common.{◌≡◌, ℕ, zero, suc, ◌+◌, List, [], ◌∷◌, ◌++◌, length, Some, refl, ap, ◌∙◌, arith}
use Rattle.std.specs.Prelude.{slice_get}
use Rattle.std.proofs.lemmas.Option.{none-some}
use Rattle.cash_base.specs.declared.place.Span.{Span}
use Rattle.script_codec.specs.declared.instr.Instr.{Instr}
use Rattle.script_codec.specs.declared.spans.Spanned.{Spanned}
use Rattle.selector.specs.Choice.{own}
use Rattle.selector.specs.Selection.{StandsAt}

get_behind : (front back : List Spanned) (k : ℕ) → slice_get (front ++ back) (length front + k) ≡ slice_get back k
get_behind [] back k = ap (slice_get back) (omega arith)
get_behind (row ∷ front) back k =
    let index : length (row ∷ front) + k ≡ suc (length front + k) = omega arith in
    ap (slice_get (row ∷ (front ++ back))) index ∙ get_behind front back k

get_in_front : (front back : List Spanned) (k : ℕ) (row : Spanned) → slice_get front k ≡ Some row
    → slice_get (front ++ back) k ≡ Some row
get_in_front [] back k row found = absurd (none-some row found)
get_in_front (first ∷ front) back zero row found = found
get_in_front (first ∷ front) back (suc k) row found = get_in_front front back k row found

pub stands_behind : (contract : Span) (front back : List Spanned) (k : ℕ) → StandsAt contract back k
    → StandsAt contract (front ++ back) (length front + k)
stands_behind contract front back k h = record {
  row = h.row;
  found = get_behind front back k ∙ h.found;
  doing = h.doing;
  checking = h.checking;
}

pub stands_in_front : (contract : Span) (front back : List Spanned) (k : ℕ) → StandsAt contract front k
    → StandsAt contract (front ++ back) k
stands_in_front contract front back k h = record {
  row = h.row;
  found = get_in_front front back k h.row h.found;
  doing = h.doing;
  checking = h.checking;
}

pub own_at : (contract : Span) (instr : Instr) (rows : List Spanned) → StandsAt contract (own contract instr ∷ rows) 0
own_at contract instr rows = record { row = own contract instr; found = refl; doing = refl; checking = refl }

pub at_next : (contract : Span) (first : Spanned) (rows : List Spanned) (k : ℕ) → StandsAt contract rows k
    → StandsAt contract (first ∷ rows) (suc k)
at_next contract first rows k h = record { row = h.row; found = h.found; doing = h.doing; checking = h.checking }
