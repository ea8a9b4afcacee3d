-- A type that a source can name is read from its spelling, and what is read is such a type.
use Rattle.std.proofs.Common.{◌≡◌, ℕ, zero, suc, ◌≤◌, ◌==◌, ◌+◌, ◌-◌, ◌*◌, Bool, true, false, ◌&&◌, cond, List, [], ◌∷◌, ◌++◌, drop, Option, Some, None, IfSome, codes, decimal, inl, inr, refl, ap, ◌∙◌, arith}
use Rattle.std.specs.Prelude.{nat_le, nat_eq}
use Rattle.std.specs.List.{starts_with}
use Rattle.std.specs.Fmt.{digits}
use Rattle.std.specs.Char.{is_ascii_digit}
use Rattle.std.proofs.lemmas.Bool.{and_parts, and_from, eqb-true, leb-true, cases_eq, le-leb, false≢true}
use Rattle.std.proofs.lemmas.Bool.Decides.{nat_tests}
use Rattle.cash_tree.specs.declared.Ty.{Ty}
use Rattle.cash_tree.specs.declared.Ty.TheVariants as types
use Rattle.cash_tree.specs.declared.Ty.TheOpen.{Ty-F}
use Rattle.cash_tree.specs.declared.Ty.TheViews.{out-Ty, roll-Ty, roll-out-Ty, out-roll-Ty}
use Rattle.cash_symbols.specs.Words.{is_first_digit, sized, size_of, bytes_of, type_of}
use Rattle.artifact_json.specs.Types.{is_named_layer, is_named_type, layer_spelling, spelling}

-- ---- spelled and read

-- whether a size was read, a test that computes
abbrev is_size : ℕ → Option ℕ → Bool
is_size n None = false
is_size n (Some m) = m == n

-- the sizes from 1 up
abbrev sizes_up_to : ℕ → Bool
sizes_up_to zero = true
sizes_up_to (suc n) = is_size (suc n) (size_of (decimal (suc n))) && sizes_up_to n

all_sizes : sizes_up_to 520 ≡ true
unfolding digits
all_sizes = refl

at_size : (top n : ℕ) → sizes_up_to top ≡ true → 1 ≤ n → n ≤ top → is_size n (size_of (decimal n)) ≡ true
at_size zero n h low high = absurd (omega arith)
at_size (suc k) n h low high =
    let p = and_parts _ _ h in
    elim (cases_eq n (suc k)) [ inl same ↦ rw same p.0 | inr other ↦ at_size k n p.1 low (omega arith) ]

size_is : (n : ℕ) (found : Option ℕ) → is_size n found ≡ true → found ≡ Some n
size_is n None h = absurd (cc)
size_is n (Some m) h = ap (λ k. Some k) (eqb-true m n h)

size_back : (n : ℕ) → 1 ≤ n → n ≤ 520 → size_of (decimal n) ≡ Some n
size_back n low high = size_is n (size_of (decimal n)) (at_size 520 n all_sizes low high)

bytes_back : (digits : List ℕ) (n : ℕ) → size_of digits ≡ Some n → type_of (codes "bytes" ++ digits) ≡ Some (types.BytesN n)
unfolding type_of
bytes_back [] n is = absurd cc
bytes_back (a ∷ more) n is = ap bytes_of is

layer_read : (layer : Ty-F Ty) → is_named_layer layer ≡ true → type_of (layer_spelling layer) ≡ Some (roll-Ty layer)
unfolding type_of roll-Ty denote.Hole.Carrier.roll
layer_read Ty-F.Int h = refl
layer_read Ty-F.Bool h = refl
layer_read Ty-F.Text h = refl
layer_read Ty-F.Bytes h = refl
layer_read (Ty-F.BytesN n) h =
    let parts = and_parts (nat_le 1 n) (nat_le n 520) h in
    bytes_back (decimal n) n (size_back n (leb-true 1 n parts.0) (leb-true n 520 parts.1))
layer_read Ty-F.Pubkey h = refl
layer_read Ty-F.Sig h = refl
layer_read Ty-F.Datasig h = refl
layer_read (Ty-F.Array item) h = absurd (false≢true h)
layer_read (Ty-F.Pair left right) h = absurd (false≢true h)

pub spelling_read : (t : Ty) → is_named_type t ≡ true → type_of (spelling t) ≡ Some t
spelling_read t h = layer_read (out-Ty t) h ∙ ap (λ (u : Ty). Some u) (roll-out-Ty t)

-- ---- read

abbrev IsSize : ℕ → Type 0
IsSize n = (nat_le 1 n && nat_le n 520) ≡ true

in_range : (n : ℕ) → 1 ≤ n → n ≤ 520 → IsSize n
in_range n low high = and_from (nat_le 1 n) (nat_le n 520) (le-leb 1 n low) (le-leb n 520 high)

one_digit : (a : ℕ) (t : Bool) → is_first_digit a ≡ t → IfSome (cond t (Some (a - 48)) None) IsSize
one_digit a true is = in_range (a - 48) (grind (arith, nat_tests, is)) (grind (arith, nat_tests, is))
one_digit a false is = tt

two_digits : (a b : ℕ) (t : Bool) → (is_first_digit a && is_ascii_digit b) ≡ t → IfSome (cond t (Some (10 * (a - 48) + (b - 48))) None) IsSize
two_digits a b true is = in_range (10 * (a - 48) + (b - 48)) (grind (arith, nat_tests, is)) (grind (arith, nat_tests, is))
two_digits a b false is = tt

at_most : (n : ℕ) (t : Bool) → 1 ≤ n → nat_le n 520 ≡ t → IfSome (cond t (Some n) None) IsSize
at_most n true low is = and_from (nat_le 1 n) (nat_le n 520) (le-leb 1 n low) is
at_most n false low is = tt

three_digits : (a b c : ℕ) (t : Bool) → (is_first_digit a && is_ascii_digit b && is_ascii_digit c) ≡ t
    → IfSome (cond t (sized (100 * (a - 48) + 10 * (b - 48) + (c - 48))) None) IsSize
three_digits a b c true is =
    at_most (100 * (a - 48) + 10 * (b - 48) + (c - 48)) (nat_le (100 * (a - 48) + 10 * (b - 48) + (c - 48)) 520)
    (grind (arith, nat_tests, is)) refl
three_digits a b c false is = tt

size_within : (text : List ℕ) → IfSome (size_of text) IsSize
size_within [] = tt
size_within (a ∷ []) = one_digit a (is_first_digit a) refl
size_within (a ∷ b ∷ []) = two_digits a b (is_first_digit a && is_ascii_digit b) refl
size_within (a ∷ b ∷ c ∷ []) = three_digits a b c (is_first_digit a && is_ascii_digit b && is_ascii_digit c) refl
size_within (a ∷ b ∷ c ∷ d ∷ more) = tt

abbrev IsNamed : Ty → Type 0
IsNamed t = is_named_type t ≡ true

layer_named : (layer : Ty-F Ty) → is_named_layer layer ≡ true → is_named_type (roll-Ty layer) ≡ true
layer_named layer h = ap is_named_layer (out-roll-Ty layer) ∙ h

bytes_named : (size : Option ℕ) → IfSome size IsSize → IfSome (bytes_of size) IsNamed
unfolding roll-Ty denote.Hole.Carrier.roll
bytes_named None h = tt
bytes_named (Some n) h = layer_named (Ty-F.BytesN n) h

-- what is read, if anything is, is such a type
record Reads (read : Option Ty) : Type 0 where
  pub named : IfSome read IsNamed

sized_named : (text : List ℕ) (t : Bool) → Reads (cond t (bytes_of (size_of (drop 5 text))) None)
sized_named text true = record { named = bytes_named (size_of (drop 5 text)) (size_within (drop 5 text)) }
sized_named text false = record { named = tt }

-- one row of a table, and the others
row_named : (t : Bool) (ty : Ty) (others : Option Ty) → IsNamed ty → Reads others → Reads (cond t (Some ty) others)
row_named true ty others h rest = record { named = h }
row_named false ty others h rest = rest

all_named : (text : List ℕ) → Reads (type_of text)
unfolding type_of roll-Ty denote.Hole.Carrier.roll
all_named text =
    row_named _ types.Int _ (layer_named Ty-F.Int refl)
    (row_named _ types.Bool _ (layer_named Ty-F.Bool refl)
    (row_named _ types.Text _ (layer_named Ty-F.Text refl)
    (row_named _ types.Pubkey _ (layer_named Ty-F.Pubkey refl)
    (row_named _ types.Sig _ (layer_named Ty-F.Sig refl)
    (row_named _ types.Datasig _ (layer_named Ty-F.Datasig refl)
    (row_named _ (types.BytesN 1) _ (layer_named (Ty-F.BytesN 1) refl)
    (row_named _ types.Bytes _ (layer_named Ty-F.Bytes refl)
    (sized_named text (starts_with nat_eq text (codes "bytes"))))))))))

pub type_named : (text : List ℕ) → IfSome (type_of text) (λ t. is_named_type t ≡ true)
type_named text = (all_named text).named
