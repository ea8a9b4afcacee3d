-- The contracts and the spend files of the workload: each contract has a number, from which its text and its fifty spend files are
-- drawn.
use Rattle.std.specs.Prelude.{ℕ, zero, suc, ◌+◌, ◌-◌, ◌*◌, ◌%◌, ◌^◌, nat_lt, ◌==◌, Bool, ◌&&◌, if◌then◌else◌, List, [], ◌∷◌, ◌++◌, codes}
use Rattle.std.specs.Fmt.{decimal}
use Rattle.generated_spends.specs.Draws.{Drawn, draw}

abbrev pub first_state : ℕ → ℕ
first_state k = (k * 2862933555777941757 + 3037000493) % 2 ^ 64

-- ---- the text of a contract

-- a statement before a number, and what stands behind the number
unfoldable pub numbered : ℕ → ℕ → List ℕ
numbered choice number =
    if choice == 2 then codes "r = r * " ++ decimal number ++ codes "; "
    else if choice == 3 then codes "if (b < c) { r = r + " ++ decimal number ++ codes "; } else { r = r - " ++ decimal number ++ codes "; } "
    else codes "require(r != " ++ decimal number ++ codes "); "

unfoldable pub unnumbered : ℕ → List ℕ
unnumbered choice =
    if choice == 0 then codes "r = r + b; "
    else if choice == 1 then codes "r = r - c; "
    else if choice == 5 then codes "r = r / c; "
    else codes "r = r % b; "

abbrev pub has_number : ℕ → Bool
has_number choice = nat_lt 1 choice && nat_lt choice 5

-- a statement by its choice, and a number where it has one
abbrev pub piece_of : Drawn ℕ → Drawn (List ℕ)
piece_of choice =
    if has_number choice.value
    then (let number = draw 10 choice.state in record { value = numbered choice.value number.value; state = number.state })
    else record { value = unnumbered choice.value; state = choice.state }

unfoldable pub piece : ℕ → Drawn (List ℕ)
piece x = piece_of (draw 7 x)

-- so many of them
unfoldable pub pieces : ℕ → ℕ → Drawn (List ℕ)
pieces zero x = record { value = []; state = x }
pieces (suc n) x = let rest = pieces n (piece x).state in record { value = (piece x).value ++ rest.value; state = rest.state }

unfoldable pub head : List ℕ
head = codes "contract W(int a) { function f(int b, int c) { int r = a; "

unfoldable pub last_check : ℕ → List ℕ
last_check number = codes "require(r < " ++ decimal number ++ codes "); } }"

-- six of them, and a last check
abbrev pub contract_text : ℕ → Drawn (List ℕ)
contract_text x = let six = pieces 6 x in let last = draw 100 six.state in
    record { value = head ++ six.value ++ last_check last.value; state = last.state }

-- ---- the spend files

-- a number from -10 to 10, drawn as one from 0 to 20
unfoldable pub signed : ℕ → List ℕ
signed n = if nat_lt n 10 then codes "-" ++ decimal (10 - n) else decimal (n - 10)

abbrev pub spend_text : ℕ → ℕ → ℕ → List ℕ
spend_text a b c = codes "{\"constructor\":[" ++ signed a ++ codes "],\"arguments\":[" ++ signed b ++ codes "," ++ signed c ++ codes "]}"

unfoldable pub spend : ℕ → Drawn (List ℕ)
spend x = let a = draw 21 x in let b = draw 21 a.state in let c = draw 21 b.state in
    record { value = spend_text a.value b.value c.value; state = c.state }

-- so many of them
unfoldable pub spends : ℕ → ℕ → List (List ℕ)
spends zero x = []
spends (suc n) x = (spend x).value ∷ spends n (spend x).state

-- ---- a contract with its spend files

pub record Generated : Type 0 where
  pub source : List ℕ
  pub spends : List (List ℕ)

abbrev pub generated : ℕ → Generated
generated k = let text = contract_text (first_state k) in record { source = text.value; spends = spends 50 text.state }
