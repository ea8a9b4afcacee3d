-- What a file of arguments is read as are elements.
use Rattle.std.proofs.Common.{◌≡◌, ℕ, suc, ◌≤◌, ◌==◌, Bool, true, false, cond, List, [], ◌∷◌, length, Result, Ok, Err, refl, ap, subst, arith}
use Rattle.std.specs.Prelude.{nat_le, nat_lt, codes}
use Rattle.std.specs.List.{AllByRecursion}
use Rattle.std.specs.Str.{bytes_eq}
use Rattle.std.proofs.lemmas.Bool.Decides.{nat_tests}
use Rattle.hex.specs.Hex.{decode_of}
use Rattle.hex.specs.declared.error.FromHexError.{FromHexError}
use Rattle.cash_base.specs.Element.{IsElement}
use Rattle.cash_base.specs.Number.{IsBytes}
use Rattle.cash_base.specs.Failing.{◌>>=◌}
use Rattle.spend_debug.specs.declared.spend_lines.LineFault.{LineFault}
use Rattle.spend_debug.specs.declared.spend_lines.LineFault.TheVariants.{BadHex, Range, TooMany}
use Rattle.spend_debug.specs.SpendLines.{Line, lines, spelled_element, text_element, line_element, elements_of, spend_elements}
use Rattle.spend_debug.proofs.HexBytes.{ok_list, decoded}

sized_cases : (fits : Bool) (bytes e : List ℕ) → nat_le (length bytes) 520 ≡ fits → IsBytes bytes
    → cond fits (Ok bytes) (Err Range) ≡ Ok e → IsElement e
sized_cases false bytes e test small read = absurd cc
sized_cases true bytes e test small read =
    let size : length bytes ≤ 520 = grind (arith, nat_tests, test) in
    let is : bytes ≡ e = ap (λ (r : Result (List ℕ) LineFault). ok_list r) read in
    subst (λ (x : List ℕ). IsElement x) is (record { size = size; bytes = small })

spelled_cases : (r : Result (List ℕ) FromHexError) (e : List ℕ) → ((bs : List ℕ) → r ≡ Ok bs → IsBytes bs)
    → spelled_element r ≡ Ok e → IsElement e
spelled_cases (Ok bytes) e small read = sized_cases (nat_le (length bytes) 520) bytes e refl (small bytes refl) read
spelled_cases (Err fault) e small read = absurd cc

text_cases : (dash empty : Bool) (text e : List ℕ)
    → cond dash (Ok []) (cond empty (Err BadHex) (spelled_element (decode_of text))) ≡ Ok e → IsElement e
text_cases true empty text e read =
    let is : [] ≡ e = ap (λ (r : Result (List ℕ) LineFault). ok_list r) read in
    subst (λ (x : List ℕ). IsElement x) is (record { size = omega arith; bytes = tt })
text_cases false true text e read = absurd cc
text_cases false false text e read = spelled_cases (decode_of text) e (λ bs. decoded text bs) read

line_cases : (ended : Bool) (text e : List ℕ) → cond ended (text_element text) (Err BadHex) ≡ Ok e → IsElement e
line_cases true text e read = text_cases (bytes_eq text (codes "-")) (length text == 0) text e read
line_cases false text e read = absurd cc

all_cases : (first : Result (List ℕ) LineFault) (further : Result (List (List ℕ)) LineFault) (es : List (List ℕ))
    (n : ℕ)
    → ((e : List ℕ) → first ≡ Ok e → IsElement e)
    → ((xs : List (List ℕ)) → further ≡ Ok xs → AllByRecursion IsElement xs × (length xs ≡ n))
    → (first >>= λ e. further >>= λ xs. Ok (e ∷ xs)) ≡ Ok es → AllByRecursion IsElement es × (length es ≡ suc n)
all_cases (Err fault) further es n one later read = absurd cc
all_cases (Ok e) (Err fault) es n one later read = absurd cc
all_cases (Ok e) (Ok xs) es n one later read =
    let is : (e ∷ xs) ≡ es = ap (λ (r : Result (List (List ℕ)) LineFault). ok_list r) read in
    let rest = later xs refl in
    subst (λ (all : List (List ℕ)). AllByRecursion IsElement all × (length all ≡ suc n)) is
    ((one e refl, rest.0), ap (λ (k : ℕ). suc k) rest.1)

all_elements : (ls : List Line) (es : List (List ℕ))
    → elements_of ls ≡ Ok es → AllByRecursion IsElement es × (length es ≡ length ls)
all_elements [] es read =
    let is : [] ≡ es = ap (λ (r : Result (List (List ℕ)) LineFault). ok_list r) read in
    subst (λ (all : List (List ℕ)). AllByRecursion IsElement all × (length all ≡ 0)) is (tt, refl)
all_elements (line ∷ further) es read =
    all_cases (line_element line) (elements_of further) es (length further) (λ e. line_cases line.ended line.text e)
    (λ xs. all_elements further xs) read

few_cases : (many : Bool) (ls : List Line) (es : List (List ℕ)) → nat_lt 16 (length ls) ≡ many
    → cond many (Err TooMany) (elements_of ls) ≡ Ok es → AllByRecursion IsElement es × (length es ≤ 16)
few_cases true ls es test read = absurd cc
few_cases false ls es test read =
    let all = all_elements ls es read in
    let few : length ls ≤ 16 = grind (arith, nat_tests, test) in
    let is : length es ≡ length ls = all.1 in
    (all.0, omega arith)

pub elements_read : (bytes : List ℕ) (es : List (List ℕ))
    → spend_elements bytes ≡ Ok es → AllByRecursion IsElement es × (length es ≤ 16)
elements_read bytes es read = few_cases (nat_lt 16 (length (lines bytes))) (lines bytes) es refl read
