-- How far comments and strings reach, one byte after the other.
use Rattle.std.proofs.Common.{◌≡◌, ℕ, ◌+◌, ◌<◌, ◌≤◌, Bool, true, false, cond, List, [], ◌∷◌, length, get_or, drop, Option, Some, None, refl, sym, ap, ◌∙◌, arith, add-one}
use Rattle.std.specs.Prelude.{nat_eq, codes, ◌==◌, ◌&&◌, if◌then◌else◌}
use Rattle.std.specs.List.{starts_with}
use Rattle.std.specs.Option.{option_map}
use Rattle.std.proofs.Math.Seq.{drop-cons}
use Rattle.std.proofs.lemmas.List.{drop_all}
use Rattle.cash_lexer.specs.Gap.{closing_len}
use Rattle.cash_lexer.specs.Rows.{is_escapable, is_line_end, string_len}

-- one byte and then so many
shift_twice : (o : Option ℕ) (i : ℕ) → option_map (λ n. n + i) (option_map (λ n. n + 1) o) ≡ option_map (λ n. n + (i + 1)) o
shift_twice None i = refl
shift_twice (Some n) i = ap Some (omega arith)

-- the byte at a place, and those after it
opened : (text : List ℕ) (i : ℕ) → i < length text → drop i text ≡ get_or text i 0 ∷ drop (i + 1) text
opened text i within = drop-cons text i 0 within ∙ ap (λ n. get_or text i 0 ∷ drop n text) (sym (add-one i))

-- ---- comments

closing_cases : (t : Bool) (o : Option ℕ) (i : ℕ) → option_map (λ n. n + i) (cond t (Some 2) (option_map (λ n. n + 1) o)) ≡ cond t (Some (2 + i)) (option_map (λ n. n + (i + 1)) o)
closing_cases true o i = refl
closing_cases false o i = shift_twice o i

closing_at : (text : List ℕ) (i : ℕ) → i < length text → option_map (λ n. n + i) (closing_len (drop i text)) ≡ cond (starts_with nat_eq (drop i text) (codes "*/")) (Some (2 + i)) (option_map (λ n. n + (i + 1)) (closing_len (drop (i + 1) text)))
closing_at text i within =
    let open_here = opened text i within in
    ap (λ t. option_map (λ n. n + i) (closing_len t)) open_here
    ∙ closing_cases (starts_with nat_eq (get_or text i 0 ∷ drop (i + 1) text) (codes "*/")) (closing_len (drop (i + 1) text)) i
    ∙ ap (λ t. cond (starts_with nat_eq t (codes "*/")) (Some (2 + i)) (option_map (λ n. n + (i + 1)) (closing_len (drop (i + 1) text)))) (sym open_here)

-- no `*/` here: it is sought after
pub closing_step : (text : List ℕ) (i : ℕ) (r : Option ℕ) → i < length text → starts_with nat_eq (drop i text) (codes "*/") ≡ false
    → option_map (λ n. n + i) (closing_len (drop i text)) ≡ r → option_map (λ n. n + (i + 1)) (closing_len (drop (i + 1) text)) ≡ r
closing_step text i r within other is = sym (closing_at text i within ∙ ap (λ t. cond t (Some (2 + i)) (option_map (λ n. n + (i + 1)) (closing_len (drop (i + 1) text)))) other) ∙ is

-- it is here
pub closing_found : (text : List ℕ) (i : ℕ) (r : Option ℕ) → i < length text → starts_with nat_eq (drop i text) (codes "*/") ≡ true
    → option_map (λ n. n + i) (closing_len (drop i text)) ≡ r → Some (i + 2) ≡ r
closing_found text i r within here is =
    let two : i + 2 ≡ 2 + i = omega arith in
    ap Some two ∙ sym (closing_at text i within ∙ ap (λ t. cond t (Some (2 + i)) (option_map (λ n. n + (i + 1)) (closing_len (drop (i + 1) text)))) here) ∙ is

-- it is nowhere
pub closing_none : (text : List ℕ) (i : ℕ) (r : Option ℕ) → length text ≤ i → option_map (λ n. n + i) (closing_len (drop i text)) ≡ r → None ≡ r
closing_none text i r past is = ap (λ t. option_map (λ n. n + i) (closing_len t)) (sym (drop_all i text past)) ∙ is

-- ---- strings

-- The same as `string_len`, byte for byte: `escaped` says whether a backslash stands in front that is not itself escaped.
abbrev pub walked_len : ℕ → Bool → List ℕ → Option ℕ
walked_len quote escaped [] = None
walked_len quote escaped (byte ∷ rest) =
    if escaped && is_escapable byte then option_map (λ n. n + 1) (walked_len quote false rest)
    else (if byte == quote then Some 1
    else (if is_line_end byte then None
    else option_map (λ n. n + 1) (walked_len quote (byte == 92) rest)))

last_cases : (a b : Bool) → cond a (Some 1) (cond b None (option_map (λ n. n + 1) None)) ≡ cond a (Some 1) None
last_cases true b = refl
last_cases false true = refl
last_cases false false = refl

add_twice : (o : Option ℕ) → option_map (λ n. n + 1) (option_map (λ n. n + 1) o) ≡ option_map (λ n. n + 2) o
add_twice None = refl
add_twice (Some n) = ap Some (omega arith)

escape_cases : (t : Bool) (w v : Option ℕ) → option_map (λ n. n + 1) (cond t (option_map (λ n. n + 1) w) v) ≡ cond t (option_map (λ n. n + 2) w) (option_map (λ n. n + 1) v)
escape_cases true w v = add_twice w
escape_cases false w v = refl

pub walked_is : (quote : ℕ) (text : List ℕ) → walked_len quote false text ≡ string_len quote text
walked_is quote [] = refl
walked_is quote (byte ∷ []) = last_cases (byte == quote) (is_line_end byte)
walked_is quote (byte ∷ next ∷ rest) =
    let after = walked_is quote rest in
    let next_too = walked_is quote (next ∷ rest) in
    let escape = byte == 92 && is_escapable next in
    ap (λ (o : Option ℕ). cond (byte == quote) (Some 1) (cond (is_line_end byte) None o)) (
    escape_cases escape (walked_len quote false rest) (walked_len quote false (next ∷ rest))
    ∙ ap (λ (o : Option ℕ). cond escape (option_map (λ n. n + 2) o) (option_map (λ n. n + 1) (walked_len quote false (next ∷ rest)))) after
    ∙ ap (λ (o : Option ℕ). cond escape (option_map (λ n. n + 2) (string_len quote rest)) (option_map (λ n. n + 1) o)) next_too)

string_cases : (a b c : Bool) (o p : Option ℕ) (i : ℕ) → option_map (λ n. n + i) (cond a (option_map (λ n. n + 1) o) (cond b (Some 1) (cond c None (option_map (λ n. n + 1) p))))
    ≡ cond a (option_map (λ n. n + (i + 1)) o) (cond b (Some (1 + i)) (cond c None (option_map (λ n. n + (i + 1)) p)))
string_cases true b c o p i = shift_twice o i
string_cases false true c o p i = refl
string_cases false false true o p i = refl
string_cases false false false o p i = shift_twice p i

pub string_at : (quote : ℕ) (escaped : Bool) (text : List ℕ) (i : ℕ) → i < length text → option_map (λ n. n + i) (walked_len quote escaped (drop i text))
    ≡ cond (escaped && is_escapable (get_or text i 0)) (option_map (λ n. n + (i + 1)) (walked_len quote false (drop (i + 1) text)))
    (cond (get_or text i 0 == quote) (Some (1 + i))
    (cond (is_line_end (get_or text i 0)) None (option_map (λ n. n + (i + 1)) (walked_len quote (get_or text i 0 == 92) (drop (i + 1) text)))))
string_at quote escaped text i within =
    ap (λ t. option_map (λ n. n + i) (walked_len quote escaped t)) (opened text i within)
    ∙ string_cases (escaped && is_escapable (get_or text i 0)) (get_or text i 0 == quote) (is_line_end (get_or text i 0)) (walked_len quote false (drop (i + 1) text)) (walked_len quote (get_or text i 0 == 92) (drop (i + 1) text)) i

-- after the last byte nothing closes
pub walked_none : (quote : ℕ) (escaped : Bool) (text : List ℕ) (i : ℕ) (r : Option ℕ) → length text ≤ i → option_map (λ n. n + i) (walked_len quote escaped (drop i text)) ≡ r → None ≡ r
walked_none quote escaped text i r past is = ap (λ t. option_map (λ n. n + i) (walked_len quote escaped t)) (sym (drop_all i text past)) ∙ is
