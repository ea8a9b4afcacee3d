-- A line feed behind the pretty text of tokens adds none.
use Rattle.std.proofs.Common.{◌≡◌, ℕ, zero, suc, ◌*◌, Bool, true, false, cond, ◌&&◌, List, [], ◌∷◌, ◌++◌, map, replicate, inl, inr, refl, sym, ap, ap₂, ◌∙◌, subst, append_assoc, append-nil}
use Rattle.json.specs.Token.{Token, begin_object, end_object, begin_array, end_array, key, string, number, boolean, null, bad}
use Rattle.json.specs.Word.{ends_word, word}
use Rattle.json.specs.Lex.{Lexeme, token, comma, colon, string_token, lex, between, fresh, punctuate, tokens}
use Rattle.json.specs.Print.{escape, quoted, token_text, begins, ends, separator, IsPrintable, ArePrintable}
use Rattle.json.specs.Layout.{Last, nothing, bracket, name, value, is_value, gap, depth_at, after, step, pretty_from, pretty}
use Rattle.json.specs.Spaced.{IsGap, AreGaps, print_spaced}
use Rattle.json.proofs.Printed.Strings.{content-escape, lex-escape}
use Rattle.json.proofs.Printed.Numbers.{lex-number, in_word-ended}
use Rattle.json.proofs.Printed.Tokens.{tokens-print_spaced}

-- ---- the layout, as a gap before each token

abbrev with_gaps : Last × ℕ → List Token → List (List ℕ × Token)
with_gaps s [] = []
with_gaps s (t ∷ ts) = (gap s.0 (begins t) (depth_at s.1 t), t) ∷ with_gaps (step s t) ts

value_last : (t : Token) (d : ℕ) → is_value (after t d).0 ≡ ends t
value_last begin_object d = refl
value_last end_object d = refl
value_last begin_array d = refl
value_last end_array d = refl
value_last (key s) d = refl
value_last (string s) d = refl
value_last (number s) d = refl
value_last (boolean b) d = refl
value_last null d = refl
value_last bad d = refl

spaced_is : (s : Last × ℕ) (ts : List Token) → pretty_from s ts ≡ print_spaced (is_value s.0) (with_gaps s ts)
unfolding pretty_from print_spaced
spaced_is s [] = refl
spaced_is s (t ∷ ts) =
    let g = gap s.0 (begins t) (depth_at s.1 t) in
    let rest : pretty_from (step s t) ts ≡ print_spaced (ends t) (with_gaps (step s t) ts) = spaced_is (step s t) ts ∙ ap (λ b. print_spaced b (with_gaps (step s t) ts)) (value_last t (depth_at s.1 t)) in
    append_assoc (separator (is_value s.0) t) (g ++ token_text t) _ ∙ ap (λ l. separator (is_value s.0) t ++ l) (append_assoc g (token_text t) _ ∙ ap (λ l. g ++ (token_text t ++ l)) rest)

spaces : (n : ℕ) → IsGap (replicate n 32)
spaces zero = tt
spaces (suc n) = (inl refl, spaces n)

gap_is : (last : Last) (opens : Bool) (d : ℕ) → IsGap (gap last opens d)
gap_is nothing opens d = tt
gap_is bracket true d = (inr refl, spaces (2 * d))
gap_is bracket false d = tt
gap_is name opens d = (inl refl, tt)
gap_is value opens d = (inr refl, spaces (2 * d))

gaps_are : (s : Last × ℕ) (ts : List Token) → AreGaps (with_gaps s ts)
gaps_are s [] = tt
gaps_are s (t ∷ ts) = (gap_is s.0 (begins t) (depth_at s.1 t), gaps_are (step s t) ts)

tokens_kept : (s : Last × ℕ) (ts : List Token) → map (λ p. p.1) (with_gaps s ts) ≡ ts
tokens_kept s [] = refl
tokens_kept s (t ∷ ts) = ap (λ l. t ∷ l) (tokens_kept (step s t) ts)

-- ---- a line feed behind the text changes no lexeme

abbrev feed : List ℕ
feed = 10 ∷ []

abbrev token_lexemes : Token → List Lexeme
token_lexemes begin_object = token begin_object ∷ []
token_lexemes end_object = token end_object ∷ []
token_lexemes begin_array = token begin_array ∷ []
token_lexemes end_array = token end_array ∷ []
token_lexemes (key s) = token (string s) ∷ colon ∷ []
token_lexemes (string s) = token (string s) ∷ []
token_lexemes (number s) = token (number s) ∷ []
token_lexemes (boolean b) = token (boolean b) ∷ []
token_lexemes null = token null ∷ []
token_lexemes bad = []

lex-quoted : (s r : List ℕ) → lex between (quoted s ++ r) ≡ token (string s) ∷ lex between r
unfolding lex
lex-quoted s r =
    let e = append_assoc (escape s) (34 ∷ []) r in
    ap (λ l. lex between (34 ∷ l)) e ∙ ap₂ (λ o l. token (string_token o) ∷ l) (content-escape s r) (lex-escape s r)

lex-token_text : (t : Token) (r : List ℕ) → IsPrintable t → (ends t ≡ true → ends_word r ≡ true) → lex between (token_text t ++ r) ≡ token_lexemes t ++ lex between r
unfolding lex word
lex-token_text begin_object r h ended = refl
lex-token_text end_object r h ended = refl
lex-token_text begin_array r h ended = refl
lex-token_text end_array r h ended = refl
lex-token_text (key s) r h ended = ap (lex between) (append_assoc (quoted s) (58 ∷ []) r) ∙ lex-quoted s (58 ∷ r)
lex-token_text (string s) r h ended = lex-quoted s r
lex-token_text (number s) r h ended = lex-number s r h (ended refl)
lex-token_text (boolean true) r h ended = ap₂ (λ b l. token (cond b (boolean true) bad) ∷ l) (ended refl) (in_word-ended r (ended refl))
lex-token_text (boolean false) r h ended = ap₂ (λ b l. token (cond b (boolean false) bad) ∷ l) (ended refl) (in_word-ended r (ended refl))
lex-token_text null r h ended = ap₂ (λ b l. token (cond b null bad) ∷ l) (ended refl) (in_word-ended r (ended refl))
lex-token_text bad r h ended = absurd h

lex-separator : (b : Bool) (r : List ℕ) → lex between (cond b (44 ∷ []) [] ++ r) ≡ cond b (comma ∷ []) [] ++ lex between r
unfolding lex
lex-separator true r = refl
lex-separator false r = refl

lex-gap : (g r : List ℕ) → IsGap g → lex between (g ++ r) ≡ lex between r
unfolding lex
lex-gap [] r h = refl
lex-gap (x ∷ g) r (inl e, h) = rw e (lex-gap g r h)
lex-gap (x ∷ g) r (inr e, h) = rw e (lex-gap g r h)

gap_ends : (g r : List ℕ) → IsGap g → ends_word r ≡ true → ends_word (g ++ r) ≡ true
gap_ends [] r h e = e
gap_ends (x ∷ g) r (inl is, h) e = rw is
gap_ends (x ∷ g) r (inr is, h) e = rw is

closes : (g r more : List ℕ) → IsGap g → ends_word (r ++ more) ≡ true → ends_word ((g ++ r) ++ more) ≡ true
closes g r more h e = ap ends_word (append_assoc g r more) ∙ gap_ends g (r ++ more) h e

spaced_ends : (ps : List (List ℕ × Token)) → AreGaps ps → (r : List ℕ) → ends_word r ≡ true → ends_word (print_spaced true ps ++ r) ≡ true
unfolding print_spaced
spaced_ends [] h r e = e
spaced_ends ((g, begin_object) ∷ ps) h r e = refl
spaced_ends ((g, end_object) ∷ ps) h r e = closes g _ r h.0 refl
spaced_ends ((g, begin_array) ∷ ps) h r e = refl
spaced_ends ((g, end_array) ∷ ps) h r e = closes g _ r h.0 refl
spaced_ends ((g, key s) ∷ ps) h r e = refl
spaced_ends ((g, string s) ∷ ps) h r e = refl
spaced_ends ((g, number s) ∷ ps) h r e = refl
spaced_ends ((g, boolean b) ∷ ps) h r e = refl
spaced_ends ((g, null) ∷ ps) h r e = refl
spaced_ends ((g, bad) ∷ ps) h r e = refl

lex-piece : (c : Bool) (g : List ℕ) (t : Token) (r : List ℕ) → IsGap g → IsPrintable t → (ends t ≡ true → ends_word r ≡ true)
    → lex between (separator c t ++ (g ++ (token_text t ++ r))) ≡ cond (c && begins t) (comma ∷ []) [] ++ (token_lexemes t ++ lex between r)
lex-piece c g t r h printable ended =
    lex-separator (c && begins t) _ ∙ ap (λ l. cond (c && begins t) (comma ∷ []) [] ++ l) (lex-gap g (token_text t ++ r) h ∙ lex-token_text t r printable ended)

lex-feed : (c : Bool) (ps : List (List ℕ × Token)) → AreGaps ps → ArePrintable (map (λ p. p.1) ps) → lex between (print_spaced c ps ++ feed) ≡ lex between (print_spaced c ps)
unfolding lex print_spaced ArePrintable
lex-feed c [] gaps h = refl
lex-feed c (p ∷ ps) gaps h =
    let t = p.1 in
    let rest = print_spaced (ends t) ps in
    let regrouped : (separator c t ++ (p.0 ++ (token_text t ++ rest))) ++ feed ≡ separator c t ++ (p.0 ++ (token_text t ++ (rest ++ feed))) =
    append_assoc (separator c t) _ feed ∙ ap (λ l. separator c t ++ l) (append_assoc p.0 _ feed ∙ ap (λ l. p.0 ++ l) (append_assoc (token_text t) rest feed)) in
    let plain : ends t ≡ true → ends_word rest ≡ true = λ e. ap (λ b. ends_word (print_spaced b ps)) e ∙ ap ends_word (sym (append-nil (print_spaced true ps))) ∙ spaced_ends ps gaps.1 [] refl in
    ap (lex between) regrouped
    ∙ lex-piece c p.0 t (rest ++ feed) gaps.0 h.0 (λ e. ap (λ b. ends_word (print_spaced b ps ++ feed)) e ∙ spaced_ends ps gaps.1 feed refl)
    ∙ ap (λ l. cond (c && begins t) (comma ∷ []) [] ++ (token_lexemes t ++ l)) (lex-feed (ends t) ps gaps.1 h.1)
    ∙ sym (lex-piece c p.0 t rest gaps.0 h.0 plain)

pub tokens-pretty : (ts : List Token) → ArePrintable ts → tokens (pretty ts ++ feed) ≡ ts
tokens-pretty ts h =
    let s : Last × ℕ = (nothing, 0) in
    let ps = with_gaps s ts in
    let printable : ArePrintable (map (λ p. p.1) ps) = subst ArePrintable (sym (tokens_kept s ts)) h in
    ap (λ l. tokens (l ++ feed)) (spaced_is s ts)
    ∙ ap (punctuate fresh) (lex-feed false ps (gaps_are s ts) printable)
    ∙ tokens-print_spaced ps (gaps_are s ts) printable
    ∙ tokens_kept s ts
