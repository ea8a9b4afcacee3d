-- The tokens that are found cut their text.
use Rattle.std.proofs.Common.{◌≡◌, ℕ, zero, suc, ◌+◌, ◌-◌, ◌<◌, ◌≤◌, List, [], ◌∷◌, ◌++◌, length, map, take, drop, Option, Some, None, Result, Ok, Err, refl, sym, ap, ◌∙◌, subst, arith, drop-drop, append_assoc, append-nil, zero-add}
use Rattle.std.proofs.lemmas.List.{length-drop, take-append-drop}
use Rattle.std.proofs.Math.Seq.{take-length, take-nil, drop-length}
use Rattle.cash_tree.specs.declared.Token.{Token}
use Rattle.cash_tree.specs.declared.TokenKind.{TokenKind}
use Rattle.cash_lexer.specs.declared.piece.Piece.{Piece}
use Rattle.cash_lexer.specs.declared.piece.Piece.TheVariants.{Gap, Known, Flawed}
use Rattle.cash_lexer.specs.declared.fault.LexFault.{LexFault}
use Rattle.cash_lexer.specs.Rows.{other, piece_of}
use Rattle.cash_lexer.specs.Tokens.{Find, span_at, fault_of, finds, first_of, first_found, with_front, all_of, lexed}
use Rattle.cash_lexer.specs.Laws.{IsGap, IsCut, NextAre}
use Rattle.cash_lexer.proofs.Gaps.{gap_in_front, none_ends}
use Rattle.cash_lexer.proofs.Found.{piece_of-nil, gap_len, known_len, none_here, gap_here, known_here, flawed_here}

abbrev token_at : TokenKind → ℕ → ℕ → Token
token_at kind at len = record { kind = kind; span = span_at at len }

abbrev found_token : Token → Find
found_token token = Ok token

-- ---- the next token

-- what a place and a token after a gap are to a place before the gap
pub record Next (at : ℕ) (text : List ℕ) (token : Token) (more : List Find) : Type 0 where
  pub after : at ≤ token.span.from
  pub some : token.span.from < token.span.to
  pub inside : token.span.to ≤ at + length text
  pub gap : IsGap (drop (token.span.from - at) text) (take (token.span.from - at) text)
  pub begins : piece_of (drop (token.span.from - at) text) ≡ Some (Known token.kind (token.span.to - token.span.from))
  pub rest : more ≡ finds token.span.to (drop (token.span.to - at) text)

-- after some bytes
further_drop : (text : List ℕ) (at len to : ℕ) → at + len ≤ to → drop (to - (at + len)) (drop len text) ≡ drop (to - at) text
further_drop text at len to far =
    let same : len + (to - (at + len)) ≡ to - at = omega arith in
    drop-drop (to - (at + len)) len text ∙ ap (λ n. drop n text) same

taken_further : (k : ℕ) (len : ℕ) (text : List ℕ) → take len text ++ take k (drop len text) ≡ take (len + k) text
taken_further k zero text = ap (λ n. take n text) (sym (zero-add k))
taken_further k (suc len) [] = take-nil k ∙ sym (take-nil (suc len + k))
taken_further k (suc len) (byte ∷ text) =
    let same : suc len + k ≡ suc (len + k) = omega arith in
    ap (λ (xs : List ℕ). byte ∷ xs) (taken_further k len text) ∙ ap (λ n. take n (byte ∷ text)) (sym same)

further_take : (text : List ℕ) (at len to : ℕ) → at + len ≤ to → take len text ++ take (to - (at + len)) (drop len text) ≡ take (to - at) text
further_take text at len to far =
    let same : len + (to - (at + len)) ≡ to - at = omega arith in
    taken_further (to - (at + len)) len text ∙ ap (λ n. take n text) same

next_after_gap : (at len : ℕ) (text : List ℕ) (token : Token) (more : List Find) → piece_of text ≡ Some (Gap len) → Next (at + len) (drop len text) token more → Next at text token more
next_after_gap at len text token more is h =
    let after = h.after in
    let some = h.some in
    let inside = h.inside in
    let fits = gap_len text len is in
    let later : at + len ≤ token.span.to = omega arith in
    record {
      after = omega arith;
      some = some;
      inside = omega (arith, length-drop len text, inside, fits);
      gap = subst (λ (xs : List ℕ). IsGap xs (take (token.span.from - at) text)) (further_drop text at len token.span.from after)
          (subst (IsGap (drop (token.span.from - (at + len)) (drop len text))) (further_take text at len token.span.from after) (gap_in_front text len (token.span.from - (at + len)) is h.gap));
      begins = ap piece_of (sym (further_drop text at len token.span.from after)) ∙ h.begins;
      rest = h.rest ∙ ap (finds token.span.to) (further_drop text at len token.span.to later);
    }

next_here : (at len : ℕ) (kind : TokenKind) (text : List ℕ) (more : List Find) → piece_of text ≡ Some (Known kind len) → more ≡ finds (at + len) (drop len text) → Next at text (token_at kind at len) more
next_here at len kind text more is rest =
    let fits = known_len text kind len is in
    let none : at - at ≡ 0 = omega arith in
    let same : at + len - at ≡ len = omega arith in
    record {
      after = omega arith;
      some = omega (arith, fits);
      inside = omega (arith, fits);
      gap = subst (λ n. IsGap (drop n text) (take n text)) (sym none) (IsGap.nothing text);
      begins = ap (λ n. piece_of (drop n text)) none ∙ is ∙ ap (λ n. Some (Known kind n)) (sym same);
      rest = rest ∙ ap (λ n. finds (at + len) (drop n text)) (sym same);
    }

first_same : {x y : Find} {xs ys : List Find} → x ∷ xs ≡ y ∷ ys → x ≡ y
first_same e = cc

rest_same : {x y : Find} {xs ys : List Find} → x ∷ xs ≡ y ∷ ys → xs ≡ ys
rest_same e = cc

ok_same : {a b : Token} → found_token a ≡ found_token b → a ≡ b
ok_same e = cc

none_first : {x : Find} {xs : List Find} (P : Type 0) → [] ≡ x ∷ xs → P
none_first P e = absurd cc

-- what is found first is the next token
next_step : (n at : ℕ) (text : List ℕ) (token : Token) (more : List Find) (o : Option Piece) → piece_of text ≡ o → length text ≤ suc n
    → ((at' : ℕ) (text' : List ℕ) → length text' ≤ n → finds at' text' ≡ Ok token ∷ more → Next at' text' token more)
    → finds at text ≡ Ok token ∷ more → Next at text token more
next_step n at text token more None is short ih found = none_first (Next at text token more) (sym (none_here at text is) ∙ found)
next_step n at text token more (Some (Gap len)) is short ih found =
    let fits = gap_len text len is in
    next_after_gap at len text token more is (ih (at + len) (drop len text) (omega (arith, length-drop len text, fits)) (sym (gap_here at text len is) ∙ found))
next_step n at text token more (Some (Known kind len)) is short ih found =
    let both = sym (known_here at text kind len is) ∙ found in
    let token_is : token_at kind at len ≡ token = ok_same (first_same both) in
    subst (λ (t : Token). Next at text t more) token_is (next_here at len kind text more is (sym (rest_same both)))
next_step n at text token more (Some (Flawed flaw len)) is short ih found =
    let both : Err (fault_of flaw (span_at at len)) ≡ Ok token = first_same (sym (flawed_here at text flaw len is) ∙ found) in
    absurd cc

next_found : (n at : ℕ) (text : List ℕ) (token : Token) (more : List Find) → length text ≤ n → finds at text ≡ Ok token ∷ more → Next at text token more
next_found zero at [] token more short found = none_first (Next at [] token more) (sym (none_here at [] piece_of-nil) ∙ found)
next_found zero at (byte ∷ rest) token more short found = absurd (omega (arith, short))
next_found (suc n) at text token more short found = next_step n at text token more (piece_of text) refl short (λ at' text' short' found'. next_found n at' text' token more short' found') found

pub next : (at : ℕ) (text : List ℕ) (token : Token) (more : List Find) → finds at text ≡ Ok token ∷ more → Next at text token more
next at text token more found = next_found (length text) at text token more (omega arith) found

-- ---- the end of the text

end_step : (n at : ℕ) (text : List ℕ) (o : Option Piece) → piece_of text ≡ o → length text ≤ suc n
    → ((at' : ℕ) (text' : List ℕ) → length text' ≤ n → finds at' text' ≡ [] → IsGap [] text') → finds at text ≡ [] → IsGap [] text
end_step n at text None is short ih found = subst (IsGap []) (sym (none_ends text is)) (IsGap.nothing [])
end_step n at text (Some (Gap len)) is short ih found =
    let fits = gap_len text len is in
    let rest = ih (at + len) (drop len text) (omega (arith, length-drop len text, fits)) (sym (gap_here at text len is) ∙ found) in
    let left = drop len text in
    let all : take (length left) left ≡ left = take-length left in
    let end : drop (length left) left ≡ [] = drop-length left in
    let whole : take len text ++ take (length left) left ≡ text = ap (λ (xs : List ℕ). take len text ++ xs) all ∙ take-append-drop len text in
    let gap_left : IsGap (drop (length left) left) (take (length left) left) =
    subst (λ (xs : List ℕ). IsGap xs (take (length left) left)) (sym end) (subst (IsGap []) (sym all) rest) in
    subst (IsGap []) whole (subst (λ (xs : List ℕ). IsGap xs (take len text ++ take (length left) left)) end (gap_in_front text len (length left) is gap_left))
end_step n at text (Some (Known kind len)) is short ih found = none_first (IsGap [] text) (sym found ∙ known_here at text kind len is)
end_step n at text (Some (Flawed flaw len)) is short ih found = none_first (IsGap [] text) (sym found ∙ flawed_here at text flaw len is)

end_found : (n at : ℕ) (text : List ℕ) → length text ≤ n → finds at text ≡ [] → IsGap [] text
end_found zero at [] short found = IsGap.nothing []
end_found zero at (byte ∷ rest) short found = absurd (omega (arith, short))
end_found (suc n) at text short found = end_step n at text (piece_of text) refl short (λ at' text' short' found'. end_found n at' text' short' found') found

-- ---- all tokens

-- finds that are tokens alone
abbrev AreAll : List Token → List Find → Type 0
AreAll tokens found = found ≡ map found_token tokens

front_is : (token : Token) (r : Result (List Token) LexFault) (tokens : List Token) → with_front (token ∷ []) r ≡ Ok tokens → (rest : List Token) × (r ≡ Ok rest) × (tokens ≡ token ∷ rest)
front_is token (Ok rest) tokens is = let same : token ∷ rest ≡ tokens = cc in (rest, refl, sym same)
front_is token (Err fault) tokens is = absurd cc

all_are : (found : List Find) (tokens : List Token) → all_of found ≡ Ok tokens → AreAll tokens found
all_are [] tokens is = let none : [] ≡ tokens = cc in ap (map found_token) none
all_are (Ok token ∷ more) tokens is =
    let parts = front_is token (all_of more) tokens is in
    let rest = all_are more parts.0 parts.1 in
    ap (λ (xs : List Find). Ok token ∷ xs) rest ∙ ap (map found_token) (sym parts.2)
all_are (Err fault ∷ more) tokens is = absurd cc

cut : (tokens : List Token) (at : ℕ) (text : List ℕ) → AreAll tokens (finds at text) → IsCut at tokens text
cut [] at text is = end_found (length text) at text (omega arith) is
cut (token ∷ tokens) at text is =
    let h = next at text token (map found_token tokens) is in
    (record { after = h.after; some = h.some; inside = h.inside; gap = h.gap; begins = h.begins }, cut tokens token.span.to (drop (token.span.to - at) text) (sym h.rest))

pub lexed_cuts : (source : List ℕ) (tokens : List Token) → lexed source ≡ Ok tokens → IsCut 0 tokens source
lexed_cuts source tokens is = cut tokens 0 source (all_are (finds 0 source) tokens is)

next_are : (tokens : List Token) (at : ℕ) (source : List ℕ) → AreAll tokens (finds at (drop at source)) → NextAre at tokens source
next_are [] at source is = ap first_of is
next_are (token ∷ tokens) at source is =
    let h = next at (drop at source) token (map found_token tokens) is in
    let after = h.after in
    let some = h.some in
    let same : at + (token.span.to - at) ≡ token.span.to = omega arith in
    let there : drop (token.span.to - at) (drop at source) ≡ drop token.span.to source = drop-drop (token.span.to - at) at source ∙ ap (λ n. drop n source) same in
    (ap first_of is, next_are tokens token.span.to source (sym (h.rest ∙ ap (finds token.span.to) there)))

pub lexed_next : (source : List ℕ) (tokens : List Token) → lexed source ≡ Ok tokens → NextAre 0 tokens source
lexed_next source tokens is = next_are tokens 0 source (all_are (finds 0 source) tokens is)

-- ---- one step of the code

first_ok : (found : List Find) (token : Token) → first_of found ≡ Ok (Some token) → (more : List Find) × (found ≡ found_token token ∷ more)
first_ok [] token is = let none : None ≡ Some token = cc in absurd cc
first_ok (Ok other ∷ more) token is = let same : other ≡ token = cc in (more, ap (λ (t : Token). found_token t ∷ more) same)
first_ok (Err fault ∷ more) token is = absurd cc

-- the token that stands next ends after its place, within the source
pub token_ends : (at : ℕ) (source : List ℕ) (token : Token) → at ≤ length source → first_found at (drop at source) ≡ Ok (Some token) → (at < token.span.to) × (token.span.to ≤ length source)
token_ends at source token within is =
    let first = first_ok (finds at (drop at source)) token is in
    let h = next at (drop at source) token first.0 first.1 in
    let after = h.after in
    let some = h.some in
    let inside = h.inside in
    (omega arith, omega (arith, length-drop at source))

with_one : (tokens : List Token) (token : Token) (r : Result (List Token) LexFault) → with_front tokens (with_front (token ∷ []) r) ≡ with_front (tokens ++ token ∷ []) r
with_one tokens token (Ok rest) = ap Ok (sym (append_assoc tokens (token ∷ []) rest))
with_one tokens token (Err fault) = refl

-- and those in front of it, with it, stand in front of those after it
pub one_more_token : (tokens : List Token) (at : ℕ) (source : List ℕ) (token : Token) (r : Result (List Token) LexFault) → first_found at (drop at source) ≡ Ok (Some token)
    → with_front tokens (all_of (finds at (drop at source))) ≡ r → with_front (tokens ++ token ∷ []) (all_of (finds token.span.to (drop token.span.to source))) ≡ r
one_more_token tokens at source token r is whole =
    let first = first_ok (finds at (drop at source)) token is in
    let h = next at (drop at source) token first.0 first.1 in
    let after = h.after in
    let some = h.some in
    let same : at + (token.span.to - at) ≡ token.span.to = omega arith in
    let there : drop (token.span.to - at) (drop at source) ≡ drop token.span.to source = drop-drop (token.span.to - at) at source ∙ ap (λ n. drop n source) same in
    let more : first.0 ≡ finds token.span.to (drop token.span.to source) = h.rest ∙ ap (finds token.span.to) there in
    sym (with_one tokens token (all_of (finds token.span.to (drop token.span.to source))))
    ∙ ap (λ (found : List Find). with_front tokens (with_front (token ∷ []) (all_of found))) (sym more)
    ∙ ap (λ (found : List Find). with_front tokens (all_of found)) (sym first.1) ∙ whole

no_more : (tokens : List Token) (found : List Find) → first_of found ≡ Ok None → with_front tokens (all_of found) ≡ Ok tokens
no_more tokens [] is = ap Ok (append-nil tokens)
no_more tokens (Ok token ∷ more) is = let none : Some token ≡ None = cc in absurd cc
no_more tokens (Err fault ∷ more) is = absurd cc

-- where no token is left these are all
pub all_tokens : (tokens : List Token) (at : ℕ) (source : List ℕ) (r : Result (List Token) LexFault) → first_found at (drop at source) ≡ Ok None
    → with_front tokens (all_of (finds at (drop at source))) ≡ r → r ≡ Ok tokens
all_tokens tokens at source r is whole = sym whole ∙ no_more tokens (finds at (drop at source)) is

faulty : (tokens : List Token) (found : List Find) (fault : LexFault) → first_of found ≡ Err fault → with_front tokens (all_of found) ≡ Err fault
faulty tokens [] fault is = absurd cc
faulty tokens (Ok token ∷ more) fault is = absurd cc
faulty tokens (Err other ∷ more) fault is = let same : other ≡ fault = cc in ap Err same

-- a fault that stands next is that of the whole
pub first_fault : (tokens : List Token) (at : ℕ) (source : List ℕ) (fault : LexFault) (r : Result (List Token) LexFault) → first_found at (drop at source) ≡ Err fault
    → with_front tokens (all_of (finds at (drop at source))) ≡ r → r ≡ Err fault
first_fault tokens at source fault r is whole = sym whole ∙ faulty tokens (finds at (drop at source)) fault is
