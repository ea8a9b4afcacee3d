-- What a row weighs.
use Rattle.std.proofs.Common.{◌≡◌, ◌≢◌, ◌⊎◌, ℕ, suc, ◌+◌, ◌/◌, ◌%◌, ◌<◌, ◌≤◌, Bool, true, false, List, [], ◌∷◌, ◌++◌, length, Option, Some, None, pos, inl, inr, ap, ◌∙◌, subst, length-append, append-nil, arith, sym}
use Rattle.std.specs.Int.{is_negative}
use Rattle.std.proofs.lemmas.Bool.{cases_eq}
use Rattle.std.proofs.lemmas.Bool.Decides.{nat_tests}
use Rattle.std.proofs.lemmas.Grind.{flat_map-append}
use Rattle.cash_base.specs.declared.place.Span.{Span}
use Rattle.cash_base.specs.Number.{digits, with_sign, minimal_bytes}
use Rattle.cash_base.proofs.Laws.{with_sign_short}
use Rattle.cash_base.proofs.Writing.{digits_step, digits_zero}
use Rattle.script_codec.specs.declared.instr.Instr.{Instr}
use Rattle.script_codec.specs.Reading.{push}
use Rattle.script_codec.specs.declared.spans.Spanned.{Spanned}
use Rattle.script_codec.specs.Spelling.{own_opcode, push_by, minimal_push, spelling, spellings}
use Rattle.row_runs.specs.Rows.{row, instructions}
use Rattle.row_runs.proofs.Turns.{instructions_append}
use Rattle.stack_emitter.specs.declared.emit.Emitter.{Emitter}
use Rattle.stack_emitter.specs.Codes.{bytes_of, ops_of, row_bytes, row_ops}
use Rattle.stack_emitter.specs.Correct.{Costs}

pub bytes_append : (a b : List Spanned) → bytes_of (a ++ b) ≡ bytes_of a + bytes_of b
unfolding bytes_of
bytes_append a b =
    ap (λ l. length (spellings l)) (instructions_append a b)
    ∙ ap length (flat_map-append spelling (instructions a) (instructions b))
    ∙ length-append (spellings (instructions a)) (spellings (instructions b))

one_bytes : (r : Spanned) → bytes_of (r ∷ []) ≡ row_bytes r.instr
unfolding bytes_of
one_bytes r = ap length (append-nil (spelling r.instr))

pub ops_append : (a b : List Spanned) → ops_of (a ++ b) ≡ ops_of a + ops_of b
unfolding ops_of
ops_append [] b = omega arith
ops_append (r ∷ a) b = let e = ops_append a b in omega (arith, e)

one_ops : (r : Spanned) → ops_of (r ∷ []) ≡ row_ops r.instr
unfolding ops_of
one_ops r = omega arith

pub bytes_more : (new old : List Spanned) (instr : Instr) (doing checking : Span) → new ≡ old ++ record { instr = instr; doing = doing; checking = checking } ∷ []
    → bytes_of new ≡ bytes_of old + row_bytes instr
bytes_more new old instr doing checking e =
    ap bytes_of e ∙ bytes_append old (row instr doing checking ∷ []) ∙ ap (λ n. bytes_of old + n) (one_bytes (row instr doing checking))

pub ops_more : (new old : List Spanned) (instr : Instr) (doing checking : Span) → new ≡ old ++ record { instr = instr; doing = doing; checking = checking } ∷ []
    → ops_of new ≡ ops_of old + row_ops instr
ops_more new old instr doing checking e =
    ap ops_of e ∙ ops_append old (row instr doing checking ∷ []) ∙ ap (λ n. ops_of old + n) (one_ops (row instr doing checking))

-- ---- the push of how deep a value lies

push_size : (e : List ℕ) → length e ≤ 2 → length (minimal_push e) ≤ 3
push_size [] h = omega arith
push_size (a ∷ []) h = by_own (own_opcode (a ∷ []))
  where
    by_own : (o : Option ℕ) → length (push_by o (a ∷ [])) ≤ 3
    by_own (Some opcode) = omega arith
    by_own None = omega arith
push_size (a ∷ b ∷ []) h = omega arith
push_size (a ∷ b ∷ c ∷ more) h = absurd (omega (arith, h))

-- a number below 32768 has at most two bytes
number_size : (n : ℕ) → n < 32768 → length (minimal_bytes (pos n)) ≤ 2
number_size n small = by_zero (cases_eq n 0)
  where
    sign : Bool
    sign = is_negative (pos n)

    high : ℕ
    high = n / 256

    by_high : n ≢ 0 → (high ≡ 0) ⊎ (high ≢ 0) → length (with_sign sign (digits 8 n)) ≤ 2
    by_high some (inl none) =
        subst (λ l. length (with_sign sign l) ≤ 2) (sym (digits_step 7 n some ∙ ap (λ l. (n % 256) ∷ l) (digits_zero 7 high none)))
        (let s = with_sign_short sign (n % 256) [] in omega (arith, s))
    by_high some (inr more) =
        let none : high / 256 ≡ 0 = omega (arith, small) in
        subst (λ l. length (with_sign sign l) ≤ 2)
        (sym (digits_step 7 n some ∙ ap (λ l. (n % 256) ∷ l) (digits_step 6 high more ∙ ap (λ l. (high % 256) ∷ l) (digits_zero 6 (high / 256) none))))
        (one_more sign (high % 256) (omega (arith, small)))
      where
        one_more : (sign : Bool) (b : ℕ) → b < 128 → length ((n % 256) ∷ with_sign sign (b ∷ [])) ≤ 2
        one_more true b low = grind (arith, nat_tests, low)
        one_more false b low = grind (arith, nat_tests, low)

    by_zero : (n ≡ 0) ⊎ (n ≢ 0) → length (with_sign sign (digits 8 n)) ≤ 2
    by_zero (inl none) = subst (λ l. length (with_sign sign l) ≤ 2) (sym (digits_zero 8 n none)) (omega arith)
    by_zero (inr some) = by_high some (cases_eq high 0)

pub depth_bytes : (e : List ℕ) (n : ℕ) → n < 32768 → e ≡ minimal_bytes (pos n) → row_bytes (push e) ≤ 3
depth_bytes e n small same = subst (λ b. length (minimal_push b) ≤ 3) (sym same) (push_size (minimal_bytes (pos n)) (number_size n small))

-- ---- costs

-- a value that was moved from where it stands
pub taken_costs : (old new : Emitter) (mid : List Spanned) (r : ℕ) → bytes_of mid ≡ bytes_of old.code.items + r → r ≤ 3
    → bytes_of new.code.items ≡ bytes_of mid + 1 → ops_of mid ≡ ops_of old.code.items + 0 → ops_of new.code.items ≡ ops_of mid + 1
    → length old.place.slots ≡ suc (length new.place.slots) → Costs old new 4 1
taken_costs old new mid r a few b o p l = record { bytes_fit = omega (arith, a, few, b, l); ops_fit = omega (arith, o, p, l) }

-- and was dropped
pub discarded_costs : (old new : Emitter) (mid later : List Spanned) (r : ℕ) → bytes_of mid ≡ bytes_of old.code.items + r → r ≤ 3
    → bytes_of later ≡ bytes_of mid + 1 → bytes_of new.code.items ≡ bytes_of later + 1
    → ops_of mid ≡ ops_of old.code.items + 0 → ops_of later ≡ ops_of mid + 1 → ops_of new.code.items ≡ ops_of later + 1
    → length old.place.slots ≡ suc (length new.place.slots) → Costs old new 4 1
discarded_costs old new mid later r a few b c o p q l = record { bytes_fit = omega (arith, a, few, b, c, l); ops_fit = omega (arith, o, p, q, l) }
