-- A chunk's push is appended.
use Rattle.std.proofs.Common.{◌≡◌, ℕ, ◌+◌, ◌≤◌, Bool, true, false, cond, List, [], ◌∷◌, ◌++◌, length, map, drop, Option, Some, None, Result, Ok, Err, pos, refl, sym, ap, ◌∙◌, subst, arith, length-append}
use Rattle.std.specs.Prelude.{nat_le}
use Rattle.std.specs.List.{list_all}
use Rattle.std.proofs.lemmas.Bool.Decides.{nat_tests}
use Rattle.std.proofs.lemmas.Bool.{false≢true, leb-true}
use Rattle.cash_base.specs.declared.fault.Cause.TheVariants.{Oversize}
use Rattle.cash_base.specs.declared.place.Span.{Span}
use Rattle.cash_base.specs.Failing.{◌>>=◌}
use Rattle.cash_base.specs.Push.{push_prefix}
use Rattle.cash_base.specs.Number.{digits}
use Rattle.element_ops.specs.declared.op.Op2.TheVariants.{Cat}
use Rattle.element_ops.specs.Operation.{Outcome, result2, joined}
use Rattle.form_tables.specs.Forms.{pushed_chunk}
use Rattle.tx_context.specs.World.{World}
use Rattle.opcode_table.specs.Asking.{Asked}
use Rattle.opcode_table.specs.Stack.{Stack, shared}
use Rattle.opcode_table.specs.Stack as vm
use Rattle.opcode_table.specs.Deeds as deeds
use Rattle.opcode_table.specs.Table.{rows}
use Rattle.script_codec.specs.declared.spans.Spanned.{Spanned}
use Rattle.row_runs.specs.Rows.{row}
use Rattle.stack_emitter.specs.Places.{Spot, spot}
use Rattle.stack_emitter.specs.declared.emit.Emitter.{Emitter}
use Rattle.stack_emitter.specs.Codes.{bytes_of, ops_of}
use Rattle.stack_emitter.specs.Correct.{value, Follows, Adds, Agrees}
use Rattle.stack_emitter.proofs.Steps.{asked, stacked, adds_by}
use Rattle.stack_emitter.proofs.Works.{two_agrees}
use Rattle.stack_emitter.proofs.Quiet.{quiet2}
use Rattle.stack_emitter.proofs.Sizes.{bytes_append, ops_append}
use Rattle.stack_pieces.specs.declared.pieces.Piece.{Piece}
use Rattle.stack_pieces.specs.declared.pieces.Piece.TheVariants.{Code, Number}
use Rattle.stack_pieces.specs.Pieces.{rows_of_pieces, chunk_deed}
use Rattle.stack_pieces.proofs.Plans.{is_fine, pieces_done, pieces_follow, pieces_plain}
use Rattle.stack_pieces.proofs.Prefix.{number, prefix_pieces, prefix_made}

-- SWAP CAT CAT
abbrev end_pieces : List Piece
end_pieces = Code 0x7c ∷ Code 0x7e ∷ Code 0x7e ∷ []

-- SIZE, and the push's first bytes of it
abbrev push_pieces : List Piece
push_pieces = Code 0x82 ∷ prefix_pieces end_pieces

-- 2DUP CAT DROP
abbrev pub chunk_pieces : List Piece
chunk_pieces = Code 0x6e ∷ Code 0x7e ∷ Code 0x75 ∷ push_pieces

-- one after the other, where both have room
abbrev both : List ℕ → List ℕ → List ℕ → Outcome
both so_far front chunk = result2 Cat front chunk >>= result2 Cat so_far

joined_end : (asked : Asked) (so_far front chunk : List ℕ) (rest : Stack)
    → pieces_done asked end_pieces (front ∷ chunk ∷ so_far ∷ rest) ≡ (deeds.gives [] (both so_far front chunk) >>= λ es. Ok (es ++ rest))
unfolding rows
joined_end asked so_far front chunk rest = by (joined front chunk)
  where
    again : (out : Outcome) → ((deeds.gives [] out >>= λ es. Ok (es ++ rest)) >>= pieces_done asked []) ≡ (deeds.gives [] out >>= λ es. Ok (es ++ rest))
    again (Ok e) = refl
    again (Err cause) = refl

    by : (out : Outcome) → ((deeds.gives [] out >>= λ es. Ok (es ++ (so_far ∷ rest))) >>= pieces_done asked (Code 0x7e ∷ []))
        ≡ (deeds.gives [] (out >>= result2 Cat so_far) >>= λ es. Ok (es ++ rest))
    by (Ok e) = again (joined so_far e)
    by (Err cause) = refl

-- where the script and the chunk have room together, joining in turn fails as joining the whole
both_is : (so_far front chunk : List ℕ) → both so_far front chunk ≡ result2 Cat so_far (front ++ chunk)
both_is so_far front chunk = by (nat_le (length front + length chunk) 520) refl
  where
    by : (b : Bool) → nat_le (length front + length chunk) 520 ≡ b
        → (◌>>=◌ {A = List ℕ} (cond b (Ok (front ++ chunk)) (Err Oversize)) (result2 Cat so_far)) ≡ joined so_far (front ++ chunk)
    by true e = refl
    by false e = sym (ap (λ b. cond b (Ok (so_far ++ (front ++ chunk))) (Err Oversize))
        (let l = length-append front chunk in too_long (length so_far + length (front ++ chunk)) (grind (arith, nat_tests, e, l))))
      where
        too_long : (n : ℕ) → 521 ≤ n → nat_le n 520 ≡ false
        too_long n h = grind (arith, nat_tests, h)

pushed : (asked : Asked) (so_far chunk : List ℕ) (rest : Stack) → length chunk ≤ 520
    → pieces_done asked push_pieces (chunk ∷ so_far ∷ rest) ≡ (deeds.gives [] (result2 Cat so_far (pushed_chunk chunk)) >>= λ es. Ok (es ++ rest))
unfolding rows
pushed asked so_far chunk rest few =
    prefix_made asked end_pieces (length chunk) (chunk ∷ so_far ∷ rest) few
    ∙ joined_end asked so_far (push_prefix (length chunk)) chunk rest
    ∙ ap (λ o. deeds.gives [] o >>= λ es. Ok (es ++ rest)) (both_is so_far (push_prefix (length chunk)) chunk)

-- the pieces do what slot code's chunk does
chunk_does : (asked : Asked) (stack : Stack)
    → pieces_done asked chunk_pieces stack ≡ vm.on_two (λ a b. deeds.gives [] (result2 Cat a (pushed_chunk b))) stack
unfolding rows
chunk_does asked [] = refl
chunk_does asked (b ∷ []) = refl
chunk_does asked (b ∷ a ∷ rest) = by (nat_le (length a + length b) 520) refl
  where
    by : (t : Bool) → nat_le (length a + length b) 520 ≡ t
        → ((deeds.gives [] (cond t (Ok (a ++ b)) (Err Oversize)) >>= λ es. Ok (es ++ (b ∷ a ∷ rest))) >>= pieces_done asked (Code 0x75 ∷ push_pieces))
        ≡ (deeds.gives [] (joined a (pushed_chunk b)) >>= λ es. Ok (es ++ rest))
    by true e = pushed asked a b rest (let h = leb-true (length a + length b) 520 e in omega (arith, h))
    by false e = sym (ap (λ t. deeds.gives [] (cond t (Ok (a ++ pushed_chunk b)) (Err Oversize)) >>= λ es. Ok (es ++ rest))
        (let l = length-append (push_prefix (length b)) b in too_long (length a + length (pushed_chunk b)) (grind (arith, nat_tests, e, l))))
      where
        too_long : (n : ℕ) → 521 ≤ n → nat_le n 520 ≡ false
        too_long n h = grind (arith, nat_tests, h)

chunk_fine : list_all is_fine chunk_pieces ≡ true
unfolding rows
chunk_fine = refl

pub chunk_follows : (d c : Span) (p : Spot) → 2 ≤ length p.operands
    → Follows (rows_of_pieces d c chunk_pieces) (chunk_deed d) p (spot (None ∷ drop 2 p.operands) p.slots)
chunk_follows d c p few =
    pieces_follow d c chunk_pieces (chunk_deed d) p (spot (None ∷ drop 2 p.operands) p.slots) chunk_fine
    (λ world s rest conditions fits.
    subst (λ r. Agrees (spot (None ∷ drop 2 p.operands) p.slots) rest conditions (chunk_deed d world s) (stacked d c conditions r))
    (sym (chunk_does (asked world) (s.operands ++ (map (value s.env) p.slots ++ rest))))
    (two_agrees d c p.operands p.slots rest conditions (λ a b. result2 Cat a (pushed_chunk b)) s.operands s.env few fits (λ a b. quiet2 Cat a (pushed_chunk b))))

pub adds_chunk : (old new : Emitter) (d c : Span) → 2 ≤ length old.place.operands → new.code.items ≡ old.code.items ++ rows_of_pieces d c chunk_pieces
    → new.place ≡ spot (None ∷ drop 2 old.place.operands) old.place.slots → Adds d c old new (chunk_deed d)
adds_chunk old new d c few code place =
    adds_by d c old new (rows_of_pieces d c chunk_pieces) (chunk_deed d) (spot (None ∷ drop 2 old.place.operands) old.place.slots) code place
    (chunk_follows d c old.place few) (pieces_plain d c chunk_pieces chunk_fine)

chunk_bytes_of : (d c : Span) → bytes_of (rows_of_pieces d c chunk_pieces) ≡ 29
unfolding bytes_of digits
chunk_bytes_of d c = refl

chunk_ops_of : (d c : Span) → ops_of (rows_of_pieces d c chunk_pieces) ≡ 21
unfolding ops_of
chunk_ops_of d c = refl

pub chunk_bytes : (old new : List Spanned) (d c : Span) → new ≡ old ++ rows_of_pieces d c chunk_pieces → bytes_of new ≡ bytes_of old + 29
chunk_bytes old new d c e = ap bytes_of e ∙ bytes_append old (rows_of_pieces d c chunk_pieces) ∙ ap (λ n. bytes_of old + n) (chunk_bytes_of d c)

pub chunk_ops : (old new : List Spanned) (d c : Span) → new ≡ old ++ rows_of_pieces d c chunk_pieces → ops_of new ≡ ops_of old + 21
chunk_ops old new d c e = ap ops_of e ∙ ops_append old (rows_of_pieces d c chunk_pieces) ∙ ap (λ n. ops_of old + n) (chunk_ops_of d c)
