use Rattle.std.proofs.Common.{◌≡◌, ℕ, List, drop, Option, Some, Ok, Err, sym, ap, ◌∙◌, arith}
use Rattle.std.proofs.lemmas.List.{length-drop}
use Rattle.cash_base.specs.declared.place.Span.{Span}
use Rattle.cash_lexer.specs.declared.piece.Piece.{Piece}
use Rattle.cash_lexer.specs.declared.piece.Piece.TheVariants.{Gap, Known, Flawed}
use Rattle.cash_lexer.specs.Rows.{piece_of}
use Rattle.cash_lexer.specs.Tokens.{fault_of}
use Rattle.cash_lexer.proofs.Found.{gap_len, known_len, flawed_len, first_none, first_known, first_flawed, first_after}
use Rattle.cash_lexer.proofs.lexing.next_from.Goals as goal
use Rattle.cash_lexer.proofs.lexing.next_from.Goals.{In-Some-Gap, In-Some-Known, In-Some-Flawed}

-- what the rest begins with
piece_is : {o p : Option Piece} {rest : List ℕ} (source : List ℕ) (at : ℕ) → o ≡ piece_of rest → rest ≡ drop at source → o ≡ p → piece_of (drop at source) ≡ p
piece_is source at found after is = sym (found ∙ ap piece_of after) ∙ is

gap_is : (c : In-Some-Gap) → piece_of (drop c.loop-len.at c.args.source.now) ≡ Some (Gap c.in-Some-Gap.len)
gap_is c = piece_is c.args.source.now c.loop-len.at c.piece.ensures c.from_place.ensures (c.in-Some-Gap.is ∙ ap Some c.in-Some-Gap.field-0-is)

known_is : (c : In-Some-Known) → piece_of (drop c.loop-len.at c.args.source.now) ≡ Some (Known c.in-Some-Known.kind c.in-Some-Known.len)
known_is c = piece_is c.args.source.now c.loop-len.at c.piece.ensures c.from_place.ensures (c.in-Some-Known.is ∙ ap Some c.in-Some-Known.field-0-is)

flawed_is : (c : In-Some-Flawed) → piece_of (drop c.loop-len.at c.args.source.now) ≡ Some (Flawed c.in-Some-Flawed.flaw c.in-Some-Flawed.len)
flawed_is c = piece_is c.args.source.now c.loop-len.at c.piece.ensures c.from_place.ensures (c.in-Some-Flawed.is ∙ ap Some c.in-Some-Flawed.field-0-is)

pub returns-in-None-clause-value : goal.returns-in-None-clause-value
returns-in-None-clause-value c = first_none c.loop-len.at _ _ (piece_is c.args.source.now c.loop-len.at c.piece.ensures c.from_place.ensures c.in-None.is) c.loop-len.invariant.first

pub overflow_add-at : goal.overflow_add-at
overflow_add-at c =
    let len = gap_len (drop c.loop-len.at c.args.source.now) c.in-Some-Gap.len (gap_is c) in
    omega (arith, length-drop c.loop-len.at c.args.source.now, len, c.loop-len.invariant.within, c.requires.long)

pub loop-len-smaller : goal.loop-len-smaller
loop-len-smaller c =
    let len = gap_len (drop c.loop-len.at c.args.source.now) c.in-Some-Gap.len (gap_is c) in
    omega (arith, length-drop c.loop-len.at c.args.source.now, len, c.loop-len.invariant.within)

pub loop-len-preserved : goal.loop-len-preserved
loop-len-preserved c =
    let len = gap_len (drop c.loop-len.at c.args.source.now) c.in-Some-Gap.len (gap_is c) in
    record {
      within = omega (arith, length-drop c.loop-len.at c.args.source.now, len, c.loop-len.invariant.within);
      first = first_after c.loop-len.at c.args.source.now c.in-Some-Gap.len _ (gap_is c) c.loop-len.invariant.first;
    }

pub span_at-span-requires : goal.span_at-span-requires
span_at-span-requires c =
    let len = known_len (drop c.loop-len.at c.args.source.now) c.in-Some-Known.kind c.in-Some-Known.len (known_is c) in
    omega (arith, length-drop c.loop-len.at c.args.source.now, len, c.loop-len.invariant.within, c.requires.long)

pub returns-in-Some-Known-clause-value : goal.returns-in-Some-Known-clause-value
returns-in-Some-Known-clause-value c =
    ap (λ (span : Span). Ok (Some (record { kind = c.in-Some-Known.kind; span = span }))) c.span_at-span.ensures
    ∙ first_known c.loop-len.at (drop c.loop-len.at c.args.source.now) c.in-Some-Known.kind c.in-Some-Known.len _ (known_is (goal.at.returns-in-Some-Known-clause-value c).In-Some-Known) c.loop-len.invariant.first

pub span_at-requires : goal.span_at-requires
span_at-requires c =
    let len = flawed_len (drop c.loop-len.at c.args.source.now) c.in-Some-Flawed.flaw c.in-Some-Flawed.len (flawed_is c) in
    omega (arith, length-drop c.loop-len.at c.args.source.now, len, c.loop-len.invariant.within, c.requires.long)

pub returns-in-Some-Flawed-clause-value : goal.returns-in-Some-Flawed-clause-value
returns-in-Some-Flawed-clause-value c =
    ap Err (c.fault_of.ensures.value ∙ ap (fault_of c.in-Some-Flawed.flaw) c.span_at.ensures)
    ∙ first_flawed c.loop-len.at (drop c.loop-len.at c.args.source.now) c.in-Some-Flawed.flaw c.in-Some-Flawed.len _ (flawed_is (goal.at.returns-in-Some-Flawed-clause-value c).In-Some-Flawed) c.loop-len.invariant.first
