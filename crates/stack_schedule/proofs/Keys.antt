-- Counts of keys, through choices and to the ends of paths.
use Rattle.std.proofs.Common.{◌≡◌, Bool, true, false, not, List, [], ◌∷◌, ◌++◌, refl, sym, ap, ◌∙◌, subst}
use Rattle.std.specs.Prelude.{◌||◌}
use Rattle.std.proofs.lemmas.Bool.{and_from}
use Rattle.cash_base.specs.declared.place.Slot.{Slot}
use Rattle.cash_base.specs.declared.place.Span.{Span}
use Rattle.script_codec.specs.declared.spans.Spanned.{Spanned}
use Rattle.bch_vm.specs.Law.{are_keys_known, asks_for_keys}
use Rattle.row_runs.specs.Rows.{instructions}
use Rattle.row_runs.proofs.Turns.{instructions_append}
use Rattle.stack_emitter.specs.Places.{Spot, spot}
use Rattle.stack_emitter.specs.declared.emit.Emitter.{Emitter}
use Rattle.stack_emitter.specs.Correct.{Deed, Adds, Ends, nothing}
use Rattle.stack_emitter.proofs.Choose.{opens, flips, closes}
use Rattle.stack_steps.specs.Steps.{KeysKnown}
use Rattle.stack_steps.proofs.Adding.{or_right, plain_known, known_then, adds_keys, top_none}

-- in this code each check of several signatures has its count
abbrev pub Counted : Emitter → Type 0
Counted now = are_keys_known false (instructions now.code.items) ≡ true

rows_counted : (old new : Emitter) (rows : List Spanned) → new.code.items ≡ old.code.items ++ rows → ((x : Bool) → are_keys_known x (instructions rows) ≡ true)
    → Counted old → Counted new
rows_counted old new rows grown all k =
    ap (λ l. are_keys_known false (instructions l)) grown ∙ ap (are_keys_known false) (instructions_append old.code.items rows)
    ∙ known_then (instructions old.code.items) (instructions rows) false all k

-- IF, ELSE and ENDIF ask for none
row_counted : (old new : Emitter) (r : Spanned) → new.code.items ≡ old.code.items ++ r ∷ [] → asks_for_keys r.instr ≡ false → Counted old → Counted new
row_counted old new r grown asks k =
    rows_counted old new (r ∷ []) grown (λ x. and_from (x || not (asks_for_keys r.instr)) true (or_right x (not (asks_for_keys r.instr)) (ap not asks)) refl) k

pub opened_keys : (old new : Emitter) (d c : Span) (slots : List Slot) → new.code.items ≡ old.code.items ++ opens d c ∷ [] → new.place ≡ spot [] slots → Counted old → KeysKnown new
opened_keys old new d c slots grown at k =
    record { known = row_counted old new (opens d c) grown refl k; top = top_none new [] (ap (λ (p : Spot). p.operands) at) tt }

pub flipped_keys : (old new : Emitter) (d c : Span) (slots : List Slot) → new.code.items ≡ old.code.items ++ flips d c ∷ [] → new.place ≡ spot [] slots → Counted old → KeysKnown new
flipped_keys old new d c slots grown at k =
    record { known = row_counted old new (flips d c) grown refl k; top = top_none new [] (ap (λ (p : Spot). p.operands) at) tt }

pub closed_keys : (old new : Emitter) (d c : Span) (slots : List Slot) → new.code.items ≡ old.code.items ++ closes d c ∷ [] → new.place ≡ spot [] slots → Counted old → KeysKnown new
closed_keys old new d c slots grown at k =
    record { known = row_counted old new (closes d c) grown refl k; top = top_none new [] (ap (λ (p : Spot). p.operands) at) tt }

pub closed_counted : (old new : Emitter) (d c : Span) → new.code.items ≡ old.code.items ++ closes d c ∷ [] → Counted old → Counted new
closed_counted old new d c grown k = row_counted old new (closes d c) grown refl k

pub settled_keys : (c : Span) (old new : Emitter) (slots : List Slot) → Adds c c old new nothing → new.place ≡ spot [] slots → KeysKnown old → KeysKnown new
settled_keys c old new slots x at k = adds_keys c c old new nothing x (top_none new [] (ap (λ (p : Spot). p.operands) at) tt) k

pub ended_counted : (c : Span) (old new : Emitter) (deed : Deed) → Ends c old new deed → Counted old → Counted new
ended_counted c old new deed x k = rows_counted old new x.rows x.grown (λ before. plain_known c c x.rows before x.plain) k

pub keys_from : (a b : Emitter) → a ≡ b → KeysKnown b → KeysKnown a
keys_from a b e k = subst KeysKnown (sym e) k
