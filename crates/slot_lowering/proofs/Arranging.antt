-- Rows that are arranged as statements are.
use Rattle.std.proofs.Common.{◌≡◌, Bool, true, false, List, [], ◌∷◌, ◌++◌, map, refl, sym, ap, subst}
use Rattle.std.specs.Prelude.{Option, Some, None}
use Rattle.std.proofs.lemmas.List.{append-nil}
use Rattle.cash_base.specs.declared.place.Span.{Span}
use Rattle.cash_base.specs.declared.place.Slot.{Slot}
use Rattle.cash_tree.specs.declared.Ty.{Ty}
use Rattle.cash_tree.specs.declared.Stmt.{Stmt}
use Rattle.cash_tree.specs.declared.StmtKind.{StmtKind}
use Rattle.cash_tree.specs.declared.StmtKind.TheVariants as stmts
use Rattle.type_tables.specs.Tables.{TypedExpr}
use Rattle.slot_code.specs.declared.slots.SlotInstr.{SlotInstr}
use Rattle.slot_code.specs.declared.slots.SlotKind.TheVariants as kinds
use Rattle.slot_expressions.specs.declared.expressions.Width.TheVariants as widths
use Rattle.slot_code.specs.Shape.{Place, with_seen, all_shapes, shapes_of}
use Rattle.slot_expressions.specs.Pieces.{Begins, LowersElement, LowersGiven, instruction}
use Rattle.slot_expressions.proofs.Spanning.{covers_as, spanned_in}
use Rattle.slot_expressions.proofs.SpanSteps as values
use Rattle.slot_expressions.proofs.NameSteps as naming
use Rattle.slot_expressions.proofs.ReadRows.{gets_as}
use Rattle.slot_lowering.specs.Arranged.{Valued, ArrangedKind, choice, ArrangedBlock, inner, last, ArrangedBody, nothing_left, in_turn, ended_names}

abbrev TypedStmt : Type 0
TypedStmt = Stmt Slot Ty

abbrev nowhere : Place
nowhere = record { operands = []; slots = []; outer = []; seen = [] }

-- the first row of a statement makes its span seen
some_rows : {rows : List SlotInstr} {span : Span} → Begins rows span → rows ≡ [] → ⊥
some_rows {rows} {span} h none =
    let same : Some nowhere ≡ Some (with_seen (span ∷ []) nowhere) = subst (λ l. all_shapes (map shapes_of l) nowhere ≡ all_shapes (map shapes_of l) (with_seen (span ∷ []) nowhere)) none (h.begins nowhere refl) in
    let places : nowhere ≡ with_seen (span ∷ []) nowhere = cc in
    let lists : ◌≡◌ {A = List Span} [] (span ∷ []) = ap (λ (p : Place). p.seen) places in absurd cc

pub valued : {old mid : List SlotInstr} {span : Span} {e : TypedExpr} (h : LowersElement old mid span e) → Valued h.rows span e
valued h = record { gets = h.gets; spans = h.spans; some = some_rows h.begins }

-- both parts of a split
pub both_valued : {old mid : List SlotInstr} {span : Span} {e : TypedExpr} (h : LowersGiven old mid span e widths.Two) → Valued h.lowered.lowered.rows span e
both_valued {old} {mid} {span} {e} h = record {
  gets = gets_as (naming.whole_named e) h.lowered.lowered.gets;
  spans = spanned_in (covers_as (values.whole_spanned e)) h.lowered.lowered.spans;
  some = some_rows h.lowered.lowered.begins;
}

-- ---- statements, one after the other

pub arranged_alone : {s : TypedStmt} {rows : List SlotInstr} → ArrangedKind true s.kind s.span rows → ArrangedBody true (s ∷ []) rows
arranged_alone {s} {rows} h = subst (ArrangedBody true (s ∷ [])) (append-nil rows) (in_turn h nothing_left)

pub arranged_path : {s t : TypedStmt} {body : List TypedStmt} {rows more : List SlotInstr} → ArrangedKind false s.kind s.span rows → ArrangedBody true (t ∷ body) more → ArrangedBody true (s ∷ t ∷ body) (rows ++ more)
arranged_path h more = in_turn h more

pub arranged_run : {s : TypedStmt} (body : List TypedStmt) {rows more : List SlotInstr} → ArrangedKind false s.kind s.span rows → ArrangedBody false body more → ArrangedBody false (s ∷ body) (rows ++ more)
arranged_run [] h more = in_turn h more
arranged_run (t ∷ body) h more = in_turn h more

-- ---- choices

pub arranged_at_end : {body : List TypedStmt} {span : Span} {rows code : List SlotInstr} → rows ≡ code → ArrangedBody true body rows → ArrangedBlock true body span code
arranged_at_end {body} {span} is h = subst (ArrangedBlock true body span) is (last h)

pub arranged_only : {rows a b : List SlotInstr} {span : Span} {kind : StmtKind Slot Ty} {e : TypedExpr} {ss : List TypedStmt} {ends_path : Bool} → kind ≡ stmts.If e ss None → Valued rows span e
    → ArrangedBlock ends_path ss span a → ArrangedBlock ends_path [] span b → ArrangedKind ends_path kind span (rows ++ instruction (kinds.If a b) span span ∷ [])
arranged_only {rows} {a} {b} {span} {kind} {e} {ss} is h first second = choice e ss None is h first second

pub arranged_else : {rows a b : List SlotInstr} {span : Span} {kind : StmtKind Slot Ty} {e : TypedExpr} {ss us : List TypedStmt} {ends_path : Bool} → kind ≡ stmts.If e ss (Some us) → Valued rows span e
    → ArrangedBlock ends_path ss span a → ArrangedBlock ends_path us span b → ArrangedKind ends_path kind span (rows ++ instruction (kinds.If a b) span span ∷ [])
arranged_else {rows} {a} {b} {span} {kind} {e} {ss} {us} is h first second = choice e ss (Some us) is h first second
