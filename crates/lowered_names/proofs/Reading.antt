-- What the rows of statements read is what the statements read.
use Rattle.std.proofs.Common.{◌≡◌, Bool, true, false, List, [], ◌∷◌, ◌++◌, map, refl, sym, ap, ◌∙◌, subst}
use Rattle.std.specs.Prelude.{◌||◌, Option, Some, None, unwrap_or}
use Rattle.std.proofs.lemmas.List.Folds.{list_any-append}
use Rattle.cash_base.specs.declared.place.Slot.{Slot}
use Rattle.cash_base.specs.declared.place.Span.{Span}
use Rattle.cash_tree.specs.declared.Ty.{Ty}
use Rattle.cash_tree.specs.declared.Stmt.{Stmt}
use Rattle.cash_tree.specs.declared.StmtKind.{StmtKind}
use Rattle.slot_code.specs.declared.slots.SlotInstr.{SlotInstr}
use Rattle.slot_code.specs.declared.slots.SlotKind.TheVariants as kinds
use Rattle.slot_code.specs.Shape.{has}
use Rattle.slot_liveness.specs.Live.{all_later, reads_of, read_in}
use Rattle.slot_liveness.proofs.Sets.{has_append}
use Rattle.slot_expressions.specs.Pieces.{instruction}
use Rattle.slot_expressions.specs.Reads.{all_gets, names_in}
use Rattle.slot_lowering.specs.Scoped.{part_of as scoped_part, all_names}
use Rattle.slot_lowering.specs.Arranged.{ArrangedKind, simple, choice, ArrangedBlock, inner, last, ArrangedBody, nothing_left, in_turn, ended_names}
use Rattle.lowered_names.specs.Names.{Part, part_of, part_at, parts_of, reads, all_read}
use Rattle.lowered_names.proofs.PartSteps.{TypedStmt, whole_part, if_part}
use Rattle.lowered_names.proofs.Rows.{reads_at, whole_reads, is_value, end_reads, if_reads}
use Rattle.lowered_names.proofs.Growing.{front_of, final_of}

pub or_assoc : (a b c : Bool) → ((a || b) || c) ≡ (a || (b || c))
or_assoc true b c = refl
or_assoc false b c = refl

pub or_nothing : (b : Bool) → (b || false) ≡ b
or_nothing true = refl
or_nothing false = refl

-- ---- one after the other

pub later_append : (a b : List SlotInstr) (slot : Slot) (t : Bool) → all_later (map reads_of (a ++ b)) slot t ≡ all_later (map reads_of a) slot (all_later (map reads_of b) slot t)
later_append [] b slot t = refl
later_append (i ∷ a) b slot t = ap (λ r. reads_of i slot || r) (later_append a b slot t)

pub values_read : (checking : Span) (rows : List SlotInstr) (names : List Slot) → all_gets checking rows ≡ Some names → (slot : Slot) (t : Bool) → all_later (map reads_of rows) slot t ≡ (has slot names || t)
values_read checking [] names is slot t = let none : ◌≡◌ {A = List Slot} [] names = cc in ap (λ l. has slot l || t) none
values_read checking (i ∷ rows) names is slot t =
    let f = front_of checking i rows names is in
    ap (λ r. r slot || all_later (map reads_of rows) slot t) (whole_reads i) ∙ ap (λ b. b || all_later (map reads_of rows) slot t) ((is_value i.kind f.first f.got).reads slot)
    ∙ ap (λ b. has slot f.first || b) (values_read checking rows f.others f.rest slot t)
    ∙ sym (or_assoc (has slot f.first) (has slot f.others) t) ∙ ap (λ b. b || t) (sym (has_append slot f.first f.others) ∙ ap (has slot) f.names_are)

pub ends_read : (span : Span) (names : List Slot) (slot : Slot) (t : Bool) → all_later (map reads_of (map (λ (name : Slot). instruction (kinds.End name) span span) names)) slot t ≡ t
ends_read span [] slot t = refl
ends_read span (name ∷ names) slot t =
    let i = instruction (kinds.End name) span span in
    ap (λ r. r slot || all_later (map reads_of (map (λ (other : Slot). instruction (kinds.End other) span span) names)) slot t) (whole_reads i)
    ∙ ap (λ b. b || all_later (map reads_of (map (λ (other : Slot). instruction (kinds.End other) span span) names)) slot t) (end_reads name slot) ∙ ends_read span names slot t

-- rows of a value, and a last one
pub then_last : (rows : List SlotInstr) (i : SlotInstr) (names : List Slot) (own : Bool) (slot : Slot) (t : Bool) → ((t : Bool) → all_later (map reads_of rows) slot t ≡ (has slot names || t)) → reads_at i.kind slot ≡ own
    → all_later (map reads_of (rows ++ i ∷ [])) slot t ≡ ((has slot names || own) || t)
then_last rows i names own slot t is last_is =
    later_append rows (i ∷ []) slot t ∙ is (reads_of i slot || t) ∙ ap (λ r. has slot names || (r slot || t)) (whole_reads i) ∙ ap (λ b. has slot names || (b || t)) last_is
    ∙ sym (or_assoc (has slot names) own t)

-- ---- statements

pub part_reads : (s : TypedStmt) (slot : Slot) → (part_of s).reads slot ≡ (part_at s.kind).reads slot
part_reads s slot = ap (λ (p : Part). p.reads slot) (whole_part s)

mutual
  pub kind_reads_it : {e : Bool} {kind : StmtKind Slot Ty} {span : Span} {rows : List SlotInstr} → ArrangedKind e kind span rows → (slot : Slot) (t : Bool) → all_later (map reads_of rows) slot t ≡ ((part_at kind).reads slot || t)
  kind_reads_it (simple {span = span} {rows = rows} value row is h) slot t =
      let f = final_of is in
      then_last rows (instruction row span span) (names_in value) false slot t (λ u. values_read span rows (names_in value) h.gets.is slot u) (f.reads_none slot)
      ∙ ap (λ b. b || t) (or_nothing (has slot (names_in value)) ∙ sym (ap (λ (p : Part). p.reads slot) f.part_is))
  kind_reads_it (choice {span = span} {rows = rows} {yes_rows = ys} {no_rows = ns} test yes_block no_block is h first second) slot t =
      let own : reads_at (kinds.If ys ns) slot ≡ (all_read (parts_of yes_block) slot || all_read (parts_of (unwrap_or no_block [])) slot) =
      if_reads ys ns slot
      ∙ ap (λ b. b || all_later (map reads_of ns) slot false) (block_reads first slot false ∙ or_nothing (all_read (parts_of yes_block) slot))
      ∙ ap (λ b. all_read (parts_of yes_block) slot || b) (block_reads second slot false ∙ or_nothing (all_read (parts_of (unwrap_or no_block [])) slot)) in
      then_last rows (instruction (kinds.If ys ns) span span) (names_in test) (all_read (parts_of yes_block) slot || all_read (parts_of (unwrap_or no_block [])) slot) slot t (λ u. values_read span rows (names_in test) h.gets.is slot u) own
      ∙ ap (λ b. b || t) (sym (ap (λ (p : Part). p.reads slot) (ap part_at is ∙ if_part test yes_block no_block)))

  pub block_reads : {e : Bool} {body : List (Stmt Slot Ty)} {span : Span} {rows : List SlotInstr} → ArrangedBlock e body span rows → (slot : Slot) (t : Bool) → all_later (map reads_of rows) slot t ≡ (all_read (parts_of body) slot || t)
  block_reads (inner {body = body} {span = span} {rows = rows} h) slot t =
      later_append rows (ended_names body span) slot t ∙ ap (all_later (map reads_of rows) slot) (ends_read span (all_names (map scoped_part body)) slot t) ∙ body_reads h slot t
  block_reads (last h) slot t = body_reads h slot t

  pub body_reads : {e : Bool} {body : List (Stmt Slot Ty)} {rows : List SlotInstr} → ArrangedBody e body rows → (slot : Slot) (t : Bool) → all_later (map reads_of rows) slot t ≡ (all_read (parts_of body) slot || t)
  body_reads nothing_left slot t = refl
  body_reads (in_turn {s = s} {body = body} {rows = rows} {more = more} h rest) slot t =
      later_append rows more slot t ∙ kind_reads_it h slot (all_later (map reads_of more) slot t) ∙ ap (λ b. (part_at s.kind).reads slot || b) (body_reads rest slot t)
      ∙ ap (λ b. b || (all_read (parts_of body) slot || t)) (sym (part_reads s slot)) ∙ sym (or_assoc ((part_of s).reads slot) (all_read (parts_of body) slot) t)

-- both blocks of a choice
pub if_both : {e f : Bool} {yes_block no_block : List TypedStmt} {span : Span} (ys ns : List SlotInstr) → ArrangedBlock e yes_block span ys → ArrangedBlock f no_block span ns → (slot : Slot)
    → reads_at (kinds.If ys ns) slot ≡ (all_read (parts_of yes_block) slot || all_read (parts_of no_block) slot)
if_both {e} {f} {yes_block} {no_block} {span} ys ns first second slot =
    if_reads ys ns slot
    ∙ ap (λ b. b || all_later (map reads_of ns) slot false) (block_reads first slot false ∙ or_nothing (all_read (parts_of yes_block) slot))
    ∙ ap (λ b. all_read (parts_of yes_block) slot || b) (block_reads second slot false ∙ or_nothing (all_read (parts_of no_block) slot))
