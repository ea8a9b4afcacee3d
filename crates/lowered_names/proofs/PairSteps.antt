-- The pairs of spans of each kind of instruction, and the places and the text of each kind of statement, by its line in the definition.
use Rattle.std.proofs.Common.{◌≡◌, ◌<◌, Bool, List, [], ◌∷◌, ◌++◌, map, refl, sym, ap, ◌∙◌, subst}
use Rattle.std.specs.Prelude.{◌&&◌, nat_lt, Option, Some, None, unwrap_or}
use Rattle.cash_base.specs.declared.place.Slot.{Slot}
use Rattle.cash_base.specs.declared.place.Span.{Span}
use Rattle.cash_tree.specs.declared.Ty.{Ty}
use Rattle.cash_tree.specs.declared.Param.{Param}
use Rattle.cash_tree.specs.declared.Stmt.{Stmt}
use Rattle.cash_tree.specs.declared.StmtKind.{StmtKind}
use Rattle.cash_tree.specs.declared.StmtKind.TheVariants as stmts
use Rattle.cash_tree.specs.declared.StmtKind.TheOpen.{StmtKind-F, Stmt-F}
use Rattle.cash_tree.specs.declared.StmtKind.TheViews.{roll-StmtKind}
use Rattle.cash_tree.specs.declared.StmtKind.TheFolds.{fold-roll-Stmt, fold-roll-StmtKind}
use Rattle.type_tables.specs.Tables.{TypedExpr}
use Rattle.slot_code.specs.declared.slots.SlotInstr.{SlotInstr}
use Rattle.slot_code.specs.declared.slots.SlotKind.{SlotKind}
use Rattle.slot_code.specs.declared.slots.SlotKind.TheVariants as kinds
use Rattle.slot_code.specs.declared.slots.SlotKind.TheOpen.{SlotKind-F, SlotInstr-F}
use Rattle.slot_code.specs.declared.slots.SlotKind.TheViews.{out-SlotKind, roll-SlotKind, roll-out-SlotKind}
use Rattle.slot_code.specs.declared.slots.SlotKind.TheFolds.{fold-roll-SlotInstr, fold-roll-SlotKind}
use Rattle.slot_expressions.specs.Reads.{gets_at, kind_gets, instr_gets}
use Rattle.cash_tree.specs.Nodes.{joined}
use Rattle.lowered_names.specs.Order.{Pair, pairs_of, pairs_at, code_pairs, kind_pairs, instr_pairs, places_of, places_at, body_places, kind_places, stmt_places, Text, text_of, text_at, kind_text, stmt_text, value_between, in_order}

abbrev Layer : Type 0
Layer = SlotKind-F SlotKind SlotInstr

abbrev Whole : Type 0
Whole = SlotInstr-F SlotKind SlotInstr

abbrev pub TypedStmt : Type 0
TypedStmt = Stmt Slot Ty

abbrev StmtLayer : Type 0
StmtLayer = StmtKind-F Slot Ty (StmtKind Slot Ty) TypedStmt

abbrev WholeStmt : Type 0
WholeStmt = Stmt-F Slot Ty (StmtKind Slot Ty) TypedStmt

-- ---- instructions

pub both_of : SlotInstr → Pair
both_of i = record { doing = i.doing; checking = i.checking }

pub whole_pairs : (i : SlotInstr) → pairs_of i ≡ pairs_at i.kind (record { doing = i.doing; checking = i.checking })
unfolding pairs_of pairs_at
whole_pairs i =
    let layer : Whole = record { kind = i.kind; doing = i.doing; checking = i.checking } in
    fold-roll-SlotInstr (Pair → List Pair) (List Pair) kind_pairs instr_pairs layer

value_layer : (layer : Layer) (x : List Slot) → gets_at (roll-SlotKind layer) ≡ Some x → (own : Pair) → pairs_at (roll-SlotKind layer) own ≡ own ∷ []
unfolding gets_at pairs_of pairs_at roll-SlotKind denote.Hole.Carrier.roll
value_layer (SlotKind-F.Lit e) x is own =
    let layer : Layer = SlotKind-F.Lit e in ap (λ (f : Pair → List Pair). f own) (fold-roll-SlotKind (Pair → List Pair) (List Pair) kind_pairs instr_pairs layer)
value_layer (SlotKind-F.Get slot) x is own =
    let layer : Layer = SlotKind-F.Get slot in ap (λ (f : Pair → List Pair). f own) (fold-roll-SlotKind (Pair → List Pair) (List Pair) kind_pairs instr_pairs layer)
value_layer (SlotKind-F.Do1 op) x is own =
    let layer : Layer = SlotKind-F.Do1 op in ap (λ (f : Pair → List Pair). f own) (fold-roll-SlotKind (Pair → List Pair) (List Pair) kind_pairs instr_pairs layer)
value_layer (SlotKind-F.Do2 op) x is own =
    let layer : Layer = SlotKind-F.Do2 op in ap (λ (f : Pair → List Pair). f own) (fold-roll-SlotKind (Pair → List Pair) (List Pair) kind_pairs instr_pairs layer)
value_layer (SlotKind-F.Do3 op) x is own =
    let layer : Layer = SlotKind-F.Do3 op in ap (λ (f : Pair → List Pair). f own) (fold-roll-SlotKind (Pair → List Pair) (List Pair) kind_pairs instr_pairs layer)
value_layer SlotKind-F.Split x is own =
    let layer : Layer = SlotKind-F.Split in ap (λ (f : Pair → List Pair). f own) (fold-roll-SlotKind (Pair → List Pair) (List Pair) kind_pairs instr_pairs layer)
value_layer (SlotKind-F.Keep right) x is own =
    let layer : Layer = SlotKind-F.Keep right in ap (λ (f : Pair → List Pair). f own) (fold-roll-SlotKind (Pair → List Pair) (List Pair) kind_pairs instr_pairs layer)
value_layer (SlotKind-F.Look0 what) x is own =
    let layer : Layer = SlotKind-F.Look0 what in ap (λ (f : Pair → List Pair). f own) (fold-roll-SlotKind (Pair → List Pair) (List Pair) kind_pairs instr_pairs layer)
value_layer (SlotKind-F.LookAt what) x is own =
    let layer : Layer = SlotKind-F.LookAt what in ap (λ (f : Pair → List Pair). f own) (fold-roll-SlotKind (Pair → List Pair) (List Pair) kind_pairs instr_pairs layer)
value_layer SlotKind-F.CheckSig x is own =
    let layer : Layer = SlotKind-F.CheckSig in ap (λ (f : Pair → List Pair). f own) (fold-roll-SlotKind (Pair → List Pair) (List Pair) kind_pairs instr_pairs layer)
value_layer SlotKind-F.CheckData x is own =
    let layer : Layer = SlotKind-F.CheckData in ap (λ (f : Pair → List Pair). f own) (fold-roll-SlotKind (Pair → List Pair) (List Pair) kind_pairs instr_pairs layer)
value_layer (SlotKind-F.CheckMulti sigs keys) x is own =
    let layer : Layer = SlotKind-F.CheckMulti sigs keys in ap (λ (f : Pair → List Pair). f own) (fold-roll-SlotKind (Pair → List Pair) (List Pair) kind_pairs instr_pairs layer)
value_layer SlotKind-F.Chunk x is own =
    let layer : Layer = SlotKind-F.Chunk in ap (λ (f : Pair → List Pair). f own) (fold-roll-SlotKind (Pair → List Pair) (List Pair) kind_pairs instr_pairs layer)
value_layer SlotKind-F.Time x is own =
    let layer : Layer = SlotKind-F.Time in
    let got = fold-roll-SlotKind (Option (List Slot)) (Option (List Slot)) kind_gets instr_gets layer in
    let never : None ≡ Some x = sym got ∙ is in absurd cc
value_layer SlotKind-F.Age x is own =
    let layer : Layer = SlotKind-F.Age in
    let got = fold-roll-SlotKind (Option (List Slot)) (Option (List Slot)) kind_gets instr_gets layer in
    let never : None ≡ Some x = sym got ∙ is in absurd cc
value_layer SlotKind-F.Require x is own =
    let layer : Layer = SlotKind-F.Require in
    let got = fold-roll-SlotKind (Option (List Slot)) (Option (List Slot)) kind_gets instr_gets layer in
    let never : None ≡ Some x = sym got ∙ is in absurd cc
value_layer (SlotKind-F.Define slot) x is own =
    let layer : Layer = SlotKind-F.Define slot in
    let got = fold-roll-SlotKind (Option (List Slot)) (Option (List Slot)) kind_gets instr_gets layer in
    let never : None ≡ Some x = sym got ∙ is in absurd cc
value_layer (SlotKind-F.DefinePair left right) x is own =
    let layer : Layer = SlotKind-F.DefinePair left right in
    let got = fold-roll-SlotKind (Option (List Slot)) (Option (List Slot)) kind_gets instr_gets layer in
    let never : None ≡ Some x = sym got ∙ is in absurd cc
value_layer (SlotKind-F.Assign slot) x is own =
    let layer : Layer = SlotKind-F.Assign slot in
    let got = fold-roll-SlotKind (Option (List Slot)) (Option (List Slot)) kind_gets instr_gets layer in
    let never : None ≡ Some x = sym got ∙ is in absurd cc
value_layer (SlotKind-F.End slot) x is own =
    let layer : Layer = SlotKind-F.End slot in
    let got = fold-roll-SlotKind (Option (List Slot)) (Option (List Slot)) kind_gets instr_gets layer in
    let never : None ≡ Some x = sym got ∙ is in absurd cc
value_layer (SlotKind-F.If a b) x is own =
    let layer : Layer = SlotKind-F.If a b in
    let got = fold-roll-SlotKind (Option (List Slot)) (Option (List Slot)) kind_gets instr_gets layer in
    let never : None ≡ Some x = sym got ∙ is in absurd cc

pub value_pair : (kind : SlotKind) (names : List Slot) → gets_at kind ≡ Some names → (own : Pair) → pairs_at kind own ≡ own ∷ []
value_pair kind names is own =
    let rolled = roll-out-SlotKind kind in
    subst (λ k. pairs_at k own ≡ own ∷ []) rolled (value_layer (out-SlotKind kind) names (ap gets_at rolled ∙ is) own)

pub time_pairs : (own : Pair) → pairs_at kinds.Time own ≡ own ∷ []
unfolding pairs_of pairs_at roll-SlotKind denote.Hole.Carrier.roll
time_pairs own =
    let layer : Layer = SlotKind-F.Time in ap (λ (f : Pair → List Pair). f own) (fold-roll-SlotKind (Pair → List Pair) (List Pair) kind_pairs instr_pairs layer)

pub age_pairs : (own : Pair) → pairs_at kinds.Age own ≡ own ∷ []
unfolding pairs_of pairs_at roll-SlotKind denote.Hole.Carrier.roll
age_pairs own =
    let layer : Layer = SlotKind-F.Age in ap (λ (f : Pair → List Pair). f own) (fold-roll-SlotKind (Pair → List Pair) (List Pair) kind_pairs instr_pairs layer)

pub require_pairs : (own : Pair) → pairs_at kinds.Require own ≡ own ∷ []
unfolding pairs_of pairs_at roll-SlotKind denote.Hole.Carrier.roll
require_pairs own =
    let layer : Layer = SlotKind-F.Require in ap (λ (f : Pair → List Pair). f own) (fold-roll-SlotKind (Pair → List Pair) (List Pair) kind_pairs instr_pairs layer)

pub define_pairs : (slot : Slot) (own : Pair) → pairs_at (kinds.Define slot) own ≡ own ∷ []
unfolding pairs_of pairs_at roll-SlotKind denote.Hole.Carrier.roll
define_pairs slot own =
    let layer : Layer = SlotKind-F.Define slot in ap (λ (f : Pair → List Pair). f own) (fold-roll-SlotKind (Pair → List Pair) (List Pair) kind_pairs instr_pairs layer)

pub define_pair_pairs : (left right : Slot) (own : Pair) → pairs_at (kinds.DefinePair left right) own ≡ own ∷ []
unfolding pairs_of pairs_at roll-SlotKind denote.Hole.Carrier.roll
define_pair_pairs left right own =
    let layer : Layer = SlotKind-F.DefinePair left right in ap (λ (f : Pair → List Pair). f own) (fold-roll-SlotKind (Pair → List Pair) (List Pair) kind_pairs instr_pairs layer)

pub assign_pairs : (slot : Slot) (own : Pair) → pairs_at (kinds.Assign slot) own ≡ own ∷ []
unfolding pairs_of pairs_at roll-SlotKind denote.Hole.Carrier.roll
assign_pairs slot own =
    let layer : Layer = SlotKind-F.Assign slot in ap (λ (f : Pair → List Pair). f own) (fold-roll-SlotKind (Pair → List Pair) (List Pair) kind_pairs instr_pairs layer)

pub end_pairs : (slot : Slot) (own : Pair) → pairs_at (kinds.End slot) own ≡ own ∷ []
unfolding pairs_of pairs_at roll-SlotKind denote.Hole.Carrier.roll
end_pairs slot own =
    let layer : Layer = SlotKind-F.End slot in ap (λ (f : Pair → List Pair). f own) (fold-roll-SlotKind (Pair → List Pair) (List Pair) kind_pairs instr_pairs layer)

pub if_pairs : (a b : List SlotInstr) (own : Pair) → pairs_at (kinds.If a b) own ≡ own ∷ (code_pairs a ++ own ∷ (code_pairs b ++ own ∷ []))
unfolding pairs_of pairs_at roll-SlotKind denote.Hole.Carrier.roll
if_pairs a b own =
    let layer : Layer = SlotKind-F.If a b in ap (λ (f : Pair → List Pair). f own) (fold-roll-SlotKind (Pair → List Pair) (List Pair) kind_pairs instr_pairs layer)

-- ---- statements

pub whole_places : (s : TypedStmt) → places_of s ≡ s.span ∷ places_at s.kind
unfolding places_of places_at
whole_places s =
    let layer : WholeStmt = record { kind = s.kind; span = s.span } in
    fold-roll-Stmt Slot Ty (List Span) (List Span) kind_places stmt_places layer

pub whole_text : (s : TypedStmt) → text_of s ≡ record { span = s.span; fits = text_at s.kind s.span }
unfolding text_of text_at
whole_text s =
    let layer : WholeStmt = record { kind = s.kind; span = s.span } in
    fold-roll-Stmt Slot Ty (Span → Bool) Text kind_text stmt_text layer

pub define_places : (t : Ty) (constant : Bool) (slot : Slot) (place : Span) (value : TypedExpr) → places_at (stmts.Define t constant slot place value) ≡ []
unfolding places_of places_at roll-StmtKind denote.Hole.Carrier.roll
define_places t constant slot place value =
    let layer : StmtLayer = StmtKind-F.Define t constant slot place value in fold-roll-StmtKind Slot Ty (List Span) (List Span) kind_places stmt_places layer

pub define_text : (t : Ty) (constant : Bool) (slot : Slot) (place : Span) (value : TypedExpr) (span : Span) → text_at (stmts.Define t constant slot place value) span ≡ value_between span.from span.to value
unfolding text_of text_at roll-StmtKind denote.Hole.Carrier.roll
define_text t constant slot place value span =
    let layer : StmtLayer = StmtKind-F.Define t constant slot place value in ap (λ (f : Span → Bool). f span) (fold-roll-StmtKind Slot Ty (Span → Bool) Text kind_text stmt_text layer)

pub pair_places : (left right : Param Slot) (value : TypedExpr) → places_at (stmts.Pair left right value) ≡ []
unfolding places_of places_at roll-StmtKind denote.Hole.Carrier.roll
pair_places left right value =
    let layer : StmtLayer = StmtKind-F.Pair left right value in fold-roll-StmtKind Slot Ty (List Span) (List Span) kind_places stmt_places layer

pub pair_text : (left right : Param Slot) (value : TypedExpr) (span : Span) → text_at (stmts.Pair left right value) span ≡ value_between span.from span.to value
unfolding text_of text_at roll-StmtKind denote.Hole.Carrier.roll
pair_text left right value span =
    let layer : StmtLayer = StmtKind-F.Pair left right value in ap (λ (f : Span → Bool). f span) (fold-roll-StmtKind Slot Ty (Span → Bool) Text kind_text stmt_text layer)

pub assign_places : (slot : Slot) (value : TypedExpr) → places_at (stmts.Assign slot value) ≡ []
unfolding places_of places_at roll-StmtKind denote.Hole.Carrier.roll
assign_places slot value =
    let layer : StmtLayer = StmtKind-F.Assign slot value in fold-roll-StmtKind Slot Ty (List Span) (List Span) kind_places stmt_places layer

pub assign_text : (slot : Slot) (value : TypedExpr) (span : Span) → text_at (stmts.Assign slot value) span ≡ value_between span.from span.to value
unfolding text_of text_at roll-StmtKind denote.Hole.Carrier.roll
assign_text slot value span =
    let layer : StmtLayer = StmtKind-F.Assign slot value in ap (λ (f : Span → Bool). f span) (fold-roll-StmtKind Slot Ty (Span → Bool) Text kind_text stmt_text layer)

pub time_places : (value : TypedExpr) → places_at (stmts.Time value) ≡ []
unfolding places_of places_at roll-StmtKind denote.Hole.Carrier.roll
time_places value =
    let layer : StmtLayer = StmtKind-F.Time value in fold-roll-StmtKind Slot Ty (List Span) (List Span) kind_places stmt_places layer

pub time_text : (value : TypedExpr) (span : Span) → text_at (stmts.Time value) span ≡ value_between span.from span.to value
unfolding text_of text_at roll-StmtKind denote.Hole.Carrier.roll
time_text value span =
    let layer : StmtLayer = StmtKind-F.Time value in ap (λ (f : Span → Bool). f span) (fold-roll-StmtKind Slot Ty (Span → Bool) Text kind_text stmt_text layer)

pub age_places : (value : TypedExpr) → places_at (stmts.Age value) ≡ []
unfolding places_of places_at roll-StmtKind denote.Hole.Carrier.roll
age_places value =
    let layer : StmtLayer = StmtKind-F.Age value in fold-roll-StmtKind Slot Ty (List Span) (List Span) kind_places stmt_places layer

pub age_text : (value : TypedExpr) (span : Span) → text_at (stmts.Age value) span ≡ value_between span.from span.to value
unfolding text_of text_at roll-StmtKind denote.Hole.Carrier.roll
age_text value span =
    let layer : StmtLayer = StmtKind-F.Age value in ap (λ (f : Span → Bool). f span) (fold-roll-StmtKind Slot Ty (Span → Bool) Text kind_text stmt_text layer)

pub require_places : (value : TypedExpr) → places_at (stmts.Require value) ≡ []
unfolding places_of places_at roll-StmtKind denote.Hole.Carrier.roll
require_places value =
    let layer : StmtLayer = StmtKind-F.Require value in fold-roll-StmtKind Slot Ty (List Span) (List Span) kind_places stmt_places layer

pub require_text : (value : TypedExpr) (span : Span) → text_at (stmts.Require value) span ≡ value_between span.from span.to value
unfolding text_of text_at roll-StmtKind denote.Hole.Carrier.roll
require_text value span =
    let layer : StmtLayer = StmtKind-F.Require value in ap (λ (f : Span → Bool). f span) (fold-roll-StmtKind Slot Ty (Span → Bool) Text kind_text stmt_text layer)

pub if_places : (test : TypedExpr) (ss : List TypedStmt) (o : Option (List TypedStmt)) → places_at (stmts.If test ss o) ≡ body_places ss ++ body_places (unwrap_or o [])
unfolding places_of places_at roll-StmtKind denote.Hole.Carrier.roll
if_places test ss None =
    let layer : StmtLayer = StmtKind-F.If test ss None in fold-roll-StmtKind Slot Ty (List Span) (List Span) kind_places stmt_places layer
if_places test ss (Some us) =
    let layer : StmtLayer = StmtKind-F.If test ss (Some us) in fold-roll-StmtKind Slot Ty (List Span) (List Span) kind_places stmt_places layer

pub if_text : (test : TypedExpr) (ss : List TypedStmt) (o : Option (List TypedStmt)) (span : Span) → text_at (stmts.If test ss o) span
    ≡ ((nat_lt span.from test.span.to && value_between span.from test.span.to test) && in_order test.span.to span.to (map text_of ss ++ map text_of (unwrap_or o [])))
unfolding text_of text_at roll-StmtKind denote.Hole.Carrier.roll
if_text test ss None span =
    let layer : StmtLayer = StmtKind-F.If test ss None in ap (λ (f : Span → Bool). f span) (fold-roll-StmtKind Slot Ty (Span → Bool) Text kind_text stmt_text layer)
if_text test ss (Some us) span =
    let layer : StmtLayer = StmtKind-F.If test ss (Some us) in ap (λ (f : Span → Bool). f span) (fold-roll-StmtKind Slot Ty (Span → Bool) Text kind_text stmt_text layer)
