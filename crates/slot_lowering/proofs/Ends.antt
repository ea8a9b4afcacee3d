-- The ends of the names that statements define.
use Rattle.std.proofs.Common.{◌≡◌, ◌<◌, ◌≤◌, ℕ, ◌+◌, Bool, get_or, List, [], ◌∷◌, ◌++◌, length, map, drop, ap, sym, ◌∙◌, subst, append_assoc}
use Rattle.std.specs.Prelude.{Some, None, Option}
use Rattle.std.proofs.lemmas.List.{append-nil, at_drop_more, drop_all, map-append}
use Rattle.cash_base.specs.declared.place.Span.{Span}
use Rattle.cash_base.specs.declared.place.Slot.{Slot}
use Rattle.cash_tree.specs.declared.Ty.{Ty}
use Rattle.cash_tree.specs.declared.Param.{Param}
use Rattle.cash_tree.specs.declared.Stmt.{Stmt}
use Rattle.cash_tree.specs.declared.StmtKind.TheVariants as stmts
use Rattle.type_tables.specs.Tables.{TypedExpr}
use Rattle.slot_code.specs.declared.slots.SlotInstr.{SlotInstr}
use Rattle.slot_code.specs.declared.slots.SlotKind.TheVariants as kinds
use Rattle.slot_expressions.specs.Pieces.{instruction}
use Rattle.slot_lowering.specs.Scoped.{Part, part_of, part_of_kind}
use Rattle.slot_lowering.specs.Statements.{EndsNames, EndsStmt, LeftEnds, end_row, names_of}
use Rattle.slot_lowering.proofs.ScopedSteps as scoped

abbrev TypedStmt : Type 0
TypedStmt = Stmt Slot Ty

-- ---- a statement

-- the names are those of its kind
by_kind : {old new : List SlotInstr} {s : TypedStmt} {checking : Span} (p : Part) → part_of_kind s.kind ≡ p → new ≡ old ++ map (end_row checking) p.names → EndsStmt old new s checking
by_kind {old} {new} {s} {checking} p is grown = record {
  ends = record { grown = grown ∙ ap (λ (q : Part). old ++ map (end_row checking) q.names) (sym (scoped.whole_part s ∙ is)) };
}

pub ends_define : {old new : List SlotInstr} {s : TypedStmt} {checking : Span} {t : Ty} {constant : Bool} {slot : Slot} {place : Span} {value : TypedExpr} → s.kind ≡ stmts.Define t constant slot place value
    → new ≡ old ++ instruction (kinds.End slot) checking checking ∷ [] → EndsStmt old new s checking
ends_define {old} {new} {s} {checking} {t} {constant} {slot} {place} {value} is grown = by_kind _ (ap part_of_kind is ∙ scoped.define_part t constant slot place value) grown

pub ends_pair : {old mid new : List SlotInstr} {s : TypedStmt} {checking : Span} {left right : Param Slot} {value : TypedExpr} → s.kind ≡ stmts.Pair left right value
    → mid ≡ old ++ instruction (kinds.End left.name) checking checking ∷ [] → new ≡ mid ++ instruction (kinds.End right.name) checking checking ∷ [] → EndsStmt old new s checking
ends_pair {old} {mid} {new} {s} {checking} {left} {right} {value} is first second =
    by_kind _ (ap part_of_kind is ∙ scoped.pair_part left right value)
    (second ∙ ap (λ l. l ++ instruction (kinds.End right.name) checking checking ∷ []) first ∙ append_assoc old (instruction (kinds.End left.name) checking checking ∷ []) (instruction (kinds.End right.name) checking checking ∷ []))

pub ends_assign : {code : List SlotInstr} {s : TypedStmt} {checking : Span} {slot : Slot} {value : TypedExpr} → s.kind ≡ stmts.Assign slot value → EndsStmt code code s checking
ends_assign {code} {s} {checking} {slot} {value} is = by_kind _ (ap part_of_kind is ∙ scoped.assign_part slot value) (sym (append-nil code))

pub ends_time : {code : List SlotInstr} {s : TypedStmt} {checking : Span} {value : TypedExpr} → s.kind ≡ stmts.Time value → EndsStmt code code s checking
ends_time {code} {s} {checking} {value} is = by_kind _ (ap part_of_kind is ∙ scoped.time_part value) (sym (append-nil code))

pub ends_age : {code : List SlotInstr} {s : TypedStmt} {checking : Span} {value : TypedExpr} → s.kind ≡ stmts.Age value → EndsStmt code code s checking
ends_age {code} {s} {checking} {value} is = by_kind _ (ap part_of_kind is ∙ scoped.age_part value) (sym (append-nil code))

pub ends_require : {code : List SlotInstr} {s : TypedStmt} {checking : Span} {value : TypedExpr} → s.kind ≡ stmts.Require value → EndsStmt code code s checking
ends_require {code} {s} {checking} {value} is = by_kind _ (ap part_of_kind is ∙ scoped.require_part value) (sym (append-nil code))

pub ends_if : {code : List SlotInstr} {s : TypedStmt} {checking : Span} (test : TypedExpr) (ss : List TypedStmt) (o : Option (List TypedStmt)) → s.kind ≡ stmts.If test ss o → EndsStmt code code s checking
ends_if {code} {s} {checking} test ss o is = by_other o is
  where
    by_other : (o : Option (List TypedStmt)) → s.kind ≡ stmts.If test ss o → EndsStmt code code s checking
    by_other None is = by_kind _ (ap part_of_kind is ∙ scoped.if_only_part test ss) (sym (append-nil code))
    by_other (Some us) is = by_kind _ (ap part_of_kind is ∙ scoped.if_else_part test ss us) (sym (append-nil code))

-- ---- statements

ends_none : (code : List SlotInstr) (checking : Span) → EndsNames code code [] checking
ends_none code checking = record { grown = sym (append-nil code) }

ends_more : {old mid new : List SlotInstr} {checking : Span} (first more : List Slot) → EndsNames old mid first checking → EndsNames mid new more checking → EndsNames old new (first ++ more) checking
ends_more {old} {mid} {new} {checking} first more h t = record {
  grown = t.grown ∙ ap (λ l. l ++ map (end_row checking) more) h.grown
      ∙ append_assoc old (map (end_row checking) first) (map (end_row checking) more)
      ∙ ap (λ l. old ++ l) (sym (map-append (end_row checking) first more));
}

next_item : (body : List TypedStmt) (x : TypedStmt) (i : ℕ) → i < length body → x ≡ get_or body i x → drop i body ≡ x ∷ drop (i + 1) body
next_item body x i within is = at_drop_more (λ l. l) body i x within ∙ ap (λ y. y ∷ drop (i + 1) body) (sym is)

pub left_ends_none : (code : List SlotInstr) (body : List TypedStmt) (checking : Span) → LeftEnds code code body checking 0
left_ends_none code body checking = record { by = λ final h. h }

pub left_ends_more : (old now next : List SlotInstr) (body : List TypedStmt) (checking : Span) (x : TypedStmt) (i : ℕ) → LeftEnds old now body checking i → i < length body → x ≡ get_or body i x
    → EndsStmt now next x checking → LeftEnds old next body checking (i + 1)
left_ends_more old now next body checking x i h within is e = record {
  by = λ final t. h.by final (subst (λ l. EndsNames now final (names_of l) checking) (sym (next_item body x i within is)) (ends_more (part_of x).names (names_of (drop (i + 1) body)) e.ends t));
}

pub left_ends_done : (old now : List SlotInstr) (body : List TypedStmt) (checking : Span) (i : ℕ) → LeftEnds old now body checking i → length body ≤ i → EndsNames old now (names_of body) checking
left_ends_done old now body checking i h over = h.by now (subst (λ l. EndsNames now now (names_of l) checking) (sym (drop_all i body over)) (ends_none now checking))
