-- Statements where a path may end: both for those behind which others stand and for the last one.
use Rattle.std.proofs.Common.{◌≡◌, ◌<◌, ◌≤◌, ℕ, ◌+◌, ◌==◌, Bool, true, false, get_or, List, [], ◌∷◌, ◌++◌, length, map, drop, refl, sym, ap, ◌∙◌, subst, arith}
use Rattle.std.specs.Prelude.{◌&&◌, Option, Some, None}
use Rattle.std.proofs.lemmas.List.{append-nil, at_drop_more, drop_all, length-drop}
use Rattle.std.proofs.lemmas.Bool.Decides.{nat_tests}
use Rattle.cash_base.specs.declared.place.Span.{Span}
use Rattle.cash_base.specs.declared.place.Slot.{Slot}
use Rattle.cash_tree.specs.declared.Ty.{Ty}
use Rattle.cash_tree.specs.declared.Param.{Param}
use Rattle.cash_tree.specs.declared.Stmt.{Stmt}
use Rattle.cash_tree.specs.declared.StmtKind.{StmtKind}
use Rattle.cash_tree.specs.declared.StmtKind.TheVariants as stmts
use Rattle.type_tables.specs.Tables.{TypedExpr}
use Rattle.source_meaning.specs.Runnable.{all_of}
use Rattle.slot_code.specs.declared.slots.SlotInstr.{SlotInstr}
use Rattle.slot_code.specs.declared.slots.SlotKind.TheVariants as kinds
use Rattle.slot_expressions.specs.declared.expressions.Width.TheVariants as widths
use Rattle.slot_expressions.specs.Pieces.{LowersElement, LowersGiven, instruction}
use Rattle.slot_expressions.proofs.Tests.{and_left, and_right}
use Rattle.slot_lowering.specs.Scoped.{may_end_kind, has_values, IsSplit, ReadyStmt, ReadyBody}
use Rattle.slot_lowering.specs.Statements.{LowersKind, LowersRun, LowersLastKind, LowersPath, EndsNames, LowersKindAt, LowersStmtAt, LowersBodyAt, LowersBlockAt, GoesOn, LeftBody, names_of}
use Rattle.slot_lowering.proofs.ScopedSteps as scoped
use Rattle.slot_lowering.proofs.Spanning.{among_none}
use Rattle.slot_lowering.proofs.Simple.{lowers_define, lowers_pair, lowers_assign, lowers_time, lowers_age, lowers_require}
use Rattle.slot_lowering.proofs.Blocks.{lowers_stmt, run_none, run_more, lowers_block, no_block, lowers_if_only, lowers_if_else}
use Rattle.slot_lowering.proofs.Paths.{path_more, path_last, last_stmt, last_time, last_age, last_require, last_if_only, last_if_else}

abbrev TypedStmt : Type 0
TypedStmt = Stmt Slot Ty

-- ---- one statement

pub placed_stmt : {b : Bool} {old new : List SlotInstr} {s : TypedStmt} → LowersKindAt b old new s.kind s.span → LowersStmtAt b old new s
placed_stmt h = record { inner = λ is. lowers_stmt (h.inner is); last = λ is. last_stmt (h.last is) }

-- what can't end a path
never_last : {old new : List SlotInstr} {kind : StmtKind Slot Ty} {span : Span} → may_end_kind kind ≡ false → LowersKind old new kind span → LowersLastKind old new kind span
never_last {old} {new} {kind} {span} never h = record {
  rows = h.rows;
  grown = h.grown;
  does = λ slots ok ends. let both : false ≡ true = sym never ∙ ends in absurd cc;
  weight = λ ends. let both : false ≡ true = sym never ∙ ends in absurd cc;
  spans = h.spans;
  arranged = λ ends. let both : false ≡ true = sym never ∙ ends in absurd cc;
}

pub placed_define : {b : Bool} {old mid new : List SlotInstr} {span : Span} {kind : StmtKind Slot Ty} {t : Ty} {constant : Bool} {slot : Slot} {at : Span} {e : TypedExpr} → kind ≡ stmts.Define t constant slot at e
    → LowersElement old mid span e → new ≡ mid ++ instruction (kinds.Define slot) span span ∷ [] → LowersKindAt b old new kind span
placed_define {b} {old} {mid} {new} {span} {kind} {t} {constant} {slot} {at} {e} is h grown = record {
  inner = λ b_is. lowers_define is h grown;
  last = λ b_is. never_last (ap may_end_kind is ∙ scoped.define_ends t constant slot at e) (lowers_define is h grown);
}

pub placed_pair : {b : Bool} {old mid new : List SlotInstr} {span : Span} {kind : StmtKind Slot Ty} {left right : Param Slot} {e : TypedExpr} → kind ≡ stmts.Pair left right e → IsSplit e
    → LowersGiven old mid span e widths.Two → new ≡ mid ++ instruction (kinds.DefinePair left.name right.name) span span ∷ [] → LowersKindAt b old new kind span
placed_pair {b} {old} {mid} {new} {span} {kind} {left} {right} {e} is split h grown = record {
  inner = λ b_is. lowers_pair is split.is h grown;
  last = λ b_is. never_last (ap may_end_kind is ∙ scoped.pair_ends left right e) (lowers_pair is split.is h grown);
}

pub placed_assign : {b : Bool} {old mid new : List SlotInstr} {span : Span} {kind : StmtKind Slot Ty} {slot : Slot} {e : TypedExpr} → kind ≡ stmts.Assign slot e
    → LowersElement old mid span e → new ≡ mid ++ instruction (kinds.Assign slot) span span ∷ [] → LowersKindAt b old new kind span
placed_assign {b} {old} {mid} {new} {span} {kind} {slot} {e} is h grown = record {
  inner = λ b_is. lowers_assign is h grown;
  last = λ b_is. never_last (ap may_end_kind is ∙ scoped.assign_ends slot e) (lowers_assign is h grown);
}

pub placed_time : {b : Bool} {old mid new : List SlotInstr} {span : Span} {kind : StmtKind Slot Ty} {e : TypedExpr} → kind ≡ stmts.Time e
    → LowersElement old mid span e → new ≡ mid ++ instruction kinds.Time span span ∷ [] → LowersKindAt b old new kind span
placed_time is h grown = record { inner = λ b_is. lowers_time is h grown; last = λ b_is. last_time is h grown }

pub placed_age : {b : Bool} {old mid new : List SlotInstr} {span : Span} {kind : StmtKind Slot Ty} {e : TypedExpr} → kind ≡ stmts.Age e
    → LowersElement old mid span e → new ≡ mid ++ instruction kinds.Age span span ∷ [] → LowersKindAt b old new kind span
placed_age is h grown = record { inner = λ b_is. lowers_age is h grown; last = λ b_is. last_age is h grown }

pub placed_require : {b : Bool} {old mid new : List SlotInstr} {span : Span} {kind : StmtKind Slot Ty} {e : TypedExpr} → kind ≡ stmts.Require e
    → LowersElement old mid span e → new ≡ mid ++ instruction kinds.Require span span ∷ [] → LowersKindAt b old new kind span
placed_require is h grown = record { inner = λ b_is. lowers_require is h grown; last = λ b_is. last_require is h grown }

-- ---- choices

pub placed_if_only : {b : Bool} {old mid new yes_code no_code : List SlotInstr} {span : Span} {kind : StmtKind Slot Ty} {e : TypedExpr} {ss : List TypedStmt} {o : Option (List TypedStmt)} → kind ≡ stmts.If e ss o → o ≡ None
    → LowersElement old mid span e → LowersBlockAt b yes_code ss span → no_code ≡ [] → new ≡ mid ++ instruction (kinds.If yes_code no_code) span span ∷ [] → LowersKindAt b old new kind span
placed_if_only {b} {old} {mid} {new} {yes_code} {no_code} {span} {kind} {e} {ss} {o} if_is o_is h y none_is grown =
    let is : kind ≡ stmts.If e ss None = if_is ∙ ap (stmts.If e ss) o_is in
    let empty : new ≡ mid ++ instruction (kinds.If yes_code []) span span ∷ [] = grown ∙ ap (λ l. mid ++ instruction (kinds.If yes_code l) span span ∷ []) none_is in record {
      inner = λ b_is. lowers_if_only is h (y.inner b_is) (no_block span) empty;
      last = λ b_is. last_if_only is h (y.last b_is) empty;
    }

pub placed_if_else : {b : Bool} {old mid new yes_code no_code : List SlotInstr} {span : Span} {kind : StmtKind Slot Ty} {e : TypedExpr} {ss us vs ws : List TypedStmt} {o : Option (List TypedStmt)} → kind ≡ stmts.If e ss o → o ≡ Some us → vs ≡ ss → ws ≡ us
    → LowersElement old mid span e → LowersBlockAt b yes_code vs span → LowersBlockAt b no_code ws span → new ≡ mid ++ instruction (kinds.If yes_code no_code) span span ∷ [] → LowersKindAt b old new kind span
placed_if_else {b} {old} {mid} {new} {yes_code} {no_code} {span} {kind} {e} {ss} {us} {vs} {ws} {o} if_is o_is vs_is ws_is h first second grown =
    let is : kind ≡ stmts.If e ss (Some us) = if_is ∙ ap (stmts.If e ss) o_is in
    let y = subst (λ l. LowersBlockAt b yes_code l span) vs_is first in
    let n = subst (λ l. LowersBlockAt b no_code l span) ws_is second in record {
      inner = λ b_is. lowers_if_else is h (y.inner b_is) (n.inner b_is) grown;
      last = λ b_is. last_if_else is h (y.last b_is) (n.last b_is) grown;
    }

-- ---- blocks

pub placed_block : {b : Bool} {none_yet mid new : List SlotInstr} {body : List TypedStmt} {checking : Span} → b ≡ false → none_yet ≡ [] → LowersBodyAt b none_yet mid body → EndsNames mid new (names_of body) checking → LowersBlockAt b new body checking
placed_block {b} {none_yet} {mid} {new} {body} {checking} no_path none_is h e = record {
  inner = λ b_is. lowers_block (subst (λ l. LowersRun l mid body) none_is (h.inner b_is)) e.grown;
  last = λ b_is. let both : true ≡ false = sym b_is ∙ no_path in absurd cc;
}

pub placed_path : {b : Bool} {none_yet new : List SlotInstr} {body : List TypedStmt} {checking : Span} → b ≡ true → none_yet ≡ [] → LowersBodyAt b none_yet new body → LowersBlockAt b new body checking
placed_path {b} {none_yet} {new} {body} {checking} path none_is h = record {
  inner = λ b_is. let both : false ≡ true = sym b_is ∙ path in absurd cc;
  last = λ b_is. subst (λ l. LowersPath l new body) none_is (h.last b_is);
}

-- ---- one after the other

path_none : (now final : List SlotInstr) → now ≡ final → LowersPath now final []
path_none now final same = record {
  rows = [];
  grown = sym same ∙ sym (append-nil now);
  does = λ slots ok ends. let never : false ≡ true = ends in absurd cc;
  weight = λ ends. let never : false ≡ true = ends in absurd cc;
  spans = among_none;
  arranged = λ ends. let never : false ≡ true = ends in absurd cc;
}

goes_on : (now final : List SlotInstr) (body : List TypedStmt) → GoesOn now final body → LowersPath now final body
goes_on now final [] h = path_none now final h
goes_on now final (s ∷ body) h = h

next_item : (body : List TypedStmt) (x : TypedStmt) (i : ℕ) → i < length body → x ≡ get_or body i x → drop i body ≡ x ∷ drop (i + 1) body
next_item body x i within is = at_drop_more (λ l. l) body i x within ∙ ap (λ y. y ∷ drop (i + 1) body) (sym is)

pub left_body_none : (b : Bool) (code : List SlotInstr) (body : List TypedStmt) → ReadyBody body → LeftBody b code code body 0
left_body_none b code body ready = record {
  ready = ready;
  inner = λ b_is final h. h;
  last = λ b_is final h. goes_on code final body h;
}

pub left_body_item : (b : Bool) (old now : List SlotInstr) (body : List TypedStmt) (x : TypedStmt) (i : ℕ) → LeftBody b old now body i → i < length body → x ≡ get_or body i x → ReadyStmt x
left_body_item b old now body x i h within is =
    let front : ReadyBody (x ∷ drop (i + 1) body) = subst ReadyBody (next_item body x i within is) h.ready in
    record { is = and_left (has_values x) (all_of (map has_values (drop (i + 1) body))) front.is }

last_one : (body : List TypedStmt) (i : ℕ) → i < length body → drop (i + 1) body ≡ [] → (i + 1 == length body) ≡ true
last_one body i within is =
    let left : length (drop (i + 1) body) ≡ 0 = ap length is in
    grind (arith, nat_tests, within, left, length-drop (i + 1) body)

not_last : (body : List TypedStmt) (s : TypedStmt) (more : List TypedStmt) (i : ℕ) → drop (i + 1) body ≡ s ∷ more → (i + 1 == length body) ≡ false
not_last body s more i is =
    let left : length (drop (i + 1) body) ≡ length (s ∷ more) = ap length is in
    let some : 1 ≤ length (drop (i + 1) body) = omega (arith, left) in
    grind (arith, nat_tests, some, length-drop (i + 1) body)

-- a statement of a path, and what is left of it
next_of_path : {b flag : Bool} {now next : List SlotInstr} {final : List SlotInstr} (body : List TypedStmt) (x : TypedStmt) (i : ℕ) → b ≡ true → flag ≡ (b && i + 1 == length body) → i < length body
    → LowersStmtAt flag now next x → (rest : List TypedStmt) → drop (i + 1) body ≡ rest → GoesOn next final rest → LowersPath now final (x ∷ rest)
next_of_path {b} {flag} {now} {next} {final} body x i b_is flag_is within e [] is h =
    let ends : flag ≡ true = flag_is ∙ ap (λ c. c && i + 1 == length body) b_is ∙ last_one body i within is in
    subst (λ l. LowersPath now l (x ∷ [])) h (path_last (e.last ends))
next_of_path {b} {flag} {now} {next} {final} body x i b_is flag_is within e (s ∷ more) is h =
    let goes : flag ≡ false = flag_is ∙ ap (λ c. c && i + 1 == length body) b_is ∙ not_last body s more i is in
    path_more (e.inner goes) h

pub left_body_more : {b flag : Bool} (old now next : List SlotInstr) (body : List TypedStmt) (x : TypedStmt) (i : ℕ) → LeftBody b old now body i → i < length body → x ≡ get_or body i x
    → flag ≡ (b && i + 1 == length body) → LowersStmtAt flag now next x → LeftBody b old next body (i + 1)
left_body_more {b} {flag} old now next body x i h within is flag_is e =
    let front : ReadyBody (x ∷ drop (i + 1) body) = subst ReadyBody (next_item body x i within is) h.ready in record {
      ready = record { is = and_right (has_values x) (all_of (map has_values (drop (i + 1) body))) front.is };
      inner = λ b_is final t.
          let goes : flag ≡ false = flag_is ∙ ap (λ c. c && i + 1 == length body) b_is in
          h.inner b_is final (subst (LowersRun now final) (sym (next_item body x i within is)) (run_more (e.inner goes) t));
      last = λ b_is final t.
          h.last b_is final (subst (GoesOn now final) (sym (next_item body x i within is)) (next_of_path body x i b_is flag_is within e (drop (i + 1) body) refl t));
    }

pub left_body_done : {b : Bool} (old now : List SlotInstr) (body : List TypedStmt) (i : ℕ) → LeftBody b old now body i → length body ≤ i → LowersBodyAt b old now body
left_body_done {b} old now body i h over = record {
  inner = λ b_is. h.inner b_is now (subst (LowersRun now now) (sym (drop_all i body over)) (run_none now));
  last = λ b_is. h.last b_is now (subst (GoesOn now now) (sym (drop_all i body over)) refl);
}
