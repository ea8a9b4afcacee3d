-- The names that an expression reads are known: those of a named one are in scope, and a typed one reads the same.
use Rattle.std.proofs.Common.{◌≡◌, ◌∙◌, ap, sym, subst, refl, ℕ, ◌+◌, Bool, true, List, [], ◌∷◌, ◌++◌, map, Some, None}
use Rattle.std.specs.Prelude.{◌&&◌}
use Rattle.std.specs.List.{list_all}
use Rattle.std.proofs.lemmas.List.Folds.{list_all-append}
use Rattle.cash_base.specs.declared.place.Span.{Span}
use Rattle.cash_base.specs.declared.place.Slot.{Slot}
use Rattle.cash_base.specs.Source.{text_at}
use Rattle.cash_tree.specs.declared.Ty.{Ty}
use Rattle.cash_tree.specs.declared.ExprKind.TheOpen.{ExprKind-F, Expr-F}
use Rattle.cash_tree.specs.declared.ExprKind.TheViews.{roll-Expr, roll-ExprKind, roll-out-ExprKind}
use Rattle.cash_tree.specs.declared.ExprKind.TheFolds.{fold-Expr, fold-ExprKind, ind-Expr, fold-roll-Expr, fold-roll-ExprKind, map-ExprKind}
use Rattle.cash_tree.specs.Nodes.{joined}
use Rattle.name_scopes.specs.declared.scope.Variable.{Variable}
use Rattle.name_scopes.specs.Names.{Names, look, slot_of, slot_at}
use Rattle.name_scopes.specs.Wants.{Want, IsGranted, AreGranted}
use Rattle.cash_names.specs.Expressions.{Expression, Kind, NamedExpr, NamedKind, kind_wants, node_wants, wants_of, joined as joined_wants, callee_wants, with_slots}
use Rattle.cash_names.specs.Scopes.{NamesExpr}
use Rattle.cash_names.specs.Definitions.{expression_kind_uses, node_uses, expression_uses}
use Rattle.cash_names.proofs.Kept.{layer, node, early_kind, early, fused}
use Rattle.type_tables.specs.declared.rules.Signature.{Signature}
use Rattle.type_tables.specs.Tables.{TypedExpr, Env as Types, place_at}
use Rattle.type_check.specs.Shapes as shapes
use Rattle.type_check.specs.Shapes.{Shape, Place, TypedKind, KindLayer, shape, opened, expr, typed}
use Rattle.type_check.specs.Typing as rule
use Rattle.type_check.specs.Typing.{HasType, HasShape, HaveTypes, node as typed_node, none, next}
use Rattle.type_soundness.proofs.View.{Layer}
use Rattle.slot_expressions.specs.Ready.{Known-names}

record AreKnown (known : Known-names) (slots : List Slot) : Type 0 where
  all : list_all known slots ≡ true

-- what is found at a span is known
abbrev pub Sees : List ℕ → Names → Known-names → Type 0
Sees source names known = (span : Span) (v : Variable) → look (text_at source span) names ≡ Some v → known v.slot ≡ true

none_known : {known : Known-names} → AreKnown known []
none_known = record { all = refl }

both_known : {known : Known-names} {a b : List Slot} → AreKnown known a → AreKnown known b → AreKnown known (a ++ b)
both_known {known} {a} {b} p q = record { all = list_all-append known a b ∙ ap (λ c. c && list_all known b) p.all ∙ q.all }

known_by : {known : Known-names} {a b : List Slot} → a ≡ b → AreKnown known b → AreKnown known a
known_by {known} p h = subst (AreKnown known) (sym p) h

one_known : (source : List ℕ) (names : Names) (known : Known-names) (span : Span) (v : Variable) → Sees source names known → look (text_at source span) names ≡ Some v
    → AreKnown known (slot_at source names span ∷ [])
one_known source names known span v sees is = record { all = ap (λ o. known (slot_of o) && true) is ∙ ap (λ b. b && true) (sees span v is) }

-- ---- named expressions

apart : (source : List ℕ) (a b : List Want) → AreGranted source (a ++ b) → AreGranted source a × AreGranted source b
apart source [] b h = (tt, h)
apart source (w ∷ a) b h = let r = apart source a b h.1 in ((h.0, r.0), r.1)

abbrev kind_wants_of : Names → Kind → List Want
kind_wants_of names = fold-ExprKind Span (Unit {0}) (List Want) (List Want) (kind_wants names) node_wants

abbrev slots_of_kind : List ℕ → Names → Kind → List Slot
slots_of_kind source names = early_kind (slot_at source names) expression_kind_uses node_uses

abbrev slots_of : List ℕ → Names → Expression → List Slot
slots_of source names = early (slot_at source names) expression_kind_uses node_uses

module _ (source : List ℕ) (names : Names) (known : Known-names) (sees : Sees source names known) where
  abbrev KindUsed : Kind → Type 0
  KindUsed kind = AreGranted source (kind_wants_of names kind) → AreKnown known (slots_of_kind source names kind)

  abbrev ExprUsed : Expression → Type 0
  ExprUsed e = AreGranted source (wants_of names e) → AreKnown known (slots_of source names e)

  abbrev Kinds : Type 0
  Kinds = (kind : Kind) × KindUsed kind

  abbrev Exprs : Type 0
  Exprs = (e : Expression) × ExprUsed e

  abbrev kind_parts : ExprKind-F Span (Unit {0}) Kinds Exprs → ExprKind-F Span (Unit {0}) Kind Expression
  kind_parts = map-ExprKind Span (Unit {0}) Kinds Exprs Kind Expression (λ k. k.0) (λ e. e.0)

  abbrev kind_lists : ExprKind-F Span (Unit {0}) Kind Expression → ExprKind-F Span (Unit {0}) (List Want) (List Want)
  kind_lists = map-ExprKind Span (Unit {0}) Kind Expression (List Want) (List Want) (kind_wants_of names) (wants_of names)

  abbrev kind_slots : ExprKind-F Span (Unit {0}) Kind Expression → ExprKind-F Span (Unit {0}) (List Slot) (List Slot)
  kind_slots = map-ExprKind Span (Unit {0}) Kind Expression (List Slot) (List Slot) (slots_of_kind source names) (slots_of source names)

  list_used : (es : List Exprs) → AreGranted source (joined_wants (map (wants_of names) (map (λ e. e.0) es)))
      → AreKnown known (joined (map (slots_of source names) (map (λ e. e.0) es)))
  list_used [] h = none_known
  list_used (e ∷ es) h =
      let r = apart source (wants_of names e.0) (joined_wants (map (wants_of names) (map (λ e. e.0) es))) h in both_known (e.1 r.0) (list_used es r.1)

  two_used : (x y : Exprs) → AreGranted source (wants_of names x.0 ++ wants_of names y.0) → AreKnown known (slots_of source names x.0 ++ slots_of source names y.0)
  two_used x y h = let r = apart source (wants_of names x.0) (wants_of names y.0) h in both_known (x.1 r.0) (y.1 r.1)

  call_used : (front : List Want) (es : List Exprs) → AreGranted source (front ++ joined_wants (map (wants_of names) (map (λ e. e.0) es)))
      → AreKnown known (joined (map (slots_of source names) (map (λ e. e.0) es)))
  call_used front es h = list_used es (apart source front (joined_wants (map (wants_of names) (map (λ e. e.0) es))) h).1

  step : (y : ExprKind-F Span (Unit {0}) Kinds Exprs) → AreGranted source (kind_wants names (kind_lists (kind_parts y)))
      → AreKnown known (expression_kind_uses (layer (slot_at source names) (kind_slots (kind_parts y))))
  step (ExprKind-F.Name span) h = one_known source names known span h.0.0 sees h.0.1
  step (ExprKind-F.Unary op value) h = value.1 h
  step (ExprKind-F.Binary op left right) h = two_used left right h
  step (ExprKind-F.Length value) h = value.1 h
  step (ExprKind-F.Reverse value) h = value.1 h
  step (ExprKind-F.Split value at) h = two_used value at h
  step (ExprKind-F.Index pair number) h = pair.1 h
  step (ExprKind-F.Cast to value None) h = both_known (value.1 (apart source (wants_of names value.0) [] h).0) none_known
  step (ExprKind-F.Cast to value (Some size)) h = two_used value size h
  step (ExprKind-F.Call callee args) h = call_used (callee_wants callee) args h
  step (ExprKind-F.New callee args) h = call_used (callee_wants callee) args h
  step (ExprKind-F.Array items) h = list_used items h
  step (ExprKind-F.LookAt look index) h = index.1 h
  step _ h = none_known

  early_used : (e : Expression) → ExprUsed e
  early_used = ind-Expr Span (Unit {0}) KindUsed ExprUsed
      (λ x y is. subst (λ z. KindUsed (roll-ExprKind Span (Unit {0}) z)) is (λ h.
      let p = kind_parts y in
      let wants = fold-roll-ExprKind Span (Unit {0}) (List Want) (List Want) (kind_wants names) node_wants p in
      let slots = fold-roll-ExprKind Span (Unit {0}) (List Slot) (List Slot) (λ y. expression_kind_uses (layer (slot_at source names) y)) (λ e. node_uses (node e)) p in
      known_by slots (step y (subst (AreGranted source) wants h))))
      (λ x y is. subst (λ z. ExprUsed (roll-Expr Span (Unit {0}) z)) is (λ h.
      let e : Expr-F Span (Unit {0}) Kind Expression = record { kind = y.kind.0; ty = y.ty; span = y.span } in
      let wants = fold-roll-Expr Span (Unit {0}) (List Want) (List Want) (kind_wants names) node_wants e in
      let slots = fold-roll-Expr Span (Unit {0}) (List Slot) (List Slot) (λ y. expression_kind_uses (layer (slot_at source names) y)) (λ e. node_uses (node e)) e in
      known_by slots (y.kind.1 (subst (AreGranted source) wants h))))

  pub named_known : (e : Expression) (x : NamedExpr) → NamesExpr source names e x → list_all known (expression_uses x) ≡ true
  named_known e x h =
      (known_by (ap (λ (x : NamedExpr). expression_uses x) h.1 ∙ fused (slot_at source names) expression_kind_uses node_uses e) (early_used e h.0)).all

-- ---- typed expressions

abbrev typed_uses : TypedKind → List Slot
typed_uses = fold-ExprKind Slot Ty (List Slot) (List Slot) expression_kind_uses node_uses

abbrev named_uses : NamedKind → List Slot
named_uses = fold-ExprKind Slot (Unit {0}) (List Slot) (List Slot) expression_kind_uses node_uses

of_typed : (l : Layer) → typed_uses (roll-ExprKind Slot Ty l) ≡ expression_kind_uses (map-ExprKind Slot Ty TypedKind TypedExpr (List Slot) (List Slot) typed_uses expression_uses l)
of_typed l = fold-roll-ExprKind Slot Ty (List Slot) (List Slot) expression_kind_uses node_uses l

of_named : (l : KindLayer NamedKind NamedExpr) → named_uses (roll-ExprKind Slot (Unit {0}) l) ≡ expression_kind_uses (map-ExprKind Slot (Unit {0}) NamedKind NamedExpr (List Slot) (List Slot) named_uses expression_uses l)
of_named l = fold-roll-ExprKind Slot (Unit {0}) (List Slot) (List Slot) expression_kind_uses node_uses l

-- what a node is with typed parts reads what its parts read
abbrev Reads : Shape NamedExpr → List Slot → Type 0
Reads (shapes.leaf m r) slots = typed_uses m ≡ slots
Reads (shapes.one a make r) slots = (x : TypedExpr) → expression_uses x ≡ expression_uses a → typed_uses (make x) ≡ slots
Reads (shapes.two a b make r) slots = (x y : TypedExpr) → expression_uses x ≡ expression_uses a → expression_uses y ≡ expression_uses b → typed_uses (make x y) ≡ slots
Reads (shapes.many s es make r) slots = (xs : List TypedExpr) → map expression_uses xs ≡ map expression_uses es → typed_uses (make xs) ≡ slots

uses_in : KindLayer NamedKind NamedExpr → List Slot
uses_in l = expression_kind_uses (map-ExprKind Slot (Unit {0}) NamedKind NamedExpr (List Slot) (List Slot) named_uses expression_uses l)

layer_reads : (l : KindLayer NamedKind NamedExpr) (span : Span) (place : Place) (env : Types) → Reads (shape l span place env) (uses_in l)
unfolding roll-ExprKind denote.Hole.Carrier.roll uses_in
layer_reads (ExprKind-F.Int digits unit) span place env = let l : Layer = ExprKind-F.Int digits unit in of_typed l
layer_reads (ExprKind-F.Bool b) span place env = let l : Layer = ExprKind-F.Bool b in of_typed l
layer_reads (ExprKind-F.Hex bytes) span place env = let l : Layer = ExprKind-F.Hex bytes in of_typed l
layer_reads (ExprKind-F.Text bytes) span place env = let l : Layer = ExprKind-F.Text bytes in of_typed l
layer_reads (ExprKind-F.Date seconds) span place env = let l : Layer = ExprKind-F.Date seconds in of_typed l
layer_reads (ExprKind-F.Name slot) span place env = let l : Layer = ExprKind-F.Name slot in of_typed l
layer_reads (ExprKind-F.Unary op a) span place env = λ x p. let l : Layer = ExprKind-F.Unary op x in of_typed l ∙ p
layer_reads (ExprKind-F.Binary op a b) span place env = λ x y p q.
    let l : Layer = ExprKind-F.Binary op x y in of_typed l ∙ ap (λ u. u ++ expression_uses y) p ∙ ap (λ u. expression_uses a ++ u) q
layer_reads (ExprKind-F.Length a) span place env = λ x p. let l : Layer = ExprKind-F.Length x in of_typed l ∙ p
layer_reads (ExprKind-F.Reverse a) span place env = λ x p. let l : Layer = ExprKind-F.Reverse x in of_typed l ∙ p
layer_reads (ExprKind-F.Split a b) span place env = λ x y p q.
    let l : Layer = ExprKind-F.Split x y in of_typed l ∙ ap (λ u. u ++ expression_uses y) p ∙ ap (λ u. expression_uses a ++ u) q
layer_reads (ExprKind-F.Index a number) span place env = λ x p. let l : Layer = ExprKind-F.Index x number in of_typed l ∙ p
layer_reads (ExprKind-F.Cast to a None) span place env = λ x p. let l : Layer = ExprKind-F.Cast to x None in of_typed l ∙ ap (λ u. u ++ []) p
layer_reads (ExprKind-F.Cast to a (Some b)) span place env = λ x y p q.
    let l : Layer = ExprKind-F.Cast to x (Some y) in of_typed l ∙ ap (λ u. u ++ expression_uses y) p ∙ ap (λ u. expression_uses a ++ u) q
layer_reads (ExprKind-F.Call callee args) span place env = λ xs p. let l : Layer = ExprKind-F.Call callee xs in of_typed l ∙ ap joined p
layer_reads (ExprKind-F.New callee args) span place env = λ xs p. let l : Layer = ExprKind-F.New callee xs in of_typed l ∙ ap joined p
layer_reads (ExprKind-F.Array items) span place env = λ xs p. let l : Layer = ExprKind-F.Array xs in of_typed l ∙ ap joined p
layer_reads (ExprKind-F.Look0 look) span place env = let l : Layer = ExprKind-F.Look0 look in of_typed l
layer_reads (ExprKind-F.LookAt look a) span place env = λ x p. let l : Layer = ExprKind-F.LookAt look x in of_typed l ∙ p

kind_reads : (k : NamedKind) (span : Span) (place : Place) (env : Types) → Reads (shape (opened k) span place env) (named_uses k)
unfolding uses_in
kind_reads k span place env =
    subst (Reads (shape (opened k) span place env)) (sym (of_named (opened k)) ∙ ap named_uses (roll-out-ExprKind Slot (Unit {0}) k)) (layer_reads (opened k) span place env)

whole_typed : (m : TypedKind) (t : Ty) (span : Span) → expression_uses (typed m t span) ≡ typed_uses m
whole_typed m t span = let l : Expr-F Slot Ty TypedKind TypedExpr = record { kind = m; ty = t; span = span } in fold-roll-Expr Slot Ty (List Slot) (List Slot) expression_kind_uses node_uses l

whole_named : (k : NamedKind) (span : Span) → expression_uses (expr k span) ≡ named_uses k
whole_named k span = let l : Expr-F Slot (Unit {0}) NamedKind NamedExpr = record { kind = k; ty = tt; span = span } in fold-roll-Expr Slot (Unit {0}) (List Slot) (List Slot) expression_kind_uses node_uses l

mutual
  pub uses_kept : (env : Types) (place : Place) (e : NamedExpr) (x : TypedExpr) → HasType env place e x → expression_uses x ≡ expression_uses e
  uses_kept env _ _ _ (typed_node place k m span t h) =
      whole_typed m t span ∙ shape_uses env (shape (opened k) span place env) m t (named_uses k) (kind_reads k span place env) h ∙ sym (whole_named k span)

  shape_uses : (env : Types) (s : Shape NamedExpr) (m : TypedKind) (t : Ty) (slots : List Slot) → Reads s slots → HasShape env s m t → typed_uses m ≡ slots
  shape_uses env _ _ _ slots reads (rule.leaf m r t is) = reads
  shape_uses env _ _ _ slots reads (rule.one a x make r t h is) = reads x (uses_kept env None a x h)
  shape_uses env _ _ _ slots reads (rule.two a b x y make r t h i is) = reads x y (uses_kept env None a x h) (uses_kept env None b y i)
  shape_uses env _ _ _ slots reads (rule.many s es xs make r t h is) = reads xs (each_uses env s 0 es xs h)

  each_uses : (env : Types) (s : Signature) (at : ℕ) (es : List NamedExpr) (xs : List TypedExpr) → HaveTypes env s at es xs → map expression_uses xs ≡ map expression_uses es
  each_uses env _ _ _ _ (none s at) = refl
  each_uses env _ _ _ _ (next s at e es x xs h hs) =
      ap (λ u. u ∷ map expression_uses xs) (uses_kept env (place_at s at) e x h) ∙ ap (λ us. expression_uses e ∷ us) (each_uses env s (at + 1) es xs hs)
