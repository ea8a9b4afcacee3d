-- Reading an expression tells its first place that is refused, and else gives it with slots.
use Rattle.std.proofs.Common.{◌≡◌, ◌∙◌, ap, sym, subst, refl, ℕ, List, [], ◌∷◌, ◌++◌, map, append_assoc}
use Rattle.std.specs.Prelude.{Some, None, Ok}
use Rattle.std.proofs.lemmas.List.{append-nil}
use Rattle.cash_base.specs.declared.place.Span.{Span}
use Rattle.cash_base.specs.declared.place.Slot.{Slot}
use Rattle.cash_tree.specs.declared.Callee.{Callee}
use Rattle.cash_tree.specs.declared.Callee.TheVariants as callees
use Rattle.cash_tree.specs.declared.ExprKind.TheVariants as nodes
use Rattle.cash_tree.specs.declared.ExprKind.TheOpen.{ExprKind-F, Expr-F}
use Rattle.cash_tree.specs.declared.ExprKind.TheViews.{roll-Expr, roll-ExprKind}
use Rattle.cash_tree.specs.declared.ExprKind.TheFolds.{fold-ExprKind, ind-Expr, fold-roll-Expr, fold-roll-ExprKind, map-ExprKind}
use Rattle.name_scopes.specs.Names.{Names, slot_at}
use Rattle.name_scopes.specs.Wants.{Want, is_known, first_refused}
use Rattle.cash_names.specs.Expressions.{Expression, Kind, NamedExpr, NamedKind, joined, callee_wants, kind_wants, node_wants, wants_of, kind_with_slots, node_with_slots, with_slots}
use Rattle.cash_base.specs.Failing.{◌>>=◌}
use Rattle.cash_names.specs.Reading.{Reading, each_from, other_reading, callee_reading, kind_reading, expr_reading, reading_of, reading_of_kind}
use Rattle.cash_names.specs.Scopes.{NamesExpr}
use Rattle.name_scopes.proofs.Granted.{judged, asked, both, last, granted_ok, granted_none, are_granted, none_refused}

abbrev kind_wants_of : Names → Kind → List Want
kind_wants_of names = fold-ExprKind Span (Unit {0}) (List Want) (List Want) (kind_wants names) node_wants

abbrev kind_slots : (Span → Slot) → Kind → NamedKind
kind_slots f = fold-ExprKind Span (Unit {0}) NamedKind NamedExpr (kind_with_slots f) node_with_slots

abbrev KindAgrees : List ℕ → Names → Kind → Type 0
KindAgrees source names kind =
    reading_of_kind source kind names ≡ judged source (kind_wants_of names kind) (kind_slots (slot_at source names) kind)

abbrev pub Agrees : List ℕ → Names → Expression → Type 0
Agrees source names e =
    reading_of source e names ≡ judged source (wants_of names e) (with_slots (slot_at source names) e)

abbrev Kinds : List ℕ → Names → Type 0
Kinds source names = (kind : Kind) × KindAgrees source names kind

abbrev Exprs : List ℕ → Names → Type 0
Exprs source names = (e : Expression) × Agrees source names e

each_agrees : (source : List ℕ) (names : Names) (es : List (Exprs source names)) (done : List NamedExpr)
    → each_from done (map (reading_of source) (map (λ e. e.0) es)) names
    ≡ judged source (joined (map (wants_of names) (map (λ e. e.0) es))) (done ++ map (with_slots (slot_at source names)) (map (λ e. e.0) es))
each_agrees source names [] done = ap Ok (sym (append-nil done))
each_agrees source names (e ∷ es) done =
    let f = with_slots (slot_at source names) in
    let rest = joined (map (wants_of names) (map (λ e. e.0) es)) in
    both source (reading_of source e.0 names) (wants_of names e.0) (f e.0) (λ x. each_from (done ++ x ∷ []) (map (reading_of source) (map (λ e. e.0) es)) names) rest (done ++ f e.0 ∷ map f (map (λ e. e.0) es)) e.1
    (each_agrees source names es (done ++ f e.0 ∷ []) ∙ ap (λ l. judged source rest l) (append_assoc done (f e.0 ∷ []) (map f (map (λ e. e.0) es))))

-- a list of parts, and what is made of it
list_agrees : (source : List ℕ) (names : Names) (es : List (Exprs source names)) (h : List NamedExpr → NamedKind)
    → (each_from [] (map (reading_of source) (map (λ e. e.0) es)) names >>= (λ x. Ok (h x)))
    ≡ judged source (joined (map (wants_of names) (map (λ e. e.0) es))) (h (map (with_slots (slot_at source names)) (map (λ e. e.0) es)))
list_agrees source names es h =
    last source (each_from [] (map (reading_of source) (map (λ e. e.0) es)) names) (joined (map (wants_of names) (map (λ e. e.0) es))) (map (with_slots (slot_at source names)) (map (λ e. e.0) es)) h (each_agrees source names es [])

-- what is called, and then its arguments
call_agrees : (source : List ℕ) (names : Names) (callee : Callee) (es : List (Exprs source names))
    (h : List NamedExpr → NamedKind)
    → (callee_reading callee >>= (λ u. each_from [] (map (reading_of source) (map (λ e. e.0) es)) names >>= (λ x. Ok (h x))))
    ≡ judged source (callee_wants callee ++ joined (map (wants_of names) (map (λ e. e.0) es))) (h (map (with_slots (slot_at source names)) (map (λ e. e.0) es)))
call_agrees source names (callees.Known b) es h = list_agrees source names es h
call_agrees source names (callees.Unknown at) es h = refl

-- one part, and what is made of it
one_agrees : (source : List ℕ) (names : Names) (e : Exprs source names) (h : NamedExpr → NamedKind)
    → (reading_of source e.0 names >>= (λ x. Ok (h x)))
    ≡ judged source (wants_of names e.0) (h (with_slots (slot_at source names) e.0))
one_agrees source names e h =
    last source (reading_of source e.0 names) (wants_of names e.0) (with_slots (slot_at source names) e.0) h e.1

-- two parts, and what is made of them
two_agree : (source : List ℕ) (names : Names) (a b : Exprs source names) (h : NamedExpr → NamedExpr → NamedKind)
    → (reading_of source a.0 names >>= (λ x. reading_of source b.0 names >>= (λ y. Ok (h x y))))
    ≡ judged source (wants_of names a.0 ++ wants_of names b.0) (h (with_slots (slot_at source names) a.0) (with_slots (slot_at source names) b.0))
two_agree source names a b h =
    let f = with_slots (slot_at source names) in
    both source (reading_of source a.0 names) (wants_of names a.0) (f a.0) (λ x. reading_of source b.0 names >>= (λ y. Ok (h x y))) (wants_of names b.0) (h (f a.0) (f b.0)) a.1
    (one_agrees source names b (λ y. h (f a.0) y))

abbrev kind_parts : (source : List ℕ) (names : Names) → ExprKind-F Span (Unit {0}) (Kinds source names) (Exprs source names) → ExprKind-F Span (Unit {0}) Kind Expression
kind_parts source names = map-ExprKind Span (Unit {0}) (Kinds source names) (Exprs source names) Kind Expression (λ k. k.0) (λ e. e.0)

abbrev kind_readings : List ℕ → ExprKind-F Span (Unit {0}) Kind Expression → ExprKind-F Span (Unit {0}) (Reading NamedKind) (Reading NamedExpr)
kind_readings source = map-ExprKind Span (Unit {0}) Kind Expression (Reading NamedKind) (Reading NamedExpr) (reading_of_kind source) (reading_of source)

abbrev kind_lists : Names → ExprKind-F Span (Unit {0}) Kind Expression → ExprKind-F Span (Unit {0}) (List Want) (List Want)
kind_lists names = map-ExprKind Span (Unit {0}) Kind Expression (List Want) (List Want) (kind_wants_of names) (wants_of names)

abbrev kind_named : (Span → Slot) → ExprKind-F Span (Unit {0}) Kind Expression → ExprKind-F Span (Unit {0}) NamedKind NamedExpr
kind_named f = map-ExprKind Span (Unit {0}) Kind Expression NamedKind NamedExpr (kind_slots f) (with_slots f)

kind_step : (source : List ℕ) (names : Names) (y : ExprKind-F Span (Unit {0}) (Kinds source names) (Exprs source names))
    → kind_reading source (kind_readings source (kind_parts source names y)) names
    ≡ judged source (kind_wants names (kind_lists names (kind_parts source names y))) (kind_with_slots (slot_at source names) (kind_named (slot_at source names) (kind_parts source names y)))
unfolding reading_of reading_of_kind
kind_step source names (ExprKind-F.Int digits unit) = refl
kind_step source names (ExprKind-F.Bool b) = refl
kind_step source names (ExprKind-F.Hex bytes) = refl
kind_step source names (ExprKind-F.Text bytes) = refl
kind_step source names (ExprKind-F.Date seconds) = refl
kind_step source names (ExprKind-F.Name at) =
    asked source (is_known names at) (slot_at source names at) (λ s. Ok (nodes.Name s)) [] (nodes.Name (slot_at source names at)) refl
kind_step source names (ExprKind-F.Unary op value) = one_agrees source names value (λ v. nodes.Unary op v)
kind_step source names (ExprKind-F.Binary op left right) = two_agree source names left right (λ l r. nodes.Binary op l r)
kind_step source names (ExprKind-F.Length value) = one_agrees source names value (λ v. nodes.Length v)
kind_step source names (ExprKind-F.Reverse value) = one_agrees source names value (λ v. nodes.Reverse v)
kind_step source names (ExprKind-F.Split value at) = two_agree source names value at (λ v a. nodes.Split v a)
kind_step source names (ExprKind-F.Index pair number) = one_agrees source names pair (λ p. nodes.Index p number)
kind_step source names (ExprKind-F.Cast to value None) =
    let v = with_slots (slot_at source names) value.0 in
    both source (reading_of source value.0 names) (wants_of names value.0) v (λ v. Ok (nodes.Cast to v None)) [] (nodes.Cast to v None) value.1 refl
kind_step source names (ExprKind-F.Cast to value (Some size)) =
    let f = with_slots (slot_at source names) in
    both source (reading_of source value.0 names) (wants_of names value.0) (f value.0) (λ v. other_reading (Some (reading_of source size.0)) names >>= (λ s. Ok (nodes.Cast to v s))) (wants_of names size.0) (nodes.Cast to (f value.0) (Some (f size.0))) value.1
    (last source (other_reading (Some (reading_of source size.0)) names) (wants_of names size.0) (Some (f size.0)) (λ s. nodes.Cast to (f value.0) s)
    (last source (reading_of source size.0 names) (wants_of names size.0) (f size.0) (λ s. Some s) size.1))
kind_step source names (ExprKind-F.Call callee args) = call_agrees source names callee args (λ vs. nodes.Call callee vs)
kind_step source names (ExprKind-F.New callee args) = call_agrees source names callee args (λ vs. nodes.New callee vs)
kind_step source names (ExprKind-F.Array items) = list_agrees source names items (λ vs. nodes.Array vs)
kind_step source names (ExprKind-F.Look0 look) = refl
kind_step source names (ExprKind-F.LookAt look index) = one_agrees source names index (λ i. nodes.LookAt look i)

same_judged : {A : Type 0} (source : List ℕ) (a b : List Want) (v w : A) → a ≡ b → v ≡ w
    → judged source a v ≡ judged source b w
same_judged source a b v w e d = ap (λ a. judged source a v) e ∙ ap (λ v. judged source b v) d

pub agrees : (source : List ℕ) (names : Names) (e : Expression) → Agrees source names e
unfolding reading_of reading_of_kind
agrees source names = ind-Expr Span (Unit {0}) (KindAgrees source names) (Agrees source names)
    (λ x y is. subst (λ z. KindAgrees source names (roll-ExprKind Span (Unit {0}) z)) is (
    let k = kind_parts source names y in
    let f = slot_at source names in
    ap (λ r. r names) (fold-roll-ExprKind Span (Unit {0}) (Reading NamedKind) (Reading NamedExpr) (kind_reading source) expr_reading k)
    ∙ kind_step source names y
    ∙ sym (same_judged source (kind_wants_of names (roll-ExprKind Span (Unit {0}) k)) (kind_wants names (kind_lists names k)) (kind_slots f (roll-ExprKind Span (Unit {0}) k)) (kind_with_slots f (kind_named f k))
    (fold-roll-ExprKind Span (Unit {0}) (List Want) (List Want) (kind_wants names) node_wants k)
    (fold-roll-ExprKind Span (Unit {0}) NamedKind NamedExpr (kind_with_slots f) node_with_slots k))))
    (λ x y is. subst (λ z. Agrees source names (roll-Expr Span (Unit {0}) z)) is (
    let f = slot_at source names in
    let make : NamedKind → NamedExpr = (λ k. record { kind = k; ty = tt; span = y.span }) in
    let e : Expr-F Span (Unit {0}) Kind Expression = record { kind = y.kind.0; ty = y.ty; span = y.span } in
    ap (λ r. r names) (fold-roll-Expr Span (Unit {0}) (Reading NamedKind) (Reading NamedExpr) (kind_reading source) expr_reading e)
    ∙ last source (reading_of_kind source y.kind.0 names) (kind_wants_of names y.kind.0) (kind_slots f y.kind.0) make y.kind.1
    ∙ sym (same_judged source (wants_of names (roll-Expr Span (Unit {0}) e)) (kind_wants_of names y.kind.0) (with_slots f (roll-Expr Span (Unit {0}) e)) (make (kind_slots f y.kind.0))
    (fold-roll-Expr Span (Unit {0}) (List Want) (List Want) (kind_wants names) node_wants e)
    (fold-roll-Expr Span (Unit {0}) NamedKind NamedExpr (kind_with_slots f) node_with_slots e))))

-- ---- what is named is read, and what is read is named

pub complete : (source : List ℕ) (names : Names) (e : Expression) (x : NamedExpr) → NamesExpr source names e x
    → reading_of source e names ≡ Ok x
complete source names e x h =
    agrees source names e
    ∙ granted_none (first_refused source (wants_of names e)) (with_slots (slot_at source names) e) (none_refused source (wants_of names e) h.0)
    ∙ ap Ok (sym h.1)

pub sound : (source : List ℕ) (names : Names) (e : Expression) (x : NamedExpr) → reading_of source e names ≡ Ok x
    → NamesExpr source names e x
sound source names e x is =
    let r = granted_ok (first_refused source (wants_of names e)) (with_slots (slot_at source names) e) x (sym (agrees source names e) ∙ is) in
    (are_granted source (wants_of names e) r.0, sym r.1)
