-- What reading an expression of each kind is.
use Rattle.std.proofs.Common.{◌≡◌, ◌∙◌, ap, refl, ℕ, Bool, List, [], map, Option, Ok, ℤ, rules}
use Rattle.std.specs.Prelude.{option_map, Some, None, Err}
use Rattle.cash_base.specs.declared.place.Span.{Span}
use Rattle.cash_base.specs.declared.look.Look0.{Look0}
use Rattle.cash_base.specs.declared.look.LookAt.{LookAt}
use Rattle.cash_tree.specs.declared.Ty.{Ty}
use Rattle.cash_tree.specs.declared.UnaryOp.{UnaryOp}
use Rattle.cash_tree.specs.declared.BinaryOp.{BinaryOp}
use Rattle.cash_tree.specs.declared.Callee.{Callee}
use Rattle.cash_tree.specs.declared.ExprKind.TheVariants as nodes
use Rattle.cash_tree.specs.declared.ExprKind.TheOpen.{ExprKind-F}
use Rattle.cash_tree.specs.declared.ExprKind.TheViews.{roll-ExprKind}
use Rattle.cash_tree.specs.declared.ExprKind.TheFolds.{fold-roll-ExprKind, map-ExprKind, the_lemmas}
use Rattle.name_scopes.specs.Names.{Names, slot_at}
use Rattle.name_scopes.specs.Wants.{is_known}
use Rattle.cash_tree.specs.declared.StmtKind.{StmtKind}
use Rattle.cash_tree.specs.declared.StmtKind.TheVariants as stmts
use Rattle.cash_tree.specs.declared.StmtKind.TheFolds.{the_lemmas as stmt_lemmas}
use Rattle.cash_names.specs.Expressions.{Expression, Kind, NamedExpr, NamedKind}
use Rattle.cash_names.specs.Outline.{Statement, NamedStmt, NamedStmtKind}
use Rattle.cash_base.specs.Failing.{◌>>=◌}
use Rattle.name_scopes.specs.Uses.{Answer, given}
use Rattle.cash_names.specs.Reading.{Reading, kind_reading, expr_reading, each_from, other_reading, callee_reading, reading_of, reading_of_kind, block_reading, other_block, reading_of_stmt, reading_of_stmt_kind}

abbrev named : NamedKind → Span → NamedExpr
named kind span = record { kind = kind; ty = tt; span = span }

-- an answer of some value, and of two
abbrev some : NamedExpr → Answer (Option NamedExpr)
some x = Ok (Some x)

abbrev pub both_of : {A : Type 0} → A → Names → Answer (A × Names)
both_of x names = Ok (x, names)

at_kind : (source : List ℕ) (y : ExprKind-F Span (Unit {0}) Kind Expression) (names : Names)
    → reading_of_kind source (roll-ExprKind Span (Unit {0}) y) names
    ≡ kind_reading source (map-ExprKind Span (Unit {0}) Kind Expression (Reading NamedKind) (Reading NamedExpr) (reading_of_kind source) (reading_of source) y) names
unfolding reading_of reading_of_kind
at_kind source y names =
    ap (λ r. r names) (fold-roll-ExprKind Span (Unit {0}) (Reading NamedKind) (Reading NamedExpr) (kind_reading source) expr_reading y)

pub at_node : (source : List ℕ) (e : Expression) (names : Names)
    → reading_of source e names ≡ (reading_of_kind source e.kind names >>= (λ k. Ok (named k e.span)))
unfolding reading_of reading_of_kind
at_node source e names = search (rules, the_lemmas)

pub at_int : (source : List ℕ) (digits unit : ℕ) (names : Names)
    → reading_of_kind source (nodes.Int digits unit) names ≡ Ok (nodes.Int digits unit)
unfolding reading_of reading_of_kind
at_int source digits unit names = search (rules, the_lemmas)

pub at_bool : (source : List ℕ) (b : Bool) (names : Names) → reading_of_kind source (nodes.Bool b) names ≡ Ok (nodes.Bool b)
unfolding reading_of reading_of_kind
at_bool source b names = search (rules, the_lemmas)

pub at_hex : (source : List ℕ) (bytes : List ℕ) (names : Names) → reading_of_kind source (nodes.Hex bytes) names ≡ Ok (nodes.Hex bytes)
unfolding reading_of reading_of_kind
at_hex source bytes names = search (rules, the_lemmas)

pub at_text : (source : List ℕ) (bytes : List ℕ) (names : Names) → reading_of_kind source (nodes.Text bytes) names ≡ Ok (nodes.Text bytes)
unfolding reading_of reading_of_kind
at_text source bytes names = search (rules, the_lemmas)

pub at_date : (source : List ℕ) (seconds : ℤ) (names : Names) → reading_of_kind source (nodes.Date seconds) names ≡ Ok (nodes.Date seconds)
unfolding reading_of reading_of_kind
at_date source seconds names = search (rules, the_lemmas)

pub at_name : (source : List ℕ) (at : Span) (names : Names) → reading_of_kind source (nodes.Name at) names
    ≡ (given source (is_known names at) (slot_at source names at) >>= (λ s. Ok (nodes.Name s)))
unfolding reading_of reading_of_kind
at_name source at names = search (rules, the_lemmas)

pub at_unary : (source : List ℕ) (op : UnaryOp) (e : Expression) (names : Names) → reading_of_kind source (nodes.Unary op e) names
    ≡ (reading_of source e names >>= (λ v. Ok (nodes.Unary op v)))
unfolding reading_of reading_of_kind
at_unary source op e names = search (rules, the_lemmas)

pub at_binary : (source : List ℕ) (op : BinaryOp) (a b : Expression) (names : Names) → reading_of_kind source (nodes.Binary op a b) names
    ≡ (reading_of source a names >>= (λ l. reading_of source b names >>= (λ r. Ok (nodes.Binary op l r))))
unfolding reading_of reading_of_kind
at_binary source op a b names = search (rules, the_lemmas)

pub at_length : (source : List ℕ) (e : Expression) (names : Names) → reading_of_kind source (nodes.Length e) names
    ≡ (reading_of source e names >>= (λ v. Ok (nodes.Length v)))
unfolding reading_of reading_of_kind
at_length source e names = search (rules, the_lemmas)

pub at_reverse : (source : List ℕ) (e : Expression) (names : Names) → reading_of_kind source (nodes.Reverse e) names
    ≡ (reading_of source e names >>= (λ v. Ok (nodes.Reverse v)))
unfolding reading_of reading_of_kind
at_reverse source e names = search (rules, the_lemmas)

pub at_split : (source : List ℕ) (a b : Expression) (names : Names) → reading_of_kind source (nodes.Split a b) names
    ≡ (reading_of source a names >>= (λ l. reading_of source b names >>= (λ r. Ok (nodes.Split l r))))
unfolding reading_of reading_of_kind
at_split source a b names = search (rules, the_lemmas)

pub at_index : (source : List ℕ) (e : Expression) (n : ℕ) (names : Names) → reading_of_kind source (nodes.Index e n) names
    ≡ (reading_of source e names >>= (λ v. Ok (nodes.Index v n)))
unfolding reading_of reading_of_kind
at_index source e n names = search (rules, the_lemmas)

pub at_cast : (source : List ℕ) (to : Ty) (e : Expression) (size : Option Expression) (names : Names) → reading_of_kind source (nodes.Cast to e size) names
    ≡ (reading_of source e names >>= (λ v. other_reading (option_map (reading_of source) size) names >>= (λ s. Ok (nodes.Cast to v s))))
unfolding reading_of reading_of_kind roll-ExprKind denote.Hole.Carrier.roll
at_cast source to e None names = at_kind source (ExprKind-F.Cast to e None) names
at_cast source to e (Some size) names = at_kind source (ExprKind-F.Cast to e (Some size)) names

pub at_call : (source : List ℕ) (callee : Callee) (es : List Expression) (names : Names) → reading_of_kind source (nodes.Call callee es) names
    ≡ (callee_reading callee >>= (λ u. each_from [] (map (reading_of source) es) names >>= (λ vs. Ok (nodes.Call callee vs))))
unfolding reading_of reading_of_kind
at_call source callee es names = search (rules, the_lemmas)

pub at_new : (source : List ℕ) (callee : Callee) (es : List Expression) (names : Names) → reading_of_kind source (nodes.New callee es) names
    ≡ (callee_reading callee >>= (λ u. each_from [] (map (reading_of source) es) names >>= (λ vs. Ok (nodes.New callee vs))))
unfolding reading_of reading_of_kind
at_new source callee es names = search (rules, the_lemmas)

pub at_array : (source : List ℕ) (es : List Expression) (names : Names) → reading_of_kind source (nodes.Array es) names
    ≡ (each_from [] (map (reading_of source) es) names >>= (λ vs. Ok (nodes.Array vs)))
unfolding reading_of reading_of_kind
at_array source es names = search (rules, the_lemmas)

pub at_look0 : (source : List ℕ) (look : Look0) (names : Names) → reading_of_kind source (nodes.Look0 look) names ≡ Ok (nodes.Look0 look)
unfolding reading_of reading_of_kind
at_look0 source look names = search (rules, the_lemmas)

pub at_look_at : (source : List ℕ) (look : LookAt) (e : Expression) (names : Names) → reading_of_kind source (nodes.LookAt look e) names
    ≡ (reading_of source e names >>= (λ v. Ok (nodes.LookAt look v)))
unfolding reading_of reading_of_kind
at_look_at source look e names = search (rules, the_lemmas)

-- ---- the last part of a node with a part that may be missing

cast_flat : (to : Ty) (v : NamedExpr) (r : Answer NamedExpr)
    → ((r >>= (λ s. some s)) >>= (λ s. Ok (nodes.Cast to v s))) ≡ (r >>= (λ s. Ok (nodes.Cast to v (Some s))))
cast_flat to v (Ok s) = refl
cast_flat to v (Err f) = refl

abbrev cast_step : Ty → NamedExpr → Answer (Option NamedExpr) → Answer NamedKind
cast_step to v r = r >>= (λ s. Ok (nodes.Cast to v s))

pub cast_of : (source : List ℕ) (kind : Kind) (to : Ty) (e s : Expression) (size : Option Expression) (names : Names) (v : NamedExpr)
    → kind ≡ nodes.Cast to e size → size ≡ Some s → reading_of source e names ≡ Ok v
    → reading_of_kind source kind names ≡ (reading_of source s names >>= (λ s. Ok (nodes.Cast to v (Some s))))
cast_of source kind to e s size names v is there read =
    ap (λ k. reading_of_kind source k names) is ∙ at_cast source to e size names
    ∙ ap (λ r. r >>= (λ v. cast_step to v (other_reading (option_map (reading_of source) size) names))) read
    ∙ ap (λ size. cast_step to v (other_reading (option_map (reading_of source) size) names)) there
    ∙ cast_flat to v (reading_of source s names)

abbrev if_last : NamedExpr → List NamedStmt → Answer (Option (List NamedStmt) × Names) → Answer (NamedStmtKind × Names)
if_last t ts r = r >>= (λ n. both_of (stmts.If t ts n.0) n.1)

abbrev if_rest : List ℕ → Option (List Statement) → NamedExpr → List NamedStmt × Names → Answer (NamedStmtKind × Names)
if_rest source more t y = if_last t y.0 (other_block (option_map (map (reading_of_stmt source)) more) y.1)

at_if : (source : List ℕ) (kind : StmtKind Span (Unit {0})) (e : Expression) (ss : List Statement) (more : Option (List Statement)) (names : Names)
    → kind ≡ stmts.If e ss more
    → reading_of_stmt_kind source kind names
    ≡ (reading_of source e names >>= (λ t. block_reading (map (reading_of_stmt source) ss) names >>= (λ y. if_rest source more t y)))
at_if source kind e ss more names is = search (rules, stmt_lemmas)

if_flat : (t : NamedExpr) (ts : List NamedStmt) (r : Answer (List NamedStmt × Names))
    → if_last t ts (r >>= (λ all. both_of (Some all.0) all.1)) ≡ (r >>= (λ n. both_of (stmts.If t ts (Some n.0)) n.1))
if_flat t ts (Ok all) = refl
if_flat t ts (Err f) = refl

pub if_of : (source : List ℕ) (kind : StmtKind Span (Unit {0})) (e : Expression) (ss last : List Statement) (more : Option (List Statement)) (names middle : Names)
    (t : NamedExpr) (ts : List NamedStmt)
    → kind ≡ stmts.If e ss more → more ≡ Some last → reading_of source e names ≡ Ok t
    → block_reading (map (reading_of_stmt source) ss) names ≡ both_of ts middle
    → reading_of_stmt_kind source kind names
    ≡ (block_reading (map (reading_of_stmt source) last) middle >>= (λ n. both_of (stmts.If t ts (Some n.0)) n.1))
if_of source kind e ss last more names middle t ts is there read blocks =
    at_if source kind e ss more names is
    ∙ ap (λ r. r >>= (λ t. block_reading (map (reading_of_stmt source) ss) names >>= (λ y. if_rest source more t y))) read
    ∙ ap (λ r. r >>= (λ y. if_rest source more t y)) blocks
    ∙ ap (λ more. if_last t ts (other_block (option_map (map (reading_of_stmt source)) more) middle)) there
    ∙ if_flat t ts (block_reading (map (reading_of_stmt source) last) middle)
