-- What a fold over a statement makes of each kind of statement.
use Rattle.std.proofs.Common.{◌≡◌, List, map, Option, rules}
use Rattle.std.specs.Prelude.{Bool, option_map}
use Rattle.cash_base.specs.declared.place.Span.{Span}
use Rattle.cash_tree.specs.declared.Ty.{Ty}
use Rattle.cash_tree.specs.declared.Param.{Param}
use Rattle.cash_tree.specs.declared.Expr.{Expr}
use Rattle.cash_tree.specs.declared.Stmt.{Stmt}
use Rattle.cash_tree.specs.declared.StmtKind.{StmtKind}
use Rattle.cash_tree.specs.declared.StmtKind.TheVariants as nodes
use Rattle.cash_tree.specs.declared.StmtKind.TheOpen.{StmtKind-F, Stmt-F}
use Rattle.cash_tree.specs.declared.StmtKind.TheFolds.{fold-Stmt, the_lemmas}

abbrev pub made : {N : Type 0} → StmtKind N (Unit {0}) → Span → Stmt N (Unit {0})
made kind span = record { kind = kind; span = span }

-- what is made of a statement, by what is made of its parts
abbrev pub Layer : Type 0 → Type 0 → Type 0 → Type 0
Layer N K E = StmtKind-F N (Unit {0}) K E

abbrev pub whole : {N K E : Type 0} → (Layer N K E → K) → (Stmt-F N (Unit {0}) K E → E) → Layer N K E → Span → E
whole k n layer span = n (record { kind = k layer; span = span })

pub at_define : {N K E : Type 0} (k : Layer N K E → K) (n : Stmt-F N (Unit {0}) K E → E) (ty : Ty) (constant : Bool) (name : N) (place : Span) (e : Expr N (Unit {0})) (span : Span)
    → fold-Stmt N (Unit {0}) K E k n (made (nodes.Define ty constant name place e) span)
    ≡ whole k n (StmtKind-F.Define ty constant name place e) span
at_define k n ty constant name place e span = search (rules, the_lemmas)

pub at_pair : {N K E : Type 0} (k : Layer N K E → K) (n : Stmt-F N (Unit {0}) K E → E) (left right : Param N) (e : Expr N (Unit {0})) (span : Span)
    → fold-Stmt N (Unit {0}) K E k n (made (nodes.Pair left right e) span) ≡ whole k n (StmtKind-F.Pair left right e) span
at_pair k n left right e span = search (rules, the_lemmas)

pub at_assign : {N K E : Type 0} (k : Layer N K E → K) (n : Stmt-F N (Unit {0}) K E → E) (name : N) (e : Expr N (Unit {0})) (span : Span)
    → fold-Stmt N (Unit {0}) K E k n (made (nodes.Assign name e) span) ≡ whole k n (StmtKind-F.Assign name e) span
at_assign k n name e span = search (rules, the_lemmas)

pub at_time : {N K E : Type 0} (k : Layer N K E → K) (n : Stmt-F N (Unit {0}) K E → E) (e : Expr N (Unit {0})) (span : Span)
    → fold-Stmt N (Unit {0}) K E k n (made (nodes.Time e) span) ≡ whole k n (StmtKind-F.Time e) span
at_time k n e span = search (rules, the_lemmas)

pub at_age : {N K E : Type 0} (k : Layer N K E → K) (n : Stmt-F N (Unit {0}) K E → E) (e : Expr N (Unit {0})) (span : Span)
    → fold-Stmt N (Unit {0}) K E k n (made (nodes.Age e) span) ≡ whole k n (StmtKind-F.Age e) span
at_age k n e span = search (rules, the_lemmas)

pub at_require : {N K E : Type 0} (k : Layer N K E → K) (n : Stmt-F N (Unit {0}) K E → E) (e : Expr N (Unit {0})) (span : Span)
    → fold-Stmt N (Unit {0}) K E k n (made (nodes.Require e) span) ≡ whole k n (StmtKind-F.Require e) span
at_require k n e span = search (rules, the_lemmas)

pub at_if : {N K E : Type 0} (k : Layer N K E → K) (n : Stmt-F N (Unit {0}) K E → E) (e : Expr N (Unit {0})) (ss : List (Stmt N (Unit {0}))) (more : Option (List (Stmt N (Unit {0})))) (span : Span)
    → fold-Stmt N (Unit {0}) K E k n (made (nodes.If e ss more) span)
    ≡ whole k n (StmtKind-F.If e (map (fold-Stmt N (Unit {0}) K E k n) ss) (option_map (map (fold-Stmt N (Unit {0}) K E k n)) more)) span
at_if k n e ss more span = search (rules, the_lemmas)
