-- Which lexemes spell which statement.
--
--   block     = { statements } | statement
--   statement = TYPE { constant } NAME = expression ;
--             | TYPE NAME , TYPE NAME = expression ;
--             | NAME = expression ;
--             | require ( tx . time >= expression ) ;
--             | require ( this . age >= expression ) ;
--             | require ( expression ) ;
--             | if ( expression ) block [ else block ]        an else belongs to the nearest if without one
use Rattle.std.specs.Prelude.{ℕ, Bool, true, false, List, [], ◌∷◌, ◌++◌, Some, None, codes}
use Rattle.cash_base.specs.declared.place.Span.{Span}
use Rattle.cash_tree.specs.declared.Ty.{Ty}
use Rattle.cash_tree.specs.declared.Param.{Param}
use Rattle.cash_tree.specs.declared.Stmt.{Stmt}
use Rattle.cash_tree.specs.declared.StmtKind.{StmtKind}
use Rattle.cash_tree.specs.declared.StmtKind.TheVariants as nodes
use Rattle.cash_symbols.specs.Lexemes.{Lexeme, Type_, Name}
use Rattle.cash_expressions.specs.Grammar.{Expression, SpellsExpr}
use Rattle.cash_symbols.specs.Front.{lex, mark, across}

abbrev pub Statement : Type 0
Statement = Stmt Span (Unit {0})

-- a block's statements, and its span
abbrev pub Body : Type 0
Body = List Statement × Span

-- ---- nodes, each with its span, which takes in the last sign

abbrev pub stmt : StmtKind Span (Unit {0}) → Span → Statement
stmt kind span = record { kind = kind; span = span }

-- a name is its span, and that is its place too
abbrev pub param_of : Ty → Span → Param Span
param_of ty s = record { ty = ty; name = s; place = s }

abbrev pub define_of : Span → Ty → Bool → Span → Expression → Span → Statement
define_of first ty constant name value end = stmt (nodes.Define ty constant name name value) (across first end)

abbrev pub pair_of : Span → Param Span → Param Span → Expression → Span → Statement
pair_of first left right value end = stmt (nodes.Pair left right value) (across first end)

abbrev pub assign_of : Span → Expression → Span → Statement
assign_of name value end = stmt (nodes.Assign name value) (across name end)

abbrev pub time_of : Span → Expression → Span → Statement
time_of first value end = stmt (nodes.Time value) (across first end)

abbrev pub age_of : Span → Expression → Span → Statement
age_of first value end = stmt (nodes.Age value) (across first end)

abbrev pub require_of : Span → Expression → Span → Statement
require_of first value end = stmt (nodes.Require value) (across first end)

abbrev pub if_of : Span → Expression → Body → Statement
if_of first test body = stmt (nodes.If test body.0 None) (across first body.1)

abbrev pub if_else_of : Span → Expression → Body → Body → Statement
if_else_of first test body other = stmt (nodes.If test body.0 (Some other.0)) (across first other.1)

-- ---- the grammar

-- the word `constant`, any number of times, and whether it stands there at all
pub data Constants : Bool → List Lexeme → Type 0 where
  not_constant : Constants false []
  constant : {more : Bool} (s : Span) {a : List Lexeme} → Constants more a
      → Constants true (mark (codes "constant") s ∷ a)

-- the statements without an `if`
pub data SpellsSimple : List Lexeme → Statement → Type 0 where
  define : {ty : Ty} {s : Span} (is_constant : Bool) (word : List ℕ)
      (p q c : Span) {a b : List Lexeme} {e : Expression} → Constants is_constant a → SpellsExpr b e
      → SpellsSimple (lex (Type_ ty) s ∷ (a ++ lex (Name word) p ∷ mark (codes "=") q ∷ (b ++ mark (codes ";") c ∷
      []))) (define_of s ty is_constant p e c)
  pair : {ty ty' : Ty} {s s' : Span} {word word' : List ℕ} (p m p' q c : Span) {a : List Lexeme} {e : Expression}
      → SpellsExpr a e
      → SpellsSimple (lex (Type_ ty) s ∷ lex (Name word) p ∷ mark (codes ",") m ∷ lex (Type_ ty') s' ∷
      lex (Name word') p' ∷ mark (codes "=") q ∷ (a ++ mark (codes ";") c ∷ []))
      (pair_of s (param_of ty p) (param_of ty' p') e c)
  assign : {word : List ℕ} (p q c : Span) {a : List Lexeme} {e : Expression} → SpellsExpr a e
      → SpellsSimple (lex (Name word) p ∷ mark (codes "=") q ∷ (a ++ mark (codes ";") c ∷ [])) (assign_of p e c)
  time : (r o x d w g c z : Span) {a : List Lexeme} {e : Expression} → SpellsExpr a e
      → SpellsSimple (mark (codes "require") r ∷ mark (codes "(") o ∷ mark (codes "tx") x ∷ mark (codes ".") d ∷
      lex (Name (codes "time")) w ∷ mark (codes ">=") g ∷ (a ++ mark (codes ")") c ∷ mark (codes ";") z ∷ []))
      (time_of r e z)
  age : (r o x d w g c z : Span) {a : List Lexeme} {e : Expression} → SpellsExpr a e
      → SpellsSimple (mark (codes "require") r ∷ mark (codes "(") o ∷ mark (codes "this") x ∷ mark (codes ".") d ∷
      lex (Name (codes "age")) w ∷ mark (codes ">=") g ∷ (a ++ mark (codes ")") c ∷ mark (codes ";") z ∷ []))
      (age_of r e z)
  required : (r o c z : Span) {a : List Lexeme} {e : Expression} → SpellsExpr a e
      → SpellsSimple (mark (codes "require") r ∷ mark (codes "(") o ∷ (a ++ mark (codes ")") c ∷
      mark (codes ";") z ∷ [])) (require_of r e z)

-- The Bool is true where no if without an else ends the lexemes, so that an else may follow that belongs further out.
mutual
  pub data SpellsStmt : Bool → List Lexeme → Statement → Type 0 where
    simple : {shut : Bool} {a : List Lexeme} {s : Statement} → SpellsSimple a s → SpellsStmt shut a s
    if_only : (i o c : Span) {a b : List Lexeme} {e : Expression} {body : Body} → SpellsExpr a e
        → SpellsBlock false b body
        → SpellsStmt false (mark (codes "if") i ∷ mark (codes "(") o ∷ (a ++ mark (codes ")") c ∷ b)) (if_of i e body)
    if_else : {shut : Bool} (i o c l : Span) {a b d : List Lexeme} {e : Expression} {body other : Body}
        → SpellsExpr a e → SpellsBlock true b body → SpellsBlock shut d other
        → SpellsStmt shut (mark (codes "if") i ∷ mark (codes "(") o ∷ (a ++ mark (codes ")") c ∷ (b ++
        mark (codes "else") l ∷ d))) (if_else_of i e body other)

  pub data SpellsBlock : Bool → List Lexeme → Body → Type 0 where
    single : {shut : Bool} {a : List Lexeme} {s : Statement} → SpellsStmt shut a s → SpellsBlock shut a (s ∷ [], s.span)
    braces : {shut : Bool} (o c : Span) {a : List Lexeme} {ss : List Statement} → SpellsRun a ss
        → SpellsBlock shut (mark (codes "{") o ∷ (a ++ mark (codes "}") c ∷ [])) (ss, across o c)

  pub data SpellsRun : List Lexeme → List Statement → Type 0 where
    no_statement : SpellsRun [] []
    one_statement : {a b : List Lexeme} {s : Statement} {ss : List Statement} → SpellsStmt false a s
        → SpellsRun b ss → SpellsRun (a ++ b) (s ∷ ss)
