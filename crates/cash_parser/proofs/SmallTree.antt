-- Where no token is too deep, the expressions of a tree are small.
use Rattle.std.proofs.Common.{◌≡◌, ◌≤◌, Bool, List, [], ◌∷◌, ◌++◌, length, map, Option, Some, None, refl, sym, ap, subst, ◌∙◌, append_assoc, arith, codes, rules}
use Rattle.std.specs.Prelude.{option_map}
use Rattle.std.proofs.lemmas.List.{append-nil}
use Rattle.cash_base.specs.declared.place.Span.{Span}
use Rattle.cash_tree.specs.declared.Ty.{Ty}
use Rattle.cash_tree.specs.declared.Param.{Param}
use Rattle.cash_tree.specs.declared.StmtKind.TheVariants as nodes
use Rattle.cash_tree.specs.declared.StmtKind.TheFolds.{the_lemmas}
use Rattle.cash_symbols.specs.Lexemes.{Lexeme, Type_, Name}
use Rattle.cash_expressions.specs.Grammar.{Expression, SpellsExpr}
use Rattle.cash_symbols.specs.Front.{lex, mark}
use Rattle.cash_statements.specs.Statements.{Statement, Body, param_of, define_of, pair_of, assign_of, time_of, age_of, require_of, if_of, if_else_of, SpellsSimple, define, pair, assign, time, age, required, SpellsStmt, simple, if_only, if_else, SpellsBlock, single, braces, SpellsRun, no_statement, one_statement}
use Rattle.cash_parser.specs.Files.{Tree, FunctionTree, SpellsFunctions, no_function, one_function, SpellsFile, contract, one_constraint, two_constraints}
use Rattle.cash_parser.specs.FileReading.{tree_of}
use Rattle.cash_symbols.specs.DepthRules.{first_too_deep}
use Rattle.cash_tree.specs.Nodes.{joined, joined_or_none, values, tree_values, AreSmall, nodes as node_count}
use Rattle.cash_expressions.proofs.Small.{Runs, few_nodes, is_run, runs_short}
use Rattle.cash_parser.proofs.FileComplete.{tree_found}

-- ---- the expressions of a statement

at_define : (s : Statement) (ty : Ty) (is_constant : Bool) (p : Span) (e : Expression)
    → s.kind ≡ nodes.Define ty is_constant p p e → values s ≡ e ∷ []
at_define s ty is_constant p e is = search (rules, the_lemmas)

at_pair : (s : Statement) (left right : Param Span) (e : Expression) → s.kind ≡ nodes.Pair left right e
    → values s ≡ e ∷ []
at_pair s left right e is = search (rules, the_lemmas)

at_assign : (s : Statement) (p : Span) (e : Expression) → s.kind ≡ nodes.Assign p e → values s ≡ e ∷ []
at_assign s p e is = search (rules, the_lemmas)

at_time : (s : Statement) (e : Expression) → s.kind ≡ nodes.Time e → values s ≡ e ∷ []
at_time s e is = search (rules, the_lemmas)

at_age : (s : Statement) (e : Expression) → s.kind ≡ nodes.Age e → values s ≡ e ∷ []
at_age s e is = search (rules, the_lemmas)

at_require : (s : Statement) (e : Expression) → s.kind ≡ nodes.Require e → values s ≡ e ∷ []
at_require s e is = search (rules, the_lemmas)

at_if : (s : Statement) (e : Expression) (body : List Statement) (other : Option (List Statement))
    → s.kind ≡ nodes.If e body other
    → values s ≡ e ∷ (joined (map values body) ++ joined_or_none (option_map (λ ss. map values ss) other))
at_if s e body other is = search (rules, the_lemmas)

-- ---- runs in a part of the lexemes

after : (a b : List Lexeme) → Runs (a ++ b) → Runs b
after a b h =
    record {
      short = λ pre x post e run. h.short (a ++ pre) x post
          (ap (λ (z : List Lexeme). a ++ z) e ∙ sym (append_assoc a pre (x ++ post))) run;
    }

before : (a b : List Lexeme) → Runs (a ++ b) → Runs a
before a b h =
    record {
      short = λ pre x post e run. h.short pre x (post ++ b)
          (ap (λ (z : List Lexeme). z ++ b) e ∙ append_assoc pre (x ++ post) b ∙
          ap (λ (z : List Lexeme). pre ++ z) (append_assoc x post b)) run;
    }

small : {a : List Lexeme} {e : Expression} → SpellsExpr a e → Runs a → node_count e ≤ 1000
small {a = a} {e = e} d h =
    let few : node_count e ≤ length a = few_nodes d in
    let short : length a ≤ 1000 = h.short [] a [] (sym (append-nil a)) (is_run d) in
    omega arith

-- an expression in front of others
first_small : (t : List Lexeme) (a b : List Lexeme) (e : Expression) → SpellsExpr a e → Runs (t ++ (a ++ b))
    → AreSmall (e ∷ [])
first_small t a b e d h = (small d (before a b (after t (a ++ b) h)), tt)

both_small : (es fs : List Expression) → AreSmall es → AreSmall fs → AreSmall (es ++ fs)
both_small [] fs h k = k
both_small (e ∷ es) fs h k = (h.0, both_small es fs h.1 k)

one_small : (s : Statement) (e : Expression) → values s ≡ e ∷ [] → AreSmall (e ∷ []) → AreSmall (values s)
one_small s e is h = subst AreSmall (sym is) h

small_simple : {a : List Lexeme} {s : Statement} → SpellsSimple a s → Runs a → AreSmall (values s)
small_simple (define {ty = ty} {s = s} k word p q c {a = a} {b = b} {e = e} ks d) h =
    let inner : List Lexeme = lex (Name word) p ∷ mark (codes "=") q ∷ (b ++ mark (codes ";") c ∷ []) in
    let k' : Runs inner = after a inner (after (lex (Type_ ty) s ∷ []) (a ++ inner) h) in
    one_small (define_of s ty k p e c) e (at_define (define_of s ty k p e c) ty k p e refl)
    (first_small (lex (Name word) p ∷ mark (codes "=") q ∷ []) b (mark (codes ";") c ∷ []) e d k')
small_simple (pair {ty = ty} {ty' = ty'} {s = s} {s' = s'} {word = word} {word' = word'} p m p' q c {a = a} {e = e} d)
    h =
    one_small (pair_of s (param_of ty p) (param_of ty' p') e c) e
    (at_pair (pair_of s (param_of ty p) (param_of ty' p') e c) (param_of ty p) (param_of ty' p') e refl)
    (first_small (lex (Type_ ty) s ∷ lex (Name word) p ∷ mark (codes ",") m ∷ lex (Type_ ty') s' ∷
    lex (Name word') p' ∷ mark (codes "=") q ∷ []) a (mark (codes ";") c ∷ []) e d h)
small_simple (assign {word = word} p q c {a = a} {e = e} d) h =
    one_small (assign_of p e c) e (at_assign (assign_of p e c) p e refl)
    (first_small (lex (Name word) p ∷ mark (codes "=") q ∷ []) a (mark (codes ";") c ∷ []) e d h)
small_simple (time r o x d w g c z {a = a} {e = e} k) h =
    one_small (time_of r e z) e (at_time (time_of r e z) e refl)
    (first_small (mark (codes "require") r ∷ mark (codes "(") o ∷ mark (codes "tx") x ∷ mark (codes ".") d ∷
    lex (Name (codes "time")) w ∷ mark (codes ">=") g ∷ []) a (mark (codes ")") c ∷ mark (codes ";") z ∷ []) e k h)
small_simple (age r o x d w g c z {a = a} {e = e} k) h =
    one_small (age_of r e z) e (at_age (age_of r e z) e refl)
    (first_small (mark (codes "require") r ∷ mark (codes "(") o ∷ mark (codes "this") x ∷ mark (codes ".") d ∷
    lex (Name (codes "age")) w ∷ mark (codes ">=") g ∷ []) a (mark (codes ")") c ∷ mark (codes ";") z ∷ []) e k h)
small_simple (required r o c z {a = a} {e = e} k) h =
    one_small (require_of r e z) e (at_require (require_of r e z) e refl)
    (first_small (mark (codes "require") r ∷ mark (codes "(") o ∷ []) a (mark (codes ")") c ∷ mark (codes ";") z ∷ [])
    e k h)

mutual
  small_stmt : {shut : Bool} {a : List Lexeme} {s : Statement} → SpellsStmt shut a s → Runs a → AreSmall (values s)
  small_stmt (simple d) h = small_simple d h
  small_stmt (if_only i o c {a = a} {b = b} {e = e} {body = body} d inner) h =
      let front : List Lexeme = mark (codes "if") i ∷ mark (codes "(") o ∷ [] in
      let test = first_small front a (mark (codes ")") c ∷ b) e d h in
      let k : Runs b = after (mark (codes ")") c ∷ []) b
      (after a (mark (codes ")") c ∷ b) (after front (a ++ (mark (codes ")") c ∷ b)) h)) in
      subst AreSmall (sym (at_if (if_of i e body) e body.0 None refl))
      (test.0, both_small (joined (map values body.0)) [] (small_block inner k) tt)
  small_stmt (if_else i o c l {a = a} {b = b} {d = d'} {e = e} {body = body} {other = other} d inner outer) h =
      let front : List Lexeme = mark (codes "if") i ∷ mark (codes "(") o ∷ [] in
      let last : List Lexeme = mark (codes "else") l ∷ d' in
      let test = first_small front a (mark (codes ")") c ∷ (b ++ last)) e d h in
      let k : Runs (b ++ last) = after (mark (codes ")") c ∷ []) (b ++ last)
      (after a (mark (codes ")") c ∷ (b ++ last)) (after front (a ++ (mark (codes ")") c ∷ (b ++ last))) h)) in
      let m : Runs d' = after (mark (codes "else") l ∷ []) d' (after b last k) in
      subst AreSmall (sym (at_if (if_else_of i e body other) e body.0 (Some other.0) refl)) (
        test.0,
        both_small (joined (map values body.0)) (joined (map values other.0))
            (small_block inner (before b last k)) (small_block outer m),
      )

  small_block : {shut : Bool} {a : List Lexeme} {body : Body} → SpellsBlock shut a body → Runs a
      → AreSmall (joined (map values body.0))
  small_block (single {s = s} d) h = both_small (values s) [] (small_stmt d h) tt
  small_block (braces o c {a = a} d) h =
      small_run d (before a (mark (codes "}") c ∷ [])
      (after (mark (codes "{") o ∷ []) (a ++ mark (codes "}") c ∷ []) h))

  small_run : {a : List Lexeme} {ss : List Statement} → SpellsRun a ss → Runs a → AreSmall (joined (map values ss))
  small_run no_statement h = tt
  small_run (one_statement {a = a} {b = b} {s = s} {ss = ss} d ds) h =
      both_small (values s) (joined (map values ss)) (small_stmt d (before a b h)) (small_run ds (after a b h))

abbrev function_values : FunctionTree → List Expression
function_values f = joined (map values f.body)

small_functions : {a : List Lexeme} {fs : List FunctionTree} → SpellsFunctions a fs → Runs a
    → AreSmall (joined (map function_values fs))
small_functions no_function h = tt
small_functions (one_function {word = word} f n o c b z {a = a} {d = d} {more = more} {ss = ss} {fs = fs} ps body
    others) h =
    let front : List Lexeme = mark (codes "function") f ∷ lex (Name word) n ∷ mark (codes "(") o ∷ [] in
    let last : List Lexeme = mark (codes "}") z ∷ more in
    let inner : List Lexeme = mark (codes ")") c ∷ mark (codes "{") b ∷ (d ++ last) in
    let k : Runs (d ++ last) = after (mark (codes ")") c ∷ mark (codes "{") b ∷ []) (d ++ last)
    (after a inner (after front (a ++ inner) h)) in
    both_small (joined (map values ss)) (joined (map function_values fs)) (small_run body (before d last k))
    (small_functions others (after (mark (codes "}") z ∷ []) more (after d last k)))

pub small_tree : {a : List Lexeme} {tree : Tree} → SpellsFile a tree → Runs a → AreSmall (tree_values tree)
small_tree (contract {word = word} k n o c b z {a = a} {d = d} ps fs) h =
    let front : List Lexeme = mark (codes "contract") k ∷ lex (Name word) n ∷ mark (codes "(") o ∷ [] in
    let last : List Lexeme = mark (codes "}") z ∷ [] in
    let inner : List Lexeme = mark (codes ")") c ∷ mark (codes "{") b ∷ (d ++ last) in
    let m : Runs (d ++ last) = after (mark (codes ")") c ∷ mark (codes "{") b ∷ []) (d ++ last)
    (after a inner (after front (a ++ inner) h)) in
    small_functions fs (before d last m)
small_tree (one_constraint p w z {a = a} {more = more} d t) h =
    let front : List Lexeme = mark (codes "pragma") p ∷ mark (codes "cashscript") w ∷ [] in
    small_tree t (after (mark (codes ";") z ∷ []) more
    (after a (mark (codes ";") z ∷ more) (after front (a ++ (mark (codes ";") z ∷ more)) h)))
small_tree (two_constraints p w z {a = a} {b = b} {more = more} d d' t) h =
    let front : List Lexeme = mark (codes "pragma") p ∷ mark (codes "cashscript") w ∷ [] in
    let last : List Lexeme = mark (codes ";") z ∷ more in
    small_tree t (after (mark (codes ";") z ∷ []) more
    (after b last (after a (b ++ last) (after front (a ++ (b ++ last)) h))))

pub spelled_small : (ts : List Lexeme) (tree : Tree) → SpellsFile ts tree → first_too_deep ts ≡ None
    → AreSmall (tree_values tree)
spelled_small ts tree spelled free = small_tree spelled (runs_short ts free)

pub all_small : (ts : List Lexeme) (tree : Tree) → tree_of ts ≡ Some tree → first_too_deep ts ≡ None
    → AreSmall (tree_values tree)
all_small ts tree read free = spelled_small ts tree (tree_found ts tree read) free
