-- Where lexemes stand in order, the spans of a tree that they spell lie among them.
use Rattle.std.proofs.Common.{◌≡◌, ℕ, ◌+◌, ◌-◌, ◌≤◌, List, [], ◌∷◌, ◌++◌, length, drop, map, Option, Some, None, Bool, Ok, refl, sym, ap, ◌∙◌, subst, arith, codes, rules, length-drop}
use Rattle.cash_base.specs.declared.place.Span.{Span}
use Rattle.cash_base.specs.Source.{IsInside, AreInside}
use Rattle.cash_tree.specs.declared.Ty.{Ty}
use Rattle.cash_tree.specs.declared.Param.{Param}
use Rattle.cash_tree.specs.declared.Token.{Token}
use Rattle.cash_tree.specs.declared.Constraint.{Constraint}
use Rattle.cash_tree.specs.declared.StmtKind.{StmtKind}
use Rattle.cash_tree.specs.declared.StmtKind.TheVariants as nodes
use Rattle.cash_tree.specs.declared.StmtKind.TheFolds.{fold-StmtKind, the_lemmas}
use Rattle.cash_lexer.specs.Laws.{IsCut}
use Rattle.cash_symbols.specs.Lexemes.{Lexeme, Type_, Name, Version, lexemes}
use Rattle.cash_expressions.specs.Grammar.{Expression, SpellsExpr}
use Rattle.cash_symbols.specs.Front.{lex, mark, across}
use Rattle.cash_statements.specs.Statements.{Statement, Body, param_of, SpellsSimple, define, pair, assign, time, age, required, SpellsStmt, simple, if_only, if_else, SpellsBlock, single, braces, SpellsRun, no_statement, one_statement}
use Rattle.cash_parser.specs.Files.{Tree, FunctionTree, signed_constraint, bare_constraint, SpellsParams, no_param, last_param, next_param, SpellsFunctions, no_function, one_function, SpellsConstraint, bare_version, signed_version, SpellsFile, contract, one_constraint, two_constraints}
use Rattle.cash_parser.specs.FileReading.{tree_of}
use Rattle.cash_tree.specs.Nodes.{joined, joined_or_none}
use Rattle.cash_parser.specs.Inside.{StandInOrder}
use Rattle.cash_tree.specs.Spans.{itself, expression_spans, param_spans, statement_kind_spans, stmt_spans, statement_spans, function_spans, constraint_spans, tree_spans}
use Rattle.cash_parser.proofs.FileComplete.{tree_found}
use Rattle.cash_expressions.proofs.Inside.{Stand, IsBetween, cut, front, narrow, head, reach, spread, both, expression_inside}

-- ---- the span of a statement

own_simple : {a : List Lexeme} {s : Statement} (from to : ℕ) → SpellsSimple a s → Stand from a to
    → IsBetween from to s.span
own_simple from to (define {ty = ty} {s} k word p q c {a = a} {b} ks d) h =
    spread from to (lex (Type_ ty) s) a (lex (Name word) p ∷ mark (codes "=") q ∷ b) (mark (codes ";") c) [] h
own_simple from to (pair {ty = ty} {ty'} {s} {s'} {word} {word'} p m p' q c {a = a} d) h =
    spread from to (lex (Type_ ty) s)
    (lex (Name word) p ∷ mark (codes ",") m ∷ lex (Type_ ty') s' ∷ lex (Name word') p' ∷ mark (codes "=") q ∷ a) []
    (mark (codes ";") c) [] h
own_simple from to (assign {word = word} p q c {a = a} d) h =
    spread from to (lex (Name word) p) (mark (codes "=") q ∷ a) [] (mark (codes ";") c) [] h
own_simple from to (time r o x d w g c z {a = a} k) h =
    spread from to (mark (codes "require") r)
    (mark (codes "(") o ∷ mark (codes "tx") x ∷ mark (codes ".") d ∷ lex (Name (codes "time")) w ∷ mark (codes ">=") g
    ∷ a)
    (mark (codes ")") c ∷ []) (mark (codes ";") z) [] h
own_simple from to (age r o x d w g c z {a = a} k) h =
    spread from to (mark (codes "require") r)
    (mark (codes "(") o ∷ mark (codes "this") x ∷ mark (codes ".") d ∷ lex (Name (codes "age")) w ∷ mark (codes ">=")
    g ∷ a)
    (mark (codes ")") c ∷ []) (mark (codes ";") z) [] h
own_simple from to (required r o c z {a = a} k) h =
    spread from to (mark (codes "require") r) (mark (codes "(") o ∷ a) (mark (codes ")") c ∷ []) (mark (codes ";") z)
    [] h

mutual
  own_stmt : {shut : Bool} {a : List Lexeme} {s : Statement} (from to : ℕ) → SpellsStmt shut a s → Stand from a to
      → IsBetween from to s.span
  own_stmt from to (simple d) h = own_simple from to d h
  own_stmt from to (if_only i o c {a = a} {b} d inner) h =
      let r = reach from to (mark (codes "if") i) (mark (codes "(") o ∷ a) [] (mark (codes ")") c) b h in
      let e = own_block c.to to inner r.2 in
      record { after = r.0; ordered = omega (arith, r.1, e.after, e.ordered); before = e.before }
  own_stmt from to (if_else i o c l {a = a} {b} {d = d'} d inner outer) h =
      let r =
      reach from to (mark (codes "if") i) (mark (codes "(") o ∷ a) (mark (codes ")") c ∷ b)
      (mark (codes "else") l) d' h in
      let e = own_block l.to to outer r.2 in
      record { after = r.0; ordered = omega (arith, r.1, e.after, e.ordered); before = e.before }

  own_block : {shut : Bool} {a : List Lexeme} {body : Body} (from to : ℕ) → SpellsBlock shut a body → Stand from a to
      → IsBetween from to body.1
  own_block from to (single d) h = own_stmt from to d h
  own_block from to (braces o c {a = a} d) h = spread from to (mark (codes "{") o) a [] (mark (codes "}") c) [] h

-- ---- the spans in a statement, beside its own

abbrev pub inner : StmtKind Span (Unit {0}) → List Span
inner = fold-StmtKind Span (Unit {0}) (List Span) (List Span) (statement_kind_spans itself) stmt_spans

in_define : (ty : Ty) (k : Bool) (p : Span) (e : Expression)
    → inner (nodes.Define ty k p p e) ≡ p ∷ p ∷ expression_spans itself e
in_define ty k p e = search (rules, the_lemmas)

in_pair : (p q : Param Span) (e : Expression)
    → inner (nodes.Pair p q e) ≡ param_spans itself p ++ (param_spans itself q ++ expression_spans itself e)
in_pair p q e = search (rules, the_lemmas)

in_assign : (p : Span) (e : Expression) → inner (nodes.Assign p e) ≡ p ∷ expression_spans itself e
in_assign p e = search (rules, the_lemmas)

in_time : (e : Expression) → inner (nodes.Time e) ≡ expression_spans itself e
in_time e = search (rules, the_lemmas)

in_age : (e : Expression) → inner (nodes.Age e) ≡ expression_spans itself e
in_age e = search (rules, the_lemmas)

pub in_require : (e : Expression) → inner (nodes.Require e) ≡ expression_spans itself e
in_require e = search (rules, the_lemmas)

in_if : (e : Expression) (body : List Statement)
    → inner (nodes.If e body None) ≡ expression_spans itself e ++ (joined (map (statement_spans itself) body) ++ [])
in_if e body = search (rules, the_lemmas)

in_if_else : (e : Expression) (body other : List Statement)
    → inner (nodes.If e body (Some other))
    ≡ expression_spans itself e ++ (joined (map (statement_spans itself) body) ++ joined (map (statement_spans itself) other))
in_if_else e body other = search (rules, the_lemmas)

pub own_and_inner : (s : Statement) → statement_spans itself s ≡ s.span ∷ inner s.kind
own_and_inner s = search (rules, the_lemmas)

-- ---- all spans of a statement

all_of : (n : ℕ) (s : Statement) → IsInside n s.span → AreInside n (inner s.kind) → AreInside n (statement_spans itself s)
all_of n s h k = subst (AreInside n) (sym (own_and_inner s)) (h, k)

same : (n : ℕ) (xs ys : List Span) → xs ≡ ys → AreInside n ys → AreInside n xs
same n xs ys e h = subst (AreInside n) (sym e) h

-- an expression in front of others
first_inside : (from n : ℕ) (a b : List Lexeme) (e : Expression) → SpellsExpr a e → Stand from (a ++ b) n
    → AreInside n (expression_spans itself e)
first_inside from n a b e d h = expression_inside from n d (front from n a b h)

inner_simple : {a : List Lexeme} {s : Statement} (from n : ℕ) → SpellsSimple a s → Stand from a n
    → AreInside n (inner s.kind)
inner_simple from n (define {ty = ty} {s} k word p q c {a = a} {b} {e} ks d) h =
    let close = mark (codes ";") c ∷ [] in
    let value = mark (codes "=") q ∷ (b ++ close) in
    let g = cut s.to n a (lex (Name word) p ∷ value) h.2 in
    let place = narrow (head g.0 n (lex (Name word) p) value g.2) in
    same n (inner (nodes.Define ty k p p e)) (p ∷ p ∷ expression_spans itself e) (in_define ty k p e)
    (place, (place, first_inside q.to n b close e d g.2.2.2))
inner_simple from n (pair {ty = ty} {ty'} {s} {s'} {word} {word'} p m p' q c {a = a} {e} d) h =
    let close = mark (codes ";") c ∷ [] in
    let value = mark (codes "=") q ∷ (a ++ close) in
    let second = mark (codes ",") m ∷ lex (Type_ ty') s' ∷ lex (Name word') p' ∷ value in
    let left = narrow (head s.to n (lex (Name word) p) second h.2) in
    let right = narrow (head s'.to n (lex (Name word') p') value h.2.2.2.2) in
    same n (inner (nodes.Pair (param_of ty p) (param_of ty' p') e)) (p ∷ p ∷ p' ∷ p' ∷ expression_spans itself e)
    (in_pair (param_of ty p) (param_of ty' p') e)
    (left, (left, (right, (right, first_inside q.to n a close e d h.2.2.2.2.2.2))))
inner_simple from n (assign {word = word} p q c {a = a} {e} d) h =
    let close = mark (codes ";") c ∷ [] in
    same n (inner (nodes.Assign p e)) (p ∷ expression_spans itself e) (in_assign p e) (
      narrow (head from n (lex (Name word) p) (mark (codes "=") q ∷ (a ++ close)) h),
      first_inside q.to n a close e d
          h.2.2,
    )
inner_simple from n (time r o x d w g c z {a = a} {e} k) h =
    same n (inner (nodes.Time e)) (expression_spans itself e) (in_time e)
    (first_inside g.to n a (mark (codes ")") c ∷ mark (codes ";") z ∷ []) e k h.2.2.2.2.2.2)
inner_simple from n (age r o x d w g c z {a = a} {e} k) h =
    same n (inner (nodes.Age e)) (expression_spans itself e) (in_age e)
    (first_inside g.to n a (mark (codes ")") c ∷ mark (codes ";") z ∷ []) e k h.2.2.2.2.2.2)
inner_simple from n (required r o c z {a = a} {e} k) h =
    same n (inner (nodes.Require e)) (expression_spans itself e) (in_require e)
    (first_inside o.to n a (mark (codes ")") c ∷ mark (codes ";") z ∷ []) e k h.2.2)

mutual
  inner_stmt : {shut : Bool} {a : List Lexeme} {s : Statement} (from n : ℕ) → SpellsStmt shut a s → Stand from a n
      → AreInside n (inner s.kind)
  inner_stmt from n (simple d) h = inner_simple from n d h
  inner_stmt from n (if_only i o c {a = a} {b} {e} {body} d first) h =
      let g : Stand c.to b n = (cut o.to n a (mark (codes ")") c ∷ b) h.2.2).2.2 in
      same n (inner (nodes.If e body.0 None)) (expression_spans itself e ++ (joined (map (statement_spans itself) body.0) ++ []))
      (in_if e body.0)
      (both n (expression_spans itself e) (joined (map (statement_spans itself) body.0) ++ [])
      (first_inside o.to n a (mark (codes ")") c ∷ b) e d h.2.2)
      (both n (joined (map (statement_spans itself) body.0)) [] (block_inside c.to n first g) tt))
  inner_stmt from n (if_else i o c l {a = a} {b} {d = d'} {e} {body} {other} d first second) h =
      let last = mark (codes "else") l ∷ d' in
      let g : Stand c.to (b ++ last) n = (cut o.to n a (mark (codes ")") c ∷ (b ++ last)) h.2.2).2.2 in
      let z : Stand l.to d' n = (cut c.to n b last g).2.2 in
      same n (inner (nodes.If e body.0 (Some other.0)))
      (expression_spans itself e ++ (joined (map (statement_spans itself) body.0) ++ joined (map (statement_spans itself) other.0)))
      (in_if_else e body.0 other.0)
      (both n (expression_spans itself e) (joined (map (statement_spans itself) body.0) ++ joined (map (statement_spans itself) other.0))
      (first_inside o.to n a (mark (codes ")") c ∷ (b ++ last)) e d h.2.2)
      (both n (joined (map (statement_spans itself) body.0)) (joined (map (statement_spans itself) other.0))
      (block_inside c.to n first (front c.to n b last g)) (block_inside l.to n second z)))

  block_inside : {shut : Bool} {a : List Lexeme} {body : Body} (from n : ℕ) → SpellsBlock shut a body → Stand from a n
      → AreInside n (joined (map (statement_spans itself) body.0))
  block_inside from n (single {s = s} d) h =
      both n (statement_spans itself s) [] (all_of n s (narrow (own_stmt from n d h)) (inner_stmt from n d h)) tt
  block_inside from n (braces o c {a = a} d) h = run_inside o.to n d (front o.to n a (mark (codes "}") c ∷ []) h.2)

  run_inside : {a : List Lexeme} {ss : List Statement} (from n : ℕ) → SpellsRun a ss → Stand from a n
      → AreInside n (joined (map (statement_spans itself) ss))
  run_inside from n no_statement h = tt
  run_inside from n (one_statement {a = a} {b} {s} {ss} d ds) h =
      let g = front from n a b h in
      let z = cut from n a b h in
      both n (statement_spans itself s) (joined (map (statement_spans itself) ss))
      (all_of n s (narrow (own_stmt from n d g)) (inner_stmt from n d g))
      (run_inside z.0 n ds z.2)

-- ---- all spans of a file

params_inside : {a : List Lexeme} {ps : List (Param Span)} (from n : ℕ) → SpellsParams a ps → Stand from a n
    → AreInside n (joined (map (param_spans itself) ps))
params_inside from n no_param h = tt
params_inside from n (last_param {ty = ty} {s} {word} p) h =
    let place = narrow (head s.to n (lex (Name word) p) [] h.2) in
    (place, (place, tt))
params_inside from n (next_param {ty = ty} {s} {word} p m {a = a} ps) h =
    let place = narrow (head s.to n (lex (Name word) p) (mark (codes ",") m ∷ a) h.2) in
    (place, (place, params_inside m.to n ps h.2.2.2))

functions_inside : {a : List Lexeme} {fs : List FunctionTree} (from n : ℕ) → SpellsFunctions a fs → Stand from a n
    → AreInside n (joined (map (function_spans itself) fs))
functions_inside from n no_function h = tt
functions_inside from n (one_function {word = word} f m o c b z {a = a} {d} {more} {ps} {ss} {fs} params body others)
    h =
    let last = mark (codes "}") z ∷ more in
    let inside = mark (codes ")") c ∷ mark (codes "{") b ∷ (d ++ last) in
    let name = narrow (head f.to n (lex (Name word) m) (mark (codes "(") o ∷ (a ++ inside)) h.2) in
    let whole =
    spread from n (mark (codes "function") f) (lex (Name word) m ∷ mark (codes "(") o ∷ a)
    (mark (codes ")") c ∷ mark (codes "{") b ∷ d) (mark (codes "}") z) more h in
    let g : Stand b.to (d ++ last) n = (cut o.to n a inside h.2.2.2).2.2.2 in
    let k : Stand z.to more n = (cut b.to n d last g).2.2 in
    let params' = params_inside o.to n params (front o.to n a inside h.2.2.2) in
    let body' = run_inside b.to n body (front b.to n d last g) in
    let two = both n (joined (map (param_spans itself) ps)) (joined (map (statement_spans itself) ss)) params' body' in (
      name,
      (
        narrow whole,
        both n (joined (map (param_spans itself) ps) ++ joined (map (statement_spans itself) ss))
            (joined (map (function_spans itself) fs))
            two (functions_inside z.to n others k),
      ),
    )

constraint_inside : {a : List Lexeme} {c : Constraint} (from n : ℕ) → SpellsConstraint a c → Stand from a n
    → AreInside n (constraint_spans c)
constraint_inside from n (bare_version v) h =
    let place = narrow (head from n (lex Version v) [] h) in
    (place, (place, tt))
constraint_inside from n (signed_version text s v is) h =
    let sign = narrow (head from n (mark text s) (lex Version v ∷ []) h) in
    let version = narrow (head s.to n (lex Version v) [] h.2) in
    let whole = narrow (spread from n (mark text s) [] [] (lex Version v) [] h) in
    (version, (whole, (sign, tt)))

-- the parts of a tree's spans
record Parts (n : ℕ) (tree : Tree) : Type 0 where
  name : IsInside n tree.name
  span : IsInside n tree.span
  pragmas : AreInside n (joined (map constraint_spans tree.pragmas))
  params : AreInside n (joined (map (param_spans itself) tree.params))
  functions : AreInside n (joined (map (function_spans itself) tree.functions))

file_inside : {a : List Lexeme} {tree : Tree} (from n : ℕ) → SpellsFile a tree → Stand from a n → Parts n tree
file_inside from n (contract {word = word} k m o c b z {a = a} {d} ps fs) h =
    let last = mark (codes "}") z ∷ [] in
    let inside = mark (codes ")") c ∷ mark (codes "{") b ∷ (d ++ last) in
    let g : Stand b.to (d ++ last) n = (cut o.to n a inside h.2.2.2).2.2.2 in
    record {
      name = narrow (head k.to n (lex (Name word) m) (mark (codes "(") o ∷ (a ++ inside)) h.2);
      span = narrow (spread from n (mark (codes "contract") k) (lex (Name word) m ∷ mark (codes "(") o ∷ a)
          (mark (codes ")") c ∷ mark (codes "{") b ∷ d) (mark (codes "}") z) [] h);
      pragmas = tt;
      params = params_inside o.to n ps (front o.to n a inside h.2.2.2);
      functions = functions_inside b.to n fs (front b.to n d last g);
    }
file_inside from n (one_constraint p w z {a = a} {more} {first} {tree} d t) h =
    let last = mark (codes ";") z ∷ more in
    let g : Stand z.to more n = (cut w.to n a last h.2.2).2.2 in
    let k = file_inside z.to n t g in
    record {
      name = k.name;
      span = k.span;
      pragmas = both n (constraint_spans first) (joined (map constraint_spans tree.pragmas))
          (constraint_inside w.to n d (front w.to n a last h.2.2)) k.pragmas;
      params = k.params;
      functions = k.functions;
    }
file_inside from n (two_constraints p w z {a = a} {b} {more} {first} {second} {tree} d d' t) h =
    let last = mark (codes ";") z ∷ more in
    let g = cut w.to n a (b ++ last) h.2.2 in
    let l : Stand z.to more n = (cut g.0 n b last g.2).2.2 in
    let k = file_inside z.to n t l in
    let others = both n (constraint_spans second) (joined (map constraint_spans tree.pragmas))
    (constraint_inside g.0 n d' (front g.0 n b last g.2)) k.pragmas in
    record {
      name = k.name;
      span = k.span;
      pragmas = both n (constraint_spans first)
          (constraint_spans second ++ joined (map constraint_spans tree.pragmas))
          (constraint_inside w.to n d (front w.to n a (b ++ last) h.2.2)) others;
      params = k.params;
      functions = k.functions;
    }

-- ---- from tokens

tokens_stand : (source : List ℕ) (from : ℕ) (tokens : List Token) (to : ℕ) → StandInOrder from tokens to
    → Stand from (lexemes source tokens) to
tokens_stand source from [] to h = h
tokens_stand source from (token ∷ tokens) to h = (h.0, h.1, tokens_stand source token.span.to tokens to h.2)

pub spelled_inside : (source : List ℕ) (tokens : List Token) (n : ℕ) (tree : Tree)
    → SpellsFile (lexemes source tokens) tree → StandInOrder 0 tokens n → AreInside n (tree_spans itself tree)
spelled_inside source tokens n tree spelled h =
    let k = file_inside 0 n spelled (tokens_stand source 0 tokens n h) in
    let two = both n (joined (map (param_spans itself) tree.params)) (joined (map (function_spans itself) tree.functions))
    k.params k.functions in (
      k.name,
      (
        k.span,
        both n (joined (map constraint_spans tree.pragmas))
            (joined (map (param_spans itself) tree.params) ++ joined (map (function_spans itself) tree.functions))
            k.pragmas two,
      ),
    )

pub tree_inside : (source : List ℕ) (tokens : List Token) (n : ℕ) (tree : Tree)
    → tree_of (lexemes source tokens) ≡ Some tree → StandInOrder 0 tokens n → AreInside n (tree_spans itself tree)
tree_inside source tokens n tree read h =
    spelled_inside source tokens n tree (tree_found (lexemes source tokens) tree read) h

-- pieces of a text stand in order in it
cut_stands : (at n : ℕ) (tokens : List Token) (text : List ℕ) → IsCut at tokens text → at + length text ≤ n
    → StandInOrder at tokens n
cut_stands at n [] text whole fits = omega (arith, fits)
cut_stands at n (token ∷ tokens) text whole fits =
    let some = whole.0.some in
    let inside = whole.0.inside in
    let after = whole.0.after in (
      after,
      omega (arith, some),
      cut_stands token.span.to n tokens (drop (token.span.to - at) text) whole.1
          (omega (arith, inside, fits, some, after, length-drop (token.span.to - at) text)),
    )

pub tokens_in_order : (source : List ℕ) (tokens : List Token) → IsCut 0 tokens source
    → StandInOrder 0 tokens (length source)
tokens_in_order source tokens whole = cut_stands 0 (length source) tokens source whole (omega arith)

pub spans_of_require : (s : Statement) (e : Expression) → s.kind ≡ nodes.Require e
    → statement_spans itself s ≡ s.span ∷ expression_spans itself e
spans_of_require s e is =
    own_and_inner s ∙ ap (λ (kind : StmtKind Span (Unit {0})). s.span ∷ inner kind) is ∙ ap
    (λ (z : List Span). s.span ∷ z) (in_require e)
