-- What holds of the expressions and parameters of the trees that lexemes spell; and so those that plain lexemes spell are plain.
use Rattle.std.proofs.Common.{◌≡◌, sym, subst, ℕ, Bool, true, List, [], ◌∷◌, ◌++◌, map, Some, None}
use Rattle.std.specs.List.{AllByRecursion}
use Rattle.cash_base.specs.declared.place.Span.{Span}
use Rattle.cash_base.specs.Number.{IsBytes}
use Rattle.cash_tree.specs.declared.Param.{Param}
use Rattle.cash_tree.specs.declared.Token.{Token}
use Rattle.cash_tree.specs.declared.Ty.{Ty}
use Rattle.cash_tree.specs.Nodes.{joined, kind_values, stmt_values, values, tree_values}
use Rattle.cash_symbols.specs.Lexemes.{Symbol, Type_, Lexeme, lexemes}
use Rattle.cash_symbols.specs.Front.{across}
use Rattle.cash_expressions.specs.Grammar.{Expression}
use Rattle.cash_statements.specs.Statements as grammar
use Rattle.cash_statements.specs.Statements.{Statement, Body, param_of, SpellsSimple, SpellsStmt, SpellsBlock, SpellsRun}
use Rattle.cash_parser.specs.Files as files
use Rattle.cash_parser.specs.Files.{Tree, FunctionTree, SpellsParams, SpellsFunctions, SpellsFile}
use Rattle.cash_names.proofs.Rows.{at_define, at_pair, at_assign, at_time, at_age, at_require, at_if}
use Rattle.type_tables.specs.Tables.{is_single}
use Rattle.type_soundness.specs.Literals.{holds_bytes, IsPlain}
use Rattle.plain_trees.proofs.Symbols.{IsPlainSymbol, lexemes_plain}
use Rattle.plain_trees.proofs.Spelled.{AllAre, Follows, front, back, each_spelled, literals_follow}

-- ---- statements

one_value : (P : Expression → Type 0) (s : Statement) (e : Expression) → values s ≡ e ∷ [] → P e → AllByRecursion P (values s)
one_value P s e is h = subst (AllByRecursion P) (sym is) (h, tt)

both : (P : Expression → Type 0) (es fs : List Expression) → AllByRecursion P es → AllByRecursion P fs → AllByRecursion P (es ++ fs)
both P [] fs h k = k
both P (e ∷ es) fs h k = (h.0, both P es fs h.1 k)

simple_spelled : {Q : Symbol → Type 0} (P : Expression → Type 0) (f : Follows Q P) {a : List Lexeme} {s : Statement} → SpellsSimple a s → AllAre Q a → AllByRecursion P (values s)
simple_spelled P f (grammar.define {ty = ty} {s = s} k word p q c {a = a} {b = b} {e = e} ks d) h =
    one_value P _ e (at_define kind_values stmt_values ty k p p e (across s c)) (each_spelled f d (front f b _ (back f a _ h.1).1.1))
simple_spelled P f (grammar.pair {ty = ty} {ty' = ty'} {s = s} p m p' q c {a = a} {e = e} d) h =
    one_value P _ e (at_pair kind_values stmt_values (param_of ty p) (param_of ty' p') e (across s c)) (each_spelled f d (front f a _ h.1.1.1.1.1.1))
simple_spelled P f (grammar.assign p q c {a = a} {e = e} d) h =
    one_value P _ e (at_assign kind_values stmt_values p e (across p c)) (each_spelled f d (front f a _ h.1.1))
simple_spelled P f (grammar.time r o x d w g c z {a = a} {e = e} k) h =
    one_value P _ e (at_time kind_values stmt_values e (across r z)) (each_spelled f k (front f a _ h.1.1.1.1.1.1))
simple_spelled P f (grammar.age r o x d w g c z {a = a} {e = e} k) h =
    one_value P _ e (at_age kind_values stmt_values e (across r z)) (each_spelled f k (front f a _ h.1.1.1.1.1.1))
simple_spelled P f (grammar.required r o c z {a = a} {e = e} k) h =
    one_value P _ e (at_require kind_values stmt_values e (across r z)) (each_spelled f k (front f a _ h.1.1))

mutual
  stmt_spelled : {Q : Symbol → Type 0} (P : Expression → Type 0) (f : Follows Q P) {shut : Bool} {a : List Lexeme} {s : Statement} → SpellsStmt shut a s → AllAre Q a → AllByRecursion P (values s)
  stmt_spelled P f (grammar.simple d) h = simple_spelled P f d h
  stmt_spelled P f (grammar.if_only i o c {a = a} {b = b} {e = e} {body = body} d inner) h =
      subst (AllByRecursion P) (sym (at_if kind_values stmt_values e body.0 None (across i body.1))) (
        each_spelled f d (front f a _ h.1.1),
        both P (joined (map values body.0)) [] (block_spelled P f inner (back f a _ h.1.1).1) tt,
      )
  stmt_spelled P f (grammar.if_else i o c l {a = a} {b = b} {d = d'} {e = e} {body = body} {other = other} d inner outer) h =
      let rest = (back f a _ h.1.1).1 in
      subst (AllByRecursion P) (sym (at_if kind_values stmt_values e body.0 (Some other.0) (across i other.1))) (
        each_spelled f d (front f a _ h.1.1),
        both P (joined (map values body.0)) (joined (map values other.0)) (block_spelled P f inner (front f b _ rest)) (block_spelled P f outer (back f b _ rest).1),
      )

  block_spelled : {Q : Symbol → Type 0} (P : Expression → Type 0) (f : Follows Q P) {shut : Bool} {a : List Lexeme} {body : Body} → SpellsBlock shut a body → AllAre Q a → AllByRecursion P (joined (map values body.0))
  block_spelled P f (grammar.single {s = s} d) h = both P (values s) [] (stmt_spelled P f d h) tt
  block_spelled P f (grammar.braces o c {a = a} d) h = run_spelled P f d (front f a _ h.1)

  run_spelled : {Q : Symbol → Type 0} (P : Expression → Type 0) (f : Follows Q P) {a : List Lexeme} {ss : List Statement} → SpellsRun a ss → AllAre Q a → AllByRecursion P (joined (map values ss))
  run_spelled P f grammar.no_statement h = tt
  run_spelled P f (grammar.one_statement {a = a} {b = b} {s = s} {ss = ss} d ds) h =
      both P (values s) (joined (map values ss)) (stmt_spelled P f d (front f a b h)) (run_spelled P f ds (back f a b h))

-- ---- files

-- each parameter has a type that is so
abbrev pub ParamsAre : (Ty → Type 0) → List (Param Span) → Type 0
ParamsAre R ps = AllByRecursion (λ (p : Param Span). R p.ty) ps

-- so have the parameters of the constructor and of each function, and each expression that stands in no other is as it should be
pub record TreeIs (R : Ty → Type 0) (P : Expression → Type 0) (tree : Tree) : Type 0 where
  pub ctor : ParamsAre R tree.params
  pub args : AllByRecursion (λ (f : FunctionTree). ParamsAre R f.params) tree.functions
  pub all_values : AllByRecursion P (tree_values tree)

-- a type is so where its word is
abbrev pub Typed : (Symbol → Type 0) → (Ty → Type 0) → Type 0
Typed Q R = (ty : Ty) → Q (Type_ ty) → R ty

params_spelled : (Q : Symbol → Type 0) (R : Ty → Type 0) → Typed Q R → {a : List Lexeme} {ps : List (Param Span)} → SpellsParams a ps → AllAre Q a → ParamsAre R ps
params_spelled Q R r files.no_param h = tt
params_spelled Q R r (files.last_param {ty = ty} p) h = (r ty h.0, tt)
params_spelled Q R r (files.next_param {ty = ty} p m d) h = (r ty h.0, params_spelled Q R r d h.1.1.1)

abbrev function_values : FunctionTree → List Expression
function_values f = joined (map values f.body)

record FunctionsAre (R : Ty → Type 0) (P : Expression → Type 0) (fs : List FunctionTree) : Type 0 where
  args : AllByRecursion (λ (f : FunctionTree). ParamsAre R f.params) fs
  all_values : AllByRecursion P (joined (map function_values fs))

functions_spelled : (Q : Symbol → Type 0) (R : Ty → Type 0) (P : Expression → Type 0) → Typed Q R → Follows Q P → {a : List Lexeme} {fs : List FunctionTree} → SpellsFunctions a fs → AllAre Q a
    → FunctionsAre R P fs
functions_spelled Q R P r f files.no_function h = record { args = tt; all_values = tt }
functions_spelled Q R P r f (files.one_function k n o c b z {a = a} {d = d} {more = more} {ps = ps} {ss = ss} {fs = fs} params body others) h =
    let inside = (back f a _ h.1.1.1).1.1 in
    let rest = functions_spelled Q R P r f others (back f d _ inside).1 in
    record {
      args = (params_spelled Q R r params (front f a _ h.1.1.1), rest.args);
      all_values = both P (joined (map values ss)) (joined (map function_values fs)) (run_spelled P f body (front f d _ inside)) rest.all_values;
    }

pub tree_spelled : (Q : Symbol → Type 0) (R : Ty → Type 0) (P : Expression → Type 0) → Typed Q R → Follows Q P → {a : List Lexeme} {tree : Tree} → SpellsFile a tree → AllAre Q a → TreeIs R P tree
tree_spelled Q R P r f (files.contract k n o c b z {a = a} {d = d} params fs) h =
    let inside = (back f a _ h.1.1.1).1.1 in
    let all = functions_spelled Q R P r f fs (front f d _ inside) in
    record { ctor = params_spelled Q R r params (front f a _ h.1.1.1); args = all.args; all_values = all.all_values }
tree_spelled Q R P r f (files.one_constraint p w z {a = a} {more = more} {tree = tree} d t) h =
    let whole = tree_spelled Q R P r f t (back f a _ h.1.1).1 in
    record { ctor = whole.ctor; args = whole.args; all_values = whole.all_values }
tree_spelled Q R P r f (files.two_constraints p w z {a = a} {b = b} {more = more} {tree = tree} d d' t) h =
    let whole = tree_spelled Q R P r f t (back f b _ (back f a _ h.1.1)).1 in
    record { ctor = whole.ctor; args = whole.args; all_values = whole.all_values }

-- ---- plain trees

pub source_plain : (source : List ℕ) (tokens : List Token) (tree : Tree) → IsBytes source → SpellsFile (lexemes source tokens) tree → IsPlain tree
source_plain source tokens tree bytes spelled =
    let all = tree_spelled IsPlainSymbol (λ ty. is_single ty ≡ true) (λ e. holds_bytes e ≡ true) (λ ty is. is) literals_follow spelled (lexemes_plain source tokens bytes) in
    record { ctor = all.ctor; args = all.args; literals = all.all_values }
