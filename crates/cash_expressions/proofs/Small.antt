-- An expression has at most as many nodes as lexemes, and stands in one run of them.
use Rattle.std.proofs.Common.{◌≡◌, ℕ, suc, ◌+◌, ◌≤◌, Bool, true, false, cond, List, [], ◌∷◌, ◌++◌, length, map, Option, Some, None, ℤ, refl, sym, ap, subst, ◌∙◌, arith, length-append, codes, rules}
use Rattle.std.specs.Prelude.{is_some, nat_lt, option_map}
use Rattle.std.proofs.lemmas.Bool.{false≢true, ltb-false}
use Rattle.cash_base.specs.declared.place.Span.{Span}
use Rattle.cash_base.specs.declared.look.Look0.{Look0}
use Rattle.cash_base.specs.declared.look.LookAt.{LookAt}
use Rattle.cash_tree.specs.declared.Ty.{Ty}
use Rattle.cash_tree.specs.declared.UnaryOp.{UnaryOp}
use Rattle.cash_tree.specs.declared.BinaryOp.{BinaryOp}
use Rattle.cash_tree.specs.declared.Callee.{Callee}
use Rattle.cash_tree.specs.declared.ExprKind.TheVariants as nodes
use Rattle.cash_tree.specs.declared.ExprKind.TheFolds.{the_lemmas}
use Rattle.cash_symbols.specs.declared.fault.DepthRule.{DepthRule}
use Rattle.cash_symbols.specs.declared.fault.DepthRule.TheVariants.{Brackets, Braces, Run, Branches}
use Rattle.cash_symbols.specs.declared.depth.Depth.{Depth}
use Rattle.cash_symbols.specs.Words.{operator_of, prefix_of, function_of, instantiation_of, count_of}
use Rattle.cash_symbols.specs.Lexemes.{Lexeme, Symbol, Mark, Name, Number}
use Rattle.cash_expressions.specs.Grammar.{Expression, expr, binary_of, unary_of, length_of, reverse_of, split_of, index_of, bracketed, callee_of, call_of, new_of, array_of, cast_to, look_of, look_at_of, number_of, Part, Spells, number, number_with_unit, hex_literal, text_literal, date_literal, true_literal, false_literal, name, call, brackets, array, new, cast, cast_with_size, whole, count, member, active, bare, length_word, reverse_call, split_call, index, no_sign, sign, no_operator, tighter, operator, SpellsAll, none, last, next}
use Rattle.cash_symbols.specs.Front.{lex, mark, across, joins, signs, is_mark}
use Rattle.cash_symbols.specs.DepthRules.{ends_run, depth_after, broken_rule, or_later, deep_after, first_too_deep, nothing_open}
use Rattle.cash_tree.specs.Nodes.{total, or_none, nodes as node_count}
use Rattle.cash_symbols.proofs.Steps.{mark_is}

-- ---- how many nodes

at_unary : (e v : Expression) (op : UnaryOp) → e.kind ≡ nodes.Unary op v → node_count e ≡ node_count v + 1
at_unary e v op is = search (rules, the_lemmas)

at_binary : (e v w : Expression) (op : BinaryOp) → e.kind ≡ nodes.Binary op v w
    → node_count e ≡ node_count v + node_count w + 1
at_binary e v w op is = search (rules, the_lemmas)

at_length : (e v : Expression) → e.kind ≡ nodes.Length v → node_count e ≡ node_count v + 1
at_length e v is = search (rules, the_lemmas)

at_reverse : (e v : Expression) → e.kind ≡ nodes.Reverse v → node_count e ≡ node_count v + 1
at_reverse e v is = search (rules, the_lemmas)

at_split : (e v w : Expression) → e.kind ≡ nodes.Split v w → node_count e ≡ node_count v + node_count w + 1
at_split e v w is = search (rules, the_lemmas)

at_index : (e v : Expression) (n : ℕ) → e.kind ≡ nodes.Index v n → node_count e ≡ node_count v + 1
at_index e v n is = search (rules, the_lemmas)

at_cast : (e v : Expression) (ty : Ty) → e.kind ≡ nodes.Cast ty v None → node_count e ≡ node_count v + 0 + 1
at_cast e v ty is = search (rules, the_lemmas)

at_sized_cast : (e v : Expression) (size : Option Expression) (ty : Ty) → e.kind ≡ nodes.Cast ty v size
    → node_count e ≡ node_count v + or_none (option_map node_count size) + 1
at_sized_cast e v size ty is = search (rules, the_lemmas)

at_call : (e : Expression) (callee : Callee) (args : List Expression) → e.kind ≡ nodes.Call callee args
    → node_count e ≡ total (map node_count args) + 1
at_call e callee args is = search (rules, the_lemmas)

at_new : (e : Expression) (callee : Callee) (args : List Expression) → e.kind ≡ nodes.New callee args
    → node_count e ≡ total (map node_count args) + 1
at_new e callee args is = search (rules, the_lemmas)

at_array : (e : Expression) (items : List Expression) → e.kind ≡ nodes.Array items
    → node_count e ≡ total (map node_count items) + 1
at_array e items is = search (rules, the_lemmas)

at_look_at : (e v : Expression) (look : LookAt) → e.kind ≡ nodes.LookAt look v → node_count e ≡ node_count v + 1
at_look_at e v look is = search (rules, the_lemmas)

-- brackets leave no node
same_nodes : (e v : Expression) → e.kind ≡ v.kind → node_count e ≡ node_count v
same_nodes e v is = search (rules, the_lemmas)

at_int : (e : Expression) (n u : ℕ) → e.kind ≡ nodes.Int n u → node_count e ≡ 1
at_int e n u is = search (rules, the_lemmas)

at_bool : (e : Expression) (b : Bool) → e.kind ≡ nodes.Bool b → node_count e ≡ 1
at_bool e b is = search (rules, the_lemmas)

at_hex : (e : Expression) (bytes : List ℕ) → e.kind ≡ nodes.Hex bytes → node_count e ≡ 1
at_hex e bytes is = search (rules, the_lemmas)

at_text : (e : Expression) (bytes : List ℕ) → e.kind ≡ nodes.Text bytes → node_count e ≡ 1
at_text e bytes is = search (rules, the_lemmas)

at_date : (e : Expression) (seconds : ℤ) → e.kind ≡ nodes.Date seconds → node_count e ≡ 1
at_date e seconds is = search (rules, the_lemmas)

at_name : (e : Expression) (s : Span) → e.kind ≡ nodes.Name s → node_count e ≡ 1
at_name e s is = search (rules, the_lemmas)

at_look : (e : Expression) (look : Look0) → e.kind ≡ nodes.Look0 look → node_count e ≡ 1
at_look e look is = search (rules, the_lemmas)

mutual
  pub few_nodes : {p : Part} {a : List Lexeme} {e : Expression} → Spells p a e → node_count e ≤ length a
  few_nodes (number {n = n} {s}) = let h = at_int (number_of n 1 s) n 1 refl in omega arith
  few_nodes (number_with_unit {n = n} {s} word u w q) =
      let h = at_int (number_of n u (across s w)) n u refl in omega arith
  few_nodes (hex_literal {bytes = bytes} {s}) = let h = at_hex (expr (nodes.Hex bytes) s) bytes refl in omega arith
  few_nodes (text_literal {bytes = bytes} {s}) = let h = at_text (expr (nodes.Text bytes) s) bytes refl in omega arith
  few_nodes (date_literal {seconds = seconds} {s}) =
      let h = at_date (expr (nodes.Date seconds) s) seconds refl in omega arith
  few_nodes (true_literal {s = s}) = let h = at_bool (expr (nodes.Bool true) s) true refl in omega arith
  few_nodes (false_literal {s = s}) = let h = at_bool (expr (nodes.Bool false) s) false refl in omega arith
  few_nodes (name {s = s}) = let h = at_name (expr (nodes.Name s) s) s refl in omega arith
  few_nodes (call {word = word} {s = s} o c {a} {es} d) =
      let h = at_call (call_of word s es c) (callee_of (function_of word) s) es refl in
      let k = few_all d in
      omega (arith, length-append a (mark (codes ")") c ∷ []))
  few_nodes (brackets o c {a = a} {e} d) =
      let h = same_nodes (bracketed o e c) e refl in
      let k = few_nodes d in
      omega (arith, length-append a (mark (codes ")") c ∷ []))
  few_nodes (array o c {a = a} {es} d) =
      let h = at_array (array_of o es c) es refl in
      let k = few_all d in
      omega (arith, length-append a (mark (codes "]") c ∷ []))
  few_nodes (new {word = word} n s o c {a} {es} d) =
      let h = at_new (new_of n word s es c) (callee_of (instantiation_of word) s) es refl in
      let k = few_all d in
      omega (arith, length-append a (mark (codes ")") c ∷ []))
  few_nodes (cast {ty = ty} s o c {a} {e} d) =
      let h = at_cast (cast_to ty s e None c) e ty refl in
      let k : total (node_count e ∷ []) ≤ length a = few_all d in
      omega (arith, length-append a (mark (codes ")") c ∷ []))
  few_nodes (cast_with_size {ty = ty} s o c {a} {e} {size} d) =
      let h : node_count (cast_to ty s e (Some size) c) ≡ node_count e + node_count size + 1 = at_sized_cast
      (cast_to ty s e (Some size) c) e (Some size) ty refl in
      let k : total (node_count e ∷ node_count size ∷ []) ≤ length a = few_all d in
      omega (arith, length-append a (mark (codes ")") c ∷ []))
  few_nodes (whole look x d s q) = let h = at_look (look_of x look s) look refl in omega arith
  few_nodes (count side x d s d' l q) =
      let h = at_look (look_of x (count_of side) l) (count_of side) refl in omega arith
  few_nodes (member field side look x d s o c d' m {a} {e} q q' k) =
      let h = at_look_at (look_at_of x look e m) e look refl in
      let few = few_nodes k in
      omega (arith, length-append a (mark (codes "]") c ∷ mark (codes ".") d' ∷ lex (Name field) m ∷ []))
  few_nodes (active look x d s q) = let h = at_look (look_of x look s) look refl in omega arith
  few_nodes (bare d) = few_nodes d
  few_nodes (length_word word d s {a = a} {e} q k) =
      let h = at_length (length_of e s) e refl in
      let few = few_nodes k in
      omega (arith, length-append a (mark (codes ".") d ∷ lex (Name word) s ∷ []))
  few_nodes (reverse_call word d s o c {a = a} {e} q k) =
      let h = at_reverse (reverse_of e c) e refl in
      let few = few_nodes k in
      omega (
        arith,
        length-append a (mark (codes ".") d ∷ lex (Name word) s ∷ mark (codes "(") o ∷
            mark (codes ")") c ∷ []),
      )
  few_nodes (split_call word d s o c {a = a} {b} {e} {at} q k k') =
      let h = at_split (split_of e at c) e at refl in
      let few = few_nodes k in
      let more = few_nodes k' in
      omega (
        arith,
        length-append a (mark (codes ".") d ∷ lex (Name word) s ∷ mark (codes "(") o ∷
            (b ++ mark (codes ")") c ∷ [])),
        length-append b (mark (codes ")") c ∷ []),
      )
  few_nodes (index n o s c {a = a} {e} k) =
      let h = at_index (index_of e n c) e n refl in
      let few = few_nodes k in
      omega (arith, length-append a (mark (codes "[") o ∷ lex (Number n) s ∷ mark (codes "]") c ∷ []))
  few_nodes (no_sign d) = few_nodes d
  few_nodes (sign t op {a = a} {e} q d) =
      let h = at_unary (unary_of op t.span e) e op refl in
      let few = few_nodes d in
      omega arith
  few_nodes (no_operator d) = few_nodes d
  few_nodes (tighter d) = few_nodes d
  few_nodes (operator k t op {a = a} {b} {left} {right} j d d') =
      let h = at_binary (binary_of op left right) left right op refl in
      let few = few_nodes d in
      let more = few_nodes d' in
      omega (arith, length-append a (t ∷ b))

  few_all : {a : List Lexeme} {es : List Expression} → SpellsAll a es → total (map node_count es) ≤ length a
  few_all none = omega arith
  few_all (last {a = a} {e} d) = let few = few_nodes d in omega arith
  few_all (next s {a = a} {b} {e} {es} d d') =
      let few = few_nodes d in
      let more = few_all d' in
      omega (arith, length-append a (mark (codes ",") s ∷ b))

-- ---- an expression has no sign that ends a run

abbrev pub IsRun : List Lexeme → Type 0
IsRun [] = Unit {0}
IsRun (t ∷ ts) = (ends_run t.symbol ≡ false) × IsRun ts

two_runs : (a b : List Lexeme) → IsRun a → IsRun b → IsRun (a ++ b)
two_runs [] b h k = k
two_runs (t ∷ a) b h k = (h.0, two_runs a b h.1 k)

-- a symbol that passes a test that the signs don't
no_mark : (test : Symbol → Bool) (text : List ℕ) (symbol : Symbol) (b : Bool) → is_mark text symbol ≡ b
    → test symbol ≡ true → test (Mark text) ≡ false → b ≡ false
no_mark test text symbol true e passes fails =
    absurd (false≢true (sym fails ∙ ap test (sym (mark_is text symbol e)) ∙ passes))
no_mark test text symbol false e passes fails = refl

no_end : (test : Symbol → Bool) (symbol : Symbol) → test symbol ≡ true → test (Mark (codes ";")) ≡ false
    → test (Mark (codes "{")) ≡ false → test (Mark (codes "}")) ≡ false → ends_run symbol ≡ false
no_end test symbol passes a b c =
    rw (
      no_mark test (codes ";") symbol (is_mark (codes ";") symbol) refl passes a,
      no_mark test (codes "{") symbol
          (is_mark (codes "{") symbol) refl passes b,
      no_mark test (codes "}") symbol (is_mark (codes "}") symbol) refl
          passes c,
    ) refl

joins_run : (symbol : Symbol) (j : ℕ × BinaryOp) → joins symbol ≡ Some j → ends_run symbol ≡ false
unfolding operator_of
joins_run symbol j e =
    no_end (λ s. is_some (joins s)) symbol (ap (λ (o : Option (ℕ × BinaryOp)). is_some o) e) refl refl refl

signs_run : (symbol : Symbol) (op : UnaryOp) → signs symbol ≡ Some op → ends_run symbol ≡ false
unfolding prefix_of
signs_run symbol op e = no_end (λ s. is_some (signs s)) symbol (ap (λ (o : Option UnaryOp). is_some o) e) refl refl refl

mutual
  pub is_run : {p : Part} {a : List Lexeme} {e : Expression} → Spells p a e → IsRun a
  is_run number = (refl, tt)
  is_run (number_with_unit word u w q) = (refl, (refl, tt))
  is_run hex_literal = (refl, tt)
  is_run text_literal = (refl, tt)
  is_run date_literal = (refl, tt)
  is_run true_literal = (refl, tt)
  is_run false_literal = (refl, tt)
  is_run name = (refl, tt)
  is_run (call o c {a = a} d) = (refl, (refl, two_runs a (mark (codes ")") c ∷ []) (are_run d) (refl, tt)))
  is_run (brackets o c {a = a} d) = (refl, two_runs a (mark (codes ")") c ∷ []) (is_run d) (refl, tt))
  is_run (array o c {a = a} d) = (refl, two_runs a (mark (codes "]") c ∷ []) (are_run d) (refl, tt))
  is_run (new n s o c {a = a} d) = (refl, (refl, (refl, two_runs a (mark (codes ")") c ∷ []) (are_run d) (refl, tt))))
  is_run (cast s o c {a = a} d) = (refl, (refl, two_runs a (mark (codes ")") c ∷ []) (are_run d) (refl, tt)))
  is_run (cast_with_size s o c {a = a} d) = (refl, (refl, two_runs a (mark (codes ")") c ∷ []) (are_run d) (refl, tt)))
  is_run (whole look x d s q) = (refl, (refl, (refl, tt)))
  is_run (count side x d s d' l q) = (refl, (refl, (refl, (refl, (refl, tt)))))
  is_run (member field side look x d s o c d' m {a = a} q q' k) = (
    refl,
    (
      refl,
      (
        refl,
        (
          refl,
          two_runs a (mark (codes "]") c ∷ mark (codes ".") d' ∷ lex (Name field) m ∷ [])
              (is_run k) (refl, (refl, (refl, tt))),
        ),
      ),
    ),
  )
  is_run (active look x d s q) = (refl, (refl, (refl, tt)))
  is_run (bare d) = is_run d
  is_run (length_word word d s {a = a} q k) =
      two_runs a (mark (codes ".") d ∷ lex (Name word) s ∷ []) (is_run k) (refl, (refl, tt))
  is_run (reverse_call word d s o c {a = a} q k) =
      two_runs a (mark (codes ".") d ∷ lex (Name word) s ∷ mark (codes "(") o ∷ mark (codes ")") c ∷ []) (is_run k)
      (refl, (refl, (refl, (refl, tt))))
  is_run (split_call word d s o c {a = a} {b = b} q k k') =
      two_runs a (mark (codes ".") d ∷ lex (Name word) s ∷ mark (codes "(") o ∷ (b ++ mark (codes ")") c ∷ []))
      (is_run k) (refl, (refl, (refl, two_runs b (mark (codes ")") c ∷ []) (is_run k') (refl, tt))))
  is_run (index n o s c {a = a} k) =
      two_runs a (mark (codes "[") o ∷ lex (Number n) s ∷ mark (codes "]") c ∷ []) (is_run k) (refl, (refl, (refl, tt)))
  is_run (no_sign d) = is_run d
  is_run (sign t op q d) = (signs_run t.symbol op q, is_run d)
  is_run (no_operator d) = is_run d
  is_run (tighter d) = is_run d
  is_run (operator k t op {a = a} {b = b} j d d') =
      two_runs a (t ∷ b) (is_run d) (joins_run t.symbol (suc k, op) j, is_run d')

  are_run : {a : List Lexeme} {es : List Expression} → SpellsAll a es → IsRun a
  are_run none = tt
  are_run (last d) = is_run d
  are_run (next s {a = a} {b = b} d d') = two_runs a (mark (codes ",") s ∷ b) (is_run d) (refl, are_run d')

-- ---- where no token is too deep, a run is short

-- each run in the lexemes is short
pub record Runs (ts : List Lexeme) : Type 0 where
  pub short : (pre a post : List Lexeme) → ts ≡ pre ++ (a ++ post) → IsRun a → length a ≤ 1000

third_fails : (a b c e : Bool)
    → cond a (Some Brackets) (cond b (Some Braces) (cond c (Some Run) (cond e (Some Branches) None))) ≡ None → c ≡ false
third_fails true b c e free = absurd cc
third_fails false true c e free = absurd cc
third_fails false false true e free = absurd cc
third_fails false false false e free = refl

nothing_broken : (d : Depth) → broken_rule d ≡ None → d.run ≤ 1000
unfolding broken_rule
nothing_broken d free =
    ltb-false 1000 d.run (third_fails (nat_lt 64 d.brackets) (nat_lt 32 d.braces) (nat_lt 1000 d.run)
    (nat_lt 128 d.branches) free)

kept : (r : Option DepthRule) (s : Span) (later : Option (DepthRule × Span)) → or_later r s later ≡ None
    → (r ≡ None) × (later ≡ None)
kept None s later e = (refl, e)
kept (Some rule) s later e = absurd cc

run_after : (d : Depth) (symbol : Symbol) → ends_run symbol ≡ false → (depth_after d symbol).run ≡ d.run + 1
unfolding depth_after
run_after d symbol e = rw e refl

run_short : (d : Depth) (a post : List Lexeme) → IsRun a → d.run ≤ 1000 → deep_after d (a ++ post) ≡ None
    → d.run + length a ≤ 1000
run_short d [] post run low free = omega arith
run_short d (t ∷ a) post run low free =
    let d' = depth_after d t.symbol in
    let k = kept (broken_rule d') t.span (deep_after d' (a ++ post)) free in
    let more : d'.run ≡ d.run + 1 = run_after d t.symbol run.0 in
    let short : d'.run + length a ≤ 1000 = run_short d' a post run.1 (nothing_broken d' k.0) k.1 in
    omega arith

short_from : (d : Depth) (pre a post : List Lexeme) → IsRun a → d.run ≤ 1000
    → deep_after d (pre ++ (a ++ post)) ≡ None → length a ≤ 1000
short_from d [] a post run low free = let h = run_short d a post run low free in omega arith
short_from d (t ∷ pre) a post run low free =
    let d' = depth_after d t.symbol in
    let k = kept (broken_rule d') t.span (deep_after d' (pre ++ (a ++ post))) free in
    short_from d' pre a post run (nothing_broken d' k.0) k.1

pub runs_short : (ts : List Lexeme) → first_too_deep ts ≡ None → Runs ts
unfolding first_too_deep
runs_short ts free =
    record {
      short = λ pre a post e run. short_from nothing_open pre a post run (omega arith)
          (subst (λ (z : List Lexeme). deep_after nothing_open z ≡ None) e free);
    }
