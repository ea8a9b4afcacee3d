-- What is spelled as statements is read: where an else may not follow, none does.
use Rattle.std.proofs.Common.{◌≡◌, ℕ, Bool, true, false, List, [], ◌∷◌, ◌++◌, Option, Some, None, refl, ap, ◌∙◌, append_assoc, codes}
use Rattle.std.specs.Prelude.{is_some}
use Rattle.cash_base.specs.declared.place.Span.{Span}
use Rattle.cash_base.specs.declared.look.Look0.{Look0}
use Rattle.cash_tree.specs.declared.Ty.{Ty}
use Rattle.cash_tree.specs.declared.UnaryOp.{UnaryOp}
use Rattle.cash_symbols.specs.declared.words.Property.{Property}
use Rattle.cash_symbols.specs.Words.{is_text, loosest, prefix_of, property_of, active_of}
use Rattle.cash_symbols.specs.Lexemes.{Lexeme, Name, Number}
use Rattle.cash_expressions.specs.Grammar.{Expression, Part, Spells, number, number_with_unit, hex_literal, text_literal, date_literal, true_literal, false_literal, name, call, brackets, array, new, cast, cast_with_size, whole, count, member, active, bare, length_word, reverse_call, split_call, index, no_sign, sign, no_operator, tighter, operator, SpellsExpr}
use Rattle.cash_symbols.specs.Front.{lex, mark, signs, eaten}
use Rattle.cash_statements.specs.Statements.{Statement, Body, define_of, Constants, not_constant, constant, SpellsSimple, define, pair, assign, time, age, required, SpellsStmt, simple, if_only, if_else, SpellsBlock, single, braces, SpellsRun, no_statement, one_statement}
use Rattle.cash_statements.specs.StatementReading.{statement, block, run, constants_at, value_at, test_at, clock_at, age_step, time_step, comma_step, simple_at, block_step, run_step, statement_step, statement_reading}
use Rattle.cash_symbols.proofs.Steps.{text_is, starts, absent}
use Rattle.cash_expressions.proofs.Complete.{complete, whole_level, close_ends, semicolon_ends}
use Rattle.cash_statements.proofs.StatementSound.{is_opening, opens, statement_unrolled}

-- ---- an expression is no time and no age

no_text : {A : Type 0} (f : List ℕ → Option A) (word other : List ℕ) (v : A) (b : Bool) → f other ≡ None
    → f word ≡ Some v → is_text word other ≡ b → b ≡ false
no_text f word other v true absent-is here e = absurd (let same = ap f (text_is word other e) in cc)
no_text f word other v false absent-is here e = refl

-- neither `tx.time` nor `this.age` stands in front
record NoClock (ts : List Lexeme) : Type 0 where
  no_time : clock_at (codes "tx") (codes "time") ts ≡ None
  no_age : clock_at (codes "this") (codes "age") ts ≡ None

no_property : (word : List ℕ) (v : Property) (x d s : Span) (rest : List Lexeme) → property_of word ≡ Some v
    → NoClock (mark (codes "tx") x ∷ mark (codes ".") d ∷ lex (Name word) s ∷ rest)
unfolding property_of
no_property word v x d s rest q =
    let other : is_text word (codes "time") ≡ false = no_text property_of word (codes "time") v
    (is_text word (codes "time")) refl q refl in
    record { no_time = rw other refl; no_age = refl }

no_active : (word : List ℕ) (v : Look0) (x d s : Span) (rest : List Lexeme) → active_of word ≡ Some v
    → NoClock (mark (codes "this") x ∷ mark (codes ".") d ∷ lex (Name word) s ∷ rest)
unfolding active_of
no_active word v x d s rest q =
    let other : is_text word (codes "age") ≡ false = no_text active_of word (codes "age") v
    (is_text word (codes "age")) refl q refl in
    record { no_time = refl; no_age = rw other refl }

no_sign_clock : (t : Lexeme) (op : UnaryOp) (rest : List Lexeme) → signs t.symbol ≡ Some op → NoClock (t ∷ rest)
unfolding prefix_of
no_sign_clock t op rest q =
    let test : starts (λ s. is_some (signs s)) (t ∷ []) ≡ true = ap (λ (o : Option UnaryOp). is_some o) q in
    let no_tx = absent (λ s. is_some (signs s)) (codes "tx") (t ∷ []) rest test refl in
    let no_this = absent (λ s. is_some (signs s)) (codes "this") (t ∷ []) rest test refl in
    record { no_time = rw no_tx refl; no_age = rw no_this refl }

no_clock : {p : Part} {a : List Lexeme} {e : Expression} → Spells p a e → (rest : List Lexeme) → NoClock (a ++ rest)
no_clock number = λ rest. record { no_time = refl; no_age = refl }
no_clock (number_with_unit word u w q) = λ rest. record { no_time = refl; no_age = refl }
no_clock hex_literal = λ rest. record { no_time = refl; no_age = refl }
no_clock text_literal = λ rest. record { no_time = refl; no_age = refl }
no_clock date_literal = λ rest. record { no_time = refl; no_age = refl }
no_clock true_literal = λ rest. record { no_time = refl; no_age = refl }
no_clock false_literal = λ rest. record { no_time = refl; no_age = refl }
no_clock name = λ rest. record { no_time = refl; no_age = refl }
no_clock (call o c args) = λ rest. record { no_time = refl; no_age = refl }
no_clock (brackets o c d) = λ rest. record { no_time = refl; no_age = refl }
no_clock (array o c args) = λ rest. record { no_time = refl; no_age = refl }
no_clock (new n s o c args) = λ rest. record { no_time = refl; no_age = refl }
no_clock (cast s o c args) = λ rest. record { no_time = refl; no_age = refl }
no_clock (cast_with_size s o c args) = λ rest. record { no_time = refl; no_age = refl }
no_clock (whole {word = word} look x d s q) = λ rest. no_property word _ x d s rest q
no_clock (count {word = word} side x d s d' l q) = λ rest. no_property word _ x d s _ q
no_clock (member {word = word} field side look x d s o c d' m q q' h) = λ rest. no_property word _ x d s _ q
no_clock (active {word = word} look x d s q) = λ rest. no_active word look x d s rest q
no_clock (bare d) = no_clock d
no_clock (length_word word d s {a = a} q h) =
    λ rest. rw (append_assoc a (mark (codes ".") d ∷ lex (Name word) s ∷ []) rest)
    (no_clock h (mark (codes ".") d ∷ lex (Name word) s ∷ rest))
no_clock (reverse_call word d s o c {a = a} q h) = λ rest.
    rw (append_assoc a (mark (codes ".") d ∷ lex (Name word) s ∷ mark (codes "(") o ∷ mark (codes ")") c ∷ []) rest)
    (no_clock h (mark (codes ".") d ∷ lex (Name word) s ∷ mark (codes "(") o ∷ mark (codes ")") c ∷ rest))
no_clock (split_call word d s o c {a = a} {b = b} q h at) = λ rest.
    rw (append_assoc a (mark (codes ".") d ∷ lex (Name word) s ∷ mark (codes "(") o ∷ (b ++ mark (codes ")") c ∷ []))
    rest) (no_clock h (mark (codes ".") d ∷ lex (Name word) s ∷ mark (codes "(") o ∷
    ((b ++ mark (codes ")") c ∷ []) ++ rest)))
no_clock (index n o s c {a = a} h) = λ rest.
    rw (append_assoc a (mark (codes "[") o ∷ lex (Number n) s ∷ mark (codes "]") c ∷ []) rest)
    (no_clock h (mark (codes "[") o ∷ lex (Number n) s ∷ mark (codes "]") c ∷ rest))
no_clock (no_sign d) = no_clock d
no_clock (sign t op {a = a} q d) = λ rest. no_sign_clock t op (a ++ rest) q
no_clock (no_operator d) = no_clock d
no_clock (tighter d) = no_clock d
no_clock (operator k t op {a = a} {b = b} j d d') =
    λ rest. rw (append_assoc a (t ∷ b) rest) (no_clock d (t ∷ (b ++ rest)))

-- ---- statements without an `if`

value_read : (a : List Lexeme) (e : Expression) (c : Span) (rest : List Lexeme) → SpellsExpr a e
    → value_at (a ++ (mark (codes ";") c ∷ rest)) ≡ Some ((e, c), rest)
value_read a e c rest d =
    rw (whole_level loosest a e (complete d) (mark (codes ";") c ∷ rest) (semicolon_ends loosest c rest)) refl

test_read : (a : List Lexeme) (e : Expression) (c z : Span) (rest : List Lexeme) → SpellsExpr a e
    → test_at (a ++ (mark (codes ")") c ∷ mark (codes ";") z ∷ rest)) ≡ Some ((e, z), rest)
test_read a e c z rest d =
    rw (whole_level loosest a e (complete d) (mark (codes ")") c ∷ mark (codes ";") z ∷ rest)
    (close_ends loosest c (mark (codes ";") z ∷ rest))) refl

constants_read : {k : Bool} {a : List Lexeme} → Constants k a → (word : List ℕ) (p : Span) (rest : List Lexeme)
    → constants_at (a ++ (lex (Name word) p ∷ rest)) ≡ (k, lex (Name word) p ∷ rest)
constants_read not_constant = λ word p rest. refl
constants_read (constant s {a = a} d) =
    λ word p rest. ap (λ (x : Bool × List Lexeme). (true, x.1)) (constants_read d word p rest)

defined_read : (k : Bool) (s : Span) (ty : Ty) (p q c : Span) (b : List Lexeme) (e : Expression) (rest : List Lexeme)
    → SpellsExpr b e
    → comma_step s ty k p (mark (codes "=") q ∷ (b ++ (mark (codes ";") c ∷ rest))) None
    ≡ Some (define_of s ty k p e c, rest)
defined_read true s ty p q c b e rest d = rw (value_read b e c rest d) refl
defined_read false s ty p q c b e rest d = rw (value_read b e c rest d) refl

pub simple_read : {a : List Lexeme} {s : Statement} → SpellsSimple a s → (rest : List Lexeme)
    → simple_at (a ++ rest) ≡ Some (s, rest)
unfolding simple_at
simple_read (define {ty = ty} {s = s} is_constant word p q c {a = a} {b = b} {e = e} k d) = λ rest.
    let g : (a ++ (lex (Name word) p ∷ mark (codes "=") q ∷ (b ++ (mark (codes ";") c ∷ [])))) ++ rest ≡ a ++
    (lex (Name word) p ∷ mark (codes "=") q ∷ (b ++ (mark (codes ";") c ∷ rest))) =
    append_assoc a (lex (Name word) p ∷ mark (codes "=") q ∷ (b ++ (mark (codes ";") c ∷ []))) rest
    ∙ ap (λ (z : List Lexeme). a ++ (lex (Name word) p ∷ mark (codes "=") q ∷ z))
    (append_assoc b (mark (codes ";") c ∷ []) rest) in
    rw (g, constants_read k word p (mark (codes "=") q ∷ (b ++ (mark (codes ";") c ∷ rest))))
    (defined_read is_constant s ty p q c b e rest d)
simple_read (pair p m p' q c {a = a} {e = e} d) =
    λ rest. rw (append_assoc a (mark (codes ";") c ∷ []) rest, value_read a e c rest d) refl
simple_read (assign p q c {a = a} {e = e} d) =
    λ rest. rw (append_assoc a (mark (codes ";") c ∷ []) rest, value_read a e c rest d) refl
simple_read (time r o x d w g c z {a = a} {e = e} h) =
    λ rest. rw (append_assoc a (mark (codes ")") c ∷ mark (codes ";") z ∷ []) rest, test_read a e c z rest h) refl
simple_read (age r o x d w g c z {a = a} {e = e} h) =
    λ rest. rw (append_assoc a (mark (codes ")") c ∷ mark (codes ";") z ∷ []) rest, test_read a e c z rest h) refl
simple_read (required r o c z {a = a} {e = e} h) = λ rest.
    let us : List Lexeme = mark (codes ")") c ∷ mark (codes ";") z ∷ rest in
    let clock = no_clock h us in
    rw (append_assoc a (mark (codes ")") c ∷ mark (codes ";") z ∷ []) rest)
    (ap (time_step r (a ++ us)) clock.no_time ∙ ap (age_step r (a ++ us)) clock.no_age ∙
    rw (test_read a e c z rest h) refl)

-- ---- what is not in front

not_if : {a : List Lexeme} {s : Statement} → SpellsSimple a s → (rest : List Lexeme)
    → eaten (codes "if") (a ++ rest) ≡ None
not_if (define is_constant word p q c k d) = λ rest. refl
not_if (pair p m p' q c d) = λ rest. refl
not_if (assign p q c d) = λ rest. refl
not_if (time r o x d w g c z h) = λ rest. refl
not_if (age r o x d w g c z h) = λ rest. refl
not_if (required r o c z h) = λ rest. refl

single_of : (a rest : List Lexeme) → starts is_opening a ≡ true
    → statement_reading block (a ++ rest) ≡ block_step statement_reading (a ++ rest) None
single_of a rest h =
    statement_unrolled block (a ++ rest) ∙ ap (block_step statement_reading (a ++ rest))
    (absent is_opening (codes "{") a rest h refl)

run_of : (a rest : List Lexeme) → starts is_opening a ≡ true
    → statement_reading run (a ++ rest) ≡ run_step statement_reading (a ++ rest) None
run_of a rest h =
    statement_unrolled run (a ++ rest) ∙ ap (run_step statement_reading (a ++ rest))
    (absent is_opening (codes "}") a rest h refl)

-- no else follows the statements before a closing brace
run_no_else : {a : List Lexeme} {ss : List Statement} → SpellsRun a ss → (c : Span) (rest : List Lexeme)
    → eaten (codes "else") (a ++ (mark (codes "}") c ∷ rest)) ≡ None
run_no_else no_statement = λ c rest. refl
run_no_else (one_statement {a = a} {b = b} d ds) = λ c rest.
    rw (append_assoc a b (mark (codes "}") c ∷ rest))
    (absent is_opening (codes "else") a (b ++ (mark (codes "}") c ∷ rest)) (opens d) refl)

-- ---- what is read

-- what may follow
abbrev Follows : Bool → List Lexeme → Type 0
Follows true rest = Unit {0}
Follows false rest = eaten (codes "else") rest ≡ None

abbrev pub ReadsStmt : Bool → List Lexeme → Statement → Type 0
ReadsStmt shut a s = (rest : List Lexeme) → Follows shut rest → statement_reading statement (a ++ rest) ≡ Some (s, rest)

abbrev pub ReadsBlock : Bool → List Lexeme → Body → Type 0
ReadsBlock shut a body =
    (rest : List Lexeme) → Follows shut rest → statement_reading block (a ++ rest) ≡ Some (body, rest)

abbrev pub ReadsRun : List Lexeme → List Statement → Type 0
ReadsRun a ss =
    (c : Span) (rest : List Lexeme) → statement_reading run (a ++ (mark (codes "}") c ∷ rest)) ≡ Some ((ss, c), rest)

mutual
  pub complete_stmt : {shut : Bool} {a : List Lexeme} {s : Statement} → SpellsStmt shut a s → ReadsStmt shut a s
  complete_stmt (simple {a = a} d) =
      λ rest follows. statement_unrolled statement (a ++ rest) ∙ ap (statement_step statement_reading (a ++ rest))
      (not_if d rest) ∙ simple_read d rest
  complete_stmt (if_only i o c {a = a} {b = b} {e = e} {body = body} d inner) = λ rest follows.
      let g : (a ++ (mark (codes ")") c ∷ b)) ++ rest ≡ a ++ (mark (codes ")") c ∷ (b ++ rest)) = append_assoc a
      (mark (codes ")") c ∷ b) rest in
      statement_unrolled statement (mark (codes "if") i ∷ mark (codes "(") o ∷
      ((a ++ (mark (codes ")") c ∷ b)) ++ rest))
      ∙ rw (
        g,
        whole_level loosest a e (complete d) (mark (codes ")") c ∷ (b ++ rest))
            (close_ends loosest c (b ++ rest)),
        complete_block inner rest follows,
        follows,
      ) refl
  complete_stmt (if_else i o c l {a = a} {b = b} {d = b'} {e = e} {body = body} {other = other} d inner outer) =
      λ rest follows.
      let h : (b ++ (mark (codes "else") l ∷ b')) ++ rest ≡ b ++ (mark (codes "else") l ∷ (b' ++ rest)) = append_assoc
      b (mark (codes "else") l ∷ b') rest in
      let g : (a ++ (mark (codes ")") c ∷ (b ++ (mark (codes "else") l ∷ b')))) ++ rest ≡ a ++
      (mark (codes ")") c ∷ (b ++ (mark (codes "else") l ∷ (b' ++ rest)))) =
      append_assoc a (mark (codes ")") c ∷ (b ++ (mark (codes "else") l ∷ b'))) rest ∙
      ap (λ (z : List Lexeme). a ++ (mark (codes ")") c ∷ z)) h in
      statement_unrolled statement (mark (codes "if") i ∷ mark (codes "(") o ∷
      ((a ++ (mark (codes ")") c ∷ (b ++ (mark (codes "else") l ∷ b')))) ++ rest))
      ∙ rw (
        g,
        whole_level loosest a e (complete d)
            (mark (codes ")") c ∷ (b ++ (mark (codes "else") l ∷ (b' ++ rest))))
            (close_ends loosest c (b ++ (mark (codes "else") l ∷ (b' ++ rest)))),
        complete_block inner
            (mark (codes "else") l ∷ (b' ++ rest)) tt,
        complete_block outer rest follows,
      ) refl

  pub complete_block : {shut : Bool} {a : List Lexeme} {body : Body} → SpellsBlock shut a body → ReadsBlock shut a body
  complete_block (single {a = a} d) =
      λ rest follows. single_of a rest (opens d) ∙ rw (complete_stmt d rest follows) refl
  complete_block (braces o c {a = a} d) = λ rest follows.
      let g : (a ++ (mark (codes "}") c ∷ [])) ++ rest ≡ a ++ (mark (codes "}") c ∷ rest) = append_assoc a
      (mark (codes "}") c ∷ []) rest in
      statement_unrolled block (mark (codes "{") o ∷ ((a ++ (mark (codes "}") c ∷ [])) ++ rest)) ∙
      rw (g, complete_run d c rest) refl

  pub complete_run : {a : List Lexeme} {ss : List Statement} → SpellsRun a ss → ReadsRun a ss
  complete_run no_statement = λ c rest. statement_unrolled run (mark (codes "}") c ∷ rest)
  complete_run (one_statement {a = a} {b = b} d ds) = λ c rest.
      let us : List Lexeme = b ++ (mark (codes "}") c ∷ rest) in
      rw (append_assoc a b (mark (codes "}") c ∷ rest))
      (run_of a us (opens d) ∙ rw (complete_stmt d us (run_no_else ds c rest), complete_run ds c rest) refl)
