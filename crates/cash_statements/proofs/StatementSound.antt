-- What is read as statements is spelled so; reading is one step of reading.
use Rattle.std.proofs.Common.{◌≡◌, ℕ, ◌*◌, ◌<◌, Bool, true, false, cond, List, [], ◌∷◌, ◌++◌, length, Option, Some, None, refl, sym, ap, subst, append_assoc, arith, length-append, codes}
use Rattle.std.specs.Prelude.{◌||◌}
use Rattle.std.proofs.lemmas.Bool.{false≢true}
use Rattle.cash_base.specs.declared.place.Span.{Span}
use Rattle.cash_tree.specs.declared.Ty.{Ty}
use Rattle.cash_symbols.specs.Words.{is_text, loosest}
use Rattle.cash_symbols.specs.Lexemes.{Lexeme, Symbol, Mark, Type_, Name}
use Rattle.cash_symbols.specs.Fixpoint.{◌>>=◌}
use Rattle.cash_expressions.specs.Grammar.{Expression, SpellsExpr, level}
use Rattle.cash_symbols.specs.Front.{lex, mark, across, is_mark, eaten, taken, type_value, this_text}
use Rattle.cash_expressions.specs.Reading.{whole_part}
use Rattle.cash_statements.specs.Statements.{Statement, Body, if_of, if_else_of, Constants, not_constant, constant, SpellsSimple, define, pair, assign, time, age, required, SpellsStmt, simple, if_only, if_else, SpellsBlock, single, braces, SpellsRun, no_statement, one_statement}
use Rattle.cash_statements.specs.StatementReading.{Goal, statement, block, run, Value, Reader, constants_at, value_at, test_at, clock_at, age_step, time_step, comma_step, typed_step, require_step, simple_at, else_step, statement_step, block_step, run_step, step, weight, statement_reading}
use Rattle.cash_symbols.proofs.Fixpoint.{Gives-good, Agree-below, fixed_good, fixed_unrolled}
use Rattle.cash_symbols.proofs.Steps.{then_same, bind_some, some_is, Takes, nothing, one, joint, eats, eaten_is, eaten_shorter, mark_is, named, takes_name, takes_type, this_text_is, starts}
use Rattle.cash_expressions.proofs.Unrolled.{sound, reading_shorter}

-- ---- what begins a statement

abbrev pub is_opening : Symbol → Bool
is_opening (Mark text) = is_text text (codes "require") || is_text text (codes "if")
is_opening (Type_ ty) = true
is_opening (Name text) = true
is_opening symbol = false

pub opens_simple : {a : List Lexeme} {s : Statement} → SpellsSimple a s → starts is_opening a ≡ true
opens_simple (define is_constant word p q c k d) = refl
opens_simple (pair p m p' q c d) = refl
opens_simple (assign p q c d) = refl
opens_simple (time r o x d w g c z h) = refl
opens_simple (age r o x d w g c z h) = refl
opens_simple (required r o c z h) = refl

pub opens : {shut : Bool} {a : List Lexeme} {s : Statement} → SpellsStmt shut a s → starts is_opening a ≡ true
opens (simple d) = opens_simple d
opens (if_only i o c d b) = refl
opens (if_else i o c l d b other) = refl

opens_some : (a : List Lexeme) → starts is_opening a ≡ true → 0 < length a
opens_some [] h = absurd (false≢true h)
opens_some (t ∷ a) h = omega arith

-- ---- statements without an `if`

-- what was read is spelled by the lexemes in front
abbrev pub Simple : List Lexeme → Statement × List Lexeme → Type 0
Simple ts x = (a : List Lexeme) × Takes ts a x.1 × SpellsSimple a x.0

simply : (ts : List Lexeme) {x y : Statement × List Lexeme} → Some y ≡ Some x → Simple ts y → Simple ts x
simply ts q h = subst (λ (z : Statement × List Lexeme). Simple ts z) (some_is q) h

-- an expression and `;`
record Valued (ts : List Lexeme) (x : (Expression × Span) × List Lexeme) : Type 0 where
  a : List Lexeme
  takes : Takes ts (a ++ mark (codes ";") x.0.1 ∷ []) x.1
  spelled : SpellsExpr a x.0.0

value_found : (ts : List Lexeme) (x : (Expression × Span) × List Lexeme) → value_at ts ≡ Some x → Valued ts x
value_found ts x q =
    let e = bind_some _ _ x q in
    let c = bind_some _ _ x e.2 in
    let h = sound whole_part ts e.0 e.1 in
    subst (λ (z : (Expression × Span) × List Lexeme). Valued ts z) (some_is c.2)
    (record { a = h.0; takes = joint h.1 (eats c.1); spelled = h.2 })

-- an expression, `)` and `;`
record Tested (ts : List Lexeme) (x : (Expression × Span) × List Lexeme) : Type 0 where
  a : List Lexeme
  c : Span
  takes : Takes ts (a ++ mark (codes ")") c ∷ mark (codes ";") x.0.1 ∷ []) x.1
  spelled : SpellsExpr a x.0.0

test_found : (ts : List Lexeme) (x : (Expression × Span) × List Lexeme) → test_at ts ≡ Some x → Tested ts x
test_found ts x q =
    let e = bind_some _ _ x q in
    let c = bind_some _ _ x e.2 in
    let z = bind_some _ _ x c.2 in
    let h = sound whole_part ts e.0 e.1 in
    subst (λ (y : (Expression × Span) × List Lexeme). Tested ts y) (some_is z.2)
    (record { a = h.0; c = c.0.0; takes = joint h.1 (joint (eats c.1) (eats z.1)); spelled = h.2 })

-- a word, a dot and a name
record Clock (word field : List ℕ) (ts : List Lexeme) (x : Unit {0} × List Lexeme) : Type 0 where
  s : Span
  d : Span
  w : Span
  takes : Takes ts (mark word s ∷ mark (codes ".") d ∷ lex (Name field) w ∷ []) x.1

clock_found : (word field : List ℕ) (ts : List Lexeme) (x : Unit {0} × List Lexeme)
    → clock_at word field ts ≡ Some x → Clock word field ts x
clock_found word field ts x q =
    let s = bind_some _ _ x q in
    let d = bind_some _ _ x s.2 in
    let w = bind_some _ _ x d.2 in
    let n = named (this_text field) d.0.1 w.0 w.1 in
    let field-is : n.text ≡ field = this_text_is field n.text w.0.0.0 n.is in
    let at-field : Takes d.0.1 (lex (Name field) w.0.0.1 ∷ []) w.0.1 = subst
    (λ (z : List ℕ). Takes d.0.1 (lex (Name z) w.0.0.1 ∷ []) w.0.1) field-is n.takes in
    subst (λ (y : Unit {0} × List Lexeme). Clock word field ts y) (some_is w.2)
    (record { s = s.0.0; d = d.0.0; w = w.0.0.1; takes = joint (eats s.1) (joint (eats d.1) at-field) })

-- the words `constant` in front
record Constant (ts : List Lexeme) (x : Bool × List Lexeme) : Type 0 where
  a : List Lexeme
  takes : Takes ts a x.1
  spelled : Constants x.0 a

constant_more : (t : Lexeme) (rest : List Lexeme) (b : Bool) → is_mark (codes "constant") t.symbol ≡ b
    → Constant rest (constants_at rest) → Constant (t ∷ rest) (constants_at (t ∷ rest))
constant_more t rest true e h =
    rw e (let symbol-is = mark_is (codes "constant") t.symbol e in
    record {
      a = t ∷ h.a;
      takes = joint (one t rest) h.takes;
      spelled = subst (λ (s : Symbol). Constants true (lex s t.span ∷ h.a)) (sym symbol-is) (constant t.span h.spelled);
    })
constant_more t rest false e h = rw e (record { a = []; takes = nothing (t ∷ rest); spelled = not_constant })

constants_found : (ts : List Lexeme) → Constant ts (constants_at ts)
constants_found [] = record { a = []; takes = nothing []; spelled = not_constant }
constants_found (t ∷ rest) = constant_more t rest (is_mark (codes "constant") t.symbol) refl (constants_found rest)

none_constant : {k : Bool} {a : List Lexeme} → Constants k a → k ≡ false → a ≡ []
none_constant not_constant e = refl
none_constant (constant s d) e = absurd (false≢true (sym e))

age_sound : (r o : Span) (ts us : List Lexeme) (b : Option (Unit {0} × List Lexeme)) (x : Statement × List Lexeme)
    → Takes ts (mark (codes "require") r ∷ mark (codes "(") o ∷ []) us
    → clock_at (codes "this") (codes "age") us ≡ b → age_step r us b ≡ Some x → Simple ts x
age_sound r o ts us (Some b) x front at q =
    let g = bind_some _ _ x q in
    let e = bind_some _ _ x g.2 in
    let k = clock_found (codes "this") (codes "age") us b at in
    let h = test_found g.0.1 e.0 e.1 in
    simply ts e.2 (
      _,
      joint front (joint k.takes (joint (eats g.1) h.takes)),
      age r o k.s k.d k.w g.0.0 h.c e.0.0.1
          h.spelled,
    )
age_sound r o ts us None x front at q =
    let e = bind_some _ _ x q in
    let h = test_found us e.0 e.1 in
    simply ts e.2 (_, joint front h.takes, required r o h.c e.0.0.1 h.spelled)

time_sound : (r o : Span) (ts us : List Lexeme) (b : Option (Unit {0} × List Lexeme)) (x : Statement × List Lexeme)
    → Takes ts (mark (codes "require") r ∷ mark (codes "(") o ∷ []) us → clock_at (codes "tx") (codes "time") us ≡ b
    → time_step r us b ≡ Some x → Simple ts x
time_sound r o ts us (Some b) x front at q =
    let g = bind_some _ _ x q in
    let e = bind_some _ _ x g.2 in
    let k = clock_found (codes "tx") (codes "time") us b at in
    let h = test_found g.0.1 e.0 e.1 in
    simply ts e.2 (
      _,
      joint front (joint k.takes (joint (eats g.1) h.takes)),
      time r o k.s k.d k.w g.0.0 h.c e.0.0.1
          h.spelled,
    )
time_sound r o ts us None x front at q = age_sound r o ts us (clock_at (codes "this") (codes "age") us) x front refl q

comma_sound : (s : Span) (ty : Ty) (k : Bool) (p : Span) (word : List ℕ) (ts a us : List Lexeme)
    (m : Option (Span × List Lexeme)) (x : Statement × List Lexeme)
    → Constants k a → Takes ts (lex (Type_ ty) s ∷ (a ++ lex (Name word) p ∷ [])) us → eaten (codes ",") us ≡ m
    → comma_step s ty k p us m ≡ Some x → Simple ts x
comma_sound s ty true p word ts a us (Some m) x constants front at q = absurd cc
comma_sound s ty false p word ts a us (Some m) x constants front at q =
    let ty' = bind_some _ _ x q in
    let n = bind_some _ _ x ty'.2 in
    let g = bind_some _ _ x n.2 in
    let e = bind_some _ _ x g.2 in
    let h = value_found g.0.1 e.0 e.1 in
    simply ts e.2 (
      _,
      joint (subst (λ (z : List Lexeme). Takes ts (lex (Type_ ty) s ∷ (z ++ lex (Name word) p ∷ [])) us)
          (none_constant constants refl) front)
          (joint (eats at) (joint (takes_type m.1 ty'.0 ty'.1)
          (joint (takes_name ty'.0.1 n.0 n.1) (joint (eats g.1) h.takes)))),
      pair p m.0 n.0.0.1 g.0.0 e.0.0.1 h.spelled,
    )
comma_sound s ty k p word ts a us None x constants front at q =
    let g = bind_some _ _ x q in
    let e = bind_some _ _ x g.2 in
    let h = value_found g.0.1 e.0 e.1 in
    let last : List Lexeme = mark (codes "=") g.0.0 ∷ (h.a ++ mark (codes ";") e.0.0.1 ∷ []) in
    let split : Takes ts (lex (Type_ ty) s ∷ ((a ++ lex (Name word) p ∷ []) ++ last)) e.0.1 = joint front
    (joint (eats g.1) h.takes) in
    let regroup : (a ++ lex (Name word) p ∷ []) ++ last ≡ a ++ (lex (Name word) p ∷ last) = append_assoc a
    (lex (Name word) p ∷ []) last in
    let whole : Takes ts (lex (Type_ ty) s ∷ (a ++ (lex (Name word) p ∷ last))) e.0.1 = subst
    (λ (z : List Lexeme). Takes ts (lex (Type_ ty) s ∷ z) e.0.1) regroup split in
    simply ts e.2 (_, whole, define k word p g.0.0 e.0.0.1 constants h.spelled)

typed_sound : (ts : List Lexeme) (o : Option ((Ty × Span) × List Lexeme)) (x : Statement × List Lexeme)
    → taken type_value ts ≡ o → typed_step ts o ≡ Some x → Simple ts x
typed_sound ts (Some ty) x at q =
    let k = constants_found ty.1 in
    let n = bind_some _ _ x q in
    comma_sound ty.0.1 ty.0.0 (constants_at ty.1).0 n.0.0.1 n.0.0.0 ts k.a n.0.1 (eaten (codes ",") n.0.1) x k.spelled
    (joint (takes_type ts ty at) (joint k.takes (takes_name (constants_at ty.1).1 n.0 n.1))) refl n.2
typed_sound ts None x at q =
    let n = bind_some _ _ x q in
    let g = bind_some _ _ x n.2 in
    let e = bind_some _ _ x g.2 in
    let h = value_found g.0.1 e.0 e.1 in
    simply ts e.2 (_, joint (takes_name ts n.0 n.1) (joint (eats g.1) h.takes), assign n.0.0.1 g.0.0 e.0.0.1 h.spelled)

require_sound : (ts : List Lexeme) (o : Option (Span × List Lexeme)) (x : Statement × List Lexeme)
    → eaten (codes "require") ts ≡ o → require_step ts o ≡ Some x → Simple ts x
require_sound ts (Some r) x at q =
    let o = bind_some _ _ x q in
    time_sound r.0 o.0.0 ts o.0.1 (clock_at (codes "tx") (codes "time") o.0.1) x (joint (eats at) (eats o.1)) refl o.2
require_sound ts None x at q = typed_sound ts (taken type_value ts) x refl q

pub simple_sound : (ts : List Lexeme) (x : Statement × List Lexeme) → simple_at ts ≡ Some x → Simple ts x
unfolding simple_at
simple_sound ts x q = require_sound ts (eaten (codes "require") ts) x refl q

-- ---- an else may follow what is shut; what is shut may also stand where none follows

mutual
  pub weaker : {shut : Bool} {a : List Lexeme} {s : Statement} → SpellsStmt shut a s → SpellsStmt false a s
  weaker (simple d) = simple d
  weaker (if_only i o c d b) = if_only i o c d b
  weaker (if_else i o c l d b other) = if_else i o c l d b (weaker_block other)

  weaker_block : {shut : Bool} {a : List Lexeme} {body : Body} → SpellsBlock shut a body → SpellsBlock false a body
  weaker_block (single d) = single (weaker d)
  weaker_block (braces o c d) = braces o c d

abbrev is_followed : Option (Span × List Lexeme) → Bool
is_followed None = false
is_followed (Some l) = true

-- whether an else follows
abbrev pub else_follows : List Lexeme → Bool
else_follows ts = is_followed (eaten (codes "else") ts)

-- ---- what is read is spelled

abbrev pub Sound : (g : Goal) → List Lexeme → Value g × List Lexeme → Type 0
Sound statement ts x = (a : List Lexeme) × Takes ts a x.1 × SpellsStmt (else_follows x.1) a x.0
Sound block ts x = (a : List Lexeme) × Takes ts a x.1 × SpellsBlock (else_follows x.1) a x.0
Sound run ts x = (a : List Lexeme) × Takes ts a (mark (codes "}") x.0.1 ∷ x.1) × SpellsRun a x.0.0

-- the value that a step gave
found : (g : Goal) (ts : List Lexeme) {x y : Value g × List Lexeme} → Some y ≡ Some x → Sound g ts y → Sound g ts x
found g ts q h = subst (λ z. Sound g ts z) (some_is q) h

module _ (read : Reader) (good : Gives-good Goal Value Sound read) where
  -- after the test of an if
  else_sound : (i o c : Span) (e : Expression) (ts a us b rest : List Lexeme) (body : Body)
      (l : Option (Span × List Lexeme)) (x : Statement × List Lexeme)
      → Takes ts (mark (codes "if") i ∷ mark (codes "(") o ∷ (a ++ mark (codes ")") c ∷ [])) us → Takes us b rest
      → SpellsExpr a e → SpellsBlock (else_follows rest) b body
      → eaten (codes "else") rest ≡ l → else_step read i e body rest l ≡ Some x → Sound statement ts x
  else_sound i o c e ts a us b rest body (Some l) x front split d inner at q =
      let r = bind_some _ _ x q in
      let h = good block l.1 r.0 r.1 in
      let shut : SpellsBlock true b body = subst (λ (z : Bool). SpellsBlock z b body) (ap is_followed at) inner in
      let regroup = append_assoc a (mark (codes ")") c ∷ []) (b ++ (mark (codes "else") l.0 ∷ h.0)) in
      found statement ts r.2 (
        _,
        rw regroup at (joint front (joint split (joint (eats at) h.1))),
        if_else i o c l.0 d
            shut h.2,
      )
  else_sound i o c e ts a us b rest body None x front split d inner at q =
      let open_end : SpellsBlock false b body = subst (λ (z : Bool). SpellsBlock z b body) (ap is_followed at) inner in
      let regroup = append_assoc a (mark (codes ")") c ∷ []) b in
      found statement ts q (
        _,
        rw regroup at (joint front split),
        subst (λ (z : Bool). SpellsStmt z (mark (codes "if") i ∷ mark (codes "(") o ∷ (a ++ (mark (codes ")") c ∷ b)))
            (if_of i e body)) (sym (ap is_followed at)) (if_only i o c d open_end),
      )

  statement_sound : (ts : List Lexeme) (o : Option (Span × List Lexeme)) (x : Statement × List Lexeme)
      → eaten (codes "if") ts ≡ o → statement_step read ts o ≡ Some x → Sound statement ts x
  statement_sound ts (Some i) x at q =
      let o = bind_some _ _ x q in
      let e = bind_some _ _ x o.2 in
      let c = bind_some _ _ x e.2 in
      let body = bind_some _ _ x c.2 in
      let d = sound whole_part o.0.1 e.0 e.1 in
      let h = good block c.0.1 body.0 body.1 in
      else_sound i.0 o.0.0 c.0.0 e.0.0 ts d.0 c.0.1 h.0 body.0.1 body.0.0 (eaten (codes "else") body.0.1) x
      (joint (eats at) (joint (eats o.1) (joint d.1 (eats c.1)))) h.1 d.2 h.2 refl body.2
  statement_sound ts None x at q = let h = simple_sound ts x q in (h.0, h.1, simple h.2)

  block_sound : (ts : List Lexeme) (o : Option (Span × List Lexeme)) (x : Body × List Lexeme)
      → eaten (codes "{") ts ≡ o → block_step read ts o ≡ Some x → Sound block ts x
  block_sound ts (Some o) x at q =
      let r = bind_some _ _ x q in
      let h = good run o.1 r.0 r.1 in
      found block ts r.2 (_, joint (eats at) (joint h.1 (one (mark (codes "}") r.0.0.1) r.0.1)), braces o.0 r.0.0.1 h.2)
  block_sound ts None x at q =
      let r = bind_some _ _ x q in
      let h = good statement ts r.0 r.1 in
      found block ts r.2 (h.0, h.1, single h.2)

  run_sound : (ts : List Lexeme) (o : Option (Span × List Lexeme)) (x : (List Statement × Span) × List Lexeme)
      → eaten (codes "}") ts ≡ o → run_step read ts o ≡ Some x → Sound run ts x
  run_sound ts (Some c) x at q = found run ts q ([], record { parts = eaten_is (codes "}") ts c at }, no_statement)
  run_sound ts None x at q =
      let r = bind_some _ _ x q in
      let m = bind_some _ _ x r.2 in
      let h = good statement ts r.0 r.1 in
      let k = good run r.0.1 m.0 m.1 in
      found run ts m.2 (_, joint h.1 k.1, one_statement (weaker h.2) k.2)

  step_sound : Gives-good Goal Value Sound (step read)
  step_sound statement ts x q = statement_sound ts (eaten (codes "if") ts) x refl q
  step_sound block ts x q = block_sound ts (eaten (codes "{") ts) x refl q
  step_sound run ts x q = run_sound ts (eaten (codes "}") ts) x refl q

-- ---- reading is one step of reading

shorter_of : (f : Reader) → Gives-good Goal Value Sound f → (ts : List Lexeme) (x : Statement × List Lexeme)
    → f statement ts ≡ Some x → length x.1 < length ts
shorter_of f good ts x e =
    let h = good statement ts x e in
    let some : 0 < length h.0 = opens_some h.0 (opens h.2) in
    let split : length ts ≡ length (h.0 ++ x.1) = ap length h.1.parts in
    omega (arith, length-append h.0 x.1)

opens_block : {shut : Bool} {a : List Lexeme} {body : Body} → SpellsBlock shut a body → 0 < length a
opens_block (single {a = a} d) = opens_some a (opens d)
opens_block (braces o c {a = a} d) = omega arith

block_shorter_of : (f : Reader) → Gives-good Goal Value Sound f → (ts : List Lexeme) (x : Body × List Lexeme)
    → f block ts ≡ Some x → length x.1 < length ts
block_shorter_of f good ts x e =
    let h = good block ts x e in
    let some : 0 < length h.0 = opens_block h.2 in
    let split : length ts ≡ length (h.0 ++ x.1) = ap length h.1.parts in
    omega (arith, length-append h.0 x.1)

module _ (f h : Reader) (good : Gives-good Goal Value Sound f) where
  abbrev Agrees : ℕ → Type 0
  Agrees = Agree-below Goal Value weight f h

  else_same : (w : ℕ) (i : Span) (e : Expression) (body : Body) (ts : List Lexeme) (l : Option (Span × List Lexeme))
      → eaten (codes "else") ts ≡ l → 2 * length ts < w → Agrees w
      → else_step f i e body ts l ≡ else_step h i e body ts l
  else_same w i e body ts (Some l) at lt same =
      let len = eaten_shorter (codes "else") ts l at in ap
      (λ z. z >>= λ other. Some (if_else_of i e body other.0, other.1)) (same block l.1 (omega arith))
  else_same w i e body ts None at lt same = refl

  statement_same : (ts : List Lexeme) (o : Option (Span × List Lexeme)) → eaten (codes "if") ts ≡ o
      → Agrees (weight statement ts) → statement_step f ts o ≡ statement_step h ts o
  statement_same ts (Some i) at same =
      let li = eaten_shorter (codes "if") ts i at in
      then_same _ _ _ _ refl (λ o at_o.
      let lo = eaten_shorter (codes "(") i.1 o at_o in
      then_same _ _ _ _ refl (λ e at_e.
      let le = reading_shorter (level loosest) o.1 e at_e in
      then_same _ _ _ _ refl (λ c at_c.
      let lc = eaten_shorter (codes ")") e.1 c at_c in
      then_same _ _ _ _ (same block c.1 (omega arith)) (λ body at_b.
      let lb = block_shorter_of f good c.1 body at_b in
      else_same (weight statement ts) i.0 e.0 body.0 body.1 (eaten (codes "else") body.1) refl (omega arith) same))))
  statement_same ts None at same = refl

  block_same : (ts : List Lexeme) (o : Option (Span × List Lexeme)) → eaten (codes "{") ts ≡ o
      → Agrees (weight block ts) → block_step f ts o ≡ block_step h ts o
  block_same ts (Some o) at same =
      let len = eaten_shorter (codes "{") ts o at in ap (λ z. z >>= λ r. Some ((r.0.0, across o.0 r.0.1), r.1))
      (same run o.1 (omega arith))
  block_same ts None at same = ap (λ z. z >>= λ s. Some ((s.0 ∷ [], s.0.span), s.1)) (same statement ts (omega arith))

  run_same : (ts : List Lexeme) (o : Option (Span × List Lexeme)) → Agrees (weight run ts)
      → run_step f ts o ≡ run_step h ts o
  run_same ts (Some c) same = refl
  run_same ts None same =
      then_same _ _ _ _ (same statement ts (omega arith)) (λ s at_s.
      let ls = shorter_of f good ts s at_s in
      ap (λ z. z >>= λ others. Some ((s.0 ∷ others.0.0, others.0.1), others.1)) (same run s.1 (omega arith)))

  step_same : (g : Goal) (ts : List Lexeme) → Agrees (weight g ts) → step f g ts ≡ step h g ts
  step_same statement ts same = statement_same ts (eaten (codes "if") ts) refl same
  step_same block ts same = block_same ts (eaten (codes "{") ts) refl same
  step_same run ts same = run_same ts (eaten (codes "}") ts) same

pub statement_unrolled : (g : Goal) (ts : List Lexeme) → statement_reading g ts ≡ step statement_reading g ts
unfolding statement_reading
statement_unrolled = fixed_unrolled Goal Value step weight Sound step_sound step_same

pub statement_sound_of : (g : Goal) (ts : List Lexeme) (x : Value g × List Lexeme) → statement_reading g ts ≡ Some x
    → Sound g ts x
unfolding statement_reading
statement_sound_of = fixed_good Goal Value step weight Sound step_sound step_same

pub statement_shorter : (ts : List Lexeme) (x : Statement × List Lexeme) → statement_reading statement ts ≡ Some x
    → length x.1 < length ts
statement_shorter = shorter_of statement_reading statement_sound_of

pub block_shorter : (ts : List Lexeme) (x : Body × List Lexeme) → statement_reading block ts ≡ Some x
    → length x.1 < length ts
block_shorter = block_shorter_of statement_reading statement_sound_of

-- the words `constant`, by what is in front
abbrev pub constants_case : List Lexeme → Option (Span × List Lexeme) → Bool × List Lexeme
constants_case ts None = (false, ts)
constants_case ts (Some c) = (true, (constants_at c.1).1)

case_of : (t : Lexeme) (rest : List Lexeme) (b : Bool)
    → cond b (true, (constants_at rest).1) (false, t ∷ rest) ≡ constants_case (t ∷ rest)
    (cond b (Some (t.span, rest)) None)
case_of t rest true = refl
case_of t rest false = refl

pub constants_of : (ts : List Lexeme) → constants_at ts ≡ constants_case ts (eaten (codes "constant") ts)
constants_of [] = refl
constants_of (t ∷ rest) = case_of t rest (is_mark (codes "constant") t.symbol)
