-- What is read as a contract is spelled so; reading is one step of reading.
use Rattle.std.proofs.Common.{◌≡◌, ℕ, ◌<◌, true, List, [], ◌∷◌, ◌++◌, length, Option, Some, None, refl, ap, subst, ◌∙◌, append_assoc, arith, length-append, codes}
use Rattle.cash_base.specs.declared.place.Span.{Span}
use Rattle.cash_tree.specs.declared.Ty.{Ty}
use Rattle.cash_tree.specs.declared.Param.{Param}
use Rattle.cash_tree.specs.declared.Constraint.{Constraint}
use Rattle.cash_symbols.specs.Words.{is_constraint_sign}
use Rattle.cash_symbols.specs.Lexemes.{Lexeme, Symbol, Mark, Type_, Name, Version}
use Rattle.cash_symbols.specs.Fixpoint.{◌>>=◌}
use Rattle.cash_symbols.specs.Front.{lex, mark, name_of, mark_value, eaten, taken}
use Rattle.cash_statements.specs.Statements.{param_of}
use Rattle.cash_statements.specs.StatementReading.{run}
use Rattle.cash_parser.specs.Files.{Tree, FunctionTree, contract_of, with_pragma, SpellsParams, no_param, last_param, next_param, SpellsFunctions, no_function, one_function, SpellsConstraint, bare_version, signed_version, SpellsFile, contract, one_constraint, two_constraints}
use Rattle.cash_parser.specs.FileReading.{Goal, params, functions, file, Value, Reader, version_value, sign_value, constraint_step, second_step, pragma_at, param_at, last_step, comma_step, params_step, head_at, function_at, functions_step, contract_at, file_step, step, weight, file_reading}
use Rattle.cash_symbols.proofs.Fixpoint.{Gives-good, Agree-below, fixed_good, fixed_unrolled}
use Rattle.cash_symbols.proofs.Steps.{then_same, bind_some, some_is, chosen, Takes, one, joint, eats, eaten_is, eaten_shorter, taken_is, taken_shorter, takes_name, takes_type}
use Rattle.cash_statements.proofs.StatementSound.{statement_sound_of}

-- ---- constraints

version_is : (symbol : Symbol) (u : Unit {0}) → version_value symbol ≡ Some u → symbol ≡ Version
version_is Version u e = refl
version_is symbol u e = absurd cc

takes_version : (ts : List Lexeme) (x : (Unit {0} × Span) × List Lexeme) → taken version_value ts ≡ Some x
    → Takes ts (lex Version x.0.1 ∷ []) x.1
takes_version ts x e =
    let h = taken_is version_value ts x e in
    record { parts = h.parts ∙ ap (λ (s : Symbol). lex s x.0.1 ∷ x.1) (version_is h.symbol x.0.0 h.is) }

-- a sign of a constraint that was taken
pub record Signed (ts : List Lexeme) (x : (List ℕ × Span) × List Lexeme) : Type 0 where
  text : List ℕ
  takes : Takes ts (mark text x.0.1 ∷ []) x.1
  is : is_constraint_sign text ≡ true

sign_is : (symbol : Symbol) (u : List ℕ) → mark_value sign_value symbol ≡ Some u
    → (text : List ℕ) × (symbol ≡ Mark text) × (is_constraint_sign text ≡ true)
sign_is (Mark text) u e = (text, refl, (chosen (is_constraint_sign text) text u e).0)
sign_is symbol u e = absurd cc

takes_sign : (ts : List Lexeme) (x : (List ℕ × Span) × List Lexeme) → taken (mark_value sign_value) ts ≡ Some x
    → Signed ts x
takes_sign ts x e =
    let h = taken_is (mark_value sign_value) ts x e in
    let w = sign_is h.symbol x.0.0 h.is in
    record { text = w.0; takes = record { parts = h.parts ∙ ap (λ (s : Symbol). lex s x.0.1 ∷ x.1) w.1 }; is = w.2 }

pub record Constrained (ts : List Lexeme) (x : Constraint × List Lexeme) : Type 0 where
  a : List Lexeme
  takes : Takes ts a x.1
  spelled : SpellsConstraint a x.0

constraint_found : (ts : List Lexeme) (o : Option ((List ℕ × Span) × List Lexeme)) (x : Constraint × List Lexeme)
    → taken (mark_value sign_value) ts ≡ o → constraint_step ts o ≡ Some x → Constrained ts x
constraint_found ts (Some s) x at q =
    let v = bind_some _ _ x q in
    let h = takes_sign ts s at in
    subst (λ (z : Constraint × List Lexeme). Constrained ts z) (some_is v.2)
    (record {
      a = mark h.text s.0.1 ∷ lex Version v.0.0.1 ∷ [];
      takes = joint h.takes (takes_version s.1 v.0 v.1);
      spelled = signed_version h.text s.0.1 v.0.0.1 h.is;
    })
constraint_found ts None x at q =
    let v = bind_some _ _ x q in
    subst (λ (z : Constraint × List Lexeme). Constrained ts z) (some_is v.2)
    (record { a = lex Version v.0.0.1 ∷ []; takes = takes_version ts v.0 v.1; spelled = bare_version v.0.0.1 })

-- a pragma after its word: in front of what spells a contract it makes one
pub record Pragma (ts : List Lexeme) (x : List Constraint × List Lexeme) : Type 0 where
  a : List Lexeme
  takes : Takes ts a x.1
  some : 0 < length a
  spelled : (p : Span) (more : List Lexeme) (tree : Tree) → SpellsFile more tree
      → SpellsFile (mark (codes "pragma") p ∷ (a ++ more)) (with_pragma x.0 tree)

second_found : (w : Span) (ts a us : List Lexeme) (first : Constraint) (o : Option (Span × List Lexeme))
    (x : List Constraint × List Lexeme)
    → Takes ts (mark (codes "cashscript") w ∷ a) us → SpellsConstraint a first → eaten (codes ";") us ≡ o
    → second_step first us o ≡ Some x → Pragma ts x
second_found w ts a us first (Some z) x front d at q =
    subst (λ (y : List Constraint × List Lexeme). Pragma ts y) (some_is q)
    (record {
      a = mark (codes "cashscript") w ∷ (a ++ mark (codes ";") z.0 ∷ []);
      takes = joint front (eats at);
      some = omega arith;
      spelled = λ p more tree h. rw (append_assoc a (mark (codes ";") z.0 ∷ []) more) (one_constraint p w z.0 d h);
    })
second_found w ts a us first None x front d at q =
    let s = bind_some _ _ x q in
    let z = bind_some _ _ x s.2 in
    let h = constraint_found us (taken (mark_value sign_value) us) s.0 refl s.1 in
    subst (λ (y : List Constraint × List Lexeme). Pragma ts y) (some_is z.2)
    (record {
      a = mark (codes "cashscript") w ∷ (a ++ (h.a ++ mark (codes ";") z.0.0 ∷ []));
      takes = joint front (joint h.takes (eats z.1));
      some = omega arith;
      spelled = λ p more tree k. rw (
        append_assoc a (h.a ++ mark (codes ";") z.0.0 ∷ []) more,
        append_assoc h.a
            (mark (codes ";") z.0.0 ∷ []) more,
      ) (two_constraints p w z.0.0 d h.spelled k);
    })

pragma_found : (ts : List Lexeme) (x : List Constraint × List Lexeme) → pragma_at ts ≡ Some x → Pragma ts x
unfolding pragma_at
pragma_found ts x q =
    let w = bind_some _ _ x q in
    let first = bind_some _ _ x w.2 in
    let h = constraint_found w.0.1 (taken (mark_value sign_value) w.0.1) first.0 refl first.1 in
    second_found w.0.0 ts h.a first.0.1 first.0.0 (eaten (codes ";") first.0.1) x (joint (eats w.1) h.takes) h.spelled
    refl first.2

pragma_shorter : (ts : List Lexeme) (x : List Constraint × List Lexeme) → pragma_at ts ≡ Some x → length x.1 < length ts
pragma_shorter ts x q =
    let h = pragma_found ts x q in
    let some : 0 < length h.a = h.some in
    let split : length ts ≡ length (h.a ++ x.1) = ap length h.takes.parts in
    omega (arith, length-append h.a x.1)

-- ---- what is read is spelled

abbrev pub Sound : (g : Goal) → List Lexeme → Value g × List Lexeme → Type 0
Sound params ts x = (a : List Lexeme) × Takes ts a (mark (codes ")") x.0.1 ∷ x.1) × SpellsParams a x.0.0
Sound functions ts x = (a : List Lexeme) × Takes ts a (mark (codes "}") x.0.1 ∷ x.1) × SpellsFunctions a x.0.0
Sound file ts x = (a : List Lexeme) × Takes ts a x.1 × SpellsFile a x.0

found : (g : Goal) (ts : List Lexeme) {x y : Value g × List Lexeme} → Some y ≡ Some x → Sound g ts y → Sound g ts x
found g ts q h = subst (λ z. Sound g ts z) (some_is q) h

-- a parameter that was read
pub record ParamFound (ts : List Lexeme) (x : Param Span × List Lexeme) : Type 0 where
  ty : Ty
  s : Span
  word : List ℕ
  p : Span
  takes : Takes ts (lex (Type_ ty) s ∷ lex (Name word) p ∷ []) x.1
  is : param_of ty p ≡ x.0

param_found : (ts : List Lexeme) (x : Param Span × List Lexeme) → param_at ts ≡ Some x → ParamFound ts x
param_found ts x q =
    let ty = bind_some _ _ x q in
    let n = bind_some _ _ x ty.2 in
    subst (λ (z : Param Span × List Lexeme). ParamFound ts z) (some_is n.2)
    (record {
      ty = ty.0.0.0;
      s = ty.0.0.1;
      word = n.0.0.0;
      p = n.0.0.1;
      takes = joint (takes_type ts ty.0 ty.1) (takes_name ty.0.1 n.0 n.1);
      is = refl;
    })

last_sound : (ts us : List Lexeme) (h : Param Span) (k : ParamFound ts (h, us)) (o : Option (Span × List Lexeme))
    (x : (List (Param Span) × Span) × List Lexeme)
    → eaten (codes ")") us ≡ o → last_step h o ≡ Some x → Sound params ts x
last_sound ts us h k (Some c) x at q =
    found params ts (ap (λ (z : Param Span). Some ((z ∷ [], c.0), c.1)) k.is ∙ q) (
      _,
      record {
        parts = k.takes.parts ∙ ap (λ (z : List Lexeme). lex (Type_ k.ty) k.s ∷ lex (Name k.word) k.p ∷ z)
            (eaten_is (codes ")") us c at);
      },
      last_param k.p,
    )
last_sound ts us h k None x at q = absurd cc

-- a name and parameters that were read
pub record Headed (ts : List Lexeme) (x : (Span × List (Param Span)) × List Lexeme) : Type 0 where
  word : List ℕ
  o : Span
  c : Span
  a : List Lexeme
  takes : Takes ts (lex (Name word) x.0.0 ∷ mark (codes "(") o ∷ (a ++ mark (codes ")") c ∷ [])) x.1
  spelled : SpellsParams a x.0.1

-- a function that was read: in front of what spells functions it makes one more
pub record FunctionFound (ts : List Lexeme) (x : FunctionTree × List Lexeme) : Type 0 where
  a : List Lexeme
  takes : Takes ts a x.1
  some : 0 < length a
  spelled : (more : List Lexeme) (fs : List FunctionTree) → SpellsFunctions more fs
      → SpellsFunctions (a ++ more) (x.0 ∷ fs)

module _ (read : Reader) (good : Gives-good Goal Value Sound read) where
  comma_sound : (ts us : List Lexeme) (p : Param Span) (k : ParamFound ts (p, us)) (o : Option (Span × List Lexeme))
      (x : (List (Param Span) × Span) × List Lexeme)
      → eaten (codes ",") us ≡ o → comma_step read p us o ≡ Some x → Sound params ts x
  comma_sound ts us p k (Some m) x at q =
      let r = bind_some _ _ x q in
      let h = good params m.1 r.0 r.1 in
      found params ts (ap (λ (z : Param Span). Some ((z ∷ r.0.0.0, r.0.0.1), r.0.1)) k.is ∙ r.2)
      (_, joint k.takes (joint (eats at) h.1), next_param k.p m.0 h.2)
  comma_sound ts us p k None x at q = last_sound ts us p k (eaten (codes ")") us) x refl q

  params_sound : (ts : List Lexeme) (o : Option (Span × List Lexeme)) (x : (List (Param Span) × Span) × List Lexeme)
      → eaten (codes ")") ts ≡ o → params_step read ts o ≡ Some x → Sound params ts x
  params_sound ts (Some c) x at q = found params ts q ([], record { parts = eaten_is (codes ")") ts c at }, no_param)
  params_sound ts None x at q =
      let p = bind_some _ _ x q in
      comma_sound ts p.0.1 p.0.0 (param_found ts p.0 p.1) (eaten (codes ",") p.0.1) x refl p.2

  pub head_found : (ts : List Lexeme) (x : (Span × List (Param Span)) × List Lexeme) → head_at read ts ≡ Some x
      → Headed ts x
  head_found ts x q =
      let n = bind_some _ _ x q in
      let o = bind_some _ _ x n.2 in
      let ps = bind_some _ _ x o.2 in
      let h = good params o.0.1 ps.0 ps.1 in
      subst (λ (z : (Span × List (Param Span)) × List Lexeme). Headed ts z) (some_is ps.2)
      (record {
        word = n.0.0.0;
        o = o.0.0;
        c = ps.0.0.1;
        a = h.0;
        takes = joint (takes_name ts n.0 n.1) (joint (eats o.1) (joint h.1 (one (mark (codes ")") ps.0.0.1) ps.0.1)));
        spelled = h.2;
      })

  -- a function that was read: in front of what spells functions it makes one more
  pub function_found : (ts : List Lexeme) (x : FunctionTree × List Lexeme) → function_at read ts ≡ Some x
      → FunctionFound ts x
  function_found ts x q =
      let f = bind_some _ _ x q in
      let h = bind_some _ _ x f.2 in
      let b = bind_some _ _ x h.2 in
      let ss = bind_some _ _ x b.2 in
      let head = head_found f.0.1 h.0 h.1 in
      let body = statement_sound_of run b.0.1 ss.0 ss.1 in
      let close : List Lexeme = mark (codes ")") head.c ∷ [] in
      let end : List Lexeme = mark (codes "}") ss.0.0.1 ∷ [] in
      let inner : List Lexeme = mark (codes "{") b.0.0 ∷ (body.0 ++ end) in
      subst (λ (z : FunctionTree × List Lexeme). FunctionFound ts z) (some_is ss.2)
      (record {
        a = mark (codes "function") f.0.0 ∷ lex (Name head.word) h.0.0.0 ∷ mark (codes "(") head.o ∷
            ((head.a ++ close) ++ inner);
        takes = joint (eats f.1) (joint head.takes
            (joint (eats b.1) (joint body.1 (one (mark (codes "}") ss.0.0.1) ss.0.1))));
        some = omega arith;
        spelled = λ more fs k. rw (
          append_assoc (head.a ++ close) inner more,
          append_assoc head.a close
              (mark (codes "{") b.0.0 ∷ ((body.0 ++ end) ++ more)),
          append_assoc body.0 end more,
        )
            (one_function f.0.0 h.0.0.0 head.o head.c b.0.0 ss.0.0.1 head.spelled body.2 k);
      })

  functions_sound : (ts : List Lexeme) (o : Option (Span × List Lexeme))
      (x : (List FunctionTree × Span) × List Lexeme) → eaten (codes "}") ts ≡ o → functions_step read ts o ≡ Some x
      → Sound functions ts x
  functions_sound ts (Some c) x at q =
      found functions ts q ([], record { parts = eaten_is (codes "}") ts c at }, no_function)
  functions_sound ts None x at q =
      let f = bind_some _ _ x q in
      let r = bind_some _ _ x f.2 in
      let h = function_found ts f.0 f.1 in
      let k = good functions f.0.1 r.0 r.1 in
      found functions ts r.2 (_, joint h.takes k.1, h.spelled k.0 r.0.0.0 k.2)

  contract_sound : (ts : List Lexeme) (x : Tree × List Lexeme) → contract_at read ts ≡ Some x → Sound file ts x
  contract_sound ts x q =
      let k = bind_some _ _ x q in
      let h = bind_some _ _ x k.2 in
      let b = bind_some _ _ x h.2 in
      let fs = bind_some _ _ x b.2 in
      let head = head_found k.0.1 h.0 h.1 in
      let d = good functions b.0.1 fs.0 fs.1 in
      let inner : List Lexeme = mark (codes "{") b.0.0 ∷ (d.0 ++ mark (codes "}") fs.0.0.1 ∷ []) in
      let front : List Lexeme = mark (codes "contract") k.0.0 ∷ lex (Name head.word) h.0.0.0 ∷
      mark (codes "(") head.o ∷ [] in
      let split : Takes ts (front ++ ((head.a ++ mark (codes ")") head.c ∷ []) ++ inner)) fs.0.1 = joint (eats k.1)
      (joint head.takes (joint (eats b.1) (joint d.1 (one (mark (codes "}") fs.0.0.1) fs.0.1)))) in
      let regroup : (head.a ++ mark (codes ")") head.c ∷ []) ++ inner ≡ head.a ++
      (mark (codes ")") head.c ∷ inner) = append_assoc head.a (mark (codes ")") head.c ∷ []) inner in
      let whole : Takes ts (front ++ (head.a ++ (mark (codes ")") head.c ∷ inner))) fs.0.1 = subst
      (λ (z : List Lexeme). Takes ts (front ++ z) fs.0.1) regroup split in
      found file ts fs.2 (_, whole, contract k.0.0 h.0.0.0 head.o head.c b.0.0 fs.0.0.1 head.spelled d.2)

  file_sound : (ts : List Lexeme) (o : Option (Span × List Lexeme)) (x : Tree × List Lexeme)
      → eaten (codes "pragma") ts ≡ o → file_step read ts o ≡ Some x → Sound file ts x
  file_sound ts (Some p) x at q =
      let c = bind_some _ _ x q in
      let t = bind_some _ _ x c.2 in
      let h = pragma_found p.1 c.0 c.1 in
      let d = good file c.0.1 t.0 t.1 in
      found file ts t.2 (_, joint (eats at) (joint h.takes d.1), h.spelled p.0 d.0 t.0.0 d.2)
  file_sound ts None x at q = contract_sound ts x q

  step_sound : Gives-good Goal Value Sound (step read)
  step_sound params ts x q = params_sound ts (eaten (codes ")") ts) x refl q
  step_sound functions ts x q = functions_sound ts (eaten (codes "}") ts) x refl q
  step_sound file ts x q = file_sound ts (eaten (codes "pragma") ts) x refl q

-- ---- reading is one step of reading

module _ (f h : Reader) (good : Gives-good Goal Value Sound f) where
  abbrev Agrees : ℕ → Type 0
  Agrees = Agree-below Goal Value weight f h

  param_shorter : (ts : List Lexeme) (x : Param Span × List Lexeme) → param_at ts ≡ Some x → length x.1 < length ts
  param_shorter ts x q = let k = param_found ts x q in let split = ap length k.takes.parts in omega arith

  head_shorter : (ts : List Lexeme) (x : (Span × List (Param Span)) × List Lexeme) → head_at f ts ≡ Some x
      → length x.1 < length ts
  head_shorter ts x q =
      let k = head_found f good ts x q in
      let split : length ts ≡ length ((lex (Name k.word) x.0.0 ∷ mark (codes "(") k.o ∷
      (k.a ++ mark (codes ")") k.c ∷ [])) ++ x.1) = ap length k.takes.parts in
      omega (arith, length-append (k.a ++ mark (codes ")") k.c ∷ []) x.1)

  function_shorter : (ts : List Lexeme) (x : FunctionTree × List Lexeme) → function_at f ts ≡ Some x
      → length x.1 < length ts
  function_shorter ts x q =
      let k = function_found f good ts x q in
      let some : 0 < length k.a = k.some in
      let split : length ts ≡ length (k.a ++ x.1) = ap length k.takes.parts in
      omega (arith, length-append k.a x.1)

  comma_same : (ts us : List Lexeme) (p : Param Span) (o : Option (Span × List Lexeme)) → length us < length ts
      → eaten (codes ",") us ≡ o → Agrees (length ts) → comma_step f p us o ≡ comma_step h p us o
  comma_same ts us p (Some m) lt at same =
      let len = eaten_shorter (codes ",") us m at in ap
      (λ z. z >>= λ others. Some ((p ∷ others.0.0, others.0.1), others.1)) (same params m.1 (omega arith))
  comma_same ts us p None lt at same = refl

  params_same : (ts : List Lexeme) (o : Option (Span × List Lexeme)) → Agrees (length ts)
      → params_step f ts o ≡ params_step h ts o
  params_same ts (Some c) same = refl
  params_same ts None same =
      then_same _ _ _ _ refl (λ p at_p. comma_same ts p.1 p.0 (eaten (codes ",") p.1) (param_shorter ts p at_p) refl
      same)

  head_same : (ts us : List Lexeme) → length us < length ts → Agrees (length ts) → head_at f us ≡ head_at h us
  head_same ts us lt same =
      then_same _ _ _ _ refl (λ n at_n.
      let ln = taken_shorter name_of us n at_n in
      then_same _ _ _ _ refl (λ o at_o.
      let lo = eaten_shorter (codes "(") n.1 o at_o in
      ap (λ z. z >>= λ ps. Some ((n.0.1, ps.0.0), ps.1)) (same params o.1 (omega arith))))

  function_same : (ts : List Lexeme) → Agrees (length ts) → function_at f ts ≡ function_at h ts
  function_same ts same =
      then_same _ _ _ _ refl (λ w at_w.
      let lw = eaten_shorter (codes "function") ts w at_w in
      then_same _ _ _ _ (head_same ts w.1 (omega arith) same) (λ k at_k. refl))

  functions_same : (ts : List Lexeme) (o : Option (Span × List Lexeme)) → Agrees (length ts)
      → functions_step f ts o ≡ functions_step h ts o
  functions_same ts (Some c) same = refl
  functions_same ts None same =
      then_same _ _ _ _ (function_same ts same) (λ k at_k.
      let lk = function_shorter ts k at_k in
      ap (λ z. z >>= λ others. Some ((k.0 ∷ others.0.0, others.0.1), others.1)) (same functions k.1 (omega arith)))

  contract_same : (ts : List Lexeme) → Agrees (length ts) → contract_at f ts ≡ contract_at h ts
  contract_same ts same =
      then_same _ _ _ _ refl (λ w at_w.
      let lw = eaten_shorter (codes "contract") ts w at_w in
      then_same _ _ _ _ (head_same ts w.1 (omega arith) same) (λ k at_k.
      let lk = head_shorter w.1 k at_k in
      then_same _ _ _ _ refl (λ b at_b.
      let lb = eaten_shorter (codes "{") k.1 b at_b in
      ap (λ z. z >>= λ fs. Some (contract_of w.0 k.0.0 k.0.1 fs.0.0 fs.0.1, fs.1)) (same functions b.1 (omega arith)))))

  file_same : (ts : List Lexeme) (o : Option (Span × List Lexeme)) → eaten (codes "pragma") ts ≡ o
      → Agrees (length ts) → file_step f ts o ≡ file_step h ts o
  file_same ts (Some p) at same =
      let lp = eaten_shorter (codes "pragma") ts p at in
      then_same _ _ _ _ refl (λ c at_c.
      let lc = pragma_shorter p.1 c at_c in
      ap (λ z. z >>= λ tree. Some (with_pragma c.0 tree.0, tree.1)) (same file c.1 (omega arith)))
  file_same ts None at same = contract_same ts same

  step_same : (g : Goal) (ts : List Lexeme) → Agrees (weight g ts) → step f g ts ≡ step h g ts
  step_same params ts same = params_same ts (eaten (codes ")") ts) same
  step_same functions ts same = functions_same ts (eaten (codes "}") ts) same
  step_same file ts same = file_same ts (eaten (codes "pragma") ts) refl same

pub file_unrolled : (g : Goal) (ts : List Lexeme) → file_reading g ts ≡ step file_reading g ts
unfolding file_reading
file_unrolled = fixed_unrolled Goal Value step weight Sound step_sound step_same

pub file_sound_of : (g : Goal) (ts : List Lexeme) (x : Value g × List Lexeme) → file_reading g ts ≡ Some x
    → Sound g ts x
unfolding file_reading
file_sound_of = fixed_good Goal Value step weight Sound step_sound step_same

pub function_shorter_of : (ts : List Lexeme) (x : FunctionTree × List Lexeme) → function_at file_reading ts ≡ Some x
    → length x.1 < length ts
function_shorter_of = function_shorter file_reading file_reading file_sound_of

pub pragma_shorter_of : (ts : List Lexeme) (x : List Constraint × List Lexeme) → pragma_at ts ≡ Some x
    → length x.1 < length ts
pragma_shorter_of = pragma_shorter

pub param_shorter_of : (ts : List Lexeme) (x : Param Span × List Lexeme) → param_at ts ≡ Some x → length x.1 < length ts
param_shorter_of = param_shorter file_reading file_reading file_sound_of
