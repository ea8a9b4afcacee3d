-- What is spelled as a contract is read; all of the lexemes are read, so a list spells at most one tree.
use Rattle.std.proofs.Common.{◌≡◌, ℕ, ◌==◌, Bool, true, false, List, [], ◌∷◌, ◌++◌, length, Option, Some, None, ◌⊎◌, inl, inr, refl, sym, ap, subst, ◌∙◌, append_assoc, codes}
use Rattle.std.proofs.lemmas.Bool.{eqb-true, false≢true}
use Rattle.std.proofs.lemmas.List.{append-nil, nil_from_length}
use Rattle.cash_base.specs.declared.place.Span.{Span}
use Rattle.cash_tree.specs.declared.Param.{Param}
use Rattle.cash_tree.specs.declared.Constraint.{Constraint}
use Rattle.cash_parser.specs.Answer.{IsNone}
use Rattle.cash_symbols.specs.Words.{is_text, is_constraint_sign}
use Rattle.cash_symbols.specs.Lexemes.{Lexeme, Type_, Name}
use Rattle.cash_symbols.specs.Front.{lex, mark, eaten}
use Rattle.cash_parser.specs.Files.{Tree, FunctionTree, SpellsParams, no_param, last_param, next_param, SpellsFunctions, no_function, one_function, SpellsConstraint, bare_version, signed_version, SpellsFile, contract, one_constraint, two_constraints}
use Rattle.cash_parser.specs.FileReading.{params, functions, file, constraint_at, pragma_at, file_reading, tree_of}
use Rattle.cash_symbols.proofs.Steps.{bind_some, some_is, chosen, text_is}
use Rattle.cash_statements.proofs.StatementComplete.{complete_run}
use Rattle.cash_parser.proofs.FileSound.{file_unrolled, file_sound_of}

complete_params : {a : List Lexeme} {ps : List (Param Span)} → SpellsParams a ps → (c : Span) (rest : List Lexeme)
    → file_reading params (a ++ (mark (codes ")") c ∷ rest)) ≡ Some ((ps, c), rest)
complete_params no_param = λ c rest. file_unrolled params (mark (codes ")") c ∷ rest)
complete_params (last_param {ty = ty} {s = s} {word = word} p) =
    λ c rest. file_unrolled params (lex (Type_ ty) s ∷ lex (Name word) p ∷ mark (codes ")") c ∷ rest)
complete_params (next_param {ty = ty} {s = s} {word = word} p m {a = a} d) = λ c rest.
    file_unrolled params (lex (Type_ ty) s ∷ lex (Name word) p ∷ mark (codes ",") m ∷
    (a ++ (mark (codes ")") c ∷ rest))) ∙ rw (complete_params d c rest) refl

complete_functions : {a : List Lexeme} {fs : List FunctionTree} → SpellsFunctions a fs
    → (c : Span) (rest : List Lexeme) → file_reading functions (a ++ (mark (codes "}") c ∷ rest)) ≡ Some ((fs, c), rest)
complete_functions no_function = λ c rest. file_unrolled functions (mark (codes "}") c ∷ rest)
complete_functions (one_function {word = word} f n o c b z {a = a} {d = d} {more = more} ps ss fs) = λ end rest.
    let last : List Lexeme = mark (codes "}") end ∷ rest in
    let g : (a ++ (mark (codes ")") c ∷ mark (codes "{") b ∷ (d ++ (mark (codes "}") z ∷ more)))) ++ last ≡ a ++
    (mark (codes ")") c ∷ mark (codes "{") b ∷ (d ++ (mark (codes "}") z ∷ (more ++ last)))) =
    append_assoc a (mark (codes ")") c ∷ mark (codes "{") b ∷ (d ++ (mark (codes "}") z ∷ more))) last
    ∙ ap (λ (y : List Lexeme). a ++ (mark (codes ")") c ∷ mark (codes "{") b ∷ y))
    (append_assoc d (mark (codes "}") z ∷ more) last) in
    file_unrolled functions (mark (codes "function") f ∷ lex (Name word) n ∷ mark (codes "(") o ∷
    ((a ++ (mark (codes ")") c ∷ mark (codes "{") b ∷ (d ++ (mark (codes "}") z ∷ more)))) ++ last))
    ∙ rw (
      g,
      complete_params ps c (mark (codes "{") b ∷ (d ++ (mark (codes "}") z ∷ (more ++ last)))),
      complete_run ss
          z (more ++ last),
      complete_functions fs end rest,
    ) refl

-- ---- pragmas

sign_not : (text other : List ℕ) (b : Bool) → is_text text other ≡ b → is_constraint_sign other ≡ false
    → is_constraint_sign text ≡ true → b ≡ false
sign_not text other true e here there =
    absurd (false≢true (sym here ∙ ap is_constraint_sign (sym (text_is text other e)) ∙ there))
sign_not text other false e here there = refl

-- a constraint, and the first of its lexemes isn't `;`
record ConstraintRead (a : List Lexeme) (k : Constraint) (rest : List Lexeme) : Type 0 where
  read : constraint_at (a ++ rest) ≡ Some (k, rest)
  no_end : eaten (codes ";") (a ++ rest) ≡ None

complete_constraint : {a : List Lexeme} {k : Constraint} → SpellsConstraint a k → (rest : List Lexeme)
    → ConstraintRead a k rest
unfolding is_constraint_sign
complete_constraint (bare_version v) = λ rest. record { read = refl; no_end = refl }
complete_constraint (signed_version text s v q) = λ rest.
    let other : is_text text (codes ";") ≡ false = sign_not text (codes ";") (is_text text (codes ";")) refl refl q in
    record { read = rw q refl; no_end = rw other refl }

one_read : {a : List Lexeme} {k : Constraint} → SpellsConstraint a k → (w z : Span) (rest : List Lexeme)
    → pragma_at (mark (codes "cashscript") w ∷ (a ++ (mark (codes ";") z ∷ rest))) ≡ Some (k ∷ [], rest)
unfolding pragma_at
one_read {k = k} d w z rest = let h = complete_constraint d (mark (codes ";") z ∷ rest) in rw h.read refl

two_read : {a b : List Lexeme} {k l : Constraint} → SpellsConstraint a k → SpellsConstraint b l
    → (w z : Span) (rest : List Lexeme)
    → pragma_at (mark (codes "cashscript") w ∷ (a ++ (b ++ (mark (codes ";") z ∷ rest)))) ≡ Some (k ∷ l ∷ [], rest)
unfolding pragma_at
two_read {b = b} {k = k} {l = l} d d' w z rest =
    let us : List Lexeme = mark (codes ";") z ∷ rest in
    let h = complete_constraint d (b ++ us) in
    let h' = complete_constraint d' us in
    rw (h.read, h'.no_end, h'.read) refl

complete_file : {a : List Lexeme} {tree : Tree} → SpellsFile a tree → (rest : List Lexeme)
    → file_reading file (a ++ rest) ≡ Some (tree, rest)
complete_file (contract {word = word} k n o c b z {a = a} {d = d} ps fs) = λ rest.
    let g : (a ++ (mark (codes ")") c ∷ mark (codes "{") b ∷ (d ++ (mark (codes "}") z ∷ [])))) ++ rest ≡ a ++
    (mark (codes ")") c ∷ mark (codes "{") b ∷ (d ++ (mark (codes "}") z ∷ rest))) =
    append_assoc a (mark (codes ")") c ∷ mark (codes "{") b ∷ (d ++ (mark (codes "}") z ∷ []))) rest
    ∙ ap (λ (y : List Lexeme). a ++ (mark (codes ")") c ∷ mark (codes "{") b ∷ y))
    (append_assoc d (mark (codes "}") z ∷ []) rest) in
    file_unrolled file (mark (codes "contract") k ∷ lex (Name word) n ∷ mark (codes "(") o ∷
    ((a ++ (mark (codes ")") c ∷ mark (codes "{") b ∷ (d ++ (mark (codes "}") z ∷ [])))) ++ rest))
    ∙ rw (
      g,
      complete_params ps c (mark (codes "{") b ∷ (d ++ (mark (codes "}") z ∷ rest))),
      complete_functions fs z
          rest,
    ) refl
complete_file (one_constraint p w z {a = a} {more = more} d t) = λ rest.
    let g : (a ++ (mark (codes ";") z ∷ more)) ++ rest ≡ a ++ (mark (codes ";") z ∷ (more ++ rest)) = append_assoc a
    (mark (codes ";") z ∷ more) rest in
    file_unrolled file (mark (codes "pragma") p ∷ mark (codes "cashscript") w ∷
    ((a ++ (mark (codes ";") z ∷ more)) ++ rest))
    ∙ rw (g, one_read d w z (more ++ rest), complete_file t rest) refl
complete_file (two_constraints p w z {a = a} {b = b} {more = more} d d' t) = λ rest.
    let g : (a ++ (b ++ (mark (codes ";") z ∷ more))) ++ rest ≡ a ++ (b ++ (mark (codes ";") z ∷ (more ++ rest))) =
    append_assoc a (b ++ (mark (codes ";") z ∷ more)) rest ∙ ap (λ (y : List Lexeme). a ++ y)
    (append_assoc b (mark (codes ";") z ∷ more) rest) in
    file_unrolled file (mark (codes "pragma") p ∷ mark (codes "cashscript") w ∷
    ((a ++ (b ++ (mark (codes ";") z ∷ more))) ++ rest))
    ∙ rw (g, two_read d d' w z (more ++ rest), complete_file t rest) refl

-- ---- all of the lexemes

pub tree_found : (ts : List Lexeme) (tree : Tree) → tree_of ts ≡ Some tree → SpellsFile ts tree
unfolding tree_of
tree_found ts tree q =
    let r = bind_some _ _ tree q in
    let h = file_sound_of file ts r.0 r.1 in
    let end = chosen (length r.0.1 == 0) r.0.0 tree r.2 in
    let rest : r.0.1 ≡ [] = nil_from_length r.0.1 (eqb-true (length r.0.1) 0 end.0) in
    let tokens-are : h.0 ≡ ts = sym (append-nil h.0) ∙ ap (λ (z : List Lexeme). h.0 ++ z) (sym rest) ∙ sym h.1.parts in
    subst (λ (y : Tree). SpellsFile ts y) end.1 (subst (λ (z : List Lexeme). SpellsFile z r.0.0) tokens-are h.2)

tree_again : (ts : List Lexeme) (tree : Tree) → SpellsFile ts tree → tree_of ts ≡ Some tree
unfolding tree_of
tree_again ts tree d =
    let read : file_reading file ts ≡ Some (tree, []) = subst
    (λ (z : List Lexeme). file_reading file z ≡ Some (tree, [])) (append-nil ts) (complete_file d []) in
    rw read refl

pub tree_none : (ts : List Lexeme) → tree_of ts ≡ None → (tree : Tree) → SpellsFile ts tree → ⊥
tree_none ts q tree d = let again = tree_again ts tree d in absurd cc

pub one_tree_is : (ts : List Lexeme) (a b : Tree) → SpellsFile ts a → SpellsFile ts b → a ≡ b
one_tree_is ts a b d d' = some_is (sym (tree_again ts a d) ∙ tree_again ts b d')

by_reading : (ts : List Lexeme) (read : Option Tree) → tree_of ts ≡ read → ((tree : Tree) × SpellsFile ts tree) ⊎ IsNone ts
by_reading ts (Some tree) is = inl (tree, tree_found ts tree is)
by_reading ts None is = inr (tree_none ts is)

pub tree_or_none : (ts : List Lexeme) → ((tree : Tree) × SpellsFile ts tree) ⊎ IsNone ts
tree_or_none ts = by_reading ts (tree_of ts) refl
