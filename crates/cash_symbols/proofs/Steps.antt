-- Steps of a reader that may give nothing, and the lexemes that they took.
use Rattle.std.proofs.Common.{◌≡◌, ℕ, suc, Bool, true, false, cond, List, [], ◌∷◌, ◌++◌, length, Option, Some, None, refl, sym, ap, subst, ◌∙◌, append_assoc}
use Rattle.std.proofs.lemmas.Bool.{false≢true}
use Rattle.std.proofs.lemmas.Slice.Eq.{bytes_eq-Decides}
use Rattle.cash_base.specs.declared.place.Span.{Span}
use Rattle.cash_tree.specs.declared.Ty.{Ty}
use Rattle.cash_symbols.specs.Lexemes.{Lexeme, Symbol, Mark, Type_, Name, Number}
use Rattle.cash_symbols.specs.Fixpoint.{◌>>=◌}
use Rattle.cash_symbols.specs.Front.{lex, mark, name_of, name_value, first, is_mark, eaten, with_place, taken, type_value, number_value, this_text}
use Rattle.cash_symbols.specs.Words.{is_text}

-- the same, where the first steps are the same and what follows is, at their result
pub then_same : {A B : Type 0} (r r' : Option A) (f f' : A → Option B) → r ≡ r' → ((x : A) → r ≡ Some x
    → f x ≡ f' x) → (r >>= f) ≡ (r' >>= f')
then_same None r' f f' e same = ap (λ z. z >>= f') e
then_same (Some x) r' f f' e same = same x refl ∙ ap (λ z. z >>= f') e

pub bind_some : {A B : Type 0} (r : Option A) (f : A → Option B) (y : B) → (r >>= f) ≡ Some y
    → (x : A) × (r ≡ Some x) × (f x ≡ Some y)
bind_some None f y e = absurd cc
bind_some (Some x) f y e = (x, refl, e)

pub some_is : {A : Type 0} {x y : A} → Some x ≡ Some y → x ≡ y
some_is e = cc

-- ts are the lexemes a, and then rest
pub record Takes (ts a rest : List Lexeme) : Type 0 where
  pub parts : ts ≡ a ++ rest

-- nothing, one lexeme, and what two neighbours take
pub nothing : (ts : List Lexeme) → Takes ts [] ts
nothing ts = record { parts = refl }

pub one : (t : Lexeme) (rest : List Lexeme) → Takes (t ∷ rest) (t ∷ []) rest
one t rest = record { parts = refl }

pub joint : {ts a us b rest : List Lexeme} → Takes ts a us → Takes us b rest → Takes ts (a ++ b) rest
joint {a = a} {b = b} {rest = rest} p q =
    record { parts = p.parts ∙ ap (λ (z : List Lexeme). a ++ z) q.parts ∙ sym (append_assoc a b rest) }

pub chosen : {A : Type 0} (b : Bool) (x y : A) → cond b (Some x) None ≡ Some y → (b ≡ true) × (x ≡ y)
chosen true x y e = (refl, some_is e)
chosen false x y e = absurd cc

-- ---- signs and reserved words

pub text_is : (a b : List ℕ) → is_text a b ≡ true → a ≡ b
text_is a b e = (bytes_eq-Decides a b).0 e

pub text_itself : (a : List ℕ) → is_text a a ≡ true
text_itself a = (bytes_eq-Decides a a).1 refl

pub mark_is : (text : List ℕ) (symbol : Symbol) → is_mark text symbol ≡ true → symbol ≡ Mark text
mark_is text (Mark other) e = ap Mark (text_is other text e)
mark_is text symbol e = absurd (false≢true e)

pub eaten_is : (text : List ℕ) (ts : List Lexeme) (x : Span × List Lexeme) → eaten text ts ≡ Some x
    → ts ≡ mark text x.0 ∷ x.1
eaten_is text [] x e = absurd cc
eaten_is text (t ∷ rest) x e =
    let h = chosen (is_mark text t.symbol) (t.span, rest) x e in
    ap (λ (s : Symbol). lex s t.span ∷ rest) (mark_is text t.symbol h.0) ∙
    ap (λ (y : Span × List Lexeme). mark text y.0 ∷ y.1) h.1

pub eats : {text : List ℕ} {ts : List Lexeme} {x : Span × List Lexeme} → eaten text ts ≡ Some x
    → Takes ts (mark text x.0 ∷ []) x.1
eats {text} {ts} {x} e = record { parts = eaten_is text ts x e }

pub eaten_shorter : (text : List ℕ) (ts : List Lexeme) (x : Span × List Lexeme) → eaten text ts ≡ Some x
    → length ts ≡ suc (length x.1)
eaten_shorter text ts x e = ap length (eaten_is text ts x e)

-- ---- what the lexeme in front stands for

-- the lexeme that was taken
pub record Taken {A : Type 0} (value : Symbol → Option A) (ts : List Lexeme) (x : (A × Span) × List Lexeme) : Type 0
  where
    pub symbol : Symbol
    pub parts : ts ≡ lex symbol x.0.1 ∷ x.1
    pub is : value symbol ≡ Some x.0.0

placed : {A : Type 0} (value : Symbol
    → Option A) (t : Lexeme) (rest : List Lexeme) (o : Option A) (x : (A × Span) × List Lexeme)
    → value t.symbol ≡ o → with_place o t.span rest ≡ Some x → Taken value (t ∷ rest) x
placed value t rest None x e q = absurd cc
placed {A = A} value t rest (Some v) x e q =
    subst (λ (y : (A × Span) × List Lexeme). Taken value (t ∷ rest) y) (some_is q)
    (record { symbol = t.symbol; parts = refl; is = e })

pub taken_is : {A : Type 0} (value : Symbol → Option A) (ts : List Lexeme) (x : (A × Span) × List Lexeme)
    → taken value ts ≡ Some x → Taken value ts x
taken_is value [] x e = absurd cc
taken_is value (t ∷ rest) x e = placed value t rest (value t.symbol) x refl e

pub taken_shorter : {A : Type 0} (value : Symbol → Option A) (ts : List Lexeme) (x : (A × Span) × List Lexeme)
    → taken value ts ≡ Some x → length ts ≡ suc (length x.1)
taken_shorter value ts x e = let h = taken_is value ts x e in ap length h.parts

pub first_is : (ts : List Lexeme) (x : Lexeme × List Lexeme) → first ts ≡ Some x → ts ≡ x.0 ∷ x.1
first_is [] x e = absurd cc
first_is (t ∷ rest) x e = ap (λ (y : Lexeme × List Lexeme). y.0 ∷ y.1) (some_is e)

-- ---- the symbol that has a value

pub name_is : (symbol : Symbol) (text : List ℕ) → name_of symbol ≡ Some text → symbol ≡ Name text
name_is (Name other) text e = ap Name (some_is e)
name_is symbol text e = absurd cc

pub type_is : (symbol : Symbol) (ty : Ty) → type_value symbol ≡ Some ty → symbol ≡ Type_ ty
type_is (Type_ other) ty e = ap Type_ (some_is e)
type_is symbol ty e = absurd cc

pub number_is : (symbol : Symbol) (n : ℕ) → number_value symbol ≡ Some n → symbol ≡ Number n
number_is (Number other) n e = ap Number (some_is e)
number_is symbol n e = absurd cc

-- a name whose text has the value
pub named_is : {A : Type 0} (f : List ℕ → Option A) (symbol : Symbol) (v : A) → name_value f symbol ≡ Some v
    → (text : List ℕ) × (symbol ≡ Name text) × (f text ≡ Some v)
named_is f (Name other) v e = (other, refl, e)
named_is f symbol v e = absurd cc

-- a name, and its value
value_placed : {A : Type 0} (f : List ℕ → Option A) (s : Span) (rest : List Lexeme) (o : Option (List ℕ))
    → with_place (o >>= f) s rest ≡ (with_place o s rest >>= λ w. with_place (f w.0.0) w.0.1 w.1)
value_placed f s rest None = refl
value_placed f s rest (Some text) = refl

pub taken_named : {A : Type 0} (f : List ℕ → Option A) (ts : List Lexeme)
    → taken (name_value f) ts ≡ (taken name_of ts >>= λ w. with_place (f w.0.0) w.0.1 w.1)
taken_named f [] = refl
taken_named f (t ∷ rest) = value_placed f t.span rest (name_of t.symbol)

-- a name that was taken
pub record Named {A : Type 0} (f : List ℕ → Option A) (ts : List Lexeme) (x : (A × Span) × List Lexeme) : Type 0 where
  pub text : List ℕ
  pub takes : Takes ts (lex (Name text) x.0.1 ∷ []) x.1
  pub is : f text ≡ Some x.0.0

pub named : {A : Type 0} (f : List ℕ → Option A) (ts : List Lexeme) (x : (A × Span) × List Lexeme)
    → taken (name_value f) ts ≡ Some x → Named f ts x
named f ts x e =
    let h = taken_is (name_value f) ts x e in
    let w = named_is f h.symbol x.0.0 h.is in
    record { text = w.0; takes = record { parts = h.parts ∙ ap (λ (s : Symbol). lex s x.0.1 ∷ x.1) w.1 }; is = w.2 }

pub takes_name : (ts : List Lexeme) (x : (List ℕ × Span) × List Lexeme) → taken name_of ts ≡ Some x
    → Takes ts (lex (Name x.0.0) x.0.1 ∷ []) x.1
takes_name ts x e =
    let h = taken_is name_of ts x e in
    record { parts = h.parts ∙ ap (λ (s : Symbol). lex s x.0.1 ∷ x.1) (name_is h.symbol x.0.0 h.is) }

pub takes_type : (ts : List Lexeme) (x : (Ty × Span) × List Lexeme) → taken type_value ts ≡ Some x
    → Takes ts (lex (Type_ x.0.0) x.0.1 ∷ []) x.1
takes_type ts x e =
    let h = taken_is type_value ts x e in
    record { parts = h.parts ∙ ap (λ (s : Symbol). lex s x.0.1 ∷ x.1) (type_is h.symbol x.0.0 h.is) }

pub takes_number : (ts : List Lexeme) (x : (ℕ × Span) × List Lexeme) → taken number_value ts ≡ Some x
    → Takes ts (lex (Number x.0.0) x.0.1 ∷ []) x.1
takes_number ts x e =
    let h = taken_is number_value ts x e in
    record { parts = h.parts ∙ ap (λ (s : Symbol). lex s x.0.1 ∷ x.1) (number_is h.symbol x.0.0 h.is) }

pub this_text_is : (text other : List ℕ) (u : Unit {0}) → this_text text other ≡ Some u → other ≡ text
this_text_is text other u e = text_is other text (chosen (is_text other text) tt u e).0

-- ---- what is not in front

abbrev pub starts : (Symbol → Bool) → List Lexeme → Bool
starts test [] = false
starts test (t ∷ ts) = test t.symbol

not_marked : (text : List ℕ) (symbol : Symbol) (b : Bool) → is_mark text symbol ≡ b → (symbol ≡ Mark text → ⊥)
    → b ≡ false
not_marked text symbol true e h = absurd (h (mark_is text symbol e))
not_marked text symbol false e h = refl

-- Where a sign doesn't pass the test that the first lexeme passes, it isn't the first.
pub absent : (test : Symbol → Bool) (text : List ℕ) (a rest : List Lexeme) → starts test a ≡ true
    → test (Mark text) ≡ false → eaten text (a ++ rest) ≡ None
absent test text [] rest h other = absurd (false≢true h)
absent test text (t ∷ a) rest h other =
    let differs : t.symbol ≡ Mark text → ⊥ = λ e. false≢true (sym other ∙ ap test (sym e) ∙ h) in
    ap (λ (b : Bool). cond b (Some (t.span, a ++ rest)) None)
    (not_marked text t.symbol (is_mark text t.symbol) refl differs)
