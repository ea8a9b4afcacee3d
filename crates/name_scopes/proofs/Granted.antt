-- A place is refused exactly where it is not as wanted, and the first of several is found.
use Rattle.std.proofs.Common.{◌≡◌, ◌∙◌, ap, sym, refl, ℕ, Bool, true, false, List, [], ◌∷◌, ◌++◌}
use Rattle.std.specs.Prelude.{Option, Some, None, Ok, Err}
use Rattle.cash_base.specs.declared.place.Span.{Span}
use Rattle.name_scopes.specs.declared.scope.Variable.{Variable}
use Rattle.name_scopes.specs.declared.fault.NameFault.{NameFault}
use Rattle.name_scopes.specs.Names.{look, has_room}
use Rattle.cash_base.specs.Source.{text_at}
use Rattle.name_scopes.specs.Pragmas.{constraint_text, admits}
use Rattle.name_scopes.specs.Wants.{Want, is_admitted, is_new, is_known, is_variable, is_callable, has_function, IsGranted, AreGranted, unless_admitted, unless_new, unless_known, unless_variable, if_constant, if_without, refusal, ◌or◌, first_refused, granted}
use Rattle.cash_base.specs.Failing.{◌>>=◌}
use Rattle.name_scopes.specs.Uses.{Answer, given}

-- ---- two lists of places

or_assoc : (x y z : Option NameFault) → (x or (y or z)) ≡ ((x or y) or z)
or_assoc None y z = refl
or_assoc (Some f) y z = refl

pub first_append : (source : List ℕ) (a b : List Want)
    → first_refused source (a ++ b) ≡ (first_refused source a or first_refused source b)
first_append source [] b = refl
first_append source (w ∷ a) b =
    ap (λ x. refusal source w or x) (first_append source a b)
    ∙ or_assoc (refusal source w) (first_refused source a) (first_refused source b)

-- ---- as wanted, and not refused

none_admitted : (span : Span) (b : Bool) → b ≡ true → unless_admitted span b ≡ None
none_admitted span b e = ap (unless_admitted span) e

none_new : (span : Span) (room : Bool) (o : Option Variable) → o ≡ None → room ≡ true → unless_new span room o ≡ None
none_new span room o e f = ap (unless_new span room) e ∙ ap (λ r. unless_new span r None) f

none_known : (span : Span) (o : Option Variable) (v : Variable) → o ≡ Some v → unless_known span o ≡ None
none_known span o v e = ap (unless_known span) e

none_variable : (span : Span) (o : Option Variable) (v : Variable) → o ≡ Some v → v.constant ≡ false
    → unless_variable span o ≡ None
none_variable span o v e f = ap (unless_variable span) e ∙ ap (if_constant span) f

pub not_refused : (source : List ℕ) (w : Want) → IsGranted source w → refusal source w ≡ None
not_refused source (is_admitted c) h = none_admitted c.span (admits (constraint_text source c)) h
not_refused source (is_new names span) h = none_new span (has_room names) (look (text_at source span) names) h.0 h.1
not_refused source (is_known names span) h = none_known span (look (text_at source span) names) h.0 h.1
not_refused source (is_variable names span) h = none_variable span (look (text_at source span) names) h.0 h.1 h.2
not_refused source (is_callable span) h = absurd h
not_refused source (has_function b span) h = ap (if_without span) h

or_none : (p q : Option NameFault) → p ≡ None → q ≡ None → (p or q) ≡ None
or_none p q e f = ap (λ x. x or q) e ∙ f

pub none_refused : (source : List ℕ) (ws : List Want) → AreGranted source ws → first_refused source ws ≡ None
none_refused source [] h = refl
none_refused source (w ∷ ws) h =
    or_none (refusal source w) (first_refused source ws) (not_refused source w h.0) (none_refused source ws h.1)

-- ---- not refused, and as wanted

admitted_from : (span : Span) (b : Bool) → unless_admitted span b ≡ None → b ≡ true
admitted_from span true e = refl
admitted_from span false e = let no : ⊥ = cc in absurd no

new_from : (span : Span) (room : Bool) (o : Option Variable) → unless_new span room o ≡ None → (o ≡ None) × (room ≡ true)
new_from span room (Some v) e = let no : ⊥ = cc in absurd no
new_from span true None e = (refl, refl)
new_from span false None e = let no : ⊥ = cc in absurd no

known_from : (span : Span) (o : Option Variable) → unless_known span o ≡ None → (v : Variable) × (o ≡ Some v)
known_from span (Some v) e = (v, refl)
known_from span None e = let no : ⊥ = cc in absurd no

free_from : (span : Span) (b : Bool) → if_constant span b ≡ None → b ≡ false
free_from span false e = refl
free_from span true e = let no : ⊥ = cc in absurd no

variable_from : (span : Span) (o : Option Variable) → unless_variable span o ≡ None
    → (v : Variable) × (o ≡ Some v) × (v.constant ≡ false)
variable_from span (Some v) e = (v, refl, free_from span v.constant e)
variable_from span None e = let no : ⊥ = cc in absurd no

without_from : (span : Span) (b : Bool) → if_without span b ≡ None → b ≡ false
without_from span false e = refl
without_from span true e = let no : ⊥ = cc in absurd no

pub is_granted : (source : List ℕ) (w : Want) → refusal source w ≡ None → IsGranted source w
is_granted source (is_admitted c) e = admitted_from c.span (admits (constraint_text source c)) e
is_granted source (is_new names span) e = new_from span (has_room names) (look (text_at source span) names) e
is_granted source (is_known names span) e = known_from span (look (text_at source span) names) e
is_granted source (is_variable names span) e = variable_from span (look (text_at source span) names) e
is_granted source (is_callable span) e = let no : ⊥ = cc in absurd no
is_granted source (has_function b span) e = without_from span b e

or_first : (p q : Option NameFault) → (p or q) ≡ None → (p ≡ None) × (q ≡ None)
or_first None q e = (refl, e)
or_first (Some f) q e = let no : ⊥ = cc in absurd no

pub are_granted : (source : List ℕ) (ws : List Want) → first_refused source ws ≡ None → AreGranted source ws
are_granted source [] e = tt
are_granted source (w ∷ ws) e =
    let r = or_first (refusal source w) (first_refused source ws) e in
    (is_granted source w r.0, are_granted source ws r.1)

-- ---- answers

abbrev pub ok : {A : Type 0} → A → Answer A
ok x = Ok x

pub ok_bind : {A B : Type 0} (r : Answer A) (g : A → Answer B) (z : B) → (r >>= g) ≡ Ok z
    → (v : A) × (r ≡ Ok v) × (g v ≡ Ok z)
ok_bind (Ok v) g z e = (v, refl, e)
ok_bind (Err f) g z e = let no : ⊥ = cc in absurd no

pub ok_same : {A : Type 0} (x y : A) → ok x ≡ Ok y → x ≡ y
ok_same x y e = cc

pub ok_inner : {A : Type 0} (x y : A) (r : Answer A) → r ≡ Ok x → r ≡ Ok y → x ≡ y
ok_inner x y r d e = cc

-- a value that nothing refuses
pub granted_ok : {A : Type 0} (p : Option NameFault) (v z : A) → granted p v ≡ Ok z → (p ≡ None) × (v ≡ z)
granted_ok None v z e = (refl, ok_same v z e)
granted_ok (Some f) v z e = let no : ⊥ = cc in absurd no

pub granted_none : {A : Type 0} (p : Option NameFault) (v : A) → p ≡ None → granted p v ≡ Ok v
granted_none p v e = ap (λ p. granted p v) e

-- what is asked first, and what comes after it
pub given_bind : {V A : Type 0} (source : List ℕ) (w : Want) (v : V) (g : V → Answer A) (z : A)
    → (given source w v >>= g) ≡ Ok z → IsGranted source w × (g v ≡ Ok z)
given_bind source w v g z e =
    let b = ok_bind (given source w v) g z e in
    let r = granted_ok (refusal source w) v b.0 b.1 in
    (is_granted source w r.0, ap g r.1 ∙ b.2)

pub given_only : {V : Type 0} (source : List ℕ) (w : Want) (v z : V) → given source w v ≡ Ok z → IsGranted source w
given_only source w v z e = is_granted source w (granted_ok (refusal source w) v z e).0

pub is_given : {V : Type 0} (source : List ℕ) (w : Want) (v : V) → IsGranted source w → given source w v ≡ Ok v
is_given source w v h = granted_none (refusal source w) v (not_refused source w h)

-- ---- verdicts

-- the value, or the first fault
abbrev pub judged : {A : Type 0} → List ℕ → List Want → A → Answer A
judged source wants value = granted (first_refused source wants) value

-- a place, and then what follows it
pub bind_granted : {A B : Type 0} (p q : Option NameFault) (v : A) (g : A → Answer B) (w : B) → g v ≡ granted q w
    → (granted p v >>= g) ≡ granted (p or q) w
bind_granted None q v g w e = e
bind_granted (Some f) q v g w e = refl

-- one place, and then what follows it
pub asked : {V A : Type 0} (source : List ℕ) (w : Want) (v : V) (g : V → Answer A) (rest : List Want) (z : A)
    → g v ≡ judged source rest z → (given source w v >>= g) ≡ judged source (w ∷ rest) z
asked source w v g rest z e = bind_granted (refusal source w) (first_refused source rest) v g z e

-- one place alone
pub asked_only : {V : Type 0} (source : List ℕ) (w : Want) (v : V) → given source w v ≡ judged source (w ∷ []) v
asked_only source w v = alone (refusal source w) v
  where
    alone : {V : Type 0} (p : Option NameFault) (v : V) → granted p v ≡ granted (p or None) v
    alone None v = refl
    alone (Some f) v = refl

-- a part, and then what follows it
pub both : {A B : Type 0} (source : List ℕ) (r : Answer A) (wants : List Want) (v : A) (g : A → Answer B)
    (rest : List Want) (w : B) → r ≡ judged source wants v → g v ≡ judged source rest w
    → (r >>= g) ≡ judged source (wants ++ rest) w
both source r wants v g rest w e d =
    ap (λ s. s >>= g) e ∙ bind_granted (first_refused source wants) (first_refused source rest) v g w d
    ∙ ap (λ p. granted p w) (sym (first_append source wants rest))

bind_last : {A B : Type 0} (p : Option NameFault) (v : A) (h : A → B)
    → (granted p v >>= (λ x. Ok (h x))) ≡ granted p (h v)
bind_last None v h = refl
bind_last (Some f) v h = refl

-- the last part
pub last : {A B : Type 0} (source : List ℕ) (r : Answer A) (wants : List Want) (v : A) (h : A → B)
    → r ≡ judged source wants v → (r >>= (λ x. Ok (h x))) ≡ judged source wants (h v)
last source r wants v h e = ap (λ s. s >>= (λ x. Ok (h x))) e ∙ bind_last (first_refused source wants) v h
