-- Rows that put elements, one piece after the other.
use Rattle.std.proofs.Common.{◌≡◌, ℕ, List, [], ◌∷◌, ◌++◌, map, Result, Ok, Err, refl, sym, ap, ◌∙◌, append_assoc}
use Rattle.std.proofs.lemmas.List.{map-append}
use Rattle.cash_base.specs.declared.fault.Cause.{Cause}
use Rattle.cash_base.specs.declared.place.Span.{Span}
use Rattle.cash_base.specs.Failing.{◌>>=◌}
use Rattle.tx_context.specs.World.{World}
use Rattle.source_meaning.specs.declared.outcome.Failure.{Failure}
use Rattle.source_meaning.specs.Meaning.{Env, Value, One as GivenOne, at_span}
use Rattle.slot_code.specs.declared.slots.SlotInstr.{SlotInstr}
use Rattle.slot_code.specs.Meaning.{State, state, Next, Act, act_of, all_acts, run_of}
use Rattle.slot_expressions.specs.declared.expressions.Width.TheVariants as widths
use Rattle.slot_expressions.specs.Pieces.{Elements, Gives, one_of, Puts, given_on, as_wide, put_value}

abbrev pub both_of : Elements → Elements → Elements
both_of va vb world env = do
  es ← va world env
  fs ← vb world env
  Ok (fs ++ es)

-- ---- steps that may fail

pub bind_bind : {A B C : Type 0} (r : Result A Failure) (f : A → Result B Failure) (g : B → Result C Failure)
    → (r >>= λ x. f x >>= g) ≡ ((r >>= f) >>= g)
bind_bind (Ok x) f g = refl
bind_bind (Err e) f g = refl

pub bind_two : {A B C D : Type 0} (r : Result A Failure) (s : Result B Failure) (f : A → B → Result C Failure) (g : C → Result D Failure)
    → (r >>= λ x. s >>= λ y. f x y >>= g) ≡ ((r >>= λ x. s >>= λ y. f x y) >>= g)
bind_two (Ok x) s f g = bind_bind s (f x) g
bind_two (Err e) s f g = refl

pub bind_three : {A B C D E : Type 0} (r : Result A Failure) (s : Result B Failure) (t : Result C Failure) (f : A → B → C → Result D Failure) (g : D → Result E Failure)
    → (r >>= λ x. s >>= λ y. t >>= λ z. f x y z >>= g) ≡ ((r >>= λ x. s >>= λ y. t >>= λ z. f x y z) >>= g)
bind_three (Ok x) s t f g = bind_two s t (f x) g
bind_three (Err e) s t f g = refl

pub at_span_then : {A B : Type 0} (span : Span) (r : Result A Cause) (f : A → Result B Cause)
    → at_span span (r >>= f) ≡ (at_span span r >>= λ x. at_span span (f x))
at_span_then span (Ok x) f = refl
at_span_then span (Err e) f = refl

-- ---- runs

run_more : (r : Next) (xs ys : List Act) → ((s : State) → all_acts (xs ++ ys) s ≡ (all_acts xs s >>= all_acts ys))
    → (r >>= all_acts (xs ++ ys)) ≡ ((r >>= all_acts xs) >>= all_acts ys)
run_more (Ok s) xs ys rest = rest s
run_more (Err e) xs ys rest = refl

acts_append : (xs ys : List Act) (s : State) → all_acts (xs ++ ys) s ≡ (all_acts xs s >>= all_acts ys)
acts_append [] ys s = refl
acts_append (x ∷ xs) ys s = run_more (x s) xs ys (acts_append xs ys)

pub run_append : (world : World) (a b : List SlotInstr) (s : State) → run_of world (a ++ b) s ≡ (run_of world a s >>= run_of world b)
run_append world a b s = ap (λ l. all_acts l s) (map-append (act_of world) a b) ∙ acts_append (map (act_of world) a) (map (act_of world) b) s

alone : (r : Next) → (r >>= all_acts []) ≡ r
alone (Ok s) = refl
alone (Err e) = refl

pub run_one : (world : World) (i : SlotInstr) (s : State) → run_of world (i ∷ []) s ≡ act_of world i s
run_one world i s = alone (act_of world i s)

-- ---- pieces

pub puts_as : {rows : List SlotInstr} {va vb : Elements} → Puts rows va → ((world : World) (env : Env) → va world env ≡ vb world env) → Puts rows vb
puts_as h same = record { runs = λ world s. h.runs world s ∙ ap (λ r. r >>= λ es. Ok (state (es ++ s.operands) s.env)) (same world s.env) }

on_both : (r : Result (List (List ℕ)) Failure) (es : List (List ℕ)) (s : State)
    → (r >>= λ fs. Ok (state (fs ++ (es ++ s.operands)) s.env)) ≡ ((r >>= λ fs. Ok (fs ++ es)) >>= λ out. Ok (state (out ++ s.operands) s.env))
on_both (Ok fs) es s = ap (λ l. Ok (state l s.env)) (sym (append_assoc fs es s.operands))
on_both (Err e) es s = refl

after_first : (r : Result (List (List ℕ)) Failure) (b : List SlotInstr) (vb : Elements) (world : World) (s : State) → Puts b vb
    → ((r >>= λ es. Ok (state (es ++ s.operands) s.env)) >>= run_of world b)
    ≡ ((r >>= λ es. vb world s.env >>= λ fs. Ok (fs ++ es)) >>= λ out. Ok (state (out ++ s.operands) s.env))
after_first (Ok es) b vb world s h = h.runs world (state (es ++ s.operands) s.env) ∙ on_both (vb world s.env) es s
after_first (Err e) b vb world s h = refl

pub puts_both : {a b : List SlotInstr} {va vb : Elements} → Puts a va → Puts b vb → Puts (a ++ b) (both_of va vb)
puts_both {a} {b} {va} {vb} ha hb = record {
  runs = λ world s. run_append world a b s ∙ ap (λ r. r >>= run_of world b) (ha.runs world s) ∙ after_first (va world s.env) b vb world s hb;
}

-- a row that puts an element, and takes none
pub put_one : (r : Result (List ℕ) Failure) (s : State)
    → (r >>= λ e. Ok (state (e ∷ s.operands) s.env)) ≡ ((r >>= λ e. Ok (e ∷ [])) >>= λ es. Ok (state (es ++ s.operands) s.env))
put_one (Ok e) s = refl
put_one (Err e) s = refl

pub puts_row : (i : SlotInstr) (v : Gives)
    → ((world : World) (operands : List (List ℕ)) (env : Env) → act_of world i (state operands env) ≡ (v world env >>= λ e. Ok (state (e ∷ operands) env)))
    → Puts (i ∷ []) (one_of v)
puts_row i v acts = record { runs = λ world s. run_one world i s ∙ acts world s.operands s.env ∙ put_one (v world s.env) s }

-- a row that works on one, two or three elements
one_step : (ra : Result (List ℕ) Failure) (i : SlotInstr) (f : List ℕ → Result (List ℕ) Failure) (world : World) (s : State)
    → ((x : List ℕ) → act_of world i (state (x ∷ s.operands) s.env) ≡ (f x >>= λ e. Ok (state (e ∷ s.operands) s.env)))
    → (((ra >>= λ e. Ok (e ∷ [])) >>= λ es. Ok (state (es ++ s.operands) s.env)) >>= run_of world (i ∷ []))
    ≡ (((ra >>= f) >>= λ e. Ok (e ∷ [])) >>= λ es. Ok (state (es ++ s.operands) s.env))
one_step (Ok x) i f world s acts = run_one world i (state (x ∷ s.operands) s.env) ∙ acts x ∙ put_one (f x) s
one_step (Err e) i f world s acts = refl

pub after_one : {a : List SlotInstr} (va : Gives) (i : SlotInstr) (f : World → List ℕ → Result (List ℕ) Failure)
    → ((world : World) (x : List ℕ) (rest : List (List ℕ)) (env : Env) → act_of world i (state (x ∷ rest) env) ≡ (f world x >>= λ e. Ok (state (e ∷ rest) env)))
    → Puts a (one_of va) → Puts (a ++ i ∷ []) (one_of (λ world env. va world env >>= f world))
after_one {a} va i f acts ha = record {
  runs = λ world s. run_append world a (i ∷ []) s ∙ ap (λ r. r >>= run_of world (i ∷ [])) (ha.runs world s)
      ∙ one_step (va world s.env) i (f world) world s (λ x. acts world x s.operands s.env);
}

two_step : (ra rb : Result (List ℕ) Failure) (i : SlotInstr) (f : List ℕ → List ℕ → Result (List ℕ) Failure) (world : World) (s : State)
    → ((x y : List ℕ) → act_of world i (state (y ∷ x ∷ s.operands) s.env) ≡ (f x y >>= λ e. Ok (state (e ∷ s.operands) s.env)))
    → ((((ra >>= λ e. Ok (e ∷ [])) >>= λ es. (rb >>= λ e. Ok (e ∷ [])) >>= λ fs. Ok (fs ++ es)) >>= λ es. Ok (state (es ++ s.operands) s.env)) >>= run_of world (i ∷ []))
    ≡ (((ra >>= λ x. rb >>= λ y. f x y) >>= λ e. Ok (e ∷ [])) >>= λ es. Ok (state (es ++ s.operands) s.env))
two_step (Ok x) (Ok y) i f world s acts = run_one world i (state (y ∷ x ∷ s.operands) s.env) ∙ acts x y ∙ put_one (f x y) s
two_step (Ok x) (Err e) i f world s acts = refl
two_step (Err e) rb i f world s acts = refl

pub after_two : {a b : List SlotInstr} (va vb : Gives) (i : SlotInstr) (f : World → List ℕ → List ℕ → Result (List ℕ) Failure)
    → ((world : World) (x y : List ℕ) (rest : List (List ℕ)) (env : Env) → act_of world i (state (y ∷ x ∷ rest) env) ≡ (f world x y >>= λ e. Ok (state (e ∷ rest) env)))
    → Puts a (one_of va) → Puts b (one_of vb) → Puts ((a ++ b) ++ i ∷ []) (one_of (λ world env. va world env >>= λ x. vb world env >>= λ y. f world x y))
after_two {a} {b} va vb i f acts ha hb = record {
  runs = λ world s. run_append world (a ++ b) (i ∷ []) s ∙ ap (λ r. r >>= run_of world (i ∷ [])) ((puts_both ha hb).runs world s)
      ∙ two_step (va world s.env) (vb world s.env) i (f world) world s (λ x y. acts world x y s.operands s.env);
}

three_step : (ra rb rc : Result (List ℕ) Failure) (i : SlotInstr) (f : List ℕ → List ℕ → List ℕ → Result (List ℕ) Failure) (world : World) (s : State)
    → ((x y z : List ℕ) → act_of world i (state (z ∷ y ∷ x ∷ s.operands) s.env) ≡ (f x y z >>= λ e. Ok (state (e ∷ s.operands) s.env)))
    → ((((((ra >>= λ e. Ok (e ∷ [])) >>= λ es. (rb >>= λ e. Ok (e ∷ [])) >>= λ fs. Ok (fs ++ es))) >>= λ es. (rc >>= λ e. Ok (e ∷ [])) >>= λ fs. Ok (fs ++ es)) >>= λ es. Ok (state (es ++ s.operands) s.env)) >>= run_of world (i ∷ []))
    ≡ (((ra >>= λ x. rb >>= λ y. rc >>= λ z. f x y z) >>= λ e. Ok (e ∷ [])) >>= λ es. Ok (state (es ++ s.operands) s.env))
three_step (Ok x) (Ok y) (Ok z) i f world s acts = run_one world i (state (z ∷ y ∷ x ∷ s.operands) s.env) ∙ acts x y z ∙ put_one (f x y z) s
three_step (Ok x) (Ok y) (Err e) i f world s acts = refl
three_step (Ok x) (Err e) rc i f world s acts = refl
three_step (Err e) rb rc i f world s acts = refl

pub after_three : {a b c : List SlotInstr} (va vb vc : Gives) (i : SlotInstr) (f : World → List ℕ → List ℕ → List ℕ → Result (List ℕ) Failure)
    → ((world : World) (x y z : List ℕ) (rest : List (List ℕ)) (env : Env) → act_of world i (state (z ∷ y ∷ x ∷ rest) env) ≡ (f world x y z >>= λ e. Ok (state (e ∷ rest) env)))
    → Puts a (one_of va) → Puts b (one_of vb) → Puts c (one_of vc)
    → Puts (((a ++ b) ++ c) ++ i ∷ []) (one_of (λ world env. va world env >>= λ x. vb world env >>= λ y. vc world env >>= λ z. f world x y z))
after_three {a} {b} {c} va vb vc i f acts ha hb hc = record {
  runs = λ world s. run_append world ((a ++ b) ++ c) (i ∷ []) s ∙ ap (λ r. r >>= run_of world (i ∷ [])) ((puts_both (puts_both ha hb) hc).runs world s)
      ∙ three_step (va world s.env) (vb world s.env) (vc world s.env) i (f world) world s (λ x y z. acts world x y z s.operands s.env);
}

-- ---- values of one element

one_put : (r : Result (List ℕ) Failure) (value : Value) → value ≡ (r >>= λ e. Ok (GivenOne e))
    → (r >>= λ e. Ok (e ∷ [])) ≡ (value >>= λ given. Ok (given_on widths.One given))
one_put (Ok e) value is = sym (ap (λ v. v >>= λ given. Ok (given_on widths.One given)) is)
one_put (Err e) value is = sym (ap (λ v. v >>= λ given. Ok (given_on widths.One given)) is)

-- rows that put the element of a value which is one put the value
pub puts_value : {rows : List SlotInstr} (v : Gives) (value : World → Env → Value)
    → ((world : World) (env : Env) → value world env ≡ (v world env >>= λ e. Ok (GivenOne e)))
    → Puts rows (one_of v) → Puts rows (put_value widths.One value)
puts_value {rows} v value is h = puts_as h (λ world env. one_put (v world env) (value world env) (is world env))

one_wide : (r : Result (List ℕ) Failure) (value : Value) → value ≡ (r >>= λ e. Ok (GivenOne e))
    → value ≡ (value >>= λ given. Ok (as_wide widths.One given))
one_wide (Ok e) value is = is ∙ sym (ap (λ v. v >>= λ given. Ok (as_wide widths.One given)) is)
one_wide (Err e) value is = is ∙ sym (ap (λ v. v >>= λ given. Ok (as_wide widths.One given)) is)

pub is_wide : (v : Gives) (value : World → Env → Value)
    → ((world : World) (env : Env) → value world env ≡ (v world env >>= λ e. Ok (GivenOne e)))
    → (world : World) (env : Env) → value world env ≡ (value world env >>= λ given. Ok (as_wide widths.One given))
is_wide v value is world env = one_wide (v world env) (value world env) (is world env)
