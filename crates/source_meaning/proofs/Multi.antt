-- Several values one after the other, and the check of several signatures by them.
use Rattle.std.proofs.Common.{◌≡◌, ℕ, suc, ◌+◌, ◌<◌, ◌≤◌, get_or, List, [], ◌∷◌, ◌++◌, length, map, take, drop, Ok, Err, Result, refl, sym, ap, ◌∙◌, arith, append_assoc}
use Rattle.std.specs.Prelude.{reverse}
use Rattle.std.proofs.lemmas.List.{reverse-append, reverse-reverse, length-reverse, length-map, map-append, take_at, drop_at, length-append, length-drop, take-append-drop, at_drop_more}
use Rattle.cash_base.specs.Failing.{◌>>=◌}
use Rattle.meaning_room.specs.declared.outcome.Failure.{Failure}
use Rattle.cash_base.specs.declared.place.Span.{Span}
use Rattle.tx_context.specs.World.{World}
use Rattle.form_tables.specs.Forms.{verdict_result}
use Rattle.form_tables.specs.declared.forms.CallForm.TheVariants.{CheckMulti}
use Rattle.meaning_room.specs.Meaning.{Value, Node, element, elements, applied, checked_multi, form_value}
use Rattle.meaning_room.specs.Stack.{Stack, top, below, pushed_all}

-- ---- values one after the other

-- what is pushed are the elements, the last on top
pub record ArePushed (values : List Value) (s t : Stack) : Type 0 where
  pub es : List (List ℕ)
  pub are : elements values ≡ Ok es
  pub count : length es ≡ length values
  pub stack : t ≡ reverse es ++ s

pushed_more : (e : List ℕ) (values : List Value) (s t : Stack) → ArePushed values (e ∷ s) t → (value : Value) → element value ≡ Ok e → ArePushed (value ∷ values) s t
pushed_more e values s t h value is = record {
  es = e ∷ h.es;
  are = ap (λ r. r >>= λ x. elements values >>= λ xs. Ok (x ∷ xs)) is ∙ ap (λ r. r >>= λ xs. Ok (e ∷ xs)) h.are;
  count = ap suc h.count;
  stack = h.stack ∙ sym (ap (λ l. l ++ s) (reverse-append (e ∷ []) h.es) ∙ append_assoc (reverse h.es) (e ∷ []) s);
}

pushed_step : (r : Result (List ℕ) Failure) (value : Value) (values : List Value) (s t : Stack) → element value ≡ r → (r >>= λ e. pushed_all values (e ∷ s)) ≡ Ok t
    → ((e : List ℕ) → pushed_all values (e ∷ s) ≡ Ok t → ArePushed values (e ∷ s) t) → ArePushed (value ∷ values) s t
pushed_step (Ok e) value values s t is pushed rest = pushed_more e values s t (rest e pushed) value is
pushed_step (Err failure) value values s t is pushed rest = absurd cc

pub are_pushed : (values : List Value) (s t : Stack) → pushed_all values s ≡ Ok t → ArePushed values s t
are_pushed [] s t is = let same : s ≡ t = cc in record { es = []; are = refl; count = refl; stack = sym same }
are_pushed (value ∷ values) s t is = pushed_step (element value) value values s t refl is (λ e. are_pushed values (e ∷ s) t)

one_failed : (r : Result (List ℕ) Failure) (value : Value) (values : List Value) (s : Stack) (failure : Failure) → element value ≡ r → (r >>= λ e. pushed_all values (e ∷ s)) ≡ Err failure
    → ((e : List ℕ) → pushed_all values (e ∷ s) ≡ Err failure → elements values ≡ Err failure) → elements (value ∷ values) ≡ Err failure
one_failed (Ok e) value values s failure is pushed rest =
    ap (λ r. r >>= λ x. elements values >>= λ xs. Ok (x ∷ xs)) is ∙ ap (λ r. r >>= λ xs. Ok (e ∷ xs)) (rest e pushed)
one_failed (Err other) value values s failure is pushed rest =
    ap (λ r. r >>= λ x. elements values >>= λ xs. Ok (x ∷ xs)) is ∙ (let same : Err other ≡ Err failure = pushed in cc)

-- the first that fails fails both
pub first_failed : (values : List Value) (s : Stack) (failure : Failure) → pushed_all values s ≡ Err failure → elements values ≡ Err failure
first_failed [] s failure is = absurd cc
first_failed (value ∷ values) s failure is = one_failed (element value) value values s failure refl is (λ e. first_failed values (e ∷ s) failure)

-- ---- a step of a loop

-- a stack that is one value higher than another, which lies under it
pub on_top : (new s : Stack) → below new ≡ s → length new ≡ length s + 1 → new ≡ top new ∷ s
on_top [] s is count = absurd (omega (arith, count))
on_top (e ∷ rest) s is count = ap (λ l. e ∷ l) is

pub one_pushed : {X : Type 0} (v : X → Value) (parts : List X) (i : ℕ) (d : X) (s new : Stack) (whole : Result Stack Failure) → i < length parts → pushed_all (map v (drop i parts)) s ≡ whole
    → element (v (get_or parts i d)) ≡ Ok (top new) → new ≡ top new ∷ s → pushed_all (map v (drop (i + 1) parts)) new ≡ whole
one_pushed v parts i d s new whole within all value is =
    ap (pushed_all (map v (drop (i + 1) parts))) is
    ∙ sym (at_drop_more (λ l. pushed_all (map v l) s) parts i d within ∙ ap (λ r. r >>= λ e. pushed_all (map v (drop (i + 1) parts)) (e ∷ s)) value)
    ∙ all

-- ---- the check of several signatures

-- a list of two
pub two_args : {A : Type 0} (xs : List A) (x y : A) → 2 ≤ length xs → length xs < 3 → x ≡ get_or xs 0 x → y ≡ get_or xs 1 y → xs ≡ x ∷ y ∷ []
two_args [] x y more less first second = absurd (omega arith)
two_args (a ∷ []) x y more less first second = absurd (omega arith)
two_args (a ∷ b ∷ []) x y more less first second = let one : x ≡ a = first in let two : y ≡ b = second in cc
two_args (a ∷ b ∷ c ∷ xs) x y more less first second = absurd (omega arith)

-- both lists of elements, as they lie on the stack
pub record AreBoth (first second : List Value) (s t : Stack) (n m : ℕ) : Type 0 where
  pub sigs : elements first ≡ Ok (reverse (take n (drop m t)))
  pub keys : elements second ≡ Ok (reverse (take m t))
  pub rest : drop (n + m) t ≡ s

pub are_both : (first second : List Value) (s mid t : Stack) (n m : ℕ) → pushed_all first s ≡ Ok mid → pushed_all second mid ≡ Ok t → length first ≡ n → length second ≡ m → AreBoth first second s t n m
are_both first second s mid t n m before after first_count second_count =
    let a = are_pushed first s mid before in
    let b = are_pushed second mid t after in
    let whole : t ≡ reverse b.es ++ (reverse a.es ++ s) = b.stack ∙ ap (λ l. reverse b.es ++ l) a.stack in
    let keys : length (reverse b.es) ≡ m = length-reverse b.es ∙ b.count ∙ second_count in
    let sigs : length (reverse a.es) ≡ n = length-reverse a.es ∙ a.count ∙ first_count in
    let both : length (reverse b.es ++ reverse a.es) ≡ n + m = omega (arith, length-append (reverse b.es) (reverse a.es), keys, sigs) in
    record {
      sigs = a.are ∙ ap Ok (sym (ap (λ l. reverse (take n (drop m l))) whole ∙ ap (λ l. reverse (take n l)) (drop_at (reverse b.es) (reverse a.es ++ s) m keys) ∙ ap reverse (take_at (reverse a.es) s n sigs) ∙ reverse-reverse a.es));
      keys = b.are ∙ ap Ok (sym (ap (λ l. reverse (take m l)) whole ∙ ap reverse (take_at (reverse b.es) (reverse a.es ++ s) m keys) ∙ reverse-reverse b.es));
      rest = ap (drop (n + m)) (whole ∙ sym (append_assoc (reverse b.es) (reverse a.es) s)) ∙ drop_at (reverse b.es ++ reverse a.es) s (n + m) both;
    }

-- what the check of several signatures gives, by what lies on the stack
pub multi_given : (world : World) (span : Span) (a b : Node) (s mid t : Stack) (n m : ℕ) → pushed_all a.items s ≡ Ok mid → pushed_all b.items mid ≡ Ok t → length a.items ≡ n → length b.items ≡ m
    → form_value world span CheckMulti (a ∷ b ∷ []) ≡ applied span (verdict_result (checked_multi world.verdicts (reverse (take n (drop m t))) (reverse (take m t))))
multi_given world span a b s mid t n m before after first_count second_count =
    let both = are_both a.items b.items s mid t n m before after first_count second_count in
    ap (λ r. r >>= λ sigs. elements b.items >>= λ keys. applied span (verdict_result (checked_multi world.verdicts sigs keys))) both.sigs
    ∙ ap (λ r. r >>= λ keys. applied span (verdict_result (checked_multi world.verdicts (reverse (take n (drop m t))) keys))) both.keys

-- the signatures fail
pub sigs_failed : (world : World) (span : Span) (a b : Node) (s : Stack) (failure : Failure) → pushed_all a.items s ≡ Err failure
    → form_value world span CheckMulti (a ∷ b ∷ []) ≡ Err failure
sigs_failed world span a b s failure is =
    ap (λ r. r >>= λ sigs. elements b.items >>= λ keys. applied span (verdict_result (checked_multi world.verdicts sigs keys))) (first_failed a.items s failure is)

-- the keys fail, after the signatures
pub keys_failed : (world : World) (span : Span) (a b : Node) (s mid : Stack) (failure : Failure) → pushed_all a.items s ≡ Ok mid → pushed_all b.items mid ≡ Err failure
    → form_value world span CheckMulti (a ∷ b ∷ []) ≡ Err failure
keys_failed world span a b s mid failure before is =
    ap (λ r. r >>= λ sigs. elements b.items >>= λ keys. applied span (verdict_result (checked_multi world.verdicts sigs keys))) (are_pushed a.items s mid before).are
    ∙ ap (λ r. r >>= λ keys. applied span (verdict_result (checked_multi world.verdicts (are_pushed a.items s mid before).es keys))) (first_failed b.items mid failure is)
