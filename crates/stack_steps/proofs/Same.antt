-- Deeds that can't be told apart by the live values.
use Rattle.std.proofs.Common.{◌≡◌, ℕ, Bool, true, false, cond, List, [], ◌∷◌, Some, None, Result, Ok, Err, refl, sym, ap, ◌∙◌, subst}
use Rattle.std.specs.Prelude.{◌||◌, filter, unwrap_or}
use Rattle.std.proofs.lemmas.Bool.{false≢true, and_parts, and_from}
use Rattle.cash_base.specs.declared.fault.Cause.{Cause}
use Rattle.cash_base.specs.declared.fault.Cause.TheVariants.{CheckFailed}
use Rattle.cash_base.specs.declared.place.Slot.{Slot}
use Rattle.cash_base.specs.declared.place.Span.{Span}
use Rattle.cash_base.specs.Failing.{◌>>=◌}
use Rattle.cash_base.specs.Number.{truth_of}
use Rattle.element_ops.specs.Operation.{Outcome, split_parts}
use Rattle.tx_context.specs.World.{World}
use Rattle.source_meaning.specs.declared.outcome.Failure.{Failure}
use Rattle.source_meaning.specs.Meaning.{Env, with_value, fails, at_span, checked, passed}
use Rattle.slot_code.specs.Meaning.{State, state, Act, Next, all_acts, on_one, on_two, on_three, gives, splits, goes_on, without_value}
use Rattle.slot_code.specs.Shape.{has}
use Rattle.slot_liveness.specs.Counts.{is_slot}
use Rattle.slot_liveness.specs.Live.{Slots, either, live, all_later}
use Rattle.slot_liveness.proofs.Counts.{same_slot}
use Rattle.slot_liveness.proofs.Sets.{has_filter, later_split}
use Rattle.stack_emitter.specs.Correct.{Deed, nothing, then_deed, lit_deed, get_deed, store_deed}
use Rattle.stack_steps.specs.Lower.{AgreeOn, SameEnd, Same}

same_end : (world : World) (later : Slots) (o r : Result State Failure) (before : Slots) (f g : Deed) → Same before later f g → SameEnd before o r
    → SameEnd later (o >>= f world) (r >>= g world)
same_end world later (Ok s) (Ok t) before f g x h =
    subst (λ l. SameEnd later (f world s) (g world (state l t.env))) h.0 (x.ends world s t.env h.1)
same_end world later (Ok s) (Err e) before f g x h = absurd h
same_end world later (Err e) (Ok t) before f g x h = absurd h
same_end world later (Err e) (Err d) before f g x h = h

pub same_then : (a b c : Slots) (f f' g g' : Deed) → Same a b f f' → Same b c g g' → Same a c (then_deed f g) (then_deed f' g')
same_then a b c f f' g g' x y = record {
  ends = λ world s env h. same_end world c (f world s) (f' world (state s.operands env)) b g g' y (x.ends world s env h);
}

pub same_none : (a : Slots) → Same a a nothing nothing
same_none a = record { ends = λ world s env h. (refl, h) }

fewer_ends : (b c : Slots) (o r : Result State Failure) → ((s : Slot) → c s ≡ true → b s ≡ true) → SameEnd b o r → SameEnd c o r
fewer_ends b c (Ok s) (Ok t) w h = (h.0, λ slot e. h.1 slot (w slot e))
fewer_ends b c (Ok s) (Err e) w h = h
fewer_ends b c (Err e) (Ok t) w h = h
fewer_ends b c (Err e) (Err d) w h = h

-- fewer values are live after, or more before
pub same_fewer : (a b a' b' : Slots) (f g : Deed) → ((s : Slot) → a s ≡ true → a' s ≡ true) → ((s : Slot) → b' s ≡ true → b s ≡ true) → Same a b f g
    → Same a' b' f g
same_fewer a b a' b' f g more fewer x = record {
  ends = λ world s env h. fewer_ends b b' (f world s) (g world (state s.operands env)) fewer (x.ends world s env (λ slot e. h slot (more slot e)));
}

-- the same deed, seen otherwise
pub same_as : (a b : Slots) (f f' g : Deed) → ((world : World) → f world ≡ f' world) → Same a b f' g → Same a b f g
same_as a b f f' g e x = record {
  ends = λ world s env h. subst (λ k. SameEnd b (k s) (g world (state s.operands env))) (sym (e world)) (x.ends world s env h);
}

-- ---- deeds that work on operands alone

pub gives_ends : (a : Slots) (d : Span) (out : Outcome) (rest : List (List ℕ)) (env env' : Env) → AgreeOn a env env' → SameEnd a (gives d out rest env) (gives d out rest env')
gives_ends a d (Ok e) rest env env' h = (refl, h)
gives_ends a d (Err cause) rest env env' h = refl

one_ends : (a : Slots) (d : Span) (f g : List ℕ → List (List ℕ) → Next) (operands : List (List ℕ)) → ((x : List ℕ) (rest : List (List ℕ)) → SameEnd a (f x rest) (g x rest))
    → SameEnd a (on_one d operands f) (on_one d operands g)
one_ends a d f g [] h = refl
one_ends a d f g (x ∷ rest) h = h x rest

two_ends : (a : Slots) (d : Span) (f g : List ℕ → List ℕ → List (List ℕ) → Next) (operands : List (List ℕ))
    → ((x y : List ℕ) (rest : List (List ℕ)) → SameEnd a (f x y rest) (g x y rest)) → SameEnd a (on_two d operands f) (on_two d operands g)
two_ends a d f g [] h = refl
two_ends a d f g (x ∷ []) h = refl
two_ends a d f g (y ∷ x ∷ rest) h = h x y rest

three_ends : (a : Slots) (d : Span) (f g : List ℕ → List ℕ → List ℕ → List (List ℕ) → Next) (operands : List (List ℕ))
    → ((x y z : List ℕ) (rest : List (List ℕ)) → SameEnd a (f x y z rest) (g x y z rest)) → SameEnd a (on_three d operands f) (on_three d operands g)
three_ends a d f g [] h = refl
three_ends a d f g (x ∷ []) h = refl
three_ends a d f g (y ∷ x ∷ []) h = refl
three_ends a d f g (z ∷ y ∷ x ∷ rest) h = h x y z rest

pub same_gives : (a : Slots) (d : Span) (f : World → Outcome) → Same a a (λ world s. gives d (f world) s.operands s.env) (λ world s. gives d (f world) s.operands s.env)
same_gives a d f = record { ends = λ world s env h. gives_ends a d (f world) s.operands s.env env h }

pub same_one : (a : Slots) (d : Span) (f : World → List ℕ → Outcome)
    → Same a a (λ world s. on_one d s.operands (λ x rest. gives d (f world x) rest s.env)) (λ world s. on_one d s.operands (λ x rest. gives d (f world x) rest s.env))
same_one a d f = record {
  ends = λ world s env h. one_ends a d _ _ s.operands (λ x rest. gives_ends a d (f world x) rest s.env env h);
}

pub same_two : (a : Slots) (d : Span) (f : World → List ℕ → List ℕ → Outcome)
    → Same a a (λ world s. on_two d s.operands (λ x y rest. gives d (f world x y) rest s.env)) (λ world s. on_two d s.operands (λ x y rest. gives d (f world x y) rest s.env))
same_two a d f = record {
  ends = λ world s env h. two_ends a d _ _ s.operands (λ x y rest. gives_ends a d (f world x y) rest s.env env h);
}

pub same_three : (a : Slots) (d : Span) (f : World → List ℕ → List ℕ → List ℕ → Outcome)
    → Same a a (λ world s. on_three d s.operands (λ x y z rest. gives d (f world x y z) rest s.env)) (λ world s. on_three d s.operands (λ x y z rest. gives d (f world x y z) rest s.env))
same_three a d f = record {
  ends = λ world s env h. three_ends a d _ _ s.operands (λ x y z rest. gives_ends a d (f world x y z) rest s.env env h);
}

pub same_keep : (a : Slots) (d : Span) (right : Bool)
    → Same a a (λ world s. on_two d s.operands (λ x y rest. Ok (state (cond right y x ∷ rest) s.env))) (λ world s. on_two d s.operands (λ x y rest. Ok (state (cond right y x ∷ rest) s.env)))
same_keep a d right = record { ends = λ world s env h. two_ends a d _ _ s.operands (λ x y rest. (refl, h)) }

pub same_split : (a : Slots) (d : Span)
    → Same a a (λ world s. on_two d s.operands (λ x y rest. splits d x y rest s.env)) (λ world s. on_two d s.operands (λ x y rest. splits d x y rest s.env))
same_split a d = record { ends = λ world s env h. two_ends a d _ _ s.operands (λ x y rest. by (split_parts x y) rest s.env env h) }
  where
    by : (out : Result (List ℕ × List ℕ) Cause) (rest : List (List ℕ)) (env env' : Env) → AgreeOn a env env'
        → SameEnd a (at_span d out >>= λ parts. Ok (state (parts.1 ∷ parts.0 ∷ rest) env)) (at_span d out >>= λ parts. Ok (state (parts.1 ∷ parts.0 ∷ rest) env'))
    by (Ok parts) rest env env' h = (refl, h)
    by (Err cause) rest env env' h = refl

pub same_check : (a : Slots) (d c : Span)
    → Same a a (λ world s. on_one d s.operands (λ x rest. goes_on rest (checked c x s.env))) (λ world s. on_one d s.operands (λ x rest. goes_on rest (checked c x s.env)))
same_check a d c = record { ends = λ world s env h. one_ends a d _ _ s.operands (λ x rest. by (truth_of x) rest s.env env h) }
  where
    by : (b : Bool) (rest : List (List ℕ)) (env env' : Env) → AgreeOn a env env'
        → SameEnd a (goes_on rest (cond b (Ok env) (fails c CheckFailed))) (goes_on rest (cond b (Ok env') (fails c CheckFailed)))
    by true rest env env' h = (refl, h)
    by false rest env env' h = refl

pub same_lock : (a : Slots) (d c : Span) (f : World → List ℕ → Result (Unit {0}) Cause)
    → Same a a (λ world s. on_one d s.operands (λ x rest. goes_on rest (passed c (f world x) s.env))) (λ world s. on_one d s.operands (λ x rest. goes_on rest (passed c (f world x) s.env)))
same_lock a d c f = record { ends = λ world s env h. one_ends a d _ _ s.operands (λ x rest. by (f world x) rest s.env env h) }
  where
    by : (out : Result (Unit {0}) Cause) (rest : List (List ℕ)) (env env' : Env) → AgreeOn a env env'
        → SameEnd a (goes_on rest (passed c out env)) (goes_on rest (passed c out env'))
    by (Ok u) rest env env' h = (refl, h)
    by (Err cause) rest env env' h = refl

pub same_lit : (a : Slots) (e : List ℕ) → Same a a (lit_deed e) (lit_deed e)
same_lit a e = record { ends = λ world s env h. (refl, h) }

-- ---- reads, definitions and ends

-- a read: the slot is live before it
pub same_get : (scope : List Slot) (later reads : Slots) (slot : Slot) → reads slot ≡ true → has slot scope ≡ true
    → Same (live scope (either reads later)) (live scope later) (get_deed slot) (get_deed slot)
same_get scope later reads slot r h = record {
  ends = λ world s env agree. (
    ap (λ v. unwrap_or v [] ∷ s.operands) (agree slot (and_from (has slot scope) (reads slot || later slot) h (ap (λ b. b || later slot) r))),
    λ t e. agree t (still t (and_parts (has t scope) (later t) e)),
  );
}
  where
    or_right : (x y : Bool) → y ≡ true → (x || y) ≡ true
    or_right true y e = refl
    or_right false y e = e

    still : (t : Slot) → (has t scope ≡ true) × (later t ≡ true) → live scope (either reads later) t ≡ true
    still t k = and_from (has t scope) (reads t || later t) k.0 (or_right (reads t) (later t) k.1)

-- a value that is stored, or dropped where no path reads it
module _ (before after : Slots) (slot : Slot) (keep : Bool) (needed : after slot ≡ true → keep ≡ true) (others : (t : Slot) → is_slot slot t ≡ false → after t ≡ true → before t ≡ true) where
  pub stored_agree : (x : List ℕ) (env env' : Env) → AgreeOn before env env' → (t : Slot) → (b : Bool) → is_slot slot t ≡ b → after t ≡ true → cond b (Some x) (env t) ≡ cond b (Some x) (env' t)
  stored_agree x env env' h t true e k = refl
  stored_agree x env env' h t false e k = h t (others t e k)

  pub dropped_agree : keep ≡ false → (x : List ℕ) (env env' : Env) → AgreeOn before env env' → (t : Slot) → (b : Bool) → is_slot slot t ≡ b → after t ≡ true → cond b (Some x) (env t) ≡ env' t
  dropped_agree not_kept x env env' h t false e k = h t (others t e k)
  dropped_agree not_kept x env env' h t true e k =
      absurd (false≢true (sym not_kept ∙ needed (ap after (sym (same_slot slot t e)) ∙ k)))

  store_ends : (doing : Span) (world : World) (b : Bool) → keep ≡ b → (operands : List (List ℕ)) (env env' : Env) → AgreeOn before env env'
      → SameEnd after (on_one doing operands (λ x rest. Ok (state rest (with_value slot x env)))) (store_deed b slot doing world (state operands env'))
  store_ends doing world true e [] env env' h = refl
  store_ends doing world false e [] env env' h = refl
  store_ends doing world true e (x ∷ operands) env env' h = (refl, λ t k. stored_agree x env env' h t (is_slot slot t) refl k)
  store_ends doing world false e (x ∷ operands) env env' h = (refl, λ t k. dropped_agree e x env env' h t (is_slot slot t) refl k)

  pub same_store : (doing : Span) → Same before after (λ world s. on_one doing s.operands (λ x rest. Ok (state rest (with_value slot x s.env)))) (store_deed keep slot doing)
  same_store doing = record { ends = λ world s env h. store_ends doing world keep refl s.operands s.env env h }

-- the end of a name: its value is gone, and not read
pub same_forget : (slot : Slot) (scope next : List Slot) (later : Slots) → ((t : Slot) → has t next ≡ true → (is_slot slot t ≡ false) × (has t scope ≡ true))
    → Same (live scope later) (live next later) (λ world s. Ok (state s.operands (without_value slot s.env))) nothing
same_forget slot scope next later fewer = record {
  ends = λ world s env h. (
    refl,
    λ t e.
        let k = and_parts (has t next) (later t) e in
        let f = fewer t k.0 in
        ap (λ b. cond b None (s.env t)) f.0 ∙ h t (and_from (has t scope) (later t) f.1 k.1),
  );
}

-- ---- a choice

module _ (a b : Slots) (f f' g g' : Deed) (d : Span) where
  pick_ends : (world : World) (t : Bool) (s : State) (env : Env) → Same a b f f' → Same a b g g' → AgreeOn a s.env env
      → SameEnd b (cond t (f world) (g world) s) (cond t (f' world) (g' world) (state s.operands env))
  pick_ends world true s env x y h = x.ends world s env h
  pick_ends world false s env x y h = y.ends world s env h

  pub same_choice : Same a b f f' → Same a b g g'
      → Same a b (λ world s. on_one d s.operands (λ x rest. cond (truth_of x) (f world) (g world) (state rest s.env))) (λ world s. on_one d s.operands (λ x rest. cond (truth_of x) (f' world) (g' world) (state rest s.env)))
  same_choice x y = record {
    ends = λ world s env h. one_ends b d _ _ s.operands (λ v rest. pick_ends world (truth_of v) (state rest s.env) env x y h);
  }

-- a choice between lists of acts
module _ (a b : Slots) (ys ns : World → List Act) (f g : Deed) (d : Span) where
  list_ends : (world : World) (t : Bool) (s : State) (env : Env) → Same a b (λ world. all_acts (ys world)) f → Same a b (λ world. all_acts (ns world)) g → AgreeOn a s.env env
      → SameEnd b (all_acts (cond t (ys world) (ns world)) s) (cond t (f world) (g world) (state s.operands env))
  list_ends world true s env x y h = x.ends world s env h
  list_ends world false s env x y h = y.ends world s env h

  pub same_lists : Same a b (λ world. all_acts (ys world)) f → Same a b (λ world. all_acts (ns world)) g
      → Same a b (λ world s. on_one d s.operands (λ x rest. all_acts (cond (truth_of x) (ys world) (ns world)) (state rest s.env))) (λ world s. on_one d s.operands (λ x rest. cond (truth_of x) (f world) (g world) (state rest s.env)))
  same_lists x y = record {
    ends = λ world s env h. one_ends b d _ _ s.operands (λ v rest. list_ends world (truth_of v) (state rest s.env) env x y h);
  }

-- an arm of a choice, seen from outside
pub same_arm : (reads : List Slots) (own both later : Slots) (scope : List Slot) (f g : Deed) → ((s : Slot) → own s ≡ all_later reads s false)
    → ((s : Slot) → own s ≡ true → both s ≡ true)
    → Same (live scope (λ s. all_later reads s (has s (filter later scope)))) (live scope (λ s. has s (filter later scope))) f g
    → Same (live scope (either both later)) (live scope later) f g
same_arm reads own both later scope f g own_is own_in x =
    same_fewer (live scope (λ s. all_later reads s (has s (filter later scope)))) (live scope (λ s. has s (filter later scope))) (live scope (either both later)) (live scope later) f g
    (λ s e. start s (and_parts (has s scope) (all_later reads s (has s (filter later scope))) e))
    (λ s e. end s (and_parts (has s scope) (later s) e)) x
  where
    end : (s : Slot) → (has s scope ≡ true) × (later s ≡ true) → live scope (λ s. has s (filter later scope)) s ≡ true
    end s k = and_from (has s scope) (has s (filter later scope)) k.0 (has_filter later s scope k.0 ∙ k.1)

    pass : (o b l : Bool) → (o ≡ true → b ≡ true) → (o || l) ≡ true → (b || l) ≡ true
    pass true b l h e = ap (λ x. x || l) (h refl)
    pass false true l h e = refl
    pass false false l h e = e

    start : (s : Slot) → (has s scope ≡ true) × (all_later reads s (has s (filter later scope)) ≡ true) → live scope (either both later) s ≡ true
    start s k =
        and_from (has s scope) (both s || later s) k.0
        (pass (own s) (both s) (later s) (own_in s) (ap (λ b. b || later s) (own_is s) ∙ ap (λ b. all_later reads s false || b) (sym (has_filter later s scope k.0)) ∙ sym (later_split reads s (has s (filter later scope))) ∙ k.1))
