-- What calls and instantiations give, by the types of their arguments.
use Rattle.std.proofs.Common.{◌≡◌, ℕ, Bool, true, false, cond, leb, List, [], ◌∷◌, length, map, ◌<◌, ◌≤◌, ◌/◌, ◌%◌, Some, Result, Ok, Err, refl, ap, subst, arith, lit<}
use Rattle.std.specs.Prelude.{slice_get}
use Rattle.std.specs.List.{AllByRecursion}
use Rattle.std.proofs.lemmas.Bool.{leb-true}
use Rattle.cash_base.specs.declared.fault.Cause.{Cause}
use Rattle.cash_base.specs.declared.place.Span.{Span}
use Rattle.cash_base.specs.Element.{IsElement}
use Rattle.cash_base.specs.Failing.{◌>>=◌}
use Rattle.cash_base.specs.Number.{IsBytes}
use Rattle.cash_base.specs.Push.{push_prefix}
use Rattle.element_ops.specs.declared.op.Op1.{Op1}
use Rattle.element_ops.specs.declared.op.Op1.TheVariants as op1
use Rattle.element_ops.specs.declared.op.Op2.{Op2}
use Rattle.element_ops.specs.declared.op.Op2.TheVariants as op2
use Rattle.element_ops.specs.declared.op.Op3.TheVariants as op3
use Rattle.element_ops.specs.Operation.{result1, result2, result3, joined}
use Rattle.tx_context.specs.World.{World}
use Rattle.cash_tree.specs.declared.Ty.{Ty}
use Rattle.cash_tree.specs.declared.Ty.TheVariants as ty
use Rattle.cash_tree.specs.declared.Ty.TheOpen.{Ty-F}
use Rattle.cash_tree.specs.declared.Ty.TheViews.{out-Ty}
use Rattle.cash_tree.specs.declared.Builtin.{Builtin}
use Rattle.cash_tree.specs.declared.Builtin.TheVariants as builtins
use Rattle.cash_tree.specs.declared.Callee.{Callee}
use Rattle.cash_tree.specs.declared.Callee.TheVariants as callees
use Rattle.type_tables.specs.declared.rules.Want.TheVariants as wants
use Rattle.type_tables.specs.Tables.{TypedExpr, fits, signature, given, counted, keys_counted, sigs_counted, accepted, accepted_at, arguments_suit, items_at, call_type}
use Rattle.form_tables.specs.declared.forms.Lock.{Lock}
use Rattle.form_tables.specs.declared.forms.Lock.TheVariants as locks
use Rattle.form_tables.specs.declared.forms.CallForm.TheVariants as forms
use Rattle.form_tables.specs.Forms.{verdict_result, lock_front, lock_back, data_front, pushed_chunk}
use Rattle.source_meaning.specs.declared.outcome.Failure.{Failure}
use Rattle.source_meaning.specs.Meaning.{Env, One, Value, Node, element, elements, appended, locked, with_chunks, form_value, call_value, node_of, value_of, items_of}
use Rattle.type_check.proofs.Typed.{ok_bind, ok_same}
use Rattle.type_soundness.proofs.Calm.{IsNumber, Calm, calm1, calm2, calm3}
use Rattle.type_soundness.proofs.Holds.{Laws, TyLayer, LayerHolds, Holds, HoldsGiven, Good, GoodValue, Fine, bind, placed, element_good, applied_good, obeyed, number_is, truth_is, loose, joined_fine, bytes_appended}
use Rattle.type_soundness.proofs.Types.{IsLoose, is_allowed, loose_bytes, loose_bytes_n}
use Rattle.type_soundness.proofs.Looks.{single_calm, multi_calm, verdict_fine}
use Rattle.type_soundness.proofs.Operators.{int_fine, bool_fine, int_of}

-- ---- expressions

-- What an expression gives is a value of its type, and so are the items of an array elements. No failure is that an operand
-- is no number.
pub record Sound (world : World) (values : Env) (x : TypedExpr) : Type 0 where
  pub ty : (node_of world values x).ty ≡ x.ty
  pub value : GoodValue (out-Ty x.ty) (value_of world values x)
  pub items : AllByRecursion (GoodValue Ty-F.Bytes) (items_of world values x)

abbrev pub nodes : World → Env → List TypedExpr → List Node
nodes world values args = map (node_of world values) args

pub then_one : (layer next : TyLayer) (value : Value) (f : List ℕ → Value) → GoodValue layer value → ((e : List ℕ) → Holds layer e → GoodValue next (f e))
    → GoodValue next (element value >>= f)
then_one layer next value f h more = bind (Holds layer) (HoldsGiven next) (element value) f (element_good layer value h) more

-- ---- what a call wants

record Called (callee : Callee) (span : Span) (args : List TypedExpr) (t : Ty) : Type 0 where
  first : (u : Unit {0}) × (accepted_at span (signature callee).first args 0 ≡ Ok u)
  second : (u : Unit {0}) × (accepted_at span (signature callee).second args 1 ≡ Ok u)
  third : (u : Unit {0}) × (accepted_at span (signature callee).third args 2 ≡ Ok u)
  answer : given callee ≡ t

called : (span : Span) (callee : Callee) (args : List TypedExpr) (t : Ty) → call_type span callee args ≡ Ok t → Called callee span args t
unfolding call_type
called span callee args t e =
    let s = signature callee in
    let a = ok_bind (counted span s (length args)) (λ n. keys_counted span callee (items_at args 1) >>= λ k. arguments_suit span s args >>= λ a. sigs_counted span callee (items_at args 0) (items_at args 1) >>= λ s. Ok (given callee)) t e in
    let b = ok_bind (keys_counted span callee (items_at args 1)) (λ k. arguments_suit span s args >>= λ a. sigs_counted span callee (items_at args 0) (items_at args 1) >>= λ s. Ok (given callee)) t a.2 in
    let c = ok_bind (arguments_suit span s args) (λ a. sigs_counted span callee (items_at args 0) (items_at args 1) >>= λ s. Ok (given callee)) t b.2 in
    let d = ok_bind (sigs_counted span callee (items_at args 0) (items_at args 1)) (λ s. Ok (given callee)) t c.2 in
    let p = ok_bind (accepted_at span s.first args 0) (λ u. accepted_at span s.second args 1 >>= λ v. accepted_at span s.third args 2) c.0 c.1 in
    let q = ok_bind (accepted_at span s.second args 1) (λ v. accepted_at span s.third args 2) c.0 p.2 in
    record { first = (p.0, p.1); second = (q.0, q.1); third = (c.0, q.2); answer = ok_same (given callee) t d.2 }

wants_int : (span : Span) (args : List TypedExpr) (at : ℕ) (a : TypedExpr) → slice_get args at ≡ Some a
    → ((u : Unit {0}) × (accepted_at span (Some wants.Int) args at ≡ Ok u)) → fits ty.Int a.ty ≡ true
wants_int span args at a is h =
    let found : accepted span (Some wants.Int) (Some a) ≡ Ok h.0 = subst (λ o. accepted span (Some wants.Int) o ≡ Ok h.0) is h.1 in
    is_allowed span (fits ty.Int a.ty) ty.Int a.ty h.0 found

-- ---- operations on arguments

one_good : (world : World) (values : Env) (span : Span) (op : Op1) (layer : TyLayer) (args : List TypedExpr) → AllByRecursion (Sound world values) args
    → ((a : TypedExpr) → args ≡ a ∷ [] → (x : List ℕ) → Holds (out-Ty a.ty) x → Fine (Holds layer) (result1 op x))
    → GoodValue layer (form_value world span (forms.One op) (nodes world values args))
one_good world values span op layer [] all more = refl
one_good world values span op layer (a ∷ []) all more =
    then_one (out-Ty a.ty) layer (value_of world values a) _ all.0.value (λ x h. applied_good layer span (result1 op x) (more a refl x h))
one_good world values span op layer (a ∷ b ∷ rest) all more = refl

two_good : (world : World) (values : Env) (span : Span) (op : Op2) (layer : TyLayer) (args : List TypedExpr) → AllByRecursion (Sound world values) args
    → ((a b : TypedExpr) → args ≡ a ∷ b ∷ [] → (x y : List ℕ) → Holds (out-Ty a.ty) x → Holds (out-Ty b.ty) y → Fine (Holds layer) (result2 op x y))
    → GoodValue layer (form_value world span (forms.Two op) (nodes world values args))
two_good world values span op layer [] all more = refl
two_good world values span op layer (a ∷ []) all more = refl
two_good world values span op layer (a ∷ b ∷ []) all more =
    then_one (out-Ty a.ty) layer (value_of world values a) _ all.0.value (λ x h.
    then_one (out-Ty b.ty) layer (value_of world values b) _ all.1.0.value (λ y k. applied_good layer span (result2 op x y) (more a b refl x y h k)))
two_good world values span op layer (a ∷ b ∷ c ∷ rest) all more = refl

within_good : (world : World) (values : Env) (span : Span) (layer : TyLayer) (args : List TypedExpr) → AllByRecursion (Sound world values) args
    → ((a b c : TypedExpr) → args ≡ a ∷ b ∷ c ∷ [] → (x y z : List ℕ) → Holds (out-Ty a.ty) x → Holds (out-Ty b.ty) y → Holds (out-Ty c.ty) z → Fine (Holds layer) (result3 op3.Within x y z))
    → GoodValue layer (form_value world span (forms.Three op3.Within) (nodes world values args))
within_good world values span layer [] all more = refl
within_good world values span layer (a ∷ []) all more = refl
within_good world values span layer (a ∷ b ∷ []) all more = refl
within_good world values span layer (a ∷ b ∷ c ∷ []) all more =
    then_one (out-Ty a.ty) layer (value_of world values a) _ all.0.value (λ x h.
    then_one (out-Ty b.ty) layer (value_of world values b) _ all.1.0.value (λ y k.
    then_one (out-Ty c.ty) layer (value_of world values c) _ all.1.1.0.value (λ z m. applied_good layer span (result3 op3.Within x y z) (more a b c refl x y z h k m))))
within_good world values span layer (a ∷ b ∷ c ∷ d ∷ rest) all more = refl

-- ---- checks of signatures

sig_good : (world : World) (values : Env) (span : Span) (layer : TyLayer) (args : List TypedExpr) → AllByRecursion (Sound world values) args
    → ((r : Result Bool Cause) → Calm r → Fine (Holds layer) (verdict_result r))
    → GoodValue layer (form_value world span forms.CheckSig (nodes world values args))
sig_good world values span layer [] all more = refl
sig_good world values span layer (a ∷ []) all more = refl
sig_good world values span layer (a ∷ b ∷ []) all more =
    then_one (out-Ty a.ty) layer (value_of world values a) _ all.0.value (λ x h.
    then_one (out-Ty b.ty) layer (value_of world values b) _ all.1.0.value (λ y k. applied_good layer span _ (more _ (single_calm world.verdicts _ x y []))))
sig_good world values span layer (a ∷ b ∷ c ∷ rest) all more = refl

data_good : (world : World) (values : Env) (span : Span) (layer : TyLayer) (args : List TypedExpr) → AllByRecursion (Sound world values) args
    → ((r : Result Bool Cause) → Calm r → Fine (Holds layer) (verdict_result r))
    → GoodValue layer (form_value world span forms.CheckData (nodes world values args))
data_good world values span layer [] all more = refl
data_good world values span layer (a ∷ []) all more = refl
data_good world values span layer (a ∷ b ∷ []) all more = refl
data_good world values span layer (a ∷ b ∷ c ∷ []) all more =
    then_one (out-Ty a.ty) layer (value_of world values a) _ all.0.value (λ x h.
    then_one (out-Ty b.ty) layer (value_of world values b) _ all.1.0.value (λ y k.
    then_one (out-Ty c.ty) layer (value_of world values c) _ all.1.1.0.value (λ z m. applied_good layer span _ (more _ (single_calm world.verdicts _ x z _)))))
data_good world values span layer (a ∷ b ∷ c ∷ d ∷ rest) all more = refl

elements_good : (all : List Value) → AllByRecursion (GoodValue Ty-F.Bytes) all → Good (λ es. Unit {0}) (elements all)
elements_good [] h = tt
elements_good (value ∷ rest) h =
    bind (Holds Ty-F.Bytes) (λ es. Unit {0}) (element value) _ (element_good Ty-F.Bytes value h.0) (λ e k.
    bind (λ es. Unit {0}) (λ es. Unit {0}) (elements rest) _ (elements_good rest h.1) (λ es u. tt))

multi_good : (world : World) (values : Env) (span : Span) (layer : TyLayer) (args : List TypedExpr) → AllByRecursion (Sound world values) args
    → ((r : Result Bool Cause) → Calm r → Fine (Holds layer) (verdict_result r))
    → GoodValue layer (form_value world span forms.CheckMulti (nodes world values args))
multi_good world values span layer [] all more = refl
multi_good world values span layer (a ∷ []) all more = refl
multi_good world values span layer (a ∷ b ∷ []) all more =
    bind (λ es. Unit {0}) (HoldsGiven layer) (elements (items_of world values a)) _ (elements_good (items_of world values a) all.0.items) (λ sigs u.
    bind (λ es. Unit {0}) (HoldsGiven layer) (elements (items_of world values b)) _ (elements_good (items_of world values b) all.1.0.items) (λ keys v.
    applied_good layer span _ (more _ (multi_calm world.verdicts sigs keys))))
multi_good world values span layer (a ∷ b ∷ c ∷ rest) all more = refl

-- ---- instantiations

appended_good : (span : Span) (a b : List ℕ) → IsBytes a → IsBytes b → Good IsElement (appended span a b)
appended_good span a b ha hb = placed IsElement span (joined a b) (joined_fine a b ha hb)

front_bytes : (lock : Lock) → IsBytes (lock_front lock)
front_bytes locks.KeyHash = (lit< tt, (lit< tt, (lit< tt, tt)))
front_bytes locks.ScriptHash = (lit< tt, (lit< tt, tt))

back_bytes : (lock : Lock) → IsBytes (lock_back lock)
back_bytes locks.KeyHash = (lit< tt, (lit< tt, tt))
back_bytes locks.ScriptHash = (lit< tt, tt)

whole_good : (layer : TyLayer) (r : Result (List ℕ) Failure) → ((e : List ℕ) → LayerHolds layer e) → Good IsElement r → GoodValue layer (r >>= λ whole. Ok (One whole))
whole_good layer (Ok e) holds h = record { left = record { fits = holds e; element = h }; right = h }
whole_good layer (Err failure) holds h = h

locks_good : (world : World) (values : Env) (span : Span) (lock : Lock) (layer : TyLayer) (args : List TypedExpr) → AllByRecursion (Sound world values) args
    → ((e : List ℕ) → LayerHolds layer e) → GoodValue layer (form_value world span (forms.Locks lock) (nodes world values args))
locks_good world values span lock layer [] all holds = refl
locks_good world values span lock layer (a ∷ []) all holds =
    then_one (out-Ty a.ty) layer (value_of world values a) _ all.0.value (λ hash h.
    whole_good layer (locked span lock hash) holds
    (bind IsElement IsElement (appended span (lock_front lock) hash) _ (appended_good span (lock_front lock) hash (front_bytes lock) h.element.bytes)
    (λ so_far k. appended_good span so_far (lock_back lock) k.bytes (back_bytes lock))))
locks_good world values span lock layer (a ∷ b ∷ rest) all holds = refl

prefix_bytes : (n : ℕ) → n ≤ 520 → IsBytes (push_prefix n)
prefix_bytes n small = by_size (leb n 75) (leb n 255) refl refl
  where
    by_size : (s t : Bool) → leb n 75 ≡ s → leb n 255 ≡ t → IsBytes (cond s (n ∷ []) (cond t (0x4c ∷ n ∷ []) (0x4d ∷ (n % 256) ∷ (n / 256) ∷ [])))
    by_size true t is then = let less = leb-true n 75 is in (omega (arith, less), tt)
    by_size false true is then = let less = leb-true n 255 then in (lit< tt, (omega (arith, less), tt))
    by_size false false is then = (lit< tt, (omega arith, (omega (arith, small), tt)))

chunks_good : (span : Span) (so_far : List ℕ) (all : List Value) → IsElement so_far → AllByRecursion (GoodValue Ty-F.Bytes) all → Good IsElement (with_chunks span so_far all)
chunks_good span so_far [] h k = h
chunks_good span so_far (value ∷ rest) h k =
    bind (Holds Ty-F.Bytes) IsElement (element value) _ (element_good Ty-F.Bytes value k.0) (λ chunk c.
    bind IsElement IsElement (appended span so_far (pushed_chunk chunk)) _
    (appended_good span so_far (pushed_chunk chunk) h.bytes (bytes_appended (push_prefix (length chunk)) chunk (prefix_bytes (length chunk) c.element.size) c.element.bytes))
    (λ next n. chunks_good span next rest n k.1))

front_element : IsElement data_front
front_element = record { size = omega arith; bytes = (lit< tt, tt) }

chunked_good : (world : World) (values : Env) (span : Span) (layer : TyLayer) (args : List TypedExpr) → AllByRecursion (Sound world values) args
    → ((e : List ℕ) → LayerHolds layer e) → GoodValue layer (form_value world span forms.HoldsData (nodes world values args))
chunked_good world values span layer [] all holds = refl
chunked_good world values span layer (a ∷ []) all holds =
    whole_good layer (with_chunks span data_front (items_of world values a)) holds (chunks_good span data_front (items_of world values a) front_element all.0.items)
chunked_good world values span layer (a ∷ b ∷ rest) all holds = refl

-- ---- all calls

loosely_given : (w t : Ty) → IsLoose w → w ≡ t → (e : List ℕ) → LayerHolds (out-Ty t) e
loosely_given w t is same e = loose (out-Ty t) e (subst IsLoose same is)

hash_good : (laws : Laws) (world : World) (values : Env) (span : Span) (op : Op1) (w t : Ty) (args : List TypedExpr) → AllByRecursion (Sound world values) args
    → IsLoose w → w ≡ t → ((x : List ℕ) → Calm (result1 op x)) → GoodValue (out-Ty t) (form_value world span (forms.One op) (nodes world values args))
hash_good laws world values span op w t args all is same calm =
    one_good world values span op (out-Ty t) args all (λ a one x h. obeyed _ _ (out-Ty t) (result1 op x) (laws.one op x h.element) (calm x) (λ e k. loosely_given w t is same e))

numbers_good : (laws : Laws) (world : World) (values : Env) (span : Span) (op : Op2) (t : Ty) (args : List TypedExpr) → AllByRecursion (Sound world values) args → ty.Int ≡ t
    → ((u : Unit {0}) × (accepted_at span (Some wants.Int) args 0 ≡ Ok u)) → ((u : Unit {0}) × (accepted_at span (Some wants.Int) args 1 ≡ Ok u))
    → ((x y : List ℕ) → IsNumber x → IsNumber y → IsElement x → IsElement y → Fine (Holds Ty-F.Int) (result2 op x y))
    → GoodValue (out-Ty t) (form_value world span (forms.Two op) (nodes world values args))
numbers_good laws world values span op t args all same first second fine =
    two_good world values span op (out-Ty t) args all (λ a b two x y h k.
    int_fine t (result2 op x y) same (fine x y
    (int_of a.ty x (wants_int span args 0 a (ap (λ l. slice_get l 0) two) first) h)
    (int_of b.ty y (wants_int span args 1 b (ap (λ l. slice_get l 1) two) second) k) h.element k.element))

known_good : (laws : Laws) (world : World) (values : Env) (span : Span) (f : Builtin) (args : List TypedExpr) (t : Ty) → AllByRecursion (Sound world values) args
    → Called (callees.Known f) span args t → GoodValue (out-Ty t) (call_value world span (callees.Known f) (nodes world values args))
unfolding signature
known_good laws world values span builtins.Abs args t all h =
    one_good world values span op1.Abs (out-Ty t) args all (λ a one x k.
    int_fine t (result1 op1.Abs x) h.answer (obeyed _ _ Ty-F.Int (result1 op1.Abs x) (laws.one op1.Abs x k.element)
    (calm1 op1.Abs x (int_of a.ty x (wants_int span args 0 a (ap (λ l. slice_get l 0) one) h.first) k)) number_is))
known_good laws world values span builtins.Min args t all h =
    numbers_good laws world values span op2.Min t args all h.answer h.first h.second
    (λ x y p q m n. obeyed _ _ Ty-F.Int (result2 op2.Min x y) (laws.two op2.Min x y m n) (calm2 op2.Min x y p q) number_is)
known_good laws world values span builtins.Max args t all h =
    numbers_good laws world values span op2.Max t args all h.answer h.first h.second
    (λ x y p q m n. obeyed _ _ Ty-F.Int (result2 op2.Max x y) (laws.two op2.Max x y m n) (calm2 op2.Max x y p q) number_is)
known_good laws world values span builtins.Within args t all h =
    within_good world values span (out-Ty t) args all (λ a b c three x y z p q r.
    bool_fine t (result3 op3.Within x y z) h.answer (obeyed _ _ Ty-F.Bool (result3 op3.Within x y z) (laws.three op3.Within x y z p.element q.element r.element)
    (calm3 op3.Within x y z
    (int_of a.ty x (wants_int span args 0 a (ap (λ l. slice_get l 0) three) h.first) p)
    (int_of b.ty y (wants_int span args 1 b (ap (λ l. slice_get l 1) three) h.second) q)
    (int_of c.ty z (wants_int span args 2 c (ap (λ l. slice_get l 2) three) h.third) r)) truth_is))
known_good laws world values span builtins.Ripemd160 args t all h = hash_good laws world values span op1.Ripemd160 (ty.BytesN 20) t args all (loose_bytes_n 20) h.answer (λ x. tt)
known_good laws world values span builtins.Sha1 args t all h = hash_good laws world values span op1.Sha1 (ty.BytesN 20) t args all (loose_bytes_n 20) h.answer (λ x. tt)
known_good laws world values span builtins.Sha256 args t all h = hash_good laws world values span op1.Sha256 (ty.BytesN 32) t args all (loose_bytes_n 32) h.answer (λ x. tt)
known_good laws world values span builtins.Hash160 args t all h = hash_good laws world values span op1.Hash160 (ty.BytesN 20) t args all (loose_bytes_n 20) h.answer (λ x. tt)
known_good laws world values span builtins.Hash256 args t all h = hash_good laws world values span op1.Hash256 (ty.BytesN 32) t args all (loose_bytes_n 32) h.answer (λ x. tt)
known_good laws world values span builtins.CheckSig args t all h =
    sig_good world values span (out-Ty t) args all (λ r calm. bool_fine t (verdict_result r) h.answer (verdict_fine r calm))
known_good laws world values span builtins.CheckDataSig args t all h =
    data_good world values span (out-Ty t) args all (λ r calm. bool_fine t (verdict_result r) h.answer (verdict_fine r calm))
known_good laws world values span builtins.CheckMultiSig args t all h =
    multi_good world values span (out-Ty t) args all (λ r calm. bool_fine t (verdict_result r) h.answer (verdict_fine r calm))
known_good laws world values span builtins.LockingBytecodeP2PKH args t all h =
    locks_good world values span locks.KeyHash (out-Ty t) args all (loosely_given (ty.BytesN 25) t (loose_bytes_n 25) h.answer)
known_good laws world values span builtins.LockingBytecodeP2SH args t all h =
    locks_good world values span locks.ScriptHash (out-Ty t) args all (loosely_given (ty.BytesN 23) t (loose_bytes_n 23) h.answer)
known_good laws world values span builtins.LockingBytecodeNullData args t all h =
    chunked_good world values span (out-Ty t) args all (loosely_given ty.Bytes t loose_bytes h.answer)

pub call_good : (laws : Laws) (world : World) (values : Env) (span : Span) (callee : Callee) (args : List TypedExpr) (t : Ty) → AllByRecursion (Sound world values) args
    → call_type span callee args ≡ Ok t → GoodValue (out-Ty t) (call_value world span callee (nodes world values args))
call_good laws world values span (callees.Known f) args t all e = known_good laws world values span f args t all (called span (callees.Known f) args t e)
call_good laws world values span (callees.Unknown name) args t all e = refl
