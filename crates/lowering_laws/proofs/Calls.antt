-- The arguments that a call wants are ready.
use Rattle.std.proofs.Common.{◌≡◌, ◌∙◌, ◌<◌, ◌≤◌, ap, sym, subst, refl, ℕ, ◌+◌, ◌==◌, Bool, true, false, List, [], ◌∷◌, length, map, Some, None, Option, Ok, Err, arith}
use Rattle.std.specs.Prelude.{◌&&◌, nat_lt, nat_le, slice_get, if◌then◌else◌}
use Rattle.std.specs.List.{AllByRecursion}
use Rattle.std.proofs.lemmas.Bool.{eqb-true}
use Rattle.std.proofs.lemmas.Bool.Decides.{nat_tests}
use Rattle.cash_base.specs.declared.place.Span.{Span}
use Rattle.cash_base.specs.declared.place.Slot.{Slot}
use Rattle.cash_base.specs.Failing.{◌>>=◌}
use Rattle.cash_tree.specs.declared.Ty.{Ty}
use Rattle.cash_tree.specs.declared.Ty.TheVariants as ty
use Rattle.cash_tree.specs.declared.Ty.TheOpen.{Ty-F}
use Rattle.cash_tree.specs.declared.Ty.TheViews.{out-Ty}
use Rattle.cash_tree.specs.declared.Builtin.{Builtin}
use Rattle.cash_tree.specs.declared.Builtin.TheVariants as builtins
use Rattle.cash_tree.specs.declared.Callee.{Callee}
use Rattle.cash_tree.specs.declared.Callee.TheVariants as callees
use Rattle.type_tables.specs.declared.rules.Item.{Item}
use Rattle.type_tables.specs.declared.rules.Item.TheVariants as items
use Rattle.type_tables.specs.declared.rules.Want.{Want}
use Rattle.type_tables.specs.declared.rules.Want.TheVariants as wants
use Rattle.type_tables.specs.declared.rules.Signature.{Signature}
use Rattle.type_tables.specs.declared.fault.TypeFault.{TypeFault}
use Rattle.type_tables.specs.Tables.{Answer, TypedExpr, fits, signature, given, count, counted, is_multi, keys_counted, sigs_counted, accepts, is_array_of, is_array_layer as is_item_layer, want_type, accepted, accepted_at, arguments_suit, items_at, item_count, place_at, call_type, is_single}
use Rattle.form_tables.specs.declared.forms.CallForm.{CallForm}
use Rattle.form_tables.specs.declared.forms.CallForm.TheVariants as forms
use Rattle.form_tables.specs.Forms.{call_form}
use Rattle.source_meaning.specs.Runnable.{all_of}
use Rattle.slot_expressions.specs.Ready.{Known-names, Node, counts_fit, form_ready, call_ready, ready_node, is_ready, ready_items}
use Rattle.type_check.proofs.Typed.{ok_bind, ok_same}
use Rattle.type_soundness.proofs.Holds.{TyLayer}
use Rattle.type_soundness.proofs.Types.{is_allowed}
use Rattle.lowering_laws.specs.Laws.{is_of_language}
use Rattle.lowering_laws.proofs.Induction.{AllAt}
use Rattle.lowering_laws.proofs.Singles.{is_array, is_array_layer, no_array, fits_single, single_int, single_bool, single_bytes, single_bytes_n}
use Rattle.lowering_laws.proofs.Facts.{Asked, Fine}

-- ---- what a call wants

abbrev Accepts : Span → Option Want → List TypedExpr → ℕ → Type 0
Accepts span want args at = (u : Unit {0}) × (accepted_at span want args at ≡ Ok u)

record Called (callee : Callee) (span : Span) (args : List TypedExpr) (t : Ty) : Type 0 where
  count : length args ≡ count (signature callee)
  keys : (is_multi callee && nat_lt 20 (items_at args 1)) ≡ false
  first : Accepts span (signature callee).first args 0
  second : Accepts span (signature callee).second args 1
  third : Accepts span (signature callee).third args 2
  sigs : (is_multi callee && nat_lt (items_at args 1) (items_at args 0)) ≡ false
  answer : given callee ≡ t

if_ok : (b : Bool) (fault : TypeFault) (u : Unit {0}) → ◌≡◌ {A = Answer (Unit {0})} (if b then Ok tt else Err fault) (Ok u) → b ≡ true
if_ok true fault u e = refl
if_ok false fault u e = absurd cc

if_not : (b : Bool) (fault : TypeFault) (u : Unit {0}) → ◌≡◌ {A = Answer (Unit {0})} (if b then Err fault else Ok tt) (Ok u) → b ≡ false
if_not true fault u e = absurd cc
if_not false fault u e = refl

called : (span : Span) (callee : Callee) (args : List TypedExpr) (t : Ty) → call_type span callee args ≡ Ok t → Called callee span args t
unfolding call_type
called span callee args t e =
    let s = signature callee in
    let a = ok_bind (counted span s (length args)) (λ n. keys_counted span callee (items_at args 1) >>= λ k. arguments_suit span s args >>= λ a. sigs_counted span callee (items_at args 0) (items_at args 1) >>= λ s. Ok (given callee)) t e in
    let b = ok_bind (keys_counted span callee (items_at args 1)) (λ k. arguments_suit span s args >>= λ a. sigs_counted span callee (items_at args 0) (items_at args 1) >>= λ s. Ok (given callee)) t a.2 in
    let c = ok_bind (arguments_suit span s args) (λ a. sigs_counted span callee (items_at args 0) (items_at args 1) >>= λ s. Ok (given callee)) t b.2 in
    let d = ok_bind (sigs_counted span callee (items_at args 0) (items_at args 1)) (λ s. Ok (given callee)) t c.2 in
    let p = ok_bind (accepted_at span s.first args 0) (λ u. accepted_at span s.second args 1 >>= λ v. accepted_at span s.third args 2) c.0 c.1 in
    let q = ok_bind (accepted_at span s.second args 1) (λ v. accepted_at span s.third args 2) c.0 p.2 in record {
      count = eqb-true (length args) (count s) (if_ok (length args == count s) _ a.0 a.1);
      keys = if_not (is_multi callee && nat_lt 20 (items_at args 1)) _ b.0 b.1;
      first = (p.0, p.1);
      second = (q.0, q.1);
      third = (c.0, q.2);
      sigs = if_not (is_multi callee && nat_lt (items_at args 1) (items_at args 0)) _ d.0 d.1;
      answer = ok_same (given callee) t d.2;
    }

-- an element, and no array
abbrev takes_value : Want → Bool
takes_value (wants.Items item) = false
takes_value _ = true

value_wanted : (want : Want) (t : Ty) → takes_value want ≡ true → accepts want t ≡ true → is_array t ≡ false
value_wanted wants.Int t value is = no_array t (fits_single (want_type wants.Int) t is)
value_wanted wants.Single t value is = no_array t is
value_wanted wants.Sig t value is = no_array t (fits_single (want_type wants.Sig) t is)
value_wanted wants.Pubkey t value is = no_array t (fits_single (want_type wants.Pubkey) t is)
value_wanted wants.Datasig t value is = no_array t (fits_single (want_type wants.Datasig) t is)
value_wanted wants.Bytes t value is = no_array t (fits_single (want_type wants.Bytes) t is)
value_wanted wants.Hash t value is = no_array t (fits_single (want_type wants.Hash) t is)
value_wanted (wants.Items item) t value is = absurd cc

array_layer : (item : Item) (layer : TyLayer) → is_item_layer item layer ≡ true → is_array_layer layer ≡ true
array_layer item (Ty-F.Array other) is = refl
array_layer item Ty-F.Int is = absurd cc
array_layer item Ty-F.Bool is = absurd cc
array_layer item Ty-F.Text is = absurd cc
array_layer item Ty-F.Bytes is = absurd cc
array_layer item (Ty-F.BytesN n) is = absurd cc
array_layer item Ty-F.Pubkey is = absurd cc
array_layer item Ty-F.Sig is = absurd cc
array_layer item Ty-F.Datasig is = absurd cc
array_layer item (Ty-F.Pair left right) is = absurd cc

accepted_is : (span : Span) (want : Want) (a : TypedExpr) → ((u : Unit {0}) × (accepted span (Some want) (Some a) ≡ Ok u)) → accepts want a.ty ≡ true
accepted_is span want a h = is_allowed span (accepts want a.ty) (want_type want) a.ty h.0 h.1

-- ---- so many arguments

abbrev One : Known-names → List TypedExpr → Type 0
One known args = (a : TypedExpr) × (args ≡ a ∷ []) × (is_ready known a ≡ true)

abbrev Two : Known-names → List TypedExpr → Type 0
Two known args = (a b : TypedExpr) × (args ≡ a ∷ b ∷ []) × (is_ready known a ≡ true) × (is_ready known b ≡ true)

abbrev Three : Known-names → List TypedExpr → Type 0
Three known args = (a b c : TypedExpr) × (args ≡ a ∷ b ∷ c ∷ []) × (is_ready known a ≡ true) × (is_ready known b ≡ true) × (is_ready known c ≡ true)

one_of : (known : Known-names) (s : Signature) (span : Span) (args : List TypedExpr) (w : Want) → takes_value w ≡ true → AllAt (Fine known) s 0 args → AllByRecursion (Asked known) args
    → length args ≡ 1 → Accepts span (Some w) args 0 → One known args
one_of known s span [] w value all asked n h = absurd (grind (arith, n))
one_of known s span (a ∷ []) w value all asked n h = (a, refl, all.0.value (value_wanted w a.ty value (accepted_is span w a h)) asked.0)
one_of known s span (a ∷ b ∷ rest) w value all asked n h = absurd (grind (arith, n))

two_of : (known : Known-names) (s : Signature) (span : Span) (args : List TypedExpr) (w v : Want) → takes_value w ≡ true → takes_value v ≡ true → AllAt (Fine known) s 0 args → AllByRecursion (Asked known) args
    → length args ≡ 2 → Accepts span (Some w) args 0 → Accepts span (Some v) args 1 → Two known args
two_of known s span [] w v value other all asked n h k = absurd (grind (arith, n))
two_of known s span (a ∷ []) w v value other all asked n h k = absurd (grind (arith, n))
two_of known s span (a ∷ b ∷ []) w v value other all asked n h k =
    (a, b, refl, all.0.value (value_wanted w a.ty value (accepted_is span w a h)) asked.0, all.1.0.value (value_wanted v b.ty other (accepted_is span v b k)) asked.1.0)
two_of known s span (a ∷ b ∷ c ∷ rest) w v value other all asked n h k = absurd (grind (arith, n))

three_of : (known : Known-names) (s : Signature) (span : Span) (args : List TypedExpr) (w v u : Want) → takes_value w ≡ true → takes_value v ≡ true → takes_value u ≡ true → AllAt (Fine known) s 0 args → AllByRecursion (Asked known) args
    → length args ≡ 3 → Accepts span (Some w) args 0 → Accepts span (Some v) args 1 → Accepts span (Some u) args 2 → Three known args
three_of known s span [] w v u x y z all asked n h k l = absurd (grind (arith, n))
three_of known s span (a ∷ []) w v u x y z all asked n h k l = absurd (grind (arith, n))
three_of known s span (a ∷ b ∷ []) w v u x y z all asked n h k l = absurd (grind (arith, n))
three_of known s span (a ∷ b ∷ c ∷ []) w v u x y z all asked n h k l =
    (a, b, c, refl, all.0.value (value_wanted w a.ty x (accepted_is span w a h)) asked.0, all.1.0.value (value_wanted v b.ty y (accepted_is span v b k)) asked.1.0, all.1.1.0.value (value_wanted u c.ty z (accepted_is span u c l)) asked.1.1.0)
three_of known s span (a ∷ b ∷ c ∷ d ∷ rest) w v u x y z all asked n h k l = absurd (grind (arith, n))

and_true : (a b : Bool) → a ≡ true → b ≡ true → (a && b) ≡ true
and_true a b is also = ap (λ c. c && b) is ∙ also

by_one : (known : Known-names) (form : CallForm) (args : List TypedExpr) → ((a : TypedExpr) → form_ready form (ready_node known a ∷ []) ≡ is_ready known a) → One known args → form_ready form (map (ready_node known) args) ≡ true
by_one known form args form_is h = ap (λ l. form_ready form (map (ready_node known) l)) h.1 ∙ form_is h.0 ∙ h.2

by_two : (known : Known-names) (form : CallForm) (args : List TypedExpr) → ((a b : TypedExpr) → form_ready form (ready_node known a ∷ ready_node known b ∷ []) ≡ (is_ready known a && is_ready known b)) → Two known args
    → form_ready form (map (ready_node known) args) ≡ true
by_two known form args form_is h = ap (λ l. form_ready form (map (ready_node known) l)) h.2 ∙ form_is h.0 h.1 ∙ and_true (is_ready known h.0) (is_ready known h.1) h.3 h.4

by_three : (known : Known-names) (form : CallForm) (args : List TypedExpr)
    → ((a b c : TypedExpr) → form_ready form (ready_node known a ∷ ready_node known b ∷ ready_node known c ∷ []) ≡ (is_ready known a && (is_ready known b && is_ready known c))) → Three known args
    → form_ready form (map (ready_node known) args) ≡ true
by_three known form args form_is h =
    ap (λ l. form_ready form (map (ready_node known) l)) h.3 ∙ form_is h.0 h.1 h.2
    ∙ and_true (is_ready known h.0) (is_ready known h.1 && is_ready known h.2) h.4 (and_true (is_ready known h.1) (is_ready known h.2) h.5 h.6)

-- ---- arrays

data_of : (known : Known-names) (s : Signature) (span : Span) (args : List TypedExpr) → place_at s 0 ≡ Some items.Bytes → AllAt (Fine known) s 0 args → AllByRecursion (Asked known) args
    → length args ≡ 1 → Accepts span (Some (wants.Items items.Bytes)) args 0 → form_ready forms.HoldsData (map (ready_node known) args) ≡ true
data_of known s span [] at all asked n h = absurd (grind (arith, n))
data_of known s span (a ∷ []) at all asked n h = all.0.items items.Bytes at (array_layer items.Bytes (out-Ty a.ty) (accepted_is span (wants.Items items.Bytes) a h)) asked.0
data_of known s span (a ∷ b ∷ rest) at all asked n h = absurd (grind (arith, n))

fit_counts : (sigs keys n m : ℕ) → sigs ≡ n → keys ≡ m → nat_lt 20 m ≡ false → nat_lt m n ≡ false → counts_fit sigs keys ≡ true
fit_counts sigs keys n m sigs_are keys_are few less =
    and_true (nat_le keys 20) (nat_le sigs keys) (grind (arith, nat_tests, keys_are, few)) (grind (arith, nat_tests, sigs_are, keys_are, less))

multi_of : (known : Known-names) (s : Signature) (span : Span) (args : List TypedExpr) → place_at s 0 ≡ Some items.Sig → place_at s 1 ≡ Some items.Pubkey → AllAt (Fine known) s 0 args → AllByRecursion (Asked known) args
    → length args ≡ 2 → Accepts span (Some (wants.Items items.Sig)) args 0 → Accepts span (Some (wants.Items items.Pubkey)) args 1
    → nat_lt 20 (items_at args 1) ≡ false → nat_lt (items_at args 1) (items_at args 0) ≡ false → form_ready forms.CheckMulti (map (ready_node known) args) ≡ true
multi_of known s span [] at next all asked n h k few less = absurd (grind (arith, n))
multi_of known s span (a ∷ []) at next all asked n h k few less = absurd (grind (arith, n))
multi_of known s span (a ∷ b ∷ []) at next all asked n h k few less =
    let first = all.0.items items.Sig at (array_layer items.Sig (out-Ty a.ty) (accepted_is span (wants.Items items.Sig) a h)) asked.0 in
    let second = all.1.0.items items.Pubkey next (array_layer items.Pubkey (out-Ty b.ty) (accepted_is span (wants.Items items.Pubkey) b k)) asked.1.0 in
    and_true (counts_fit (length (ready_items known a)) (length (ready_items known b))) (all_of (ready_items known a) && all_of (ready_items known b))
    (fit_counts (length (ready_items known a)) (length (ready_items known b)) (item_count a.kind) (item_count b.kind) all.0.count all.1.0.count few less)
    (and_true (all_of (ready_items known a)) (all_of (ready_items known b)) first second)
multi_of known s span (a ∷ b ∷ c ∷ rest) at next all asked n h k few less = absurd (grind (arith, n))

-- ---- all calls

known_ready : (known : Known-names) (span : Span) (f : Builtin) (args : List TypedExpr) (t : Ty) → Called (callees.Known f) span args t → AllAt (Fine known) (signature (callees.Known f)) 0 args
    → AllByRecursion (Asked known) args → call_ready (callees.Known f) (map (ready_node known) args) ≡ true
unfolding signature place_at
known_ready known span builtins.Abs args t h all asked = by_one known (call_form builtins.Abs) args (λ a. refl) (one_of known (signature (callees.Known builtins.Abs)) span args wants.Int refl all asked h.count h.first)
known_ready known span builtins.Min args t h all asked = by_two known (call_form builtins.Min) args (λ a b. refl) (two_of known (signature (callees.Known builtins.Min)) span args wants.Int wants.Int refl refl all asked h.count h.first h.second)
known_ready known span builtins.Max args t h all asked = by_two known (call_form builtins.Max) args (λ a b. refl) (two_of known (signature (callees.Known builtins.Max)) span args wants.Int wants.Int refl refl all asked h.count h.first h.second)
known_ready known span builtins.Within args t h all asked =
    by_three known (call_form builtins.Within) args (λ a b c. refl) (three_of known (signature (callees.Known builtins.Within)) span args wants.Int wants.Int wants.Int refl refl refl all asked h.count h.first h.second h.third)
known_ready known span builtins.Ripemd160 args t h all asked = by_one known (call_form builtins.Ripemd160) args (λ a. refl) (one_of known (signature (callees.Known builtins.Ripemd160)) span args wants.Single refl all asked h.count h.first)
known_ready known span builtins.Sha1 args t h all asked = by_one known (call_form builtins.Sha1) args (λ a. refl) (one_of known (signature (callees.Known builtins.Sha1)) span args wants.Single refl all asked h.count h.first)
known_ready known span builtins.Sha256 args t h all asked = by_one known (call_form builtins.Sha256) args (λ a. refl) (one_of known (signature (callees.Known builtins.Sha256)) span args wants.Single refl all asked h.count h.first)
known_ready known span builtins.Hash160 args t h all asked = by_one known (call_form builtins.Hash160) args (λ a. refl) (one_of known (signature (callees.Known builtins.Hash160)) span args wants.Single refl all asked h.count h.first)
known_ready known span builtins.Hash256 args t h all asked = by_one known (call_form builtins.Hash256) args (λ a. refl) (one_of known (signature (callees.Known builtins.Hash256)) span args wants.Single refl all asked h.count h.first)
known_ready known span builtins.CheckSig args t h all asked = by_two known (call_form builtins.CheckSig) args (λ a b. refl) (two_of known (signature (callees.Known builtins.CheckSig)) span args wants.Sig wants.Pubkey refl refl all asked h.count h.first h.second)
known_ready known span builtins.CheckDataSig args t h all asked =
    by_three known (call_form builtins.CheckDataSig) args (λ a b c. refl) (three_of known (signature (callees.Known builtins.CheckDataSig)) span args wants.Datasig wants.Bytes wants.Pubkey refl refl refl all asked h.count h.first h.second h.third)
known_ready known span builtins.CheckMultiSig args t h all asked = multi_of known (signature (callees.Known builtins.CheckMultiSig)) span args refl refl all asked h.count h.first h.second h.keys h.sigs
known_ready known span builtins.LockingBytecodeP2PKH args t h all asked = by_one known (call_form builtins.LockingBytecodeP2PKH) args (λ a. refl) (one_of known (signature (callees.Known builtins.LockingBytecodeP2PKH)) span args wants.Hash refl all asked h.count h.first)
known_ready known span builtins.LockingBytecodeP2SH args t h all asked = by_one known (call_form builtins.LockingBytecodeP2SH) args (λ a. refl) (one_of known (signature (callees.Known builtins.LockingBytecodeP2SH)) span args wants.Hash refl all asked h.count h.first)
known_ready known span builtins.LockingBytecodeNullData args t h all asked = data_of known (signature (callees.Known builtins.LockingBytecodeNullData)) span args refl all asked h.count h.first

never_unknown : (b : Bool) → b ≡ false → b ≡ true → ⊥
never_unknown b no_is is = let both : false ≡ true = sym no_is ∙ is in absurd cc

pub call_is_ready : (known : Known-names) (span : Span) (callee : Callee) (args : List TypedExpr) (t : Ty) → is_of_language callee ≡ true → call_type span callee args ≡ Ok t
    → AllAt (Fine known) (signature callee) 0 args → AllByRecursion (Asked known) args → call_ready callee (map (ready_node known) args) ≡ true
call_is_ready known span (callees.Known f) args t is e all asked = known_ready known span f args t (called span (callees.Known f) args t e) all asked
call_is_ready known span (callees.Unknown name) args t is e all asked = absurd (never_unknown false refl is)

given_single : (f : Builtin) → is_single (given (callees.Known f)) ≡ true
given_single builtins.Abs = single_int
given_single builtins.Min = single_int
given_single builtins.Max = single_int
given_single builtins.Within = single_bool
given_single builtins.Ripemd160 = single_bytes_n 20
given_single builtins.Sha1 = single_bytes_n 20
given_single builtins.Sha256 = single_bytes_n 32
given_single builtins.Hash160 = single_bytes_n 20
given_single builtins.Hash256 = single_bytes_n 32
given_single builtins.CheckSig = single_bool
given_single builtins.CheckDataSig = single_bool
given_single builtins.CheckMultiSig = single_bool
given_single builtins.LockingBytecodeP2PKH = single_bytes_n 25
given_single builtins.LockingBytecodeP2SH = single_bytes_n 23
given_single builtins.LockingBytecodeNullData = single_bytes

pub call_single : (span : Span) (callee : Callee) (args : List TypedExpr) (t : Ty) → call_type span callee args ≡ Ok t → is_single t ≡ true
call_single span (callees.Known f) args t e = subst (λ w. is_single w ≡ true) (called span (callees.Known f) args t e).answer (given_single f)
call_single span (callees.Unknown name) args t e = subst (λ w. is_single w ≡ true) (called span (callees.Unknown name) args t e).answer single_int
