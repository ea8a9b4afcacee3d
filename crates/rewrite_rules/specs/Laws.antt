-- The law of each rule, by cases on the stack.
use Rattle.std.proofs.Common.{◌≡◌, ℕ, zero, suc, ◌<◌, ◌≤◌, cond, not, ◌&&◌, ◌||◌, Bool, true, false, IsTrue, List, [], ◌∷◌, ◌++◌, length, map, reverse, ℤ, ◌+ℤ◌, ◌*ℤ◌, Option, Some, None, Result, Ok, Err, refl, sym, ap, ◌∙◌, arith}
use Rattle.std.specs.Prelude.{◌==◌, bit_and, bit_or, bit_xor}
use Rattle.std.specs.List.{list_all}
use Rattle.std.specs.Int.{int_min, int_max}
use Rattle.std.specs.Ordering.{int_eq}
use Rattle.std.specs.Str.{bytes_eq}
use Rattle.std.proofs.lemmas.Bool.{and_parts, and_from}
use Rattle.std.proofs.lemmas.Bool.Decides.{Decides-eqb, Decides-int_eq}
use Rattle.std.proofs.lemmas.Slice.Eq.{bytes_eq-Decides}
use Rattle.std.proofs.lemmas.Int.{clamps, ints}
use lib.IntN.{+ℤ_comm, *ℤ_comm}
use lib.Bits.{and_comm, or_comm, xor_comm}
use Rattle.cash_base.specs.declared.fault.Cause.{Cause}
use Rattle.cash_base.specs.declared.fault.Cause.TheVariants.{CheckFailed, LengthDiffers}
use Rattle.cash_base.specs.declared.fault.MachineCause.{MachineCause}
use Rattle.cash_base.specs.declared.fault.MachineCause.TheVariants.{Shared}
use Rattle.cash_base.specs.declared.place.Span.{Span}
use Rattle.cash_base.specs.Failing.{◌>>=◌, ◌>>◌, refused_if}
use Rattle.cash_base.specs.Number.{truth_of, number_of}
use Rattle.cash_base.specs.Operand.{number_or_cause, truth_bytes}
use Rattle.element_ops.specs.declared.op.Op2.TheVariants as op2
use Rattle.element_ops.specs.Operand.{number_element, truth_element}
use Rattle.element_ops.specs.Operation.{Outcome, is_set, pairwise, bytewise, result2}
use Rattle.tx_context.specs.declared.verdict.Kind.TheVariants.{Single, DataSig}
use Rattle.tx_context.specs.Verdict.{single_verdict, multi_verdict}
use Rattle.tx_context.specs.World.{World}
use Rattle.script_codec.specs.declared.instr.Instr.{Instr}
use Rattle.script_codec.specs.declared.spans.Spanned.{Spanned}
use Rattle.opcode_table.specs.Asking.{Asked}
use Rattle.opcode_table.specs.Stack.{Stack, shared}
use Rattle.opcode_table.specs.Deeds.{gives, judged, verified, keys_taken, sigs_taken, checked_many}
use Rattle.opcode_table.specs.Table.{rows}
use Rattle.bch_vm.specs.Board.{Board}
use Rattle.rewrite_rules.specs.declared.rules.Commuting.{Commuting}
use Rattle.rewrite_rules.specs.declared.rules.ByOne.{ByOne}
use Rattle.rewrite_rules.specs.declared.rules.SecondHash.{SecondHash}
use Rattle.row_runs.specs.Rows.{instructions, Fault}
use Rattle.rewrite_rules.specs.Rows.{row, is_plain, told, underflows}
use Rattle.rewrite_rules.specs.Effects.{asked_in, effects, on, live_run}
use Rattle.rewrite_rules.specs.Rules.{Rule, rows_of, window_of, replacement_of, VERIFY, EQUALVERIFY, NUMEQUAL, NUMEQUALVERIFY, NUMNOTEQUAL, NOT, CHECKSIG, CHECKSIGVERIFY, CHECKDATASIG, CHECKDATASIGVERIFY, CHECKMULTISIG, CHECKMULTISIGVERIFY, commuting, pick_top, pick_second, roll_top, roll_second, roll_third, swap_twice, rot_three_times, dup_swap, dup_drop, over_drop, swap_drop, swap_over, drop_twice, over_twice, swap_then, equal_verify, num_equal_verify, check_sig_verify, check_data_sig_verify, check_multi_sig_verify, num_equal_not, one_then, sha256_then}
use Rattle.rewrite_rules.specs.Law.{has_shape, Holds}

-- ---- from effects on stacks to the law

-- whether a stack has so many elements: by the same steps by which a law is proved
abbrev has_least : ℕ → Stack → Bool
has_least zero stack = true
has_least (suc n) [] = false
has_least (suc n) (x ∷ stack) = has_least n stack

abbrev AtDepth : Bool → Result Stack Fault → Result Stack Fault → Type 0
AtDepth true window replacement = replacement ≡ window
AtDepth false window replacement = IsTrue (underflows window)

-- the law at each stack: an equation on one that is high enough, and a fault on another
abbrev Agrees : ℕ → Rule → Type 0
Agrees least r = (world : World) (places : ℕ → Span) (checking : Span) (stack : Stack)
    → AtDepth (has_least least stack) (effects world (window_of r places checking) stack) (effects world (replacement_of r places checking) stack)

least_holds : (n : ℕ) (stack : Stack) → n ≤ length stack → has_least n stack ≡ true
least_holds zero stack h = refl
least_holds (suc n) [] h = absurd (omega (arith, h))
least_holds (suc n) (x ∷ stack) h = let k : n ≤ length stack = omega (arith, h) in least_holds n stack k

least_fails : (n : ℕ) (stack : Stack) → length stack < n → has_least n stack ≡ false
least_fails zero stack h = absurd (omega (arith, h))
least_fails (suc n) [] h = refl
least_fails (suc n) (x ∷ stack) h = let k : length stack < n = omega (arith, h) in least_fails n stack k

alike_at : (b : Bool) (window replacement : Result Stack Fault) → AtDepth b window replacement → b ≡ true → replacement ≡ window
alike_at true window replacement h e = h
alike_at false window replacement h e = cc

short_at : (b : Bool) (window replacement : Result Stack Fault) → AtDepth b window replacement → b ≡ false → IsTrue (underflows window)
short_at true window replacement h e = cc
short_at false window replacement h e = h

still_underflows : (b : Board) (r : Result Stack Fault) → underflows r ≡ true → underflows (r >>= on b) ≡ true
still_underflows b (Ok s) u = cc
still_underflows b (Err f) u = u

pub plain_rows : (instrs : List Instr) (places : ℕ → Span) (checking : Span) → list_all is_plain instrs ≡ true
    → list_all is_plain (instructions (rows_of instrs places checking)) ≡ true
plain_rows [] places checking p = refl
plain_rows (i ∷ instrs) places checking p =
    let q = and_parts (is_plain i) (list_all is_plain instrs) p in
    and_from (is_plain i) (list_all is_plain (instructions (rows_of instrs (λ k. places (suc k)) checking))) q.0
    (plain_rows instrs (λ k. places (suc k)) checking q.1)

pub plain_replaced : (instrs : List Instr) (place checking : Span) → list_all is_plain instrs ≡ true
    → list_all is_plain (instructions (map (λ instr. row checking instr place) instrs)) ≡ true
plain_replaced [] place checking p = refl
plain_replaced (i ∷ instrs) place checking p =
    let q = and_parts (is_plain i) (list_all is_plain instrs) p in
    and_from (is_plain i) (list_all is_plain (instructions (map (λ instr. row checking instr place) instrs))) q.0 (plain_replaced instrs place checking q.1)

holds : (width least : ℕ) (r : Rule) → Agrees least r → list_all is_plain r.before ≡ true → list_all is_plain r.after ≡ true
    → IsTrue (has_shape width r) → Holds width least r
holds width least r h before after shape = record {
  alike = λ places checking world b live high.
      live_run world (replacement_of r places checking) b (plain_replaced r.after (places r.place) checking after) live
      ∙ ap (λ o. o >>= on b) (alike_at _ _ _ (h world places checking b.stack) (least_holds least b.stack high))
      ∙ sym (live_run world (window_of r places checking) b (plain_rows r.before places checking before) live);
  short = λ places checking world b live low.
      ap underflows (live_run world (window_of r places checking) b (plain_rows r.before places checking before) live)
      ∙ still_underflows b (effects world (window_of r places checking) b.stack)
      (short_at _ _ _ (h world places checking b.stack) (least_fails least b.stack low));
  shape = shape;
}

-- ---- copies and moves

pick_top_agrees : Agrees 1 pick_top
unfolding rows
pick_top_agrees world places checking [] = refl
pick_top_agrees world places checking (x ∷ stack) = refl

pick_second_agrees : Agrees 2 pick_second
unfolding rows
pick_second_agrees world places checking [] = refl
pick_second_agrees world places checking (x ∷ []) = refl
pick_second_agrees world places checking (x ∷ y ∷ stack) = refl

roll_top_agrees : Agrees 1 roll_top
unfolding rows
roll_top_agrees world places checking [] = refl
roll_top_agrees world places checking (x ∷ stack) = refl

roll_second_agrees : Agrees 2 roll_second
unfolding rows
roll_second_agrees world places checking [] = refl
roll_second_agrees world places checking (x ∷ []) = refl
roll_second_agrees world places checking (x ∷ y ∷ stack) = refl

roll_third_agrees : Agrees 3 roll_third
unfolding rows
roll_third_agrees world places checking [] = refl
roll_third_agrees world places checking (x ∷ []) = refl
roll_third_agrees world places checking (x ∷ y ∷ []) = refl
roll_third_agrees world places checking (x ∷ y ∷ z ∷ stack) = refl

swap_twice_agrees : Agrees 2 swap_twice
unfolding rows
swap_twice_agrees world places checking [] = refl
swap_twice_agrees world places checking (x ∷ []) = refl
swap_twice_agrees world places checking (x ∷ y ∷ stack) = refl

rot_three_times_agrees : Agrees 3 rot_three_times
unfolding rows
rot_three_times_agrees world places checking [] = refl
rot_three_times_agrees world places checking (x ∷ []) = refl
rot_three_times_agrees world places checking (x ∷ y ∷ []) = refl
rot_three_times_agrees world places checking (x ∷ y ∷ z ∷ stack) = refl

dup_swap_agrees : Agrees 1 dup_swap
unfolding rows
dup_swap_agrees world places checking [] = refl
dup_swap_agrees world places checking (x ∷ stack) = refl

dup_drop_agrees : Agrees 1 dup_drop
unfolding rows
dup_drop_agrees world places checking [] = refl
dup_drop_agrees world places checking (x ∷ stack) = refl

over_drop_agrees : Agrees 2 over_drop
unfolding rows
over_drop_agrees world places checking [] = refl
over_drop_agrees world places checking (x ∷ []) = refl
over_drop_agrees world places checking (x ∷ y ∷ stack) = refl

swap_drop_agrees : Agrees 2 swap_drop
unfolding rows
swap_drop_agrees world places checking [] = refl
swap_drop_agrees world places checking (x ∷ []) = refl
swap_drop_agrees world places checking (x ∷ y ∷ stack) = refl

swap_over_agrees : Agrees 2 swap_over
unfolding rows
swap_over_agrees world places checking [] = refl
swap_over_agrees world places checking (x ∷ []) = refl
swap_over_agrees world places checking (x ∷ y ∷ stack) = refl

drop_twice_agrees : Agrees 2 drop_twice
unfolding rows
drop_twice_agrees world places checking [] = refl
drop_twice_agrees world places checking (x ∷ []) = refl
drop_twice_agrees world places checking (x ∷ y ∷ stack) = refl

over_twice_agrees : Agrees 2 over_twice
unfolding rows
over_twice_agrees world places checking [] = refl
over_twice_agrees world places checking (x ∷ []) = refl
over_twice_agrees world places checking (x ∷ y ∷ stack) = refl

-- ---- operands in the other order

-- both operands as numbers, in order
abbrev read : (ℤ → ℤ → Outcome) → Option ℤ → Option ℤ → Outcome
read f p q = number_or_cause p >>= λ x. number_or_cause q >>= λ y. f x y

numbers_swapped : (f : ℤ → ℤ → Outcome) (p q : Option ℤ) → ((x y : ℤ) → f x y ≡ f y x) → read f p q ≡ read f q p
numbers_swapped f (Some x) (Some y) h = h x y
numbers_swapped f (Some x) None h = refl
numbers_swapped f None (Some y) h = refl
numbers_swapped f None None h = refl

same_tests : (b c : Bool) → (b ≡ true → c ≡ true) → (c ≡ true → b ≡ true) → b ≡ c
same_tests true c f g = sym (f refl)
same_tests false true f g = g refl
same_tests false false f g = refl

same_number : (a b : ℕ) → (a == b) ≡ (b == a)
same_number a b =
    let d = Decides-eqb a b in let e = Decides-eqb b a in
    same_tests (a == b) (b == a) (λ t. e.1 (sym (d.0 t))) (λ t. d.1 (sym (e.0 t)))

same_integer : (x y : ℤ) → int_eq x y ≡ int_eq y x
same_integer x y =
    let d = Decides-int_eq x y in let e = Decides-int_eq y x in
    same_tests (int_eq x y) (int_eq y x) (λ t. e.1 (sym (d.0 t))) (λ t. d.1 (sym (e.0 t)))

same_bytes : (a b : List ℕ) → bytes_eq a b ≡ bytes_eq b a
same_bytes a b =
    let d = bytes_eq-Decides a b in let e = bytes_eq-Decides b a in
    same_tests (bytes_eq a b) (bytes_eq b a) (λ t. e.1 (sym (d.0 t))) (λ t. d.1 (sym (e.0 t)))

least_swapped : (x y : ℤ) → int_min x y ≡ int_min y x
least_swapped x y = omega (arith, ints, clamps)

most_swapped : (x y : ℤ) → int_max x y ≡ int_max y x
most_swapped x y = omega (arith, ints, clamps)

both_swapped : (b c : Bool) → (b && c) ≡ (c && b)
both_swapped true true = refl
both_swapped true false = refl
both_swapped false true = refl
both_swapped false false = refl

either_swapped : (b c : Bool) → (b || c) ≡ (c || b)
either_swapped true true = refl
either_swapped true false = refl
either_swapped false true = refl
either_swapped false false = refl

pairs_swapped : (f : ℕ → ℕ → ℕ) → ((x y : ℕ) → f x y ≡ f y x) → (a b : List ℕ) → pairwise f a b ≡ pairwise f b a
pairs_swapped f h [] [] = refl
pairs_swapped f h [] (y ∷ b) = refl
pairs_swapped f h (x ∷ a) [] = refl
pairs_swapped f h (x ∷ a) (y ∷ b) = ap (λ z. z ∷ pairwise f a b) (h x y) ∙ ap (λ l. f y x ∷ l) (pairs_swapped f h a b)

bytes_swapped : (f : ℕ → ℕ → ℕ) → ((x y : ℕ) → f x y ≡ f y x) → (a b : List ℕ) → bytewise f a b ≡ bytewise f b a
bytes_swapped f h a b =
    ap (λ l. cond (length a == length b) (Ok l) (Err LengthDiffers)) (pairs_swapped f h a b)
    ∙ ap (λ t. cond t (Ok (pairwise f b a)) (Err LengthDiffers)) (same_number (length a) (length b))

-- what an operation on two elements leaves, and what one that is verified does
abbrev alone : World → Spanned → Stack → Outcome → Result Stack Fault
alone world r stack o = told r (gives [] o >>= λ es. Ok (es ++ stack)) >>= effects world []

abbrev checked_alone : World → Spanned → Stack → Outcome → Result Stack Fault
checked_alone world r stack o = told r ((gives [] o >>= λ es. Ok (es ++ stack)) >>= verified) >>= effects world []

swap_then_agrees : (op : Commuting) → Agrees 2 (swap_then op)
unfolding rows
swap_then_agrees op world places checking [] = refl
swap_then_agrees op world places checking (x ∷ []) = refl
swap_then_agrees Commuting.Add world places checking (b ∷ a ∷ stack) =
    ap (alone world (row checking (commuting Commuting.Add) (places 1)) stack)
    (numbers_swapped (λ x y. number_element (x +ℤ y)) (number_of a) (number_of b) (λ x y. ap number_element (+ℤ_comm x y)))
swap_then_agrees Commuting.Mul world places checking (b ∷ a ∷ stack) =
    ap (alone world (row checking (commuting Commuting.Mul) (places 1)) stack)
    (numbers_swapped (λ x y. number_element (x *ℤ y)) (number_of a) (number_of b) (λ x y. ap number_element (*ℤ_comm x y)))
swap_then_agrees Commuting.And world places checking (b ∷ a ∷ stack) =
    ap (alone world (row checking (commuting Commuting.And) (places 1)) stack) (bytes_swapped bit_and and_comm a b)
swap_then_agrees Commuting.Or world places checking (b ∷ a ∷ stack) =
    ap (alone world (row checking (commuting Commuting.Or) (places 1)) stack) (bytes_swapped bit_or or_comm a b)
swap_then_agrees Commuting.Xor world places checking (b ∷ a ∷ stack) =
    ap (alone world (row checking (commuting Commuting.Xor) (places 1)) stack) (bytes_swapped bit_xor xor_comm a b)
swap_then_agrees Commuting.Equal world places checking (b ∷ a ∷ stack) =
    ap (alone world (row checking (commuting Commuting.Equal) (places 1)) stack) (ap truth_element (same_bytes a b))
swap_then_agrees Commuting.EqualVerify world places checking (b ∷ a ∷ stack) =
    ap (checked_alone world (row checking (commuting Commuting.EqualVerify) (places 1)) stack) (ap truth_element (same_bytes a b))
swap_then_agrees Commuting.NumEqual world places checking (b ∷ a ∷ stack) =
    ap (alone world (row checking (commuting Commuting.NumEqual) (places 1)) stack)
    (numbers_swapped (λ x y. truth_element (int_eq x y)) (number_of a) (number_of b) (λ x y. ap truth_element (same_integer x y)))
swap_then_agrees Commuting.NumEqualVerify world places checking (b ∷ a ∷ stack) =
    ap (checked_alone world (row checking (commuting Commuting.NumEqualVerify) (places 1)) stack)
    (numbers_swapped (λ x y. truth_element (int_eq x y)) (number_of a) (number_of b) (λ x y. ap truth_element (same_integer x y)))
swap_then_agrees Commuting.NumNotEqual world places checking (b ∷ a ∷ stack) =
    ap (alone world (row checking (commuting Commuting.NumNotEqual) (places 1)) stack)
    (numbers_swapped (λ x y. truth_element (not (int_eq x y))) (number_of a) (number_of b) (λ x y. ap (λ t. truth_element (not t)) (same_integer x y)))
swap_then_agrees Commuting.BoolAnd world places checking (b ∷ a ∷ stack) =
    ap (alone world (row checking (commuting Commuting.BoolAnd) (places 1)) stack)
    (numbers_swapped (λ x y. truth_element (is_set x && is_set y)) (number_of a) (number_of b) (λ x y. ap truth_element (both_swapped (is_set x) (is_set y))))
swap_then_agrees Commuting.BoolOr world places checking (b ∷ a ∷ stack) =
    ap (alone world (row checking (commuting Commuting.BoolOr) (places 1)) stack)
    (numbers_swapped (λ x y. truth_element (is_set x || is_set y)) (number_of a) (number_of b) (λ x y. ap truth_element (either_swapped (is_set x) (is_set y))))
swap_then_agrees Commuting.Min world places checking (b ∷ a ∷ stack) =
    ap (alone world (row checking (commuting Commuting.Min) (places 1)) stack)
    (numbers_swapped (λ x y. number_element (int_min x y)) (number_of a) (number_of b) (λ x y. ap number_element (least_swapped x y)))
swap_then_agrees Commuting.Max world places checking (b ∷ a ∷ stack) =
    ap (alone world (row checking (commuting Commuting.Max) (places 1)) stack)
    (numbers_swapped (λ x y. number_element (int_max x y)) (number_of a) (number_of b) (λ x y. ap number_element (most_swapped x y)))

-- ---- operations with VERIFY

-- an action leaves an element on top
abbrev HasTop : Result Stack MachineCause → Type 0
HasTop (Ok (e ∷ stack)) = Unit {0}
HasTop (Ok []) = ⊥
HasTop (Err cause) = Unit {0}

-- what a failing operation of the window and a failing one of both fail at
abbrev judged_so : Bool → Stack → Result Stack MachineCause
judged_so truth stack = (refused_if (not truth) (Shared CheckFailed) >> Ok []) >>= λ es. Ok (es ++ stack)

fused : (world : World) (first whole : Instr) (p q checking : Span) (o : Result Stack MachineCause) → HasTop o
    → (told (row checking whole p) (o >>= verified) >>= effects world [])
    ≡ (told (row checking first p) o >>= effects world (row checking VERIFY q ∷ []))
unfolding rows
fused world first whole p q checking (Ok (e ∷ stack)) top = by (truth_of e)
  where
    by : (t : Bool) → (told (row checking whole p) (judged_so t stack) >>= effects world [])
        ≡ (told (row checking VERIFY q) (judged_so t stack) >>= effects world [])
    by true = refl
    by false = refl
fused world first whole p q checking (Ok []) top = absurd top
fused world first whole p q checking (Err cause) top = refl

top_given : (o : Outcome) (stack : Stack) → HasTop (gives [] o >>= λ es. Ok (es ++ stack))
top_given (Ok e) stack = tt
top_given (Err cause) stack = tt

top_judged : (o : Result Bool Cause) (stack : Stack) → HasTop (judged o >>= λ es. Ok (es ++ stack))
top_judged (Ok truth) stack = tt
top_judged (Err cause) stack = tt

top_then : {A : Type 0} (r : Result A MachineCause) (f : A → Result Stack MachineCause) → ((a : A) → HasTop (f a)) → HasTop (r >>= f)
top_then (Ok a) f h = h a
top_then (Err cause) f h = tt

top_many : (asked : Asked) (stack : Stack) → HasTop (checked_many asked stack)
top_many asked stack =
    top_then (keys_taken asked.left stack) _ (λ keys.
    top_then (sigs_taken (length keys.0) keys.1) _ (λ sigs.
    top_then (shared (multi_verdict asked.verdicts (reverse sigs.0) (reverse keys.0))) _ (λ truth. tt)))

equal_verify_agrees : Agrees 2 equal_verify
unfolding rows
equal_verify_agrees world places checking [] = refl
equal_verify_agrees world places checking (x ∷ []) = refl
equal_verify_agrees world places checking (b ∷ a ∷ stack) = by (bytes_eq a b)
  where
    by : (t : Bool) → (told (row checking EQUALVERIFY (places 1)) (Ok (truth_bytes t ∷ stack) >>= verified) >>= effects world [])
        ≡ effects world (row checking VERIFY (places 1) ∷ []) (truth_bytes t ∷ stack)
    by true = refl
    by false = refl

num_equal_verify_agrees : Agrees 2 num_equal_verify
unfolding rows
num_equal_verify_agrees world places checking [] = refl
num_equal_verify_agrees world places checking (x ∷ []) = refl
num_equal_verify_agrees world places checking (b ∷ a ∷ stack) =
    fused world NUMEQUAL NUMEQUALVERIFY (places 0) (places 1) checking (gives [] (result2 op2.NumEqual a b) >>= λ es. Ok (es ++ stack))
    (top_given (result2 op2.NumEqual a b) stack)

check_sig_verify_agrees : Agrees 2 check_sig_verify
unfolding rows
check_sig_verify_agrees world places checking [] = refl
check_sig_verify_agrees world places checking (x ∷ []) = refl
check_sig_verify_agrees world places checking (b ∷ a ∷ stack) =
    let o = single_verdict (asked_in world).verdicts Single a b [] in
    fused world CHECKSIG CHECKSIGVERIFY (places 0) (places 1) checking (judged o >>= λ es. Ok (es ++ stack)) (top_judged o stack)

check_data_sig_verify_agrees : Agrees 3 check_data_sig_verify
unfolding rows
check_data_sig_verify_agrees world places checking [] = refl
check_data_sig_verify_agrees world places checking (x ∷ []) = refl
check_data_sig_verify_agrees world places checking (x ∷ y ∷ []) = refl
check_data_sig_verify_agrees world places checking (c ∷ b ∷ a ∷ stack) =
    let o = single_verdict (asked_in world).verdicts DataSig a c b in
    fused world CHECKDATASIG CHECKDATASIGVERIFY (places 0) (places 1) checking (judged o >>= λ es. Ok (es ++ stack)) (top_judged o stack)

check_multi_sig_verify_agrees : Agrees 1 check_multi_sig_verify
unfolding rows
check_multi_sig_verify_agrees world places checking [] = refl
check_multi_sig_verify_agrees world places checking (x ∷ stack) =
    fused world CHECKMULTISIG CHECKMULTISIGVERIFY (places 0) (places 1) checking (checked_many (asked_in world) (x ∷ stack))
    (top_many (asked_in world) (x ∷ stack))

-- ---- other operations that are made one

num_equal_not_agrees : Agrees 2 num_equal_not
unfolding rows
num_equal_not_agrees world places checking [] = refl
num_equal_not_agrees world places checking (x ∷ []) = refl
num_equal_not_agrees world places checking (b ∷ a ∷ stack) = by (number_of a) (number_of b)
  where
    turned : (t : Bool) → alone world (row checking NUMNOTEQUAL (places 0)) stack (truth_element (not t))
        ≡ effects world (row checking NOT (places 1) ∷ []) (truth_bytes t ∷ stack)
    turned true = refl
    turned false = refl

    by : (p q : Option ℤ) → alone world (row checking NUMNOTEQUAL (places 0)) stack (read (λ x y. truth_element (not (int_eq x y))) p q)
        ≡ (told (row checking NUMEQUAL (places 0)) (gives [] (read (λ x y. truth_element (int_eq x y)) p q) >>= λ es. Ok (es ++ stack))
        >>= effects world (row checking NOT (places 1) ∷ []))
    by (Some x) (Some y) = turned (int_eq x y)
    by (Some x) None = refl
    by None q = refl

one_then_agrees : (op : ByOne) → Agrees 1 (one_then op)
unfolding rows
one_then_agrees ByOne.Add world places checking [] = refl
one_then_agrees ByOne.Add world places checking (x ∷ stack) = refl
one_then_agrees ByOne.Sub world places checking [] = refl
one_then_agrees ByOne.Sub world places checking (x ∷ stack) = refl

sha256_then_agrees : (op : SecondHash) → Agrees 1 (sha256_then op)
unfolding rows
sha256_then_agrees op world places checking [] = refl
sha256_then_agrees SecondHash.Ripemd160 world places checking (x ∷ stack) = refl
sha256_then_agrees SecondHash.Sha256 world places checking (x ∷ stack) = refl

-- ---- the laws

pub pick_top_holds : Holds 2 1 pick_top
unfolding rows
pick_top_holds = holds 2 1 pick_top pick_top_agrees refl refl refl

pub pick_second_holds : Holds 2 2 pick_second
unfolding rows
pick_second_holds = holds 2 2 pick_second pick_second_agrees refl refl refl

pub roll_top_holds : Holds 2 1 roll_top
unfolding rows
roll_top_holds = holds 2 1 roll_top roll_top_agrees refl refl refl

pub roll_second_holds : Holds 2 2 roll_second
unfolding rows
roll_second_holds = holds 2 2 roll_second roll_second_agrees refl refl refl

pub roll_third_holds : Holds 2 3 roll_third
unfolding rows
roll_third_holds = holds 2 3 roll_third roll_third_agrees refl refl refl

pub swap_twice_holds : Holds 2 2 swap_twice
unfolding rows
swap_twice_holds = holds 2 2 swap_twice swap_twice_agrees refl refl refl

pub rot_three_times_holds : Holds 3 3 rot_three_times
unfolding rows
rot_three_times_holds = holds 3 3 rot_three_times rot_three_times_agrees refl refl refl

pub dup_swap_holds : Holds 2 1 dup_swap
unfolding rows
dup_swap_holds = holds 2 1 dup_swap dup_swap_agrees refl refl refl

pub dup_drop_holds : Holds 2 1 dup_drop
unfolding rows
dup_drop_holds = holds 2 1 dup_drop dup_drop_agrees refl refl refl

pub over_drop_holds : Holds 2 2 over_drop
unfolding rows
over_drop_holds = holds 2 2 over_drop over_drop_agrees refl refl refl

pub swap_drop_holds : Holds 2 2 swap_drop
unfolding rows
swap_drop_holds = holds 2 2 swap_drop swap_drop_agrees refl refl refl

pub swap_over_holds : Holds 2 2 swap_over
unfolding rows
swap_over_holds = holds 2 2 swap_over swap_over_agrees refl refl refl

pub drop_twice_holds : Holds 2 2 drop_twice
unfolding rows
drop_twice_holds = holds 2 2 drop_twice drop_twice_agrees refl refl refl

pub over_twice_holds : Holds 2 2 over_twice
unfolding rows
over_twice_holds = holds 2 2 over_twice over_twice_agrees refl refl refl

pub equal_verify_holds : Holds 2 2 equal_verify
unfolding rows
equal_verify_holds = holds 2 2 equal_verify equal_verify_agrees refl refl refl

pub num_equal_verify_holds : Holds 2 2 num_equal_verify
unfolding rows
num_equal_verify_holds = holds 2 2 num_equal_verify num_equal_verify_agrees refl refl refl

pub check_sig_verify_holds : Holds 2 2 check_sig_verify
unfolding rows
check_sig_verify_holds = holds 2 2 check_sig_verify check_sig_verify_agrees refl refl refl

pub check_data_sig_verify_holds : Holds 2 3 check_data_sig_verify
unfolding rows
check_data_sig_verify_holds = holds 2 3 check_data_sig_verify check_data_sig_verify_agrees refl refl refl

pub check_multi_sig_verify_holds : Holds 2 1 check_multi_sig_verify
unfolding rows
check_multi_sig_verify_holds = holds 2 1 check_multi_sig_verify check_multi_sig_verify_agrees refl refl refl

pub num_equal_not_holds : Holds 2 2 num_equal_not
unfolding rows
num_equal_not_holds = holds 2 2 num_equal_not num_equal_not_agrees refl refl refl

abbrev Shaped : ℕ → Rule → Type 0
Shaped width r = (list_all is_plain r.before ≡ true) × (list_all is_plain r.after ≡ true) × IsTrue (has_shape width r)

shape_swap_then : (op : Commuting) → Shaped 2 (swap_then op)
unfolding rows
shape_swap_then Commuting.Add = (refl, refl, refl)
shape_swap_then Commuting.Mul = (refl, refl, refl)
shape_swap_then Commuting.And = (refl, refl, refl)
shape_swap_then Commuting.Or = (refl, refl, refl)
shape_swap_then Commuting.Xor = (refl, refl, refl)
shape_swap_then Commuting.Equal = (refl, refl, refl)
shape_swap_then Commuting.EqualVerify = (refl, refl, refl)
shape_swap_then Commuting.NumEqual = (refl, refl, refl)
shape_swap_then Commuting.NumEqualVerify = (refl, refl, refl)
shape_swap_then Commuting.NumNotEqual = (refl, refl, refl)
shape_swap_then Commuting.BoolAnd = (refl, refl, refl)
shape_swap_then Commuting.BoolOr = (refl, refl, refl)
shape_swap_then Commuting.Min = (refl, refl, refl)
shape_swap_then Commuting.Max = (refl, refl, refl)

pub swap_then_holds : (op : Commuting) → Holds 2 2 (swap_then op)
swap_then_holds op = let s = shape_swap_then op in holds 2 2 (swap_then op) (swap_then_agrees op) s.0 s.1 s.2

shape_one_then : (op : ByOne) → Shaped 2 (one_then op)
unfolding rows
shape_one_then ByOne.Add = (refl, refl, refl)
shape_one_then ByOne.Sub = (refl, refl, refl)

pub one_then_holds : (op : ByOne) → Holds 2 1 (one_then op)
one_then_holds op = let s = shape_one_then op in holds 2 1 (one_then op) (one_then_agrees op) s.0 s.1 s.2

shape_sha256_then : (op : SecondHash) → Shaped 2 (sha256_then op)
unfolding rows
shape_sha256_then SecondHash.Ripemd160 = (refl, refl, refl)
shape_sha256_then SecondHash.Sha256 = (refl, refl, refl)

pub sha256_then_holds : (op : SecondHash) → Holds 2 1 (sha256_then op)
sha256_then_holds op = let s = shape_sha256_then op in holds 2 1 (sha256_then op) (sha256_then_agrees op) s.0 s.1 s.2
