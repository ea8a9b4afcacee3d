-- Each kind of instruction that works on operands alone, and the rows that do the same.
use Rattle.std.proofs.Common.{◌≡◌, ℕ, suc, ◌≤◌, Bool, true, false, cond, not, List, [], ◌∷◌, ◌++◌, length, map, drop, Some, None, Result, Ok, Err, pos, refl, sym, ap, subst, arith}
use Rattle.cash_base.specs.declared.fault.Cause.{Cause}
use Rattle.cash_base.specs.declared.fault.Cause.TheVariants.{CheckFailed}
use Rattle.cash_base.specs.declared.fault.MachineCause.TheVariants.{Shared}
use Rattle.cash_base.specs.declared.place.Slot.{Slot}
use Rattle.cash_base.specs.declared.place.Span.{Span}
use Rattle.cash_base.specs.Failing.{◌>>=◌, ◌>>◌, refused_if}
use Rattle.cash_base.specs.Number.{truth_of, minimal_bytes}
use Rattle.element_ops.specs.declared.op.Op1.TheVariants.{Size}
use Rattle.element_ops.specs.Operation.{Outcome, result1, split_parts}
use Rattle.tx_context.specs.World.{World}
use Rattle.opcode_table.specs.declared.rows.Deed.{Deed as TableDeed}
use Rattle.opcode_table.specs.declared.rows.Deed.TheVariants.{Puts, Verifies, Splits, Measures}
use Rattle.opcode_table.specs.Stack.{Stack, shared}
use Rattle.opcode_table.specs.Stack as vm
use Rattle.opcode_table.specs.Deeds as deeds
use Rattle.opcode_table.specs.Deeds.{done}
use Rattle.script_codec.specs.declared.spans.Spanned.{Spanned}
use Rattle.source_meaning.specs.Meaning.{Env, fails, at_span, checked, passed}
use Rattle.slot_code.specs.Meaning.{State, state, on_one, on_two, on_three, gives, splits, goes_on}
use Rattle.slot_code.specs.Shape.{Operand}
use Rattle.row_runs.specs.Rows.{row, fault, run_rows}
use Rattle.stack_emitter.specs.Places.{Spot, spot}
use Rattle.stack_emitter.specs.Codes.{IsOpcode}
use Rattle.stack_emitter.specs.Correct.{value, machine_at, Fits, Agrees, Deed, Follows, drop_deed, keep_deed, then_deed, check_deed}
use Rattle.stack_emitter.proofs.Quiet.{IsQuiet, told_at, split_quiet}
use Rattle.stack_emitter.proofs.Steps.{op, asked, stacked, op_follows, follows_then}

-- ---- operands

pub fits_tail : (k : Operand) (known : List Operand) (e : List ℕ) (operands : Stack) → Fits (k ∷ known) (e ∷ operands) → Fits known operands
fits_tail None known e operands f = f
fits_tail (Some k) known e operands f = f.1

pub none_fits : (k : Operand) (known : List Operand) → Fits (k ∷ known) [] → ⊥
none_fits None known f = f
none_fits (Some k) known f = f

pub fits_length : (known : List Operand) (operands : Stack) → Fits known operands → length operands ≡ length known
fits_length [] [] f = refl
fits_length [] (e ∷ operands) f = absurd f
fits_length (k ∷ known) [] f = absurd (none_fits k known f)
fits_length (k ∷ known) (e ∷ operands) f = ap suc (fits_length known operands (fits_tail k known e operands f))

-- ---- what an operation gives

pub gives_agrees : (d c : Span) (known : List Operand) (slots : List Slot) (rest : Stack) (conditions : List Bool) (operands : Stack) (env : Env) (out : Outcome)
    → Fits known operands → IsQuiet out
    → Agrees (spot (None ∷ known) slots) rest conditions (gives d out operands env)
    (stacked d c conditions (deeds.gives [] out >>= λ es. Ok (es ++ (operands ++ (map (value env) slots ++ rest)))))
gives_agrees d c known slots rest conditions operands env (Ok e) fits quiet = (fits, refl)
gives_agrees d c known slots rest conditions operands env (Err cause) fits quiet =
    ap (λ s. Err (fault s (Shared cause))) (told_at d c cause quiet)

-- one operand
one_agrees : (d c : Span) (known : List Operand) (slots : List Slot) (rest : Stack) (conditions : List Bool) (f : List ℕ → Outcome)
    (operands : Stack) (env : Env) → 1 ≤ length known → Fits known operands → ((a : List ℕ) → IsQuiet (f a))
    → Agrees (spot (None ∷ drop 1 known) slots) rest conditions (on_one d operands (λ a more. gives d (f a) more env))
    (stacked d c conditions (vm.on_one (λ a. deeds.gives [] (f a)) (operands ++ (map (value env) slots ++ rest))))
one_agrees d c [] slots rest conditions f operands env few fits quiet = absurd (omega (arith, few))
one_agrees d c (k ∷ known) slots rest conditions f [] env few fits quiet = absurd (none_fits k known fits)
one_agrees d c (k ∷ known) slots rest conditions f (a ∷ operands) env few fits quiet =
    gives_agrees d c known slots rest conditions operands env (f a) (fits_tail k known a operands fits) (quiet a)

-- two
pub two_agrees : (d c : Span) (known : List Operand) (slots : List Slot) (rest : Stack) (conditions : List Bool) (f : List ℕ → List ℕ → Outcome)
    (operands : Stack) (env : Env) → 2 ≤ length known → Fits known operands → ((a b : List ℕ) → IsQuiet (f a b))
    → Agrees (spot (None ∷ drop 2 known) slots) rest conditions (on_two d operands (λ a b more. gives d (f a b) more env))
    (stacked d c conditions (vm.on_two (λ a b. deeds.gives [] (f a b)) (operands ++ (map (value env) slots ++ rest))))
two_agrees d c [] slots rest conditions f operands env few fits quiet = absurd (omega (arith, few))
two_agrees d c (k ∷ []) slots rest conditions f operands env few fits quiet = absurd (omega (arith, few))
two_agrees d c (k ∷ l ∷ known) slots rest conditions f [] env few fits quiet = absurd (none_fits k (l ∷ known) fits)
two_agrees d c (k ∷ l ∷ known) slots rest conditions f (b ∷ []) env few fits quiet = absurd (none_fits l known (fits_tail k (l ∷ known) b [] fits))
two_agrees d c (k ∷ l ∷ known) slots rest conditions f (b ∷ a ∷ operands) env few fits quiet =
    gives_agrees d c known slots rest conditions operands env (f a b)
    (fits_tail l known a operands (fits_tail k (l ∷ known) b (a ∷ operands) fits)) (quiet a b)

-- three
three_agrees : (d c : Span) (known : List Operand) (slots : List Slot) (rest : Stack) (conditions : List Bool) (f : List ℕ → List ℕ → List ℕ → Outcome)
    (operands : Stack) (env : Env) → 3 ≤ length known → Fits known operands → ((x y z : List ℕ) → IsQuiet (f x y z))
    → Agrees (spot (None ∷ drop 3 known) slots) rest conditions (on_three d operands (λ x y z more. gives d (f x y z) more env))
    (stacked d c conditions (vm.on_three (λ x y z. deeds.gives [] (f x y z)) (operands ++ (map (value env) slots ++ rest))))
three_agrees d c [] slots rest conditions f operands env few fits quiet = absurd (omega (arith, few))
three_agrees d c (k ∷ []) slots rest conditions f operands env few fits quiet = absurd (omega (arith, few))
three_agrees d c (k ∷ l ∷ []) slots rest conditions f operands env few fits quiet = absurd (omega (arith, few))
three_agrees d c (k ∷ l ∷ m ∷ known) slots rest conditions f [] env few fits quiet = absurd (none_fits k (l ∷ m ∷ known) fits)
three_agrees d c (k ∷ l ∷ m ∷ known) slots rest conditions f (z ∷ []) env few fits quiet = absurd (none_fits l (m ∷ known) (fits_tail k (l ∷ m ∷ known) z [] fits))
three_agrees d c (k ∷ l ∷ m ∷ known) slots rest conditions f (z ∷ y ∷ []) env few fits quiet =
    absurd (none_fits m known (fits_tail l (m ∷ known) y [] (fits_tail k (l ∷ m ∷ known) z (y ∷ []) fits)))
three_agrees d c (k ∷ l ∷ m ∷ known) slots rest conditions f (z ∷ y ∷ x ∷ operands) env few fits quiet =
    gives_agrees d c known slots rest conditions operands env (f x y z)
    (fits_tail m known x operands (fits_tail l (m ∷ known) y (x ∷ operands) (fits_tail k (l ∷ m ∷ known) z (y ∷ x ∷ operands) fits))) (quiet x y z)

-- ---- rows of one opcode

abbrev pub Asks : (World → Outcome) → TableDeed → Type 0
Asks f deed = (world : World) (stack : Stack) → done (asked world) deed stack ≡ deeds.gives stack (f world)

abbrev pub Takes1 : (World → List ℕ → Outcome) → TableDeed → Type 0
Takes1 f deed = (world : World) (stack : Stack) → done (asked world) deed stack ≡ vm.on_one (λ a. deeds.gives [] (f world a)) stack

abbrev pub Takes2 : (World → List ℕ → List ℕ → Outcome) → TableDeed → Type 0
Takes2 f deed = (world : World) (stack : Stack) → done (asked world) deed stack ≡ vm.on_two (λ a b. deeds.gives [] (f world a b)) stack

abbrev pub Takes3 : (World → List ℕ → List ℕ → List ℕ → Outcome) → TableDeed → Type 0
Takes3 f deed =
    (world : World) (stack : Stack) → done (asked world) deed stack ≡ vm.on_three (λ a b c. deeds.gives [] (f world a b c)) stack

abbrev pub deed_none : (World → Outcome) → Span → Deed
deed_none f d world s = gives d (f world) s.operands s.env

abbrev pub deed_one : (World → List ℕ → Outcome) → Span → Deed
deed_one f d world s = on_one d s.operands (λ a more. gives d (f world a) more s.env)

abbrev pub deed_two : (World → List ℕ → List ℕ → Outcome) → Span → Deed
deed_two f d world s = on_two d s.operands (λ a b more. gives d (f world a b) more s.env)

abbrev pub deed_three : (World → List ℕ → List ℕ → List ℕ → Outcome) → Span → Deed
deed_three f d world s = on_three d s.operands (λ a b e more. gives d (f world a b e) more s.env)

asks_agrees : (d c : Span) (p : Spot) (rest : Stack) (conditions : List Bool) (s : State) (out : Outcome) → Fits p.operands s.operands → IsQuiet out
    → Agrees (spot (None ∷ p.operands) p.slots) rest conditions (gives d out s.operands s.env)
    (stacked d c conditions (deeds.gives (s.operands ++ (map (value s.env) p.slots ++ rest)) out))
asks_agrees d c p rest conditions s (Ok e) fits quiet = (fits, refl)
asks_agrees d c p rest conditions s (Err cause) fits quiet = ap (λ s. Err (fault s (Shared cause))) (told_at d c cause quiet)

pub none_follows : (opcode : ℕ) (deed : TableDeed) (f : World → Outcome) (d c : Span) (p : Spot) → IsOpcode opcode deed → Asks f deed
    → ((world : World) → IsQuiet (f world)) → Follows (row (op opcode) d c ∷ []) (deed_none f d) p (spot (None ∷ p.operands) p.slots)
none_follows opcode deed f d c p is does quiet =
    op_follows opcode deed d c (deed_none f d) p _ is (λ world s rest conditions fits.
    subst (λ r. Agrees (spot (None ∷ p.operands) p.slots) rest conditions (deed_none f d world s) (stacked d c conditions r))
    (sym (does world (s.operands ++ (map (value s.env) p.slots ++ rest))))
    (asks_agrees d c p rest conditions s (f world) fits (quiet world)))

pub one_follows : (opcode : ℕ) (deed : TableDeed) (f : World → List ℕ → Outcome) (d c : Span) (p : Spot) → 1 ≤ length p.operands → IsOpcode opcode deed
    → Takes1 f deed → ((world : World) (a : List ℕ) → IsQuiet (f world a))
    → Follows (row (op opcode) d c ∷ []) (deed_one f d) p (spot (None ∷ drop 1 p.operands) p.slots)
one_follows opcode deed f d c p few is does quiet =
    op_follows opcode deed d c (deed_one f d) p _ is (λ world s rest conditions fits.
    subst (λ r. Agrees (spot (None ∷ drop 1 p.operands) p.slots) rest conditions (deed_one f d world s) (stacked d c conditions r))
    (sym (does world (s.operands ++ (map (value s.env) p.slots ++ rest))))
    (one_agrees d c p.operands p.slots rest conditions (f world) s.operands s.env few fits (quiet world)))

pub two_follows : (opcode : ℕ) (deed : TableDeed) (f : World → List ℕ → List ℕ → Outcome) (d c : Span) (p : Spot) → 2 ≤ length p.operands
    → IsOpcode opcode deed → Takes2 f deed → ((world : World) (a b : List ℕ) → IsQuiet (f world a b))
    → Follows (row (op opcode) d c ∷ []) (deed_two f d) p (spot (None ∷ drop 2 p.operands) p.slots)
two_follows opcode deed f d c p few is does quiet =
    op_follows opcode deed d c (deed_two f d) p _ is (λ world s rest conditions fits.
    subst (λ r. Agrees (spot (None ∷ drop 2 p.operands) p.slots) rest conditions (deed_two f d world s) (stacked d c conditions r))
    (sym (does world (s.operands ++ (map (value s.env) p.slots ++ rest))))
    (two_agrees d c p.operands p.slots rest conditions (f world) s.operands s.env few fits (quiet world)))

pub three_follows : (opcode : ℕ) (deed : TableDeed) (f : World → List ℕ → List ℕ → List ℕ → Outcome) (d c : Span) (p : Spot) → 3 ≤ length p.operands
    → IsOpcode opcode deed → Takes3 f deed → ((world : World) (x y z : List ℕ) → IsQuiet (f world x y z))
    → Follows (row (op opcode) d c ∷ []) (deed_three f d) p (spot (None ∷ drop 3 p.operands) p.slots)
three_follows opcode deed f d c p few is does quiet =
    op_follows opcode deed d c (deed_three f d) p _ is (λ world s rest conditions fits.
    subst (λ r. Agrees (spot (None ∷ drop 3 p.operands) p.slots) rest conditions (deed_three f d world s) (stacked d c conditions r))
    (sym (does world (s.operands ++ (map (value s.env) p.slots ++ rest))))
    (three_agrees d c p.operands p.slots rest conditions (f world) s.operands s.env few fits (quiet world)))

-- ---- DROP and NIP

abbrev pub drop_table : TableDeed
drop_table = Puts 1 0 (0 ∷ 0 ∷ 0 ∷ 0 ∷ 0 ∷ 0 ∷ [])

abbrev pub nip_table : TableDeed
nip_table = Puts 2 1 (1 ∷ 0 ∷ 0 ∷ 0 ∷ 0 ∷ 0 ∷ [])

drop_agrees : (a d c : Span) (known : List Operand) (slots : List Slot) (rest : Stack) (conditions : List Bool) (world : World) (operands : Stack) (env : Env)
    → 1 ≤ length known → Fits known operands
    → Agrees (spot (drop 1 known) slots) rest conditions (on_one a operands (λ e more. Ok (state more env)))
    (stacked d c conditions (done (asked world) drop_table (operands ++ (map (value env) slots ++ rest))))
drop_agrees a d c [] slots rest conditions world operands env few fits = absurd (omega (arith, few))
drop_agrees a d c (k ∷ known) slots rest conditions world [] env few fits = absurd (none_fits k known fits)
drop_agrees a d c (k ∷ known) slots rest conditions world (e ∷ operands) env few fits = (fits_tail k known e operands fits, refl)

pub drop_follows : (opcode : ℕ) (a d c : Span) (p : Spot) → 1 ≤ length p.operands → IsOpcode opcode drop_table
    → Follows (row (op opcode) d c ∷ []) (drop_deed a) p (spot (drop 1 p.operands) p.slots)
drop_follows opcode a d c p few is =
    op_follows opcode drop_table d c (drop_deed a) p _ is
    (λ world s rest conditions fits. drop_agrees a d c p.operands p.slots rest conditions world s.operands s.env few fits)

left_agrees : (d c : Span) (known : List Operand) (slots : List Slot) (rest : Stack) (conditions : List Bool) (world : World) (operands : Stack) (env : Env)
    → 2 ≤ length known → Fits known operands
    → Agrees (spot (None ∷ drop 2 known) slots) rest conditions (on_two d operands (λ a b more. Ok (state (a ∷ more) env)))
    (stacked d c conditions (done (asked world) drop_table (operands ++ (map (value env) slots ++ rest))))
left_agrees d c [] slots rest conditions world operands env few fits = absurd (omega (arith, few))
left_agrees d c (k ∷ []) slots rest conditions world operands env few fits = absurd (omega (arith, few))
left_agrees d c (k ∷ l ∷ known) slots rest conditions world [] env few fits = absurd (none_fits k (l ∷ known) fits)
left_agrees d c (k ∷ l ∷ known) slots rest conditions world (b ∷ []) env few fits = absurd (none_fits l known (fits_tail k (l ∷ known) b [] fits))
left_agrees d c (k ∷ l ∷ known) slots rest conditions world (b ∷ a ∷ operands) env few fits =
    (fits_tail l known a operands (fits_tail k (l ∷ known) b (a ∷ operands) fits), refl)

right_agrees : (at d c : Span) (known : List Operand) (slots : List Slot) (rest : Stack) (conditions : List Bool) (world : World) (operands : Stack) (env : Env)
    → 2 ≤ length known → Fits known operands
    → Agrees (spot (None ∷ drop 2 known) slots) rest conditions (on_two at operands (λ x b more. Ok (state (b ∷ more) env)))
    (stacked d c conditions (done (asked world) nip_table (operands ++ (map (value env) slots ++ rest))))
right_agrees at d c [] slots rest conditions world operands env few fits = absurd (omega (arith, few))
right_agrees at d c (k ∷ []) slots rest conditions world operands env few fits = absurd (omega (arith, few))
right_agrees at d c (k ∷ l ∷ known) slots rest conditions world [] env few fits = absurd (none_fits k (l ∷ known) fits)
right_agrees at d c (k ∷ l ∷ known) slots rest conditions world (b ∷ []) env few fits = absurd (none_fits l known (fits_tail k (l ∷ known) b [] fits))
right_agrees at d c (k ∷ l ∷ known) slots rest conditions world (b ∷ a ∷ operands) env few fits =
    (fits_tail l known a operands (fits_tail k (l ∷ known) b (a ∷ operands) fits), refl)

pub left_follows : (opcode : ℕ) (d c : Span) (p : Spot) → 2 ≤ length p.operands → IsOpcode opcode drop_table
    → Follows (row (op opcode) d c ∷ []) (keep_deed false d) p (spot (None ∷ drop 2 p.operands) p.slots)
left_follows opcode d c p few is =
    op_follows opcode drop_table d c (keep_deed false d) p _ is
    (λ world s rest conditions fits. left_agrees d c p.operands p.slots rest conditions world s.operands s.env few fits)

pub right_follows_at : (opcode : ℕ) (at d c : Span) (p : Spot) → 2 ≤ length p.operands → IsOpcode opcode nip_table
    → Follows (row (op opcode) d c ∷ []) (keep_deed true at) p (spot (None ∷ drop 2 p.operands) p.slots)
right_follows_at opcode at d c p few is =
    op_follows opcode nip_table d c (keep_deed true at) p _ is
    (λ world s rest conditions fits. right_agrees at d c p.operands p.slots rest conditions world s.operands s.env few fits)

pub right_follows : (opcode : ℕ) (d c : Span) (p : Spot) → 2 ≤ length p.operands → IsOpcode opcode nip_table
    → Follows (row (op opcode) d c ∷ []) (keep_deed true d) p (spot (None ∷ drop 2 p.operands) p.slots)
right_follows opcode d c p few is = right_follows_at opcode d d c p few is

-- ---- a check

check_result : (d c : Span) (known : List Operand) (slots : List Slot) (rest : Stack) (conditions : List Bool) (operands : Stack) (env : Env) (b : Bool)
    → Fits known operands
    → Agrees (spot known slots) rest conditions (goes_on operands (cond b (Ok env) (fails c CheckFailed)))
    (stacked d c conditions ((refused_if (not b) (Shared CheckFailed) >> Ok []) >>= λ es. Ok (es ++ (operands ++ (map (value env) slots ++ rest)))))
check_result d c known slots rest conditions operands env true fits = (fits, refl)
check_result d c known slots rest conditions operands env false fits = refl

check_agrees : (d c : Span) (known : List Operand) (slots : List Slot) (rest : Stack) (conditions : List Bool) (world : World) (operands : Stack) (env : Env)
    → 1 ≤ length known → Fits known operands
    → Agrees (spot (drop 1 known) slots) rest conditions (on_one d operands (λ a more. goes_on more (checked c a env)))
    (stacked d c conditions (done (asked world) Verifies (operands ++ (map (value env) slots ++ rest))))
check_agrees d c [] slots rest conditions world operands env few fits = absurd (omega (arith, few))
check_agrees d c (k ∷ known) slots rest conditions world [] env few fits = absurd (none_fits k known fits)
check_agrees d c (k ∷ known) slots rest conditions world (a ∷ operands) env few fits =
    check_result d c known slots rest conditions operands env (truth_of a) (fits_tail k known a operands fits)

pub check_follows : (opcode : ℕ) (d c : Span) (p : Spot) → 1 ≤ length p.operands → IsOpcode opcode Verifies
    → Follows (row (op opcode) d c ∷ []) (check_deed d c) p (spot (drop 1 p.operands) p.slots)
check_follows opcode d c p few is =
    op_follows opcode Verifies d c (check_deed d c) p _ is
    (λ world s rest conditions fits. check_agrees d c p.operands p.slots rest conditions world s.operands s.env few fits)

-- ---- a lock time or an age, which stays and is then dropped

abbrev pub lock_deed : (World → List ℕ → Result (Unit {0}) Cause) → Span → Span → Deed
lock_deed f d c world s = on_one d s.operands (λ a more. goes_on more (passed c (f world a) s.env))

-- it is met, or fails at the statement
abbrev pub met_deed : (World → List ℕ → Result (Unit {0}) Cause) → Span → Span → Deed
met_deed f d c world s = on_one d s.operands (λ a more. at_span c (f world a) >>= λ u. Ok (state (a ∷ more) s.env))

abbrev pub Locks : (World → List ℕ → Result (Unit {0}) Cause) → TableDeed → Type 0
Locks f deed = (world : World) (stack : Stack) → done (asked world) deed stack ≡ deeds.lock_met (f world) stack

met_result : (c : Span) (known : List Operand) (slots : List Slot) (rest : Stack) (conditions : List Bool) (a : List ℕ) (operands : Stack) (env : Env)
    (out : Result (Unit {0}) Cause) → Fits known operands
    → Agrees (spot (None ∷ known) slots) rest conditions (at_span c out >>= λ u. Ok (state (a ∷ operands) env))
    (stacked c c conditions ((shared out >> Ok (a ∷ [])) >>= λ es. Ok (es ++ (operands ++ (map (value env) slots ++ rest)))))
met_result c known slots rest conditions a operands env (Ok u) fits = (fits, refl)
met_result c known slots rest conditions a operands env (Err CheckFailed) fits = refl
met_result c known slots rest conditions a operands env (Err cause) fits = refl

met_agrees : (d c : Span) (known : List Operand) (slots : List Slot) (rest : Stack) (conditions : List Bool) (f : List ℕ → Result (Unit {0}) Cause)
    (operands : Stack) (env : Env) → 1 ≤ length known → Fits known operands
    → Agrees (spot (None ∷ drop 1 known) slots) rest conditions (on_one d operands (λ a more. at_span c (f a) >>= λ u. Ok (state (a ∷ more) env)))
    (stacked c c conditions (deeds.lock_met f (operands ++ (map (value env) slots ++ rest))))
met_agrees d c [] slots rest conditions f operands env few fits = absurd (omega (arith, few))
met_agrees d c (k ∷ known) slots rest conditions f [] env few fits = absurd (none_fits k known fits)
met_agrees d c (k ∷ known) slots rest conditions f (a ∷ operands) env few fits =
    met_result c known slots rest conditions a operands env (f a) (fits_tail k known a operands fits)

lock_same : (f : World → List ℕ → Result (Unit {0}) Cause) (d c : Span) (world : World) (operands : Stack) (env : Env)
    → (on_one d operands (λ a more. at_span c (f world a) >>= λ u. Ok (state (a ∷ more) env)) >>= drop_deed d world)
    ≡ on_one d operands (λ a more. goes_on more (passed c (f world a) env))
lock_same f d c world [] env = refl
lock_same f d c world (a ∷ operands) env = by (f world a)
  where
    by : (out : Result (Unit {0}) Cause)
        → ((at_span c out >>= λ u. Ok (state (a ∷ operands) env)) >>= drop_deed d world) ≡ goes_on operands (passed c out env)
    by (Ok u) = refl
    by (Err cause) = refl

follows_same : (rows : List Spanned) (f g : Deed) (p q : Spot) → ((world : World) (s : State) → f world s ≡ g world s) → Follows rows f p q → Follows rows g p q
follows_same rows f g p q e x = record {
  nested = x.nested;
  sound = x.sound;
  runs = λ world s rest conditions live fits.
      subst (λ o. Agrees q rest conditions o (run_rows world rows (machine_at p.slots rest conditions s))) (e world s) (x.runs world s rest conditions live fits);
}

pub lock_follows : (opcode dropping : ℕ) (deed : TableDeed) (f : World → List ℕ → Result (Unit {0}) Cause) (d c : Span) (p : Spot) → 1 ≤ length p.operands
    → IsOpcode opcode deed → IsOpcode dropping drop_table → Locks f deed
    → Follows (row (op opcode) c c ∷ row (op dropping) c c ∷ []) (lock_deed f d c) p (spot (drop 1 p.operands) p.slots)
lock_follows opcode dropping deed f d c p few is drops does =
    let between = spot (None ∷ drop 1 p.operands) p.slots in
    follows_same (row (op opcode) c c ∷ row (op dropping) c c ∷ []) (then_deed (met_deed f d c) (drop_deed d)) (lock_deed f d c) p _
    (λ world s. lock_same f d c world s.operands s.env)
    (follows_then (row (op opcode) c c ∷ []) (row (op dropping) c c ∷ []) (met_deed f d c) (drop_deed d) p between (spot (drop 1 p.operands) p.slots)
    (op_follows opcode deed c c (met_deed f d c) p between is (λ world s rest conditions fits.
    subst (λ r. Agrees between rest conditions (met_deed f d c world s) (stacked c c conditions r))
    (sym (does world (s.operands ++ (map (value s.env) p.slots ++ rest))))
    (met_agrees d c p.operands p.slots rest conditions (f world) s.operands s.env few fits)))
    (drop_follows dropping d c c between (omega arith) drops))

-- ---- a split

abbrev pub split_deed : Span → Deed
split_deed d world s = on_two d s.operands (λ a b more. splits d a b more s.env)

split_result : (d c : Span) (known : List Operand) (slots : List Slot) (rest : Stack) (conditions : List Bool) (operands : Stack) (env : Env)
    (out : Result (List ℕ × List ℕ) Cause) → Fits known operands → IsQuiet out
    → Agrees (spot (None ∷ None ∷ known) slots) rest conditions (at_span d out >>= λ parts. Ok (state (parts.1 ∷ parts.0 ∷ operands) env))
    (stacked d c conditions ((shared out >>= λ parts. Ok (parts.1 ∷ parts.0 ∷ [])) >>= λ es. Ok (es ++ (operands ++ (map (value env) slots ++ rest)))))
split_result d c known slots rest conditions operands env (Ok parts) fits quiet = (fits, refl)
split_result d c known slots rest conditions operands env (Err cause) fits quiet =
    ap (λ s. Err (fault s (Shared cause))) (told_at d c cause quiet)

split_agrees : (d c : Span) (known : List Operand) (slots : List Slot) (rest : Stack) (conditions : List Bool) (world : World) (operands : Stack) (env : Env)
    → 2 ≤ length known → Fits known operands
    → Agrees (spot (None ∷ None ∷ drop 2 known) slots) rest conditions (on_two d operands (λ a b more. splits d a b more env))
    (stacked d c conditions (done (asked world) Splits (operands ++ (map (value env) slots ++ rest))))
split_agrees d c [] slots rest conditions world operands env few fits = absurd (omega (arith, few))
split_agrees d c (k ∷ []) slots rest conditions world operands env few fits = absurd (omega (arith, few))
split_agrees d c (k ∷ l ∷ known) slots rest conditions world [] env few fits = absurd (none_fits k (l ∷ known) fits)
split_agrees d c (k ∷ l ∷ known) slots rest conditions world (b ∷ []) env few fits = absurd (none_fits l known (fits_tail k (l ∷ known) b [] fits))
split_agrees d c (k ∷ l ∷ known) slots rest conditions world (b ∷ a ∷ operands) env few fits =
    split_result d c known slots rest conditions operands env (split_parts a b)
    (fits_tail l known a operands (fits_tail k (l ∷ known) b (a ∷ operands) fits)) (split_quiet a b)

pub split_follows : (opcode : ℕ) (d c : Span) (p : Spot) → 2 ≤ length p.operands → IsOpcode opcode Splits
    → Follows (row (op opcode) d c ∷ []) (split_deed d) p (spot (None ∷ None ∷ drop 2 p.operands) p.slots)
split_follows opcode d c p few is =
    op_follows opcode Splits d c (split_deed d) p _ is
    (λ world s rest conditions fits. split_agrees d c p.operands p.slots rest conditions world s.operands s.env few fits)

-- ---- SIZE leaves its element below, and NIP takes it away

abbrev pub size_deed : Span → Deed
size_deed d world s = on_one d s.operands (λ a more. gives d (result1 Size a) more s.env)

measured_agrees : (d c : Span) (known : List Operand) (slots : List Slot) (rest : Stack) (conditions : List Bool) (world : World) (operands : Stack) (env : Env)
    → 1 ≤ length known → Fits known operands
    → Agrees (spot (None ∷ None ∷ drop 1 known) slots) rest conditions (on_one d operands (λ a more. Ok (state (minimal_bytes (pos (length a)) ∷ a ∷ more) env)))
    (stacked d c conditions (done (asked world) Measures (operands ++ (map (value env) slots ++ rest))))
measured_agrees d c [] slots rest conditions world operands env few fits = absurd (omega (arith, few))
measured_agrees d c (k ∷ known) slots rest conditions world [] env few fits = absurd (none_fits k known fits)
measured_agrees d c (k ∷ known) slots rest conditions world (a ∷ operands) env few fits = (fits_tail k known a operands fits, refl)

size_same : (d : Span) (world : World) (operands : Stack) (env : Env)
    → (on_one d operands (λ a more. Ok (state (minimal_bytes (pos (length a)) ∷ a ∷ more) env)) >>= keep_deed true d world)
    ≡ on_one d operands (λ a more. gives d (result1 Size a) more env)
size_same d world [] env = refl
size_same d world (a ∷ operands) env = refl

pub size_follows : (opcode dropping : ℕ) (d c : Span) (p : Spot) → 1 ≤ length p.operands → IsOpcode opcode Measures → IsOpcode dropping nip_table
    → Follows (row (op opcode) d c ∷ row (op dropping) d c ∷ []) (size_deed d) p (spot (None ∷ drop 1 p.operands) p.slots)
size_follows opcode dropping d c p few is drops =
    let between = spot (None ∷ None ∷ drop 1 p.operands) p.slots in
    let measures : Deed = λ world s. on_one d s.operands (λ a more. Ok (state (minimal_bytes (pos (length a)) ∷ a ∷ more) s.env)) in
    follows_same (row (op opcode) d c ∷ row (op dropping) d c ∷ []) (then_deed measures (keep_deed true d)) (size_deed d) p _
    (λ world s. size_same d world s.operands s.env)
    (follows_then (row (op opcode) d c ∷ []) (row (op dropping) d c ∷ []) measures (keep_deed true d) p between (spot (None ∷ drop 1 p.operands) p.slots)
    (op_follows opcode Measures d c measures p between is
    (λ world s rest conditions fits. measured_agrees d c p.operands p.slots rest conditions world s.operands s.env few fits))
    (right_follows dropping d c between (omega arith) drops))
