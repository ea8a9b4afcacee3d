-- Spelled code stops at no limit, where its instructions and the elements leave room.
use Rattle.std.proofs.Common.{◌≡◌, ℕ, ◌+◌, ◌*◌, ◌-◌, ◌≤◌, Bool, true, false, not, ◌&&◌, ◌||◌, nat_lt, leb, ltb, cond, List, [], ◌∷◌, length, map, ℤ, pos, negsuc, Option, Some, None, Result, Ok, Err, refl, sym, ap, ◌∙◌, subst, arith}
use Rattle.std.specs.List.{AllByRecursion, list_all}
use Rattle.std.proofs.lemmas.Bool.{false≢true, le-ltb, and_parts, and_from}
use Rattle.std.proofs.lemmas.Bool.Decides.{nat_tests}
use Rattle.std.proofs.lemmas.List.{length-append}
use Rattle.cash_base.specs.declared.fault.MachineCause.{MachineCause}
use Rattle.cash_base.specs.Number.{number_of}
use Rattle.script_codec.specs.declared.instr.Instr.{Instr}
use Rattle.script_codec.specs.declared.instr.Instr.TheVariants.{Push, Do}
use Rattle.script_codec.specs.Spelling.{spelling, spellings}
use Rattle.script_codec.specs.Reading.{Raw, Piece, Whole, spelled, instruction, is_minimal, size_of, length_size, push}
use Rattle.script_codec.specs.Counting.{weight, takes_keys, keys_for, keys_pushed, key_count, number_pushed, counted_in}
use Rattle.opcode_table.specs.Stack.{Stack}
use Rattle.opcode_table.specs.Deeds.{keys_on}
use Rattle.bch_vm.specs.declared.outcome.Which.{Which}
use Rattle.bch_vm.specs.Setting.{Setting, around}
use Rattle.bch_vm.specs.Board.{Board, board, height, is_live, pushed_where, board_after, keys_counted}
use Rattle.bch_vm.specs.Script.{State, state_of, Counted, counted, Progress, progress_after, piece_after, balanced}
use Rattle.bch_vm.specs.Course.{Course, ◌>>=◌}
use Rattle.bch_vm.specs.Spend.{told, step_course, pieces_course}
use Rattle.bch_vm.specs.Law.{is_key_count, pushes_key_count, asks_for_keys, are_keys_known}
use Rattle.spend_laws.proofs.Endings.{Stays}
use Rattle.spend_laws.proofs.Checked.{checked, count_with, count_after, does, raw-checked, under}
use Rattle.spend_laws.proofs.Limited.{instr_same, key_on_top}
use Rattle.spend_laws.proofs.Spelled.{IsFit, pieces_of, push_opcode}
use Rattle.spend_laws.proofs.Modest.{IsModestOn, rise, instr_modest}

-- an instruction that passes its checks but for those of the limits, where there is room for what it adds
instr_stays : (setting : Setting) (which : Which) (piece : Piece) (instr : Instr) (s : Counted) (f : Counted → Course State) (over : Bool)
    (r : Result Board MachineCause) (count more : ℕ)
    → piece_after setting piece s ≡ checked over r (progress_after instr s.state.board.conditions s.state.progress) count
    → over ≡ false → IsModestOn more s.state.board r → height s.state.board + more ≤ 1000
    → ((next : Counted) → r ≡ Ok next.state.board → height next.state.board ≤ height s.state.board + more → next.count ≡ count → Stays (f next))
    → Stays (step_course which piece s (piece_after setting piece s) >>= f)
instr_stays setting which piece instr s f over r count more is few modest low goes =
    subst (λ r. Stays (step_course which piece s r >>= f)) (sym is) (by_tests over r few modest goes)
  where
    progress : Progress
    progress = progress_after instr s.state.board.conditions s.state.progress

    by_height : (b : Board) (high : Bool) → high ≡ false → Stays (f (counted (state_of b progress) count))
        → Stays (step_course which piece s (under high b progress count) >>= f)
    by_height b true test next = absurd (false≢true (sym test))
    by_height b false test next = next

    by_tests : (over : Bool) (r : Result Board MachineCause) → over ≡ false → IsModestOn more s.state.board r
        → ((next : Counted) → r ≡ Ok next.state.board → height next.state.board ≤ height s.state.board + more → next.count ≡ count → Stays (f next))
        → Stays (step_course which piece s (checked over r progress count) >>= f)
    by_tests true r test modest goes = absurd (false≢true (sym test))
    by_tests false (Err cause) test modest goes = ap not modest
    by_tests false (Ok b) test modest goes =
        by_height b (nat_lt 1000 (height b)) (le-ltb 1000 (height b) (omega (arith, modest, low))) (goes (counted (state_of b progress) count) refl modest refl)

balanced_stays : (which : Which) (conditions : List Bool) (s : State) → Stays (told which (balanced conditions s))
balanced_stays which [] s = tt
balanced_stays which (c ∷ conditions) s = refl

-- ---- keys that are known

-- where the instruction before has pushed the number of keys, it is on top
abbrev pub IsKnown : Bool → ℕ → Board → Type 0
IsKnown known keys b = known ≡ true → is_live b.conditions ≡ true → keys_on b.stack ≡ keys

pub none_known : (keys : ℕ) (b : Board) → IsKnown false keys b
none_known keys b is live = absurd (false≢true is)

known_by : (t : Bool) → (t || false) ≡ true → t ≡ true
known_by true is = refl
known_by false is = is

counts_no_more : (known live takes : Bool) (on keys : ℕ) → (known || not takes) ≡ true → (known ≡ true → live ≡ true → on ≡ keys)
    → cond (live && takes) on 0 ≤ cond takes keys 0
counts_no_more known false takes on keys known_keys is = omega arith
counts_no_more known true false on keys known_keys is = omega arith
counts_no_more known true true on keys known_keys is = let same = is (known_by known known_keys) refl in omega (arith, same)

-- what is counted at run time is what is counted by reading
counted_no_more : (known : Bool) (keys : ℕ) (instr : Instr) (more : List Piece) (b : Board) → (known || not (asks_for_keys instr)) ≡ true → IsKnown known keys b
    → keys_counted instr b ≤ keys_for keys (Whole (spelled instr) ∷ more)
counted_no_more known keys (Push e) more b known_keys is = omega arith
counted_no_more known keys (Do opcode) more b known_keys is = counts_no_more known (is_live b.conditions) (takes_keys opcode.0) (keys_on b.stack) keys known_keys is

pushed_known : (e : List ℕ) (b : Board) (live : Bool) → is_live b.conditions ≡ live → is_key_count (number_of e) ≡ true → is_live (pushed_where live e b).conditions ≡ true
    → keys_on (pushed_where live e b).stack ≡ key_count (number_of e)
pushed_known e b true l is live = key_on_top (number_of e) b.stack is
pushed_known e b false l is live = absurd (false≢true (sym l ∙ live))

abbrev board_or : Board → Result Board MachineCause → Board
board_or b (Ok next) = next
board_or b (Err cause) = b

next_known : (a : Setting) (place left : ℕ) (instr : Instr) (raw : Raw) (b next : Board) → instruction raw ≡ instr → is_minimal raw ≡ true
    → board_after (around a place left) instr b ≡ Ok next → IsKnown (pushes_key_count instr) (keys_pushed raw) next
next_known a place left (Do opcode) raw b next meant minimal is known live = absurd (false≢true known)
next_known a place left (Push e) raw b next meant minimal is known live =
    let same : pushed_where (is_live b.conditions) e.items b ≡ next = ap (board_or b) is in
    let keys : keys_pushed raw ≡ key_count (number_of e.items) =
    ap (λ (t : Bool). cond t (key_count (number_pushed (instruction raw))) 0) minimal ∙ ap (λ (i : Instr). key_count (number_pushed i)) meant in
    let lives = subst (λ (b : Board). is_live b.conditions ≡ true) (sym same) live in
    ap (λ (b : Board). keys_on b.stack) (sym same) ∙ pushed_known e.items b (is_live b.conditions) refl known lives ∙ sym keys

-- ---- what code adds

abbrev pub rises : List Instr → ℕ
rises [] = 0
rises (instr ∷ code) = rise instr + rises code

pub code_stays : (setting : Setting) (which : Which) (known : Bool) (keys : ℕ) (code : List Instr) (s : Counted) → AllByRecursion IsFit code
    → are_keys_known known code ≡ true → IsKnown known keys s.state.board → height s.state.board + rises code ≤ 1000
    → s.count + keys_for keys (pieces_of code) + counted_in (pieces_of code) ≤ 201
    → Stays (pieces_course setting which (pieces_of code) s)
code_stays setting which known keys [] s fit all is low few = balanced_stays which s.state.board.conditions s.state
code_stays setting which known keys (instr ∷ code) s fit all is low few =
    let raw = spelled instr in
    let b = s.state.board in
    let parts = and_parts (known || not (asks_for_keys instr)) (are_keys_known (pushes_key_count instr) code) all in
    let counts = counted_no_more known keys instr (pieces_of code) b parts.0 is in
    let checks = raw-checked setting raw instr s fit.0.meant fit.0.minimal fit.0.short fit.0.sized in
    let place = s.state.progress.place + length (spelling instr) in
    let left = 201 - count_with raw s in
    let fits : keys_counted instr b ≤ left = omega (arith, counts, few) in
    let modest = subst (IsModestOn (rise instr) b) (sym (instr_same setting place left instr b fits)) (instr_modest setting place instr b) in
    instr_stays setting which (Whole raw) instr s (pieces_course setting which (pieces_of code)) (nat_lt 201 (count_with raw s)) (does setting instr s.state left)
    (count_after raw instr s) (rise instr) checks (le-ltb 201 (count_with raw s) (omega (arith, few))) modest (omega (arith, low))
    (λ next goes more same. code_stays setting which (pushes_key_count instr) (keys_pushed raw) code next fit.1 parts.1
    (next_known setting place left instr raw b next.state.board fit.0.meant fit.0.minimal goes) (omega (arith, low, more)) (omega (arith, few, same, counts)))

-- ---- code that asks for no keys

abbrev pub is_keyless : Instr → Bool
is_keyless instr = not (asks_for_keys instr)

keyless_known : (before : Bool) (t : Bool) → t ≡ true → (before || t) ≡ true
keyless_known true t is = refl
keyless_known false t is = is

pub known_without : (before : Bool) (code : List Instr) → list_all is_keyless code ≡ true → are_keys_known before code ≡ true
known_without before [] all = refl
known_without before (instr ∷ code) all =
    let parts = and_parts _ _ all in
    and_from _ _ (keyless_known before (is_keyless instr) parts.0) (known_without (pushes_key_count instr) code parts.1)

takes_none : (opcode : ℕ) → ltb 0x60 opcode ≡ false → takes_keys opcode ≡ false
takes_none opcode low = grind (arith, nat_tests, low)

no_keys_at : (instr : Instr) → IsFit instr → is_keyless instr ≡ true → takes_keys (spelled instr).opcode ≡ false
no_keys_at (Push e) fit is = takes_none (spelled (Push e)).opcode (push_opcode (spelled (Push e)) e.items fit.meant)
no_keys_at (Do opcode) fit is = by_test (takes_keys opcode.0) is
  where
    by_test : (t : Bool) → not t ≡ true → t ≡ false
    by_test true is = absurd (false≢true is)
    by_test false is = refl

pub no_keys_for : (keys : ℕ) (code : List Instr) → AllByRecursion IsFit code → list_all is_keyless code ≡ true → keys_for keys (pieces_of code) ≡ 0
no_keys_for keys [] fit all = refl
no_keys_for keys (instr ∷ code) fit all = ap (λ (t : Bool). cond t keys 0) (no_keys_at instr fit.0 (and_parts _ _ all).0)

weight-le : (opcode : ℕ) → weight opcode ≤ 1
weight-le opcode = by_test (nat_lt 0x60 opcode)
  where
    by_test : (t : Bool) → cond t 1 0 ≤ 1
    by_test true = omega arith
    by_test false = omega arith

pub counted_few : (code : List Instr) → AllByRecursion IsFit code → list_all is_keyless code ≡ true → counted_in (pieces_of code) ≤ length code
counted_few [] fit all = omega arith
counted_few (instr ∷ code) fit all =
    let parts = and_parts _ _ all in
    let one = weight-le (spelled instr).opcode in
    let none = no_keys_for (keys_pushed (spelled instr)) code fit.1 parts.1 in
    let more = counted_few code fit.1 parts.1 in
    omega (arith, one, none, more)

pub pushes_keyless : (es : List (List ℕ)) → list_all is_keyless (map push es) ≡ true
pushes_keyless [] = refl
pushes_keyless (e ∷ es) = pushes_keyless es

-- where no key is known, none is counted at the front
pub at_first : (code : List Instr) → keys_for 0 (pieces_of code) ≡ 0
at_first [] = refl
at_first (instr ∷ code) = by_test (takes_keys (spelled instr).opcode)
  where
    by_test : (t : Bool) → ◌≡◌ {A = ℕ} (cond t 0 0) 0
    by_test true = refl
    by_test false = refl

-- ---- how much code adds at most

rise-le : (instr : Instr) → rise instr ≤ 3
rise-le (Push e) = omega arith
rise-le (Do opcode) = let one = weight-le opcode.0 in omega (arith, one)

pub rises_low : (code : List Instr) → rises code ≤ 3 * length code
rises_low [] = omega arith
rises_low (instr ∷ code) = let one = rise-le instr in let more = rises_low code in omega (arith, one, more)

rise_counted : (instr : Instr) → rise instr ≤ 1 + 2 * weight (spelled instr).opcode
rise_counted (Push e) = omega arith
rise_counted (Do opcode) = omega arith

pub rises_counted : (code : List Instr) → rises code ≤ length code + 2 * counted_in (pieces_of code)
rises_counted [] = omega arith
rises_counted (instr ∷ code) =
    let first = rise_counted instr in
    let more = rises_counted code in
    omega (arith, first, more)

-- each instruction has a byte at least
pub length_spelled : (code : List Instr) → AllByRecursion IsFit code → length code ≤ length (spellings code)
length_spelled [] fit = omega arith
length_spelled (instr ∷ code) fit =
    let sum : length (spellings (instr ∷ code)) ≡ length (spelling instr) + length (spellings code) = length-append (spelling instr) (spellings code) in
    let sized = fit.0.sized in
    let more = length_spelled code fit.1 in
    omega (arith, sum, sized, more)
