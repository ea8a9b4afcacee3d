-- The moves of a join, as rows.
use Rattle.std.proofs.Common.{◌≡◌, ℕ, ◌+◌, ◌*◌, ◌≤◌, arith, Bool, true, false, List, [], ◌∷◌, ◌++◌, length, map, cond, Some, Ok, refl, sym, ap, ◌∙◌, subst}
use Rattle.std.specs.Prelude.{◌==◌, ◌||◌, option_and_then}
use Rattle.std.specs.List.{list_all}
use Rattle.std.proofs.lemmas.Bool.{false≢true, and_parts, and_from, eqb-true, eq-eqb}
use Rattle.cash_base.specs.declared.place.Slot.{Slot}
use Rattle.cash_base.specs.declared.place.Span.{Span}
use Rattle.tx_context.specs.World.{World}
use Rattle.script_codec.specs.declared.instr.Instr.{Instr}
use Rattle.script_codec.specs.declared.instr.Instr.TheVariants.{Push, Do}
use Rattle.opcode_table.specs.declared.rows.Deed.TheVariants.{Moves}
use Rattle.opcode_table.specs.Stack.{Stack}
use Rattle.bch_vm.specs.Setting.{setting_in}
use Rattle.bch_vm.specs.Board.{board, is_live}
use Rattle.bch_vm.specs.Script.{State as MachineState, state_of, beginning, run}
use Rattle.run_laws.specs.Nested.{open_after_row, open_after, nesting}
use Rattle.branch_layout.specs.Slots.{has, all_stand_in, kept_of}
use Rattle.branch_layout.specs.Arms.{counted_opcodes, Reaches, is_move, IsArm}
use Rattle.row_runs.specs.Rows.{instructions, machine, run_rows, IsNested}
use Rattle.row_runs.specs.Code.{is_simple, are_simple, row_is_simple}
use Rattle.row_runs.proofs.Located.{ok_from}
use Rattle.stack_emitter.specs.declared.emit.Emitter.{Emitter}
use Rattle.stack_emitter.specs.Places.{spot}
use Rattle.stack_emitter.specs.Codes.{is_sound, are_sound, is_plain_instr, are_plain, bytes_of, ops_of}
use Rattle.stack_emitter.specs.Correct.{value, Fits, Follows, Adds, nothing, rows_of}
use Rattle.stack_emitter.proofs.Steps.{op, op_sound, plain_row, adds_by}
use Rattle.stack_emitter.proofs.Works.{drop_table}
use Rattle.stack_emitter.proofs.Sizes.{bytes_append, ops_append}
use Rattle.stack_emitter.proofs.Tails.{no_operand}
use Rattle.script_codec.specs.Counting.{weight}
use Rattle.script_codec.specs.Spelling.{spellings}
use Rattle.stack_emitter.proofs.Emits.{drop_opcode, roll_opcode}

instrs_of : (c : Span) (moves : List Instr) → instructions (rows_of c moves) ≡ moves
instrs_of c [] = refl
instrs_of c (move ∷ moves) = ap (λ l. move ∷ l) (instrs_of c moves)

-- what a move is not
record IsFine (instr : Instr) : Type 0 where
  simple : is_simple instr ≡ true
  sound : is_sound instr ≡ true
  plain : is_plain_instr instr ≡ true
  opening : (n : ℕ) → open_after instr n ≡ Some n

drop_fine : IsFine (op 0x75)
drop_fine = record {
  simple = ap row_is_simple drop_opcode.row;
  sound = (and_parts (is_sound (op 0x75)) true (op_sound 0x75 drop_table (record { from = 0; to = 0 }) (record { from = 0; to = 0 }) drop_opcode)).0;
  plain = refl;
  opening = λ n. ap (λ w. open_after_row w n) drop_opcode.row;
}

roll_fine : IsFine (op 0x7a)
roll_fine = record {
  simple = ap row_is_simple roll_opcode.row;
  sound = (and_parts (is_sound (op 0x7a)) true (op_sound 0x7a Moves (record { from = 0; to = 0 }) (record { from = 0; to = 0 }) roll_opcode)).0;
  plain = refl;
  opening = λ n. ap (λ w. open_after_row w n) roll_opcode.row;
}

fine : (move : Instr) → is_move move ≡ true → IsFine move
fine (Push e) h = record { simple = refl; sound = refl; plain = refl; opening = λ n. refl }
fine (Do opcode) h = by (opcode.0 == 0x75) refl (opcode.0 == 0x7a) refl h
  where
    by : (a : Bool) → (opcode.0 == 0x75) ≡ a → (b : Bool) → (opcode.0 == 0x7a) ≡ b → (a || b) ≡ true → IsFine (Do opcode)
    by true e b f k = subst (λ n. IsFine (op n)) (sym (eqb-true opcode.0 0x75 e)) drop_fine
    by false e true f k = subst (λ n. IsFine (op n)) (sym (eqb-true opcode.0 0x7a f)) roll_fine
    by false e false f k = absurd (false≢true k)

moves_nested : (c : Span) (moves : List Instr) → list_all is_move moves ≡ true → IsNested (rows_of c moves)
moves_nested c [] h n = refl
moves_nested c (move ∷ moves) h n =
    let p = and_parts (is_move move) (list_all is_move moves) h in
    ap (option_and_then (nesting (instructions (rows_of c moves)))) ((fine move p.0).opening n) ∙ moves_nested c moves p.1 n

moves_simple : (c : Span) (moves : List Instr) → list_all is_move moves ≡ true → are_simple (rows_of c moves) ≡ true
moves_simple c [] h = refl
moves_simple c (move ∷ moves) h =
    let p = and_parts (is_move move) (list_all is_move moves) h in
    and_from (is_simple move) (are_simple (rows_of c moves)) (fine move p.0).simple (moves_simple c moves p.1)

moves_sound : (c : Span) (moves : List Instr) → list_all is_move moves ≡ true → are_sound (rows_of c moves) ≡ true
moves_sound c [] h = refl
moves_sound c (move ∷ moves) h =
    let p = and_parts (is_move move) (list_all is_move moves) h in
    and_from (is_sound move) (are_sound (rows_of c moves)) (fine move p.0).sound (moves_sound c moves p.1)

moves_plain : (c : Span) (moves : List Instr) → list_all is_move moves ≡ true → are_plain c c (rows_of c moves) ≡ true
moves_plain c [] h = refl
moves_plain c (move ∷ moves) h =
    let p = and_parts (is_move move) (list_all is_move moves) h in
    plain_row move c c (rows_of c moves) (fine move p.0).plain (moves_plain c moves p.1)

reach_rows : (c : Span) (moves : List Instr) (from to : List Slot) → Reaches moves from to → list_all is_move moves ≡ true → (world : World)
    (element_of : Slot → List ℕ) (rest : Stack) (conditions : List Bool) → is_live conditions ≡ true
    → run_rows world (rows_of c moves) (machine (map element_of from ++ rest) conditions) ≡ Ok (machine (map element_of to ++ rest) conditions)
reach_rows c moves from to reaches plain world element_of rest conditions live =
    let before : MachineState = state_of (board [] [] conditions 0) beginning in
    ok_from world (rows_of c moves) (moves_simple c moves plain) (machine (map element_of from ++ rest) conditions) _
    (ap (λ l. run (setting_in world (instructions (rows_of c moves))) l (state_of (board (map element_of from ++ rest) [] conditions 0) beginning)) (instrs_of c moves)
    ∙ reaches (setting_in world (instructions (rows_of c moves))) before element_of rest live)

pub reach_follows : (c : Span) (moves : List Instr) (from to : List Slot) → Reaches moves from to → list_all is_move moves ≡ true
    → Follows (rows_of c moves) nothing (spot [] from) (spot [] to)
reach_follows c moves from to reaches plain = record {
  nested = moves_nested c moves plain;
  sound = moves_sound c moves plain;
  runs = λ world s rest conditions live fits.
      let none = no_operand [] s.operands refl fits in (
        subst (λ operands. Fits [] operands) (sym none) tt,
        ap (λ operands. run_rows world (rows_of c moves) (machine (operands ++ (map (value s.env) from ++ rest)) conditions)) none
            ∙ reach_rows c moves from to reaches plain world (value s.env) rest conditions live
            ∙ ap (λ operands. Ok (machine (operands ++ (map (value s.env) to ++ rest)) conditions)) (sym none),
      );
}

-- a list keeps all of its own
kept_all : (target all : List Slot) → all_stand_in target all ≡ true → kept_of all target ≡ target
kept_all [] all h = refl
kept_all (s ∷ target) all h =
    let p = and_parts (has all s) (all_stand_in target all) h in
    ap (λ b. cond b (s ∷ kept_of all target) (kept_of all target)) p.0 ∙ ap (λ l. s ∷ l) (kept_all target all p.1)

stand_more : (x : Slot) (target all : List Slot) → all_stand_in target all ≡ true → all_stand_in target (x ∷ all) ≡ true
stand_more x [] all h = refl
stand_more x (s ∷ target) all h =
    let p = and_parts (has all s) (all_stand_in target all) h in
    and_from (has (x ∷ all) s) (all_stand_in target (x ∷ all)) (or_right (x.0 == s.0) (has all s) p.0) (stand_more x target all p.1)
  where
    or_right : (a b : Bool) → b ≡ true → (a || b) ≡ true
    or_right true b h = refl
    or_right false b h = h

pub stand_in_itself : (target : List Slot) → all_stand_in target target ≡ true
stand_in_itself [] = refl
stand_in_itself (s ∷ target) =
    and_from (has (s ∷ target) s) (all_stand_in target (s ∷ target)) (ap (λ b. b || has target s) (eq-eqb s.0 s.0 refl)) (stand_more s target target (stand_in_itself target))

pub kept_itself : (target : List Slot) → kept_of target target ≡ target
kept_itself target = kept_all target target (stand_in_itself target)

pub settled : (old new : Emitter) (checking : Span) (from target left : List Slot) (moves : List Instr) → old.place.operands ≡ [] → from ≡ old.place.slots
    → left ≡ kept_of target target → IsArm from left moves → new.code.items ≡ old.code.items ++ rows_of checking moves → new.place ≡ spot [] left
    → Adds checking checking old new nothing
settled old new checking from target left moves none same left_is arm code place =
    let at : spot [] from ≡ old.place = ap (λ o. spot o from) (sym none) ∙ ap (spot old.place.operands) same in
    adds_by checking checking old new (rows_of checking moves) nothing (spot [] left) code place
    (subst (λ p. Follows (rows_of checking moves) nothing p (spot [] left)) at (reach_follows checking moves from left arm.reaches arm.weighs.plain))
    (moves_plain checking moves arm.weighs.plain)

-- ---- costs

moves_bytes : (c : Span) (moves : List Instr) → bytes_of (rows_of c moves) ≡ length (spellings moves)
unfolding bytes_of
moves_bytes c moves = ap (λ l. length (spellings l)) (instrs_of c moves)

moves_ops : (c : Span) (moves : List Instr) → ops_of (rows_of c moves) ≡ counted_opcodes moves
unfolding ops_of
moves_ops c [] = refl
moves_ops c (Push e ∷ moves) = ap (λ n. 0 + n) (moves_ops c moves)
moves_ops c (Do opcode ∷ moves) = ap (λ n. weight opcode.0 + n) (moves_ops c moves)

pub settled_bytes : (old new : Emitter) (checking : Span) (from left : List Slot) (moves : List Instr) → from ≡ old.place.slots → IsArm from left moves
    → new.code.items ≡ old.code.items ++ rows_of checking moves → bytes_of new.code.items ≤ bytes_of old.code.items + 5 * length old.place.slots
settled_bytes old new checking from left moves same arm code =
    let e = ap bytes_of code ∙ bytes_append old.code.items (rows_of checking moves) in
    let f = moves_bytes checking moves in
    let w = arm.weighs.bytes in
    let l = ap length same in
    omega (arith, e, f, w, l)

pub settled_ops : (old new : Emitter) (checking : Span) (from left : List Slot) (moves : List Instr) → from ≡ old.place.slots → IsArm from left moves
    → new.code.items ≡ old.code.items ++ rows_of checking moves → ops_of new.code.items ≤ ops_of old.code.items + 2 * length old.place.slots
settled_ops old new checking from left moves same arm code =
    let e = ap ops_of code ∙ ops_append old.code.items (rows_of checking moves) in
    let f = moves_ops checking moves in
    let w = arm.weighs.opcodes in
    let l = ap length same in
    omega (arith, e, f, w, l)
