-- What it is for moves to bring the end of an arm to the layout after the choice.
use Rattle.std.specs.Prelude.{◌≡◌, ℕ, ◌+◌, ◌*◌, ◌≤◌, ◌==◌, Bool, true, ◌||◌, IsTrue, if◌then◌else◌, List, [], ◌∷◌, ◌++◌, length, map, pos, Ok}
use Rattle.std.specs.List.{list_all, flat_map}
use Rattle.cash_base.specs.declared.place.Slot.{Slot}
use Rattle.cash_base.specs.Number.{minimal_bytes}
use Rattle.script_codec.specs.declared.instr.Instr.{Instr}
use Rattle.script_codec.specs.declared.instr.Instr.TheVariants.{Push, Do}
use Rattle.script_codec.specs.Reading.{push}
use Rattle.script_codec.specs.Spelling.{spellings}
use Rattle.script_codec.specs.Counting.{weight}
use Rattle.opcode_table.specs.Stack.{Stack}
use Rattle.branch_layout.specs.Slots.{kept_of, spare_of, count_of}
use Rattle.bch_vm.specs.Setting.{Setting}
use Rattle.bch_vm.specs.Board.{board, is_live}
use Rattle.bch_vm.specs.Script.{State, state_of, Progress, progress_after, run}

-- ---- runs

-- the state with another stack
abbrev pub with_stack : Stack → State → State
with_stack stack s = state_of (board stack s.board.alternate s.board.conditions s.board.separator) s.progress

-- the progress over instructions that leave the conditions as they are
abbrev pub progress_over : List Instr → List Bool → Progress → Progress
progress_over [] conditions p = p
progress_over (instr ∷ code) conditions p = progress_over code conditions (progress_after instr conditions p)

abbrev pub passed_over : List Instr → State → State
passed_over code s = state_of s.board (progress_over code s.board.conditions s.progress)

-- Run in any world where all open conditions are true, on any stack that begins with the one layout, each slot its element,
-- they leave the other, each slot its element, and then the rest of the stack, and all else as it was. No move fails.
abbrev pub Reaches : List Instr → List Slot → List Slot → Type 0
Reaches moves from to =
    (setting : Setting) (s : State) (element_of : Slot → List ℕ) (rest : Stack) → is_live s.board.conditions ≡ true
    → run setting moves (with_stack (map element_of from ++ rest) s)
    ≡ Ok (passed_over moves (with_stack (map element_of to ++ rest) s))

-- ---- moves

-- DROP and ROLL
abbrev pub drop_top : Instr
drop_top = Do (record { 0 = 0x75 })

abbrev pub roll : Instr
roll = Do (record { 0 = 0x7a })

-- a push, DROP or ROLL
abbrev pub is_move : Instr → Bool
is_move (Push e) = true
is_move (Do opcode) = (opcode.0 == 0x75) || (opcode.0 == 0x7a)

-- an opcode above 60 counts as one
abbrev pub counted : Instr → ℕ
counted (Push e) = 0
counted (Do opcode) = weight opcode.0

abbrev pub counted_opcodes : List Instr → ℕ
counted_opcodes [] = 0
counted_opcodes (move ∷ moves) = counted move + counted_opcodes moves

-- pushes, DROP and ROLL alone, of so many bytes and counted opcodes at most
pub record AreMoves (bytes_limit opcodes_limit : ℕ) (moves : List Instr) : Type 0 where
  pub plain : IsTrue (list_all is_move moves)
  pub bytes : length (spellings moves) ≤ bytes_limit
  pub opcodes : counted_opcodes moves ≤ opcodes_limit

-- What is promised of the moves of an arm: from its layout they reach the target, and they weigh at most 5 bytes and 2
-- counted opcodes for each slot of its layout.
pub record IsArm (layout target : List Slot) (moves : List Instr) : Type 0 where
  pub reaches : Reaches moves layout target
  pub weighs : AreMoves (5 * length layout) (2 * length layout) moves

-- ---- moves that only drop

-- the element on top, or the one that lies as deep as the pushed element says
pub data Dropping : Type 0 where
  Top : Dropping
  Below : List ℕ → Dropping

-- one DROP, or one push, ROLL and DROP
abbrev pub moves_of : Dropping → List Instr
moves_of Top = drop_top ∷ []
moves_of (Below depth) = push depth ∷ roll ∷ drop_top ∷ []

-- they drop so many elements, one after the other, and are nothing else
pub record DropOnly (count : ℕ) (moves : List Instr) : Type 0 where
  pub droppings : List Dropping
  pub counts : length droppings ≡ count
  pub spelled : moves ≡ flat_map moves_of droppings

-- ---- pieces

-- brings the element so far below the top to the top; where it is the top nothing is to be done
abbrev pub raising : ℕ → List Instr
raising below = if below == 0 then [] else push (minimal_bytes (pos below)) ∷ roll ∷ []

-- drops the element so far below the top
abbrev pub discarding : ℕ → List Instr
discarding below = raising below ++ drop_top ∷ []

-- of a layout what is kept is left, in its order, and each other slot is dropped
pub record KeepsOnly (keep layout left : List Slot) (moves : List Instr) : Type 0 where
  pub left_is : left ≡ kept_of keep layout
  pub reaches : Reaches moves layout left
  pub drops : DropOnly (spare_of keep layout) moves
  pub weighs : AreMoves (5 * spare_of keep layout) (2 * spare_of keep layout) moves

-- what was added brings the slots of the target to the top, in its order, above those that are left
pub record Raises (target before left : List Slot) (old new : List Instr) : Type 0 where
  pub added : List Instr
  pub grown : new ≡ old ++ added
  pub reaches : Reaches added before (target ++ left)
  pub weighs : AreMoves (4 * length target) (length target) added
  pub counts : (slot : Slot) → count_of slot target + count_of slot left ≡ count_of slot before
  pub size : length target + length left ≡ length before

-- what was added brings the slots into the order of the target
pub record Arranges (slots target : List Slot) (old new : List Instr) : Type 0 where
  pub added : List Instr
  pub grown : new ≡ old ++ added
  pub reaches : Reaches added slots target
  pub weighs : AreMoves (4 * length target) (length target) added
  pub size : length target ≡ length slots
