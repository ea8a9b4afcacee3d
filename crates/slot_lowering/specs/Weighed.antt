-- What the slot code of statements weighs at most.
use Rattle.std.specs.Prelude.{◌≡◌, ◌≤◌, ◌+◌, ℕ, false, List, map}
use Rattle.slot_code.specs.declared.slots.SlotInstr.{SlotInstr}
use Rattle.slot_code.specs.Weight.{Weighs, all_weigh, path_weigh, is_over, weighs_of}
use Rattle.slot_expressions.specs.Room.{Price}

abbrev pub weights : List SlotInstr → List Weighs
weights rows = map weighs_of rows

-- Rows behind which others stand: so many names more are in scope behind them, and they weigh at most this price, by the number
-- of names before them.
pub record Inside (rows : List SlotInstr) (names : ℕ) (most : ℕ → Price) : Type 0 where
  pub names_are : (n : ℕ) → (all_weigh (weights rows) n).names ≡ n + names
  pub bytes : (n : ℕ) → (all_weigh (weights rows) n).bytes ≤ (most n).bytes
  pub ops : (n : ℕ) → (all_weigh (weights rows) n).ops ≤ (most n).ops

-- rows of a path
pub record Within (rows : List SlotInstr) (most : ℕ → Price) : Type 0 where
  pub bytes : (n : ℕ) → (path_weigh (weights rows) n).bytes ≤ (most n).bytes
  pub ops : (n : ℕ) → (path_weigh (weights rows) n).ops ≤ (most n).ops

-- ... some of which end no slot
pub record AtEnd (rows : List SlotInstr) (most : ℕ → Price) : Type 0 where
  pub within : Within rows most
  pub goes_on : is_over (weights rows) ≡ false
