-- A transaction that is spent, as numbers and lists of bytes. `B` is what stands for a locking bytecode: the bytes, or
-- in a frame nothing where it is the one of the spend.
use Rattle.std.specs.Prelude.{ℕ, List, Option, replicate}

-- an input, with the output that it spends
pub record InputParts (B : Type 0) : Type 0 where
  pub hash : List ℕ
  pub index : ℕ
  pub sequence : ℕ
  pub value : ℕ
  pub locking : B
  pub unlocking : List ℕ

pub record OutputParts (B : Type 0) : Type 0 where
  pub value : ℕ
  pub locking : B

pub record Transaction (B : Type 0) : Type 0 where
  pub version : ℕ
  pub locktime : ℕ
  pub inputs : List (InputParts B)
  pub outputs : List (OutputParts B)
  -- the index of the input that is spent
  pub active : ℕ

-- a locking bytecode of a frame: its bytes, or nothing where it is the one of the spend
abbrev pub Locking : Type 0
Locking = Option (List ℕ)

-- an input of these parts
abbrev pub input_parts : {B : Type 0} → List ℕ → ℕ → ℕ → ℕ → B → List ℕ → InputParts B
input_parts hash index sequence value locking unlocking = record {
  hash = hash;
  index = index;
  sequence = sequence;
  value = value;
  locking = locking;
  unlocking = unlocking;
}

-- an ordinary input: it spends the first output of a transaction whose hash is all zeros, with sequence number 0
abbrev pub plain_input : {B : Type 0} → ℕ → B → List ℕ → InputParts B
plain_input value locking unlocking = input_parts (replicate 32 0) 0 0 value locking unlocking

-- a transaction of these parts
abbrev pub transaction : {B : Type 0} → ℕ → ℕ → List (InputParts B) → List (OutputParts B) → ℕ → Transaction B
transaction version locktime inputs outputs active =
    record { version = version; locktime = locktime; inputs = inputs; outputs = outputs; active = active }
