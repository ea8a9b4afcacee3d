-- What holds of every frame and of every context: this project's limits, and what the types of their parts give.
use Rattle.std.specs.Prelude.{◌≡◌, ℕ, ◌^◌, ◌<◌, ◌==◌, ◌&&◌, Bool, nat_lt, nat_le, List, [], ◌∷◌, ◌++◌, length, map, IsTrue, Result, Ok, option_to_list}
use Rattle.std.specs.List.{position_from, list_any, list_all}
use Rattle.cash_base.specs.Failing.{◌>>◌, refused_if, refused_at}
use Rattle.tx_context.specs.Bytes.{are_bytes}
use Rattle.tx_context.specs.Transaction.{InputParts, OutputParts, Transaction, Locking}
use Rattle.tx_context.specs.declared.frame.TheConstants.{GREATEST_VERSION, MOST_INPUTS, MOST_OUTPUTS, GREATEST_VALUE, LONGEST_BYTECODE}
use Rattle.tx_context.specs.declared.frame.FrameFault.{FrameFault}
use Rattle.tx_context.specs.declared.frame.FrameFault.TheVariants.{Version, NoInput, TooMany, Value, BytecodeLength, ActiveRange}

-- ---- what is held, by the inputs and then by the outputs

abbrev pub values : {B : Type 0} → List (InputParts B) → List (OutputParts B) → List ℕ
values inputs outputs = map (λ i. i.value) inputs ++ map (λ o. o.value) outputs

-- the bytecodes of an input, where `given` tells those that stand for its locking bytecode
abbrev pub bytecodes_of : {B : Type 0} → (B → List (List ℕ)) → InputParts B → List (List ℕ)
bytecodes_of given i = given i.locking ++ i.unlocking ∷ []

-- those of each
abbrev pub bytecodes : {B : Type 0} → (B → List (List ℕ)) → List (InputParts B) → List (OutputParts B) → List (List (List ℕ))
bytecodes given inputs outputs = map (bytecodes_of given) inputs ++ map (λ o. given o.locking) outputs

-- ---- the limits

abbrev pub is_great_value : ℕ → Bool
is_great_value value = nat_lt GREATEST_VALUE value

abbrev pub is_long : List ℕ → Bool
is_long bytes = nat_lt LONGEST_BYTECODE (length bytes)

abbrev pub count_check : {B : Type 0} → ℕ → List (InputParts B) → List (OutputParts B) → Result (Unit {0}) FrameFault
count_check version inputs outputs = do
  refused_if (nat_lt GREATEST_VERSION version) Version
  refused_if (length inputs == 0) NoInput
  refused_if (nat_lt MOST_INPUTS (length inputs)) (TooMany (length inputs))
  refused_if (nat_lt MOST_OUTPUTS (length outputs)) (TooMany (length outputs))

abbrev pub value_check : {B : Type 0} → List (InputParts B) → List (OutputParts B) → Result (Unit {0}) FrameFault
value_check inputs outputs = refused_at (position_from is_great_value 0 (values inputs outputs)) Value

abbrev pub bytecode_check : {B : Type 0} → (B → List (List ℕ)) → List (InputParts B) → List (OutputParts B) → Result (Unit {0}) FrameFault
bytecode_check given inputs outputs = refused_at (position_from (list_any is_long) 0 (bytecodes given inputs outputs)) BytecodeLength

-- a transaction of these parts, or their first fault; the index of an offender counts the inputs and then the outputs
abbrev pub checked : {B : Type 0} → (B → List (List ℕ)) → Transaction B → Result (Transaction B) FrameFault
checked given t = do
  count_check t.version t.inputs t.outputs
  value_check t.inputs t.outputs
  bytecode_check given t.inputs t.outputs
  refused_if (nat_le (length t.inputs) t.active) ActiveRange
  Ok t

-- the frame of these parts, or their first fault
abbrev pub checked_frame : Transaction Locking → Result (Transaction Locking) FrameFault
checked_frame t = checked option_to_list t

-- ---- what types give

-- its hash has 32 bytes, and its index and its sequence number have 32 bits
abbrev pub is_numbered : {B : Type 0} → InputParts B → Bool
is_numbered i = (length i.hash == 32) && (nat_lt i.index (2 ^ 32) && nat_lt i.sequence (2 ^ 32))

-- and its hash and its bytecodes are bytes
abbrev pub is_typed_input : {B : Type 0} → (B → List (List ℕ)) → InputParts B → Bool
is_typed_input given i = is_numbered i && (are_bytes i.hash && list_all are_bytes (bytecodes_of given i))

abbrev pub is_typed_output : {B : Type 0} → (B → List (List ℕ)) → OutputParts B → Bool
is_typed_output given o = list_all are_bytes (given o.locking)

-- A transaction within the limits: it has no fault. What its types give holds of it.
pub record IsWithinLimits {B : Type 0} (given : B → List (List ℕ)) (t : Transaction B) : Type 0 where
  pub limits : checked given t ≡ Ok t
  pub locktime : t.locktime < 2 ^ 32
  pub inputs : IsTrue (list_all (is_typed_input given) t.inputs)
  pub outputs : IsTrue (list_all (is_typed_output given) t.outputs)

-- within the limits; a locking bytecode may be left open
abbrev pub IsFrame : Transaction Locking → Type 0
IsFrame t = IsWithinLimits option_to_list t

-- a frame in which no locking bytecode is left open
abbrev pub IsContext : Transaction (List ℕ) → Type 0
IsContext t = IsWithinLimits (λ bytes. bytes ∷ []) t
