-- What a store and a sink promise.
use Rattle.std.specs.Prelude.{◌≡◌, ℕ, ◌-◌, ◌^◌, ◌≤◌, ◌<◌, ◌⊎◌, List, [], ◌∷◌, ◌++◌, if◌then◌else◌, length, take, Option, Some, None, option_map, Result, IfSome, IsSomeAnd, IsErrOf, OnErr, OnOk}
use Rattle.std.specs.Str.{bytes_eq}
use Rattle.cash_base.specs.declared.outside.StoreStop.{StoreStop}
use Rattle.cash_base.specs.declared.outside.StoreStop.TheVariants.{Failed, TooLong, Memory}

-- names of files, and the bytes that stand under each
abbrev pub Files : Type 0
Files = List (List ℕ × List ℕ)

-- the bytes of the first file of this name
abbrev pub file_named : List ℕ → Files → Option (List ℕ)
file_named name [] = None
file_named name (file ∷ files) = if bytes_eq file.0 name then Some file.1 else file_named name files

-- the count of faults rose, or stands at the last value of the counters
abbrev pub Rose : ℕ → ℕ → Type 0
Rose before now = (before < now) ⊎ (now ≡ 2 ^ 64 - 1)

-- what a read may answer, where `before` and `now` count the faults and `into` then holds `bytes`
pub record Reads (files : Option Files) (before now : ℕ) (name : List ℕ) (limit : ℕ)
    (result : Result (Unit {0}) StoreStop) (bytes : List ℕ) : Type 0 where
  -- the count of faults never falls
  pub later : before ≤ now
  -- Ok: the whole file, within the limit
  pub whole : OnOk result (IfSome files (λ fs. file_named name fs ≡ Some bytes))
  pub within : OnOk result (length bytes ≤ limit)
  -- Failed: a fault, or the files are told and none has this name
  pub failed : IsErrOf result Failed →
      Rose before now ⊎ IsSomeAnd files (λ fs. file_named name fs ≡ None)
  -- TooLong: the file is there, and is longer than the limit
  pub too_long : IsErrOf result TooLong →
      IfSome files (λ fs. (file : List ℕ) × (file_named name fs ≡ Some file) × (limit < length file))
  -- Memory: the file is there, and is within the limit
  pub memory : IsErrOf result Memory →
      IfSome files (λ fs. (file : List ℕ) × (file_named name fs ≡ Some file) × (length file ≤ limit))
  -- any stop: nothing is left in `into`
  pub emptied : OnErr result (bytes ≡ [])

-- what was written grew by these bytes, where it is told
abbrev pub Grew : Option (List ℕ) → Option (List ℕ) → List ℕ → Type 0
Grew old new bytes = new ≡ option_map (λ written. written ++ bytes) old

-- what was written grew by some front of these bytes, where it is told
abbrev pub GrewByFront : Option (List ℕ) → Option (List ℕ) → List ℕ → Type 0
GrewByFront old new bytes = (n : ℕ) × Grew old new (take n bytes)

-- what a write may answer, where `old` and `new` were written and `before` and `now` count the faults
pub record Writes (old new : Option (List ℕ)) (before now : ℕ) (bytes : List ℕ) {E : Type 0}
    (result : Result (Unit {0}) E) : Type 0 where
  -- the count of faults never falls
  pub later : before ≤ now
  -- Ok: all of the bytes
  pub all : OnOk result (Grew old new bytes)
  -- SinkFailed: a fault, and a front of the bytes
  pub failed : OnErr result (Rose before now × GrewByFront old new bytes)
