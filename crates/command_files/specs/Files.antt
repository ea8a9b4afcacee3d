-- The files that a command reads, and why one isn't read.
use Rattle.std.specs.Prelude.{◌≡◌, ◌≢◌, ℕ, ◌<◌, ◌⊎◌, List, [], length, Option, Some, None, IfSome, IsSomeAnd}
use Rattle.cash_base.specs.Outside.{Files, file_named, Rose}
use Rattle.command_files.specs.declared.Stop.{Stop}
use Rattle.command_files.specs.declared.Stop.TheVariants.{Refused, Unread, Memory}

-- ---- the files, where the store tells them

abbrev pub IsFile : Option Files → List ℕ → List ℕ → Type 0
IsFile files name bytes = IfSome files (λ fs. file_named name fs ≡ Some bytes)

-- it is longer than so many bytes
abbrev pub IsLonger : Option Files → List ℕ → ℕ → Type 0
IsLonger files name limit = IfSome files (λ fs. (bytes : List ℕ) × (file_named name fs ≡ Some bytes) × (limit < length bytes))

abbrev pub IsMissing : Option Files → List ℕ → Type 0
IsMissing files name = IsSomeAnd files (λ fs. file_named name fs ≡ None)

-- ---- why a command shows nothing

-- something is said of a refusal
abbrev pub IsSaid : Stop → Type 0
IsSaid (Refused status text) = text.items ≢ []
IsSaid _ = Unit {0}

-- the count of faults rose, or the store lacks the file
abbrev pub HasUnreadCause : Option Files → List ℕ → ℕ → ℕ → Type 0
HasUnreadCause files name before now = Rose before now ⊎ IsMissing files name

-- a file isn't read: it is longer than it may be, of which this status and this text tell, or it can't be read
abbrev pub HasFileCause : Option Files → List ℕ → ℕ → ℕ → List ℕ → ℕ → ℕ → Stop → Type 0
HasFileCause files name limit status told before now (Refused s text) = (s ≡ status) × (text.items ≡ told)
    × IsLonger files name limit
HasFileCause files name limit status told before now Unread = HasUnreadCause files name before now
HasFileCause files name limit status told before now Memory = Unit {0}
