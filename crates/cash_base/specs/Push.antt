-- What stands before the bytes of a push, as the Bitcoin Cash specification has it.
use Rattle.std.specs.Prelude.{ℕ, ◌/◌, ◌%◌, nat_le, if◌then◌else◌, List, [], ◌∷◌}

-- the length: itself up to 75, after PUSHDATA1 (4c) up to 255, and above that in two bytes after PUSHDATA2 (4d)
abbrev pub push_prefix : ℕ → List ℕ
push_prefix n =
    if nat_le n 75 then n ∷ []
    else (if nat_le n 255 then 0x4c ∷ n ∷ [] else 0x4d ∷ (n % 256) ∷ (n / 256) ∷ [])
