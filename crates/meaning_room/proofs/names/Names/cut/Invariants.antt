use Rattle.std.proofs.Common.{◌≡◌, ℕ, length, get_or, false}
use Rattle.meaning_room.proofs.Places.{cut_at}
use Rattle.meaning_room.proofs.names.Names.cut.Given as goal

-- the places up to this one are cut
abbrev pub invariant-loop-place : goal.invariant-loop-place
invariant-loop-place l =
    (length l.self-inside.known ≡ 160) × (l.self-inside.elements ≡ l.initial.self-inside.elements)
    × ((j : ℕ) → get_or l.self-inside.known j false ≡ cut_at l.place l.initial.self-inside.known l.mark-inside.known j)
