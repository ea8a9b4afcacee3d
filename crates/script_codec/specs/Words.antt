-- A text as words with blanks between them.
use Rattle.std.specs.Prelude.{ℕ, Bool, ◌==◌, ◌||◌, if◌then◌else◌, List, [], ◌∷◌}

-- a space, a tab, a line feed or a carriage return
abbrev pub is_blank : ℕ → Bool
is_blank byte = byte == 0x20 || byte == 0x09 || byte == 0x0a || byte == 0x0d

-- a byte in front of the first piece
abbrev pub in_front : ℕ → List (List ℕ) → List (List ℕ)
in_front byte [] = (byte ∷ []) ∷ []
in_front byte (piece ∷ pieces) = (byte ∷ piece) ∷ pieces

-- what stands before, between and after the blanks
abbrev pub pieces : List ℕ → List (List ℕ)
pieces [] = [] ∷ []
pieces (byte ∷ bytes) = if is_blank byte then [] ∷ pieces bytes else in_front byte (pieces bytes)

-- without the pieces that have no bytes
abbrev pub not_empty : List (List ℕ) → List (List ℕ)
not_empty [] = []
not_empty ([] ∷ pieces) = not_empty pieces
not_empty ((byte ∷ bytes) ∷ pieces) = (byte ∷ bytes) ∷ not_empty pieces

-- the words of a text: the pieces that have bytes
abbrev pub words : List ℕ → List (List ℕ)
words text = not_empty (pieces text)
