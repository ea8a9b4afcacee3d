-- Lines and columns of a source.
use Rattle.std.specs.Prelude.{ℕ, ◌+◌, ◌==◌, Bool, not, List, take, count_by}
use Rattle.std.specs.List.{suffix_len}

abbrev pub is_feed : ℕ → Bool
is_feed byte = byte == 10

abbrev pub in_line : ℕ → Bool
in_line byte = not (is_feed byte)

-- one more than the line feeds in a text
abbrev pub line_after : List ℕ → ℕ
line_after text = count_by is_feed text + 1

-- one more than the bytes of a text after its last line feed
unfoldable pub column_after : List ℕ → ℕ
column_after text = suffix_len in_line text + 1

-- the line and the column, both counted from 1, of the byte after so many bytes of a source
abbrev pub line_col : List ℕ → ℕ → ℕ × ℕ
line_col source at = (line_after (take at source), column_after (take at source))
