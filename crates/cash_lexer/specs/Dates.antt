-- Dates: `date("YYYY-MM-DDThh:mm:ss")`, in the Gregorian calendar, which is carried back to the year 0.
use Rattle.std.specs.Prelude.{ℕ, ◌+◌, ◌-◌, ◌*◌, ◌==◌, nat_eq, nat_le, Bool, ◌||◌, ◌&&◌, List, length, take, drop, codes, Option, Some, None, ℤ, pos, ◌+ℤ◌, ◌*ℤ◌, slice_index, if◌then◌else◌}
use Rattle.std.specs.List.{list_all, zip, starts_with}
use Rattle.std.specs.Char.{is_ascii_digit}
use Rattle.jiff_core.specs.Calendar.{days_in_month, days_from_civil}
use Rattle.cash_tree.specs.declared.TokenKind.TheVariants.{Date}
use Rattle.cash_lexer.specs.declared.piece.Piece.{Piece}
use Rattle.cash_lexer.specs.declared.piece.Piece.TheVariants.{Known, Flawed}
use Rattle.cash_lexer.specs.declared.piece.Flaw.TheVariants.{BadDate}

-- 0 stands for any digit, and any other sign for itself
abbrev pub shape : List ℕ
shape = codes "0000-00-00T00:00:00"

abbrev pub fits : ℕ → ℕ → Bool
fits sign byte = if sign == 48 then is_ascii_digit byte else byte == sign

unfoldable pub has_shape : List ℕ → Bool
has_shape text = (length text == 19) && list_all (λ (x : ℕ × ℕ). fits x.0 x.1) (zip shape text)

-- the calendar has the day, in the years of four digits
abbrev pub is_day : ℕ → ℕ → ℕ → Bool
is_day year month day =
    nat_le year 9999 && nat_le 1 month && nat_le month 12 && nat_le 1 day && nat_le day (days_in_month (pos year) month)

-- the clock has the time; no minute has a second 60
abbrev pub is_time : ℕ → ℕ → ℕ → Bool
is_time hour minute second = nat_le hour 23 && nat_le minute 59 && nat_le second 59

-- the seconds since 1970-01-01T00:00:00 in UTC: each day has 86,400
unfoldable pub seconds : ℕ → ℕ → ℕ → ℕ → ℕ → ℕ → ℤ
seconds year month day hour minute second =
    days_from_civil (pos year) month day *ℤ pos 86400 +ℤ pos (hour * 3600 + minute * 60 + second)

-- the same where there is this day and time
unfoldable pub moment : ℕ → ℕ → ℕ → ℕ → ℕ → ℕ → Option ℤ
moment year month day hour minute second =
    if is_day year month day && is_time hour minute second
    then Some (seconds year month day hour minute second) else None

-- the number of the two digits at a place
abbrev pub two_digits : List ℕ → ℕ → ℕ
two_digits text at = 10 * (slice_index text at - 48) + (slice_index text (at + 1) - 48)

-- the seconds since 1970 of a date in the shape above
unfoldable pub date_value : List ℕ → Option ℤ
date_value text =
    if has_shape text
    then moment (100 * two_digits text 0 + two_digits text 2) (two_digits text 5) (two_digits text 8)
    (two_digits text 11) (two_digits text 14) (two_digits text 17)
    else None

-- `"` and `'`
abbrev pub is_quote : ℕ → Bool
is_quote byte = byte == 34 || byte == 39

-- What stands after `date(` begins with a string of 19 signs and `)`. No sign of a date is spelled by an escape.
unfoldable pub has_date_string : List ℕ → Bool
has_date_string text =
    nat_le 22 (length text) && is_quote (slice_index text 0)
    && (slice_index text 20 == slice_index text 0) && (slice_index text 21 == 41)

abbrev pub date_piece : Option ℤ → Piece
date_piece (Some n) = Known (Date n) 27
date_piece None = Flawed BadDate 5

unfoldable pub date_after : List ℕ → Option ℤ
date_after text = if has_date_string text then date_value (take 19 (drop 1 text)) else None

-- `date(` begins a date, whatever stands after it
unfoldable pub date : List ℕ → Option Piece
date text =
    if starts_with nat_eq text (codes "date(") then Some (date_piece (date_after (drop 5 text))) else None
