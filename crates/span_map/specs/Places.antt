-- The place in a source of a failure at a row.
use Rattle.std.specs.Prelude.{ℕ, ◌-◌, nat_lt, if◌then◌else◌, List, Option, None, slice_get, option_map}
use Rattle.cash_base.specs.declared.fault.MachineCause.{MachineCause}
use Rattle.cash_base.specs.declared.place.Span.{Span}
use Rattle.cash_base.specs.Source.{place_in}
use Rattle.span_map.specs.declared.SpanRow.{SpanRow}

-- the place in the source of a cause at a row, where there is such a row
abbrev pub place_of : List SpanRow → ℕ → MachineCause → Option Span
place_of rows at cause = option_map (λ row. place_in row.doing row.checking cause) (slice_get rows at)

-- ... at an instruction of a redeem script that has so many pushes of the constructor before the code
abbrev pub place_after : List SpanRow → ℕ → ℕ → MachineCause → Option Span
place_after rows before at cause = if nat_lt at before then None else place_of rows (at - before) cause
