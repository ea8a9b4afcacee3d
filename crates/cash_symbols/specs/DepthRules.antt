-- Which tokens pass a limit, counted from the left.
use Rattle.std.specs.Prelude.{ℕ, ◌+◌, ◌-◌, nat_lt, Bool, ◌||◌, List, [], ◌∷◌, Option, Some, None, codes, if◌then◌else◌}
use Rattle.cash_base.specs.declared.place.Span.{Span}
use Rattle.cash_symbols.specs.declared.fault.DepthRule.{DepthRule}
use Rattle.cash_symbols.specs.declared.fault.DepthRule.TheVariants.{Brackets, Braces, Run, Branches}
use Rattle.cash_symbols.specs.declared.depth.Depth.{Depth}
use Rattle.cash_symbols.specs.Lexemes.{Lexeme, Symbol}
use Rattle.cash_symbols.specs.Front.{is_mark}

-- open `(` and `[` together
abbrev pub most_brackets : ℕ
most_brackets = 64

-- open `{`
abbrev pub most_braces : ℕ
most_braces = 32

-- tokens since the last `;`, `{` or `}`
abbrev pub most_in_run : ℕ
most_in_run = 1000

-- tokens `if`
abbrev pub most_branches : ℕ
most_branches = 128

abbrev pub opens_bracket : Symbol → Bool
opens_bracket symbol = is_mark (codes "(") symbol || is_mark (codes "[") symbol

abbrev pub closes_bracket : Symbol → Bool
closes_bracket symbol = is_mark (codes ")") symbol || is_mark (codes "]") symbol

abbrev pub ends_run : Symbol → Bool
ends_run symbol = is_mark (codes ";") symbol || is_mark (codes "{") symbol || is_mark (codes "}") symbol

-- one more where something opens, and one less, but never below zero, where it closes
abbrev pub counted : Bool → Bool → ℕ → ℕ
counted opens closes n = if opens then n + 1 else (if closes then n - 1 else n)

-- what is counted, after one more token
unfoldable pub depth_after : Depth → Symbol → Depth
depth_after depth symbol = record {
  brackets = counted (opens_bracket symbol) (closes_bracket symbol) depth.brackets;
  braces = counted (is_mark (codes "{") symbol) (is_mark (codes "}") symbol) depth.braces;
  run = if ends_run symbol then 0 else depth.run + 1;
  branches = if is_mark (codes "if") symbol then depth.branches + 1 else depth.branches;
}

-- the first rule that is broken
unfoldable pub broken_rule : Depth → Option DepthRule
broken_rule depth =
    if nat_lt most_brackets depth.brackets then Some Brackets
    else if nat_lt most_braces depth.braces then Some Braces
    else if nat_lt most_in_run depth.run then Some Run
    else if nat_lt most_branches depth.branches then Some Branches
    else None

abbrev pub or_later : Option DepthRule → Span → Option (DepthRule × Span) → Option (DepthRule × Span)
or_later (Some rule) span later = Some (rule, span)
or_later None span later = later

-- the first token after which a rule is broken
abbrev pub deep_after : Depth → List Lexeme → Option (DepthRule × Span)
deep_after depth [] = None
deep_after depth (t ∷ rest) =
    or_later (broken_rule (depth_after depth t.symbol)) t.span (deep_after (depth_after depth t.symbol) rest)

abbrev pub nothing_open : Depth
nothing_open = record { brackets = 0; braces = 0; run = 0; branches = 0 }

-- the first token that passes a limit, and its rule
unfoldable pub first_too_deep : List Lexeme → Option (DepthRule × Span)
first_too_deep ts = deep_after nothing_open ts
