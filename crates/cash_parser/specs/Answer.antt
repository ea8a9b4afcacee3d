-- What parsing answers.
use Rattle.std.specs.Prelude.{◌≡◌, ℕ, List, Option, Some, None, Result, Ok, Err}
use Rattle.cash_base.specs.declared.place.Span.{Span}
use Rattle.cash_parser.specs.declared.fault.ParseFault.{ParseFault}
use Rattle.cash_parser.specs.declared.fault.ParseFault.TheVariants.{TooDeep, Syntax, Memory}
use Rattle.cash_symbols.specs.declared.fault.DepthRule.{DepthRule}
use Rattle.cash_symbols.specs.Lexemes.{Lexeme}
use Rattle.cash_parser.specs.Files.{Tree, SpellsFile}

-- no tree spells the lexemes
abbrev pub IsNone : List Lexeme → Type 0
IsNone ts = (tree : Tree) → SpellsFile ts tree → ⊥

-- what holds of the token that a Syntax names
abbrev pub OnSyntax : {A : Type 0} → Result A ParseFault → (ℕ → Type 0) → Type 0
OnSyntax (Ok e) P = Unit {0}
OnSyntax (Err (TooDeep rule span)) P = Unit {0}
OnSyntax (Err (Syntax token)) P = P token
OnSyntax (Err Memory) P = Unit {0}

-- TooDeep is answered exactly where a token is too deep, unless memory runs out, and names it and its rule
abbrev pub IsDeep : {A : Type 0} → Result A ParseFault → Option (DepthRule × Span) → Type 0
IsDeep (Ok e) deep = deep ≡ None
IsDeep (Err (TooDeep rule span)) deep = deep ≡ Some (rule, span)
IsDeep (Err (Syntax token)) deep = deep ≡ None
IsDeep (Err Memory) deep = Unit {0}
