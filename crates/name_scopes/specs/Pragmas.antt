-- Which constraints of a pragma admit the language's version.
use Rattle.std.specs.Prelude.{ℕ, Bool, false, ◌&&◌, List, [], ◌++◌, codes, Option, None, Some, Result, Ok, Err}
use Rattle.std.specs.Str.{is_utf8}
use Rattle.cash_base.specs.declared.place.Span.{Span}
use Rattle.cash_tree.specs.declared.Constraint.{Constraint}
use Rattle.semver.specs.declared.error.Error.{Error}
use Rattle.semver.specs.Parse.{Parts, Held, req_of}
use Rattle.semver.specs.EvalViews.{matches_views}
use Rattle.cash_base.specs.Source.{text_at}

-- the version of the language, 0.7.0
abbrev pub language : Parts
language = (0, 7, 0, [], [])

-- a version without a sign is wanted exactly
abbrev pub sign_text : List ℕ → Option Span → List ℕ
sign_text source None = codes "="
sign_text source (Some span) = text_at source span

-- the sign, and the version directly after it
abbrev pub constraint_text : List ℕ → Constraint → List ℕ
constraint_text source constraint = sign_text source constraint.sign ++ text_at source constraint.version

abbrev pub is_met : Result (List Held) Error → Bool
is_met (Ok comparators) = matches_views comparators language
is_met (Err e) = false

-- whether a text is a requirement, as `semver` reads it, that the language's version meets
unfoldable pub admits : List ℕ → Bool
admits text = is_utf8 text && is_met (req_of text)
