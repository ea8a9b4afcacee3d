-- What holds of the places of names in a tree, whatever its names and types are.
use Rattle.std.specs.Prelude.{ℕ, List}
use Rattle.std.specs.List.{AllByRecursion}
use Rattle.std.specs.Str.{IsUtf8}
use Rattle.cash_base.specs.declared.place.Span.{Span}
use Rattle.cash_base.specs.Source.{text_at}
use Rattle.cash_tree.specs.declared.Param.{Param}
use Rattle.cash_tree.specs.declared.Function.{Function}
use Rattle.cash_tree.specs.declared.Contract.{Contract}

abbrev pub ParamsHave : {N : Type 0} → (Span → Type 0) → List (Param N) → Type 0
ParamsHave P params = AllByRecursion (λ param. P param.place) params

abbrev pub FunctionHas : {N T : Type 0} → (Span → Type 0) → Function N T → Type 0
FunctionHas P f = P f.name × ParamsHave P f.params

-- it holds of the places of the contract's name, of those of its functions, and of all parameters
abbrev pub NamesHave : {N T : Type 0} → (Span → Type 0) → Contract N T → Type 0
NamesHave P c = P c.name × ParamsHave P c.params × AllByRecursion (FunctionHas P) c.functions

-- the text of the source at a span is UTF-8
abbrev pub IsTextAt : List ℕ → Span → Type 0
IsTextAt source span = IsUtf8 (text_at source span)
