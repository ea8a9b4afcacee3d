-- Code that can be put together.
use Rattle.std.specs.Prelude.{IsTrue}
use Rattle.script_codec.specs.declared.spans.Marked.{Marked}
use Rattle.run_laws.specs.Nested.{is_nested}
use Rattle.selector.specs.Pieces.{instructions}
use Rattle.selector.specs.Place.{is_unseparated}

-- it is nested and has no CODESEPARATOR
abbrev pub IsSelectable : Marked → Type 0
IsSelectable function =
    IsTrue (is_nested (instructions function.code.items)) × IsTrue (is_unseparated (instructions function.code.items))
