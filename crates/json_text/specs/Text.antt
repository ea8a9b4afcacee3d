-- A value as text in one layout.
use Rattle.std.specs.Prelude.{◌≡◌, ℕ, ◌<◌, ◌^◌, List, [], ◌∷◌, ◌++◌, ⊤}
use Rattle.std.specs.declared.cmp.Ordering.TheVariants.{Greater}
use Rattle.std.specs.Ordering.{nat_cmp}
use Rattle.std.specs.Cmp.Lexicographic.{slice_cmp}
use Rattle.json.specs.Layout.{pretty}
use Rattle.json.specs.Tree.{json_tokens}
use Rattle.serde_json.specs.Data.{Num, unsigned, negative, float, Data, null, boolean, number, string, array, object, Items, no_items, item, Members, no_members, member}
use Rattle.serde_json.specs.Written.{outline}

-- the pretty layout of `serde_json`, and a line feed
unfoldable pub pretty_text : Data → List ℕ
pretty_text d = pretty (json_tokens (outline d)) ++ 10 ∷ []

-- ---- values that the text says all of: numbers are whole and not below 0, and the keys of an object ascend

abbrev pub IsNatural : Num → Type 0
IsNatural (unsigned n) = n < 2 ^ 64
IsNatural (negative z) = ⊥
IsNatural (float x) = ⊥

-- the key stands after all of these, byte by byte
abbrev pub IsAfter : List ℕ → Members → Type 0
IsAfter key no_members = ⊤
IsAfter key (member k d ms) = (slice_cmp nat_cmp key k ≡ Greater) × IsAfter key ms

abbrev pub followed : Members → Members → Members
followed no_members ms = ms
followed (member k d front) ms = member k d (followed front ms)

-- each key stands after those in front of it
abbrev pub Ascend : Members → Members → Type 0
Ascend front no_members = ⊤
Ascend front (member k d ms) = IsAfter k front × Ascend (followed front (member k d no_members)) ms

abbrev mutual
  pub IsPlain : Data → Type 0
  IsPlain null = ⊤
  IsPlain (boolean b) = ⊤
  IsPlain (number n) = IsNatural n
  IsPlain (string s) = ⊤
  IsPlain (array ds) = ArePlain ds
  IsPlain (object ms) = ArePlainMembers ms × Ascend no_members ms

  pub ArePlain : Items → Type 0
  ArePlain no_items = ⊤
  ArePlain (item d ds) = IsPlain d × ArePlain ds

  pub ArePlainMembers : Members → Type 0
  ArePlainMembers no_members = ⊤
  ArePlainMembers (member k d ms) = IsPlain d × ArePlainMembers ms
