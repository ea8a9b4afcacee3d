-- The text of a plain value reads as the value.
use Rattle.std.proofs.Common.{◌≡◌, ℕ, suc, ◌≤◌, max, false, List, [], ◌∷◌, ◌++◌, Option, Some, option_map, option_and_then, refl, sym, ap, ap₂, ◌∙◌, append-nil}
use Rattle.json.specs.Token.{Token}
use Rattle.json.specs.Lex.{tokens}
use Rattle.json.specs.Json as json
use Rattle.json.specs.Tree as tree
use Rattle.json.specs.Layout.{pretty}
use Rattle.json.proofs.Printed.Decimals.{IsNumber-decimal}
use Rattle.json.proofs.Printed.Trees.{value-json_tokens, ArePrintable-json_tokens}
use Rattle.serde_json.specs.Data.{unsigned, negative, float, Data, null, boolean, number, string, array, object, Items, no_items, item, Members, no_members, member, put, depth, items_depth, members_depth}
use Rattle.serde_json.specs.Read.{of_json, of_items, of_members, max_depth, read}
use Rattle.serde_json.specs.Written.{outline, items_outline, members_outline, has_float, IsInOrder}
use Rattle.serde_json.proofs.Numbers.{number_of-decimal}
use Rattle.serde_json.proofs.Texts.{tokens_from_order}
use Rattle.json_text.specs.Text.{pretty_text, IsAfter, followed, Ascend, IsPlain, ArePlain, ArePlainMembers}
use Rattle.json_text.proofs.Feed.{tokens-pretty}

-- ---- the numbers of its outline are numbers

mutual
  numbers : (d : Data) → IsPlain d → tree.HasNumbers (outline d)
  numbers null h = tt
  numbers (boolean b) h = tt
  numbers (number (unsigned n)) h = IsNumber-decimal n h
  numbers (number (negative z)) h = absurd h
  numbers (number (float x)) h = absurd h
  numbers (string s) h = tt
  numbers (array ds) h = items_numbers ds h
  numbers (object ms) h = members_numbers ms h.0

  items_numbers : (ds : Items) → ArePlain ds → tree.ItemsHaveNumbers (items_outline ds)
  items_numbers no_items h = tt
  items_numbers (item d ds) h = (numbers d h.0, items_numbers ds h.1)

  members_numbers : (ms : Members) → ArePlainMembers ms → tree.MembersHaveNumbers (members_outline ms)
  members_numbers no_members h = tt
  members_numbers (member k d ms) h = (numbers d h.0, members_numbers ms h.1)

-- ---- it nests as deep as its outline

mutual
  same_depth : (d : Data) → tree.depth (outline d) ≡ depth d
  same_depth null = refl
  same_depth (boolean b) = refl
  same_depth (number n) = refl
  same_depth (string s) = refl
  same_depth (array ds) = ap suc (items_same_depth ds)
  same_depth (object ms) = ap suc (members_same_depth ms)

  items_same_depth : (ds : Items) → tree.items_depth (items_outline ds) ≡ items_depth ds
  items_same_depth no_items = refl
  items_same_depth (item d ds) = ap₂ max (same_depth d) (items_same_depth ds)

  members_same_depth : (ms : Members) → tree.members_depth (members_outline ms) ≡ members_depth ms
  members_same_depth no_members = refl
  members_same_depth (member k d ms) = ap₂ max (same_depth d) (members_same_depth ms)

-- ---- its outline converts back

followed_nil : (fs : Members) → followed fs no_members ≡ fs
followed_nil no_members = refl
followed_nil (member k d fs) = ap (member k d) (followed_nil fs)

followed_followed : (fs : Members) (k : List ℕ) (d : Data) (ms : Members) → followed (followed fs (member k d no_members)) ms ≡ followed fs (member k d ms)
followed_followed no_members k d ms = refl
followed_followed (member l e fs) k d ms = ap (member l e) (followed_followed fs k d ms)

put_last : (fs : Members) (k : List ℕ) (d : Data) → IsAfter k fs → put k d fs ≡ followed fs (member k d no_members)
put_last no_members k d h = refl
put_last (member l e fs) k d h = rw h.0 (ap (member l e) (put_last fs k d h.1))

mutual
  back : (d : Data) → IsPlain d → of_json (outline d) ≡ Some d
  back null h = refl
  back (boolean b) h = refl
  back (number (unsigned n)) h = ap (option_map number) (number_of-decimal n h)
  back (number (negative z)) h = absurd h
  back (number (float x)) h = absurd h
  back (string s) h = refl
  back (array ds) h = ap (option_map array) (items_back ds h)
  back (object ms) h = ap (option_map object) (members_back no_members ms h.0 h.1)

  items_back : (ds : Items) → ArePlain ds → of_items (items_outline ds) ≡ Some ds
  items_back no_items h = refl
  items_back (item d ds) h = ap (option_and_then (λ e. option_map (item e) (of_items (items_outline ds)))) (back d h.0) ∙ ap (option_map (item d)) (items_back ds h.1)

  members_back : (fs ms : Members) → ArePlainMembers ms → Ascend fs ms → of_members (members_outline ms) fs ≡ Some (followed fs ms)
  members_back fs no_members h a = ap Some (sym (followed_nil fs))
  members_back fs (member k d ms) h a =
      ap (option_and_then (λ e. of_members (members_outline ms) (put k e fs))) (back d h.0)
      ∙ ap (of_members (members_outline ms)) (put_last fs k d a.0)
      ∙ members_back (followed fs (member k d no_members)) ms h.1 a.1
      ∙ ap Some (followed_followed fs k d ms)

-- ---- the whole

abbrev whole : Option (json.Json × List Token) → Option Data
whole o = option_and_then of_json (option_and_then (λ p. json.if_last p.0 p.1) o)

pub text_read : (d : Data) → IsPlain d → depth d ≤ max_depth → read (pretty_text d) ≡ Some d
unfolding pretty_text
text_read d h shallow =
    let j = outline d in
    let same : tokens (pretty_text d) ≡ tree.json_tokens j ++ [] = tokens-pretty (tree.json_tokens j) (ArePrintable-json_tokens j (numbers d h)) ∙ sym (append-nil (tree.json_tokens j)) in
    let within : tree.depth j ≤ max_depth = rw (same_depth d) shallow in
    ap whole (ap (json.value max_depth) same ∙ value-json_tokens j max_depth [] within) ∙ back d h

-- what `to_string_pretty` ensures of a value without floats, and the line feed
pub text_is : (s : List ℕ) (d : Data) → s ≡ pretty (tokens s) → IsInOrder s d → has_float d ≡ false → s ++ 10 ∷ [] ≡ pretty_text d
unfolding pretty_text
text_is s d layout order none = ap (λ l. l ++ 10 ∷ []) (layout ∙ ap pretty (tokens_from_order s d order none))
