-- What `serde_json` says of bytes, as one object or none.
use Rattle.std.proofs.Common.{◌≡◌, ℕ, Bool, true, false, cond, List, Option, Some, None, option_and_then, IsUtf8, refl, ap, ◌∙◌}
use Rattle.std.specs.Str.{is_utf8}
use Rattle.std.proofs.lemmas.Str.{IsUtf8-from_is_utf8, is_utf8-from_IsUtf8}
use Rattle.serde_json.specs.Data.{Data}
use Rattle.serde_json.specs.Read.{read}
use Rattle.json_fields.specs.Fields.{is_object}
use Rattle.json_fields.specs.Document.{value_in, if_object, object_in}

one_value : (bytes : List ℕ) (d : Data) → IsUtf8 bytes → read bytes ≡ Some d → value_in bytes ≡ Some d
one_value bytes d u e = rw (is_utf8-from_IsUtf8 bytes u) e

pub object_given : (bytes : List ℕ) (d : Data) → IsUtf8 bytes → read bytes ≡ Some d → is_object d ≡ true → object_in bytes ≡ Some d
unfolding object_in
object_given bytes d u e h =
    ap (λ (o : Option Data). option_and_then if_object o) (one_value bytes d u e) ∙ ap (λ (b : Bool). cond b (Some d) None) h

pub other_given : (bytes : List ℕ) (d : Data) → IsUtf8 bytes → read bytes ≡ Some d → is_object d ≡ false → object_in bytes ≡ None
unfolding object_in
other_given bytes d u e h =
    ap (λ (o : Option Data). option_and_then if_object o) (one_value bytes d u e) ∙ ap (λ (b : Bool). cond b (Some d) None) h

none_read : (b : Bool) (o : Option Data) → (b ≡ true → o ≡ None) → cond b o None ≡ None
none_read true o h = h refl
none_read false o h = refl

pub no_value : (bytes : List ℕ) → (IsUtf8 bytes → read bytes ≡ None) → object_in bytes ≡ None
unfolding object_in
no_value bytes h =
    let value : value_in bytes ≡ None = none_read (is_utf8 bytes) (read bytes) (λ e. h (IsUtf8-from_is_utf8 bytes e)) in
    ap (λ (o : Option Data). option_and_then if_object o) value
