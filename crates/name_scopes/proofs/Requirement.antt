-- Bytes that are a text, and bytes that are none.
use Rattle.std.proofs.Common.{◌≡◌, ◌∙◌, ap, sym, refl, ℕ, Bool, true, false, List}
use Rattle.std.specs.Prelude.{Result, Ok, Err, IfOk, ◌&&◌}
use Rattle.std.specs.Str.{is_utf8, IsUtf8}
use Rattle.std.proofs.lemmas.Str.{IsUtf8-from_is_utf8, is_utf8-from_IsUtf8}
use Rattle.semver.specs.Parse.{req_of}
use Rattle.name_scopes.specs.declared.fault.NameFault.{NameFault}
use Rattle.name_scopes.specs.Pragmas.{is_met, admits}

pub of_text : (bytes text : List ℕ) (r : Result Bool NameFault) → text ≡ bytes → IsUtf8 bytes
    → IfOk r (λ met. met ≡ is_met (req_of text)) → IfOk r (λ met. met ≡ admits bytes)
unfolding admits
of_text bytes text (Ok b) same utf8 e =
    e ∙ ap (λ t. is_met (req_of t)) same ∙ sym (ap (λ u. u && is_met (req_of bytes)) (is_utf8-from_IsUtf8 bytes utf8))
of_text bytes text (Err f) same utf8 e = tt

by_test : (bytes : List ℕ) (u : Bool) → is_utf8 bytes ≡ u → (IsUtf8 bytes → ⊥) → false ≡ (u && is_met (req_of bytes))
by_test bytes true e none = absurd (none (IsUtf8-from_is_utf8 bytes e))
by_test bytes false e none = refl

pub of_bytes : (bytes : List ℕ) → (IsUtf8 bytes → ⊥) → false ≡ admits bytes
unfolding admits
of_bytes bytes none = by_test bytes (is_utf8 bytes) refl none
