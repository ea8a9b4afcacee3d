-- Tidied code of a contract is code of it.
use Rattle.std.proofs.Common.{◌≡◌, ℕ, ◌≤◌, List, [], ◌∷◌, length, IsTrue, refl, sym, subst, arith}
use Rattle.std.specs.Prelude.{◌&&◌}
use Rattle.cash_base.specs.declared.place.Slot.{Slot}
use Rattle.cash_tree.specs.declared.Ty.{Ty}
use Rattle.cash_tree.specs.declared.Contract.{Contract}
use Rattle.script_codec.specs.declared.spans.Spanned.{Spanned}
use Rattle.script_codec.specs.declared.spans.Marked.{Marked}
use Rattle.row_runs.specs.Rows.{instructions}
use Rattle.selector.specs.Place.{is_unseparated}
use Rattle.selector.specs.Selection.{IsAlone, Selects}
use Rattle.tidied_code.specs.Keeps.{Keeps}
use Rattle.cash_compile.specs.Correct.{run_of}
use Rattle.cash_compile.specs.Runs.{start}
use Rattle.cash_compile.specs.Code.{IsCode}
use Rattle.cash_compile.proofs.Whole.{AreCodes, all_plain}

-- no CODESEPARATOR stands in the code that functions are put together to
pub plain_code : (contract : Contract Slot Ty) (codes : List Marked) (ctors : ℕ) (code : Marked) → AreCodes contract codes → 1 ≤ length codes
    → ((function : Marked) → codes ≡ function ∷ [] → IsAlone function code) → (2 ≤ length codes → Selects codes ctors contract.span code)
    → IsTrue (is_unseparated (instructions code.code.items))
plain_code contract [] ctors code all some one several = absurd (omega (arith, some))
plain_code contract (m ∷ []) ctors code all some one several =
    let plain = (all_plain contract (m ∷ []) all).0 in
    let alone = one m refl in
    subst (λ (rows : List Spanned). IsTrue (is_unseparated (instructions rows))) (sym alone.rows) plain
plain_code contract (m ∷ n ∷ codes) ctors code all some one several =
    let two : 2 ≤ length (m ∷ n ∷ codes) = omega arith in
    (several two).unseparated

pub tidied_is_code : (contract : Contract Slot Ty) (before after : List Spanned) → IsCode contract before → Keeps before after → IsCode contract after
tidied_is_code contract before after h k =
    let counts = k.tidied.counted h.spelled h.keys in
    let bytes = k.tidied.tidy.stands.bytes in
    let short = h.fits.bytes in
    let few = h.fits.opcodes in
    let opcodes = counts.2 in
    record {
      agrees = λ call function world whole progress is.
          k.ends (run_of contract function call world) world whole (start contract call) (λ p. h.agrees call function world whole p is) progress;
      spelled = counts.0;
      keys = counts.1;
      named = k.tidied.named h.named;
      spans = λ holds all. k.places (λ doing checking. holds doing && holds checking) (h.spans holds all);
      fits = record { bytes = omega (arith, bytes, short); opcodes = omega (arith, opcodes, few) };
    }
