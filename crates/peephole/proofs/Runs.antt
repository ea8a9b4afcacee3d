-- Runs of rows on both stacks: how they compose.
use Rattle.std.proofs.Common.{◌≡◌, false, List, [], ◌∷◌, ◌++◌, Ok, Err, refl, ap}
use Rattle.cash_base.specs.Failing.{◌>>=◌}
use Rattle.tx_context.specs.World.{World}
use Rattle.script_codec.specs.declared.spans.Spanned.{Spanned}
use Rattle.bch_vm.specs.Board.{Board}
use Rattle.row_runs.proofs.Turns.{then_goes}
use Rattle.rewrite_rules.specs.Rows.{Next, step, run_rows, underflows}

pub run_append : (world : World) (a b : List Spanned) (m : Board) → run_rows world (a ++ b) m ≡ (run_rows world a m >>= run_rows world b)
run_append world [] b m = refl
run_append world (r ∷ a) b m =
    then_goes (step world r m) (run_rows world a) (run_rows world b) (run_rows world (a ++ b)) (run_append world a b)

pub same_after : (r : Next) (f g : Board → Next) → ((m : Board) → underflows (f m) ≡ false → g m ≡ f m)
    → underflows (r >>= f) ≡ false → (r >>= g) ≡ (r >>= f)
same_after (Ok m) f g h u = h m u
same_after (Err e) f g h u = refl

pub same_before : (r s : Next) (f : Board → Next) → (underflows r ≡ false → s ≡ r) → underflows (r >>= f) ≡ false → (s >>= f) ≡ (r >>= f)
same_before (Ok m) s f h u = ap (λ x. x >>= f) (h refl)
same_before (Err e) s f h u = ap (λ x. x >>= f) (h u)

pub not_before : (r : Next) (f : Board → Next) → underflows (r >>= f) ≡ false → underflows r ≡ false
not_before (Ok m) f u = refl
not_before (Err e) f u = u

-- the first of two steps passes where both do
pub first_passed : (r : Next) (f : Board → Next) (n : Board) → (r >>= f) ≡ Ok n → (m : Board) × (r ≡ Ok m)
first_passed (Ok m) f n e = (m, refl)
first_passed (Err e') f n e = cc
