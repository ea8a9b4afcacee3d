use Rattle.std.proofs.Common.{ℕ, suc, List, [], ◌∷◌, get_or, Fits, w8, arith}
use Rattle.cash_base.specs.Number.{IsBytes}
use Rattle.artifact_json.proofs.laws.are_bytes.Goals as goal

fit : (bytes : List ℕ) → ((i : ℕ) → Fits w8 (get_or bytes i 0)) → IsBytes bytes
fit [] fits = tt
fit (b ∷ bs) fits = (let first = fits 0 in omega (arith, first), fit bs (λ i. fits (suc i)))

pub returns : goal.returns
returns c = fit c.args.bytes.now c.type_inv.bytes
