-- What it says of scripts that they were built.
use Rattle.std.proofs.Common.{◌≡◌, ℕ, ◌≤◌, ◌+◌, ◌*◌, Bool, true, false, cond, List, [], ◌∷◌, length, zero, suc, Option, Some, None, Result, Ok, Err, refl, sym, ap, ◌∙◌, subst, arith}
use Rattle.std.specs.Prelude.{slice_get, nat_le, ◌==◌}
use Rattle.std.specs.List.{AllByRecursion}
use Rattle.std.proofs.lemmas.Bool.{eqb-true, leb-true}
use Rattle.cash_base.specs.Failing.{◌>>=◌}
use Rattle.unlocker.specs.declared.BuildFault.{BuildFault}
use Rattle.unlocker.specs.declared.BuildFault.TheVariants.{WrongCount, RedeemTooLong}
use Rattle.tx_context.specs.declared.frame.TheConstants.{LONGEST_BYTECODE}
use Rattle.artifact_json.specs.Artifact.{Artifact, AbiCall, HasFewInputs}
use Rattle.unlocker.specs.Building.{capped, chosen_function, count_check, built_unlocking}
use Rattle.spend_debug.specs.declared.spends.SpendStop.{SpendStop}
use Rattle.spend_debug.specs.SpendDebug.{SpendParts, or_stop, built_scripts, redeem_of, unlocking_of, told_with, told_of, AreOfCall}

abbrev Scripts : Type 0
Scripts = List ℕ × List ℕ

-- the count is right
abbrev counted : Result (Unit {0}) BuildFault
counted = Ok tt

-- the redeem script is built, and what comes after it
by_redeem : (t u : Bool) (s : List ℕ) (miscounted long : BuildFault) (then_ : List ℕ → Result Scripts SpendStop) (built : Scripts)
    → (or_stop (cond t counted (Err miscounted) >>= λ c. cond u (Ok s) (Err long)) >>= then_) ≡ Ok built
    → (t ≡ true) × (u ≡ true) × (then_ s ≡ Ok built)
by_redeem true true s miscounted long then_ built is = (refl, refl, is)
by_redeem true false s miscounted long then_ built is = absurd cc
by_redeem false u s miscounted long then_ built is = absurd cc

-- the unlocking script is built
by_args : (t : Bool) (s redeem : List ℕ) (miscounted : BuildFault) (built : Scripts)
    → (or_stop (cond t counted (Err miscounted) >>= λ c. Ok s) >>= λ unlocking. Ok (redeem, unlocking)) ≡ Ok built
    → (t ≡ true) × ((redeem, s) ≡ built)
by_args true s redeem miscounted built is = (refl, cc)
by_args false s redeem miscounted built is = absurd cc

by_function : (found : Option AbiCall) (args : List (List ℕ)) (s redeem : List ℕ) (built : Scripts)
    → (or_stop (chosen_function found >>= λ function. count_check (length function.inputs) (length args) >>= λ c. Ok s) >>= λ unlocking. Ok (redeem, unlocking)) ≡ Ok built
    → (function : AbiCall) × (found ≡ Some function) × (length function.inputs ≡ length args) × ((redeem, s) ≡ built)
by_function (Some function) args s redeem built is =
    let parts = by_args (length function.inputs == length args) s redeem (WrongCount (capped (length function.inputs)) (capped (length args))) built is in
    (function, refl, eqb-true (length function.inputs) (length args) parts.0, parts.1)
by_function None args s redeem built is = absurd cc

pub of_call : (program : Artifact) (spend : SpendParts) (redeem unlocking : List ℕ)
    → built_scripts program spend ≡ Ok (redeem, unlocking) → AreOfCall program spend redeem unlocking
of_call program spend redeem unlocking is =
    let whole = redeem_of program spend in
    let parts = by_redeem (length program.ctor == length spend.ctor) (nat_le (length whole) 520) whole
    (WrongCount (capped (length program.ctor)) (capped (length spend.ctor))) (RedeemTooLong (capped (length whole)))
    (λ r. or_stop (built_unlocking program spend.chosen spend.args r) >>= λ u. Ok (r, u)) (redeem, unlocking) is in
    let called = by_function (slice_get program.abi spend.chosen) spend.args (unlocking_of program spend) whole (redeem, unlocking) parts.2 in
    let same : (whole, unlocking_of program spend) ≡ (redeem, unlocking) = called.3 in
    let redeem_is : redeem ≡ whole = sym (ap (λ (b : Scripts). b.0) same) in
    record {
      ctor_count = eqb-true (length program.ctor) (length spend.ctor) parts.0;
      function = called.0;
      found = called.1;
      arg_count = called.2;
      size = subst (λ (s : List ℕ). length s ≤ 520) (sym redeem_is) (leb-true (length whole) 520 parts.1);
      redeem_is = redeem_is;
      unlocking_is = sym (ap (λ (b : Scripts). b.1) same);
    }

-- scripts that are built are those that are told
pub scripts_told : (program : Artifact) (spend : SpendParts) (redeem unlocking : List ℕ)
    → built_scripts program spend ≡ Ok (redeem, unlocking) → told_with program spend redeem unlocking ≡ told_of program spend
scripts_told program spend redeem unlocking is =
    let call = of_call program spend redeem unlocking is in
    ap (told_with program spend redeem) call.unlocking_is
    ∙ ap (λ (r : List ℕ). told_with program spend r (unlocking_of program spend)) call.redeem_is

few_found : (functions : List AbiCall) (k : ℕ) (function : AbiCall) → AllByRecursion (λ f. length f.inputs ≤ 16) functions
    → slice_get functions k ≡ Some function → length function.inputs ≤ 16
few_found [] k function all is = absurd cc
few_found (f ∷ functions) zero function all is =
    let same : f ≡ function = cc in
    subst (λ (g : AbiCall). length g.inputs ≤ 16) same all.0
few_found (f ∷ functions) (suc k) function all is = few_found functions k function all.1 is

-- they are of few elements
pub scripts_small : (program : Artifact) (spend : SpendParts) (redeem unlocking : List ℕ) → HasFewInputs program
    → built_scripts program spend ≡ Ok (redeem, unlocking)
    → length unlocking ≤ 523 * (length spend.args + 2) → length unlocking ≤ LONGEST_BYTECODE
scripts_small program spend redeem unlocking few is size =
    let call = of_call program spend redeem unlocking is in
    let most = few_found program.abi spend.chosen call.function few call.found in
    let small : length unlocking ≤ 20000 = omega (arith, most, call.arg_count, size) in
    small
