-- The arms of a join.
use Rattle.std.proofs.Common.{◌≡◌, ◌+◌, ◌*◌, ◌≤◌, List, ◌++◌, length, refl, sym, ap, subst, arith}
use Rattle.cash_base.specs.declared.place.Slot.{Slot}
use Rattle.script_codec.specs.declared.instr.Instr.{Instr}
use Rattle.branch_layout.specs.Slots.{spare_of}
use Rattle.branch_layout.specs.Arms.{AreMoves, IsArm, KeepsOnly, Arranges}
use Rattle.branch_layout.proofs.Runs.{reaches_then, reaches_along}
use Rattle.branch_layout.proofs.Weights.{moves_both, moves_within}
use Rattle.branch_layout.proofs.Drops.{kept_and_spare}

pub left_small : (keep layout left : List Slot) (moves : List Instr) → KeepsOnly keep layout left moves
    → length layout ≤ 160 → length left ≤ 160
left_small keep layout left moves k small =
    let e = kept_and_spare keep layout in let l = ap length k.left_is in omega (arith, e, l, small)

-- an arm whose moves only drop
pub dropping_arm : (keep layout left : List Slot) (moves : List Instr) → KeepsOnly keep layout left moves
    → IsArm layout left moves
dropping_arm keep layout left moves k =
    let e = kept_and_spare keep layout in
    record {
      reaches = k.reaches;
      weighs = moves_within (5 * spare_of keep layout) (2 * spare_of keep layout) (5 * length layout) (2 * length layout) moves k.weighs
          (omega (arith, e)) (omega (arith, e));
    }

-- an arm that is brought into the target's order after that
pub arranging_arm : (keep layout left target : List Slot) (moves whole : List Instr) → KeepsOnly keep layout left moves
    → Arranges left target moves whole → IsArm layout target whole
arranging_arm keep layout left target moves whole k a =
    let e = kept_and_spare keep layout in
    let l = ap length k.left_is in
    record {
      reaches = reaches_along (moves ++ a.added) whole layout layout target target (sym a.grown) refl refl
          (reaches_then moves a.added layout left target k.reaches a.reaches);
      weighs = moves_within (5 * spare_of keep layout + 4 * length target) (2 * spare_of keep layout + length target)
          (5 * length layout) (2 * length layout) whole
          (subst (λ m. AreMoves (5 * spare_of keep layout + 4 * length target) (2 * spare_of keep layout + length target) m) (sym a.grown)
          (moves_both (5 * spare_of keep layout) (2 * spare_of keep layout) (4 * length target) (length target) moves a.added k.weighs a.weighs))
          (omega (arith, e, l, a.size)) (omega (arith, e, l, a.size));
    }

pub arm_along : (layout layout' target target' : List Slot) (moves : List Instr) → layout ≡ layout' → target ≡ target'
    → IsArm layout target moves → IsArm layout' target' moves
arm_along layout layout' target target' moves e f arm =
    subst (λ l. IsArm l target' moves) e (subst (λ l. IsArm layout l moves) f arm)

pub arranges_along : (slots target target' : List Slot) (old new : List Instr) → target ≡ target'
    → Arranges slots target old new → Arranges slots target' old new
arranges_along slots target target' old new e a = subst (λ l. Arranges slots l old new) e a
