use Rattle.std.proofs.Common.{◌≡◌, ◌-◌, ◌≤◌, length, drop}
use Rattle.script_codec.specs.Reading.{reading}
use Rattle.bch_vm.specs.Spend.{push_check}
use Rattle.bch_vm.proofs.machine.check_pushes.Given as goal

-- the check of what is left, from here on, is that of the whole
abbrev pub invariant-script : goal.invariant-script
invariant-script l =
    (push_check l.at (reading (drop l.place l.unlocking)) ≡ push_check 0 (reading l.unlocking))
    × (l.at ≤ l.place)
    × (l.place ≤ length l.unlocking)

abbrev pub decreases-script : goal.decreases-script
decreases-script l = length l.unlocking - l.place
