use Rattle.std.proofs.Common.{◌≡◌, ◌+◌, ◌-◌, ◌*◌, ◌≤◌, length, drop}
use Rattle.script_codec.specs.Reading.{reading}
use Rattle.script_codec.specs.Counting.{counted_in, keys_for}
use Rattle.script_codec.proofs.counting.counted.Given as goal

-- what was counted, with what is left from here on, makes the whole; an instruction and its keys count at most 21
abbrev pub invariant-script : goal.invariant-script
invariant-script l = record {
  whole : l.count + (keys_for l.keys (reading (drop l.at l.script)) + counted_in (reading (drop l.at l.script))) ≡ counted_in (reading l.script);
  inside : l.at ≤ length l.script;
  few : l.keys ≤ 20;
  small : l.count ≤ 21 * l.at;
}

abbrev pub decreases-script : goal.decreases-script
decreases-script l = length l.script - l.at
