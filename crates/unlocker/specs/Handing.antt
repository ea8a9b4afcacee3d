-- What a call hands in, without where it lies in memory.
use Rattle.std.specs.Prelude.{map}
use Rattle.unlocker.specs.declared.built.Call.{Call}
use Rattle.unlocker.specs.Spends.{Handed}

abbrev pub handed_by : Call → Handed
handed_by call = record {
  ctor = map (λ e. e.items) call.ctor.items;
  chosen = call.chosen;
  args = map (λ e. e.items) call.args.items;
  scripts = call.scripts;
}
