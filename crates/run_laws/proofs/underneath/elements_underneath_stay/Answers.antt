use Rattle.run_laws.proofs.Alike.{run_alike, run_end_alike}
use Rattle.run_laws.proofs.underneath.elements_underneath_stay.Goals as goal

pub returns : goal.returns
returns c = record { run = run_alike; whole = run_end_alike }
