use Rattle.unlocker.proofs.Fitting.{element_fits}
use Rattle.unlocker.proofs.values.elements_fit.Goals as goal

pub returns : goal.returns
returns c = element_fits c.number_of_written.ensures
