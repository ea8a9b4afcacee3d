use Rattle.cashc.proofs.Fitting.{script_fits}
use Rattle.cashc.proofs.laws.redeem_scripts_fit.Goals as goal

pub returns : goal.returns
returns c = script_fits
