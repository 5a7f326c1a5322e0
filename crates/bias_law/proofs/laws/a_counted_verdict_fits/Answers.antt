use Rattle.bias_law.proofs.Counts.{counted_fits}
use Rattle.bias_law.proofs.laws.a_counted_verdict_fits.Goals as goal

pub returns : goal.returns
returns c = counted_fits
