use Rattle.bias_law.proofs.RefusedCounts.{no_uncounted_reset}
use Rattle.bias_law.proofs.refused.no_reset_that_is_not_counted.Goals as goal

pub returns : goal.returns
returns c = no_uncounted_reset
