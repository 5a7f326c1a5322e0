use Rattle.bias_law.proofs.RefusedCounts.{no_early_rebias}
use Rattle.bias_law.proofs.refused.no_bulk_rebias_at_a_count_below_20.Goals as goal

pub returns : goal.returns
returns c = λ w t d. no_early_rebias w d t
