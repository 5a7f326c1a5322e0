use Rattle.bias_law.proofs.RefusedCounts.{no_missing_rebias}
use Rattle.bias_law.proofs.refused.no_count_of_20_without_a_bulk_rebias.Goals as goal

pub returns : goal.returns
returns c = no_missing_rebias
