use Rattle.bias_law.proofs.RefusedCounts.{no_missing_revoke}
use Rattle.bias_law.proofs.refused.no_count_of_40_without_a_bulk_revoke.Goals as goal

pub returns : goal.returns
returns c = no_missing_revoke
