use Rattle.bias_law.proofs.RefusedCounts.{no_early_revoke}
use Rattle.bias_law.proofs.refused.no_bulk_revoke_at_a_count_below_40.Goals as goal

pub returns : goal.returns
returns c = λ w t d. no_early_revoke w d t
