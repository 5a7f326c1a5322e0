use Rattle.bias_check.proofs.Refuted.{two_told}
use Rattle.bias_check.proofs.refused.a_line_may_tell_two_entries.Goals as goal

pub returns : goal.returns
returns c = two_told
