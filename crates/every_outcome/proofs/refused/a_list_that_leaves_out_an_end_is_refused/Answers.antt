use Rattle.every_outcome.proofs.Shut.{end_is_left_out}
use Rattle.every_outcome.proofs.refused.a_list_that_leaves_out_an_end_is_refused.Goals as goal

pub returns : goal.returns
returns c = end_is_left_out
