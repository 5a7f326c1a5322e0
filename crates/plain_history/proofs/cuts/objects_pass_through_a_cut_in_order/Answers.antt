use Rattle.plain_history.proofs.ThroughCuts.{objects_pass}
use Rattle.plain_history.proofs.cuts.objects_pass_through_a_cut_in_order.Goals as goal

pub returns : goal.returns
returns c = objects_pass
