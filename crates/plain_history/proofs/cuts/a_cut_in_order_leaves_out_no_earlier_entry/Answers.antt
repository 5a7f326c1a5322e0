use Rattle.plain_history.proofs.InOrder.{in_order_at}
use Rattle.plain_history.proofs.cuts.a_cut_in_order_leaves_out_no_earlier_entry.Goals as goal

pub returns : goal.returns
returns c = in_order_at
