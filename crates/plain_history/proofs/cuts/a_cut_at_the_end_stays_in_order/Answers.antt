use Rattle.plain_history.proofs.InOrder.{whole_in_order, in_order_with}
use Rattle.plain_history.proofs.cuts.a_cut_at_the_end_stays_in_order.Goals as goal

pub returns-clause-end : goal.returns-clause-end
returns-clause-end c = whole_in_order

pub returns-clause-stays : goal.returns-clause-stays
returns-clause-stays c = in_order_with
