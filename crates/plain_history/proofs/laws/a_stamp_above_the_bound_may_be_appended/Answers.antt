use Rattle.plain_history.proofs.Bounds.{above_bound, unbound_may_append, above_bounds}
use Rattle.plain_history.proofs.laws.a_stamp_above_the_bound_may_be_appended.Goals as goal

pub returns-clause-bound : goal.returns-clause-bound
returns-clause-bound c = above_bound

pub returns-clause-unbound : goal.returns-clause-unbound
returns-clause-unbound c = unbound_may_append

pub returns-clause-above_bounds : goal.returns-clause-above_bounds
returns-clause-above_bounds c = above_bounds
