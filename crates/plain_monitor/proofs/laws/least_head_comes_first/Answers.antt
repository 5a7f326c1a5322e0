use Rattle.plain_monitor.proofs.Merging.{least_head_first, empty_order}
use Rattle.plain_monitor.proofs.laws.least_head_comes_first.Goals as goal

pub returns-clause-first : goal.returns-clause-first
returns-clause-first c = least_head_first

pub returns-clause-empty : goal.returns-clause-empty
returns-clause-empty c = empty_order
