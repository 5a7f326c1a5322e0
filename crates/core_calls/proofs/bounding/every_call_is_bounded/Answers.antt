use Rattle.core_calls.specs.Bounds.{most_steps}
use Rattle.core_calls.proofs.CallsSpend.{call_within}
use Rattle.core_calls.proofs.Runs.{next_counts, ran_within}
use Rattle.core_calls.proofs.bounding.every_call_is_bounded.Goals as goal

pub returns-clause-tree : goal.returns-clause-tree
returns-clause-tree c = call_within

pub returns-clause-run : goal.returns-clause-run
returns-clause-run c s start t k before after ran = ran_within (most_steps s t) (call_within s t k) ran

pub returns-clause-next : goal.returns-clause-next
returns-clause-next c = next_counts
