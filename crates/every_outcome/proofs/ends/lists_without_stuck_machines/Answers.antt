use Rattle.every_outcome.proofs.Stuck.{none_is_stuck}
use Rattle.every_outcome.proofs.ends.lists_without_stuck_machines.Goals as goal

pub returns : goal.returns
returns c = none_is_stuck
