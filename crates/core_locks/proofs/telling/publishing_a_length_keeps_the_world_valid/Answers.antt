use Rattle.core_locks.proofs.telling.Publishes.{publish_law}
use Rattle.core_locks.proofs.telling.publishing_a_length_keeps_the_world_valid.Goals as goal

pub returns : goal.returns
returns c = publish_law
