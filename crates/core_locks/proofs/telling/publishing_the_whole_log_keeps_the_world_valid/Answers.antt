use Rattle.core_locks.proofs.telling.PublishesAll.{publish_all_law}
use Rattle.core_locks.proofs.telling.publishing_the_whole_log_keeps_the_world_valid.Goals as goal

pub returns : goal.returns
returns c = publish_all_law
