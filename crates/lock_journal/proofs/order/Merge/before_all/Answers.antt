use Rattle.plain_monitor.specs.Limits.{most_threads}
use Rattle.lock_journal.proofs.Merging.{all_left}
use Rattle.lock_journal.proofs.order.Merge.before_all.Goals as goal

pub returns : goal.returns
returns c logs = all_left logs most_threads
