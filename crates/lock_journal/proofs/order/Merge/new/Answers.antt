use Rattle.plain_monitor.specs.Limits.{most_threads}
use Rattle.lock_journal.proofs.Merging.{all_left}
use Rattle.lock_journal.proofs.order.Merge.new.Goals as goal

pub returns : goal.returns
returns c = all_left c.args.run.now.logs most_threads
