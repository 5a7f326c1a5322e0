use Rattle.plain_monitor.proofs.Threads.{thread_kept}
use Rattle.plain_monitor.proofs.laws.order_keeps_each_log.Goals as goal

pub returns : goal.returns
returns c = thread_kept
