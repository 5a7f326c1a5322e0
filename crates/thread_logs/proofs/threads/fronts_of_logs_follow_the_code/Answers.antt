use Rattle.thread_logs.proofs.Logs.{front_follows}
use Rattle.thread_logs.proofs.threads.fronts_of_logs_follow_the_code.Goals as goal

pub returns : goal.returns
returns c = front_follows
