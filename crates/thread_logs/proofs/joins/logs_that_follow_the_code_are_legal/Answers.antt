use Rattle.thread_logs.proofs.Joining.{legal}
use Rattle.thread_logs.proofs.joins.logs_that_follow_the_code_are_legal.Goals as goal

pub returns : goal.returns
returns c = legal c.objects_and_threads_join.ensures.logs
