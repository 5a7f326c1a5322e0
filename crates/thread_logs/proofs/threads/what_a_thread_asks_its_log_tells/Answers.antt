use Rattle.thread_logs.proofs.References.{needs_told, local_told}
use Rattle.thread_logs.proofs.threads.what_a_thread_asks_its_log_tells.Goals as goal

pub returns-clause-asked : goal.returns-clause-asked
returns-clause-asked c = λ p fuel t log s a e valid h asks fit. needs_told p fuel t log s valid h a e asks fit

pub returns-clause-local : goal.returns-clause-local
returns-clause-local c = λ p fuel t x o log s valid h is. local_told p fuel t log s valid h x o is
