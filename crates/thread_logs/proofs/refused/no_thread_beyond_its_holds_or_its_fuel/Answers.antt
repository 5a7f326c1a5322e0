use Rattle.thread_logs.proofs.WrongLogs.{not_longer}
use Rattle.thread_logs.proofs.refused.no_thread_beyond_its_holds_or_its_fuel.Goals as goal

pub returns-clause-long : goal.returns-clause-long
returns-clause-long c = not_longer
