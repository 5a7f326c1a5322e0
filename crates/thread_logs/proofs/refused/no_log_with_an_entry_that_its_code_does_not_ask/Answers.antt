use Rattle.thread_logs.proofs.WrongLogs.{not_asked, not_the_rest}
use Rattle.thread_logs.proofs.refused.no_log_with_an_entry_that_its_code_does_not_ask.Goals as goal

pub returns-clause-next : goal.returns-clause-next
returns-clause-next c = not_asked

pub returns-clause-rest : goal.returns-clause-rest
returns-clause-rest c = not_the_rest
