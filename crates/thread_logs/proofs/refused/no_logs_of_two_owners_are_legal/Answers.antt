use Rattle.thread_logs.proofs.WrongLogs.{not_legal, no_machine}
use Rattle.thread_logs.proofs.refused.no_logs_of_two_owners_are_legal.Goals as goal

pub returns-clause-legal : goal.returns-clause-legal
returns-clause-legal c = not_legal

pub returns-clause-machine : goal.returns-clause-machine
returns-clause-machine c = no_machine
