use Rattle.machine_laws.proofs.Ended.{ended_each, all_ended, never_stuck}
use Rattle.machine_laws.proofs.laws.ended_logs_say_how_threads_ended.Goals as goal

pub returns-clause-each : goal.returns-clause-each
returns-clause-each c = ended_each

pub returns-clause-all : goal.returns-clause-all
returns-clause-all c = all_ended

pub returns-clause-stuck : goal.returns-clause-stuck
returns-clause-stuck c = never_stuck
