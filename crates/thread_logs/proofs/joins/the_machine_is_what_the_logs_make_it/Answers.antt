use Rattle.thread_logs.proofs.Joining.{objects_are, threads_count, each_follows}
use Rattle.thread_logs.proofs.joins.the_machine_is_what_the_logs_make_it.Goals as goal

pub returns-clause-objects : goal.returns-clause-objects
returns-clause-objects c = objects_are c.objects_and_threads_join.ensures.logs

pub returns-clause-threads : goal.returns-clause-threads
returns-clause-threads c = threads_count c.objects_and_threads_join.ensures.logs

pub returns-clause-each : goal.returns-clause-each
returns-clause-each c =
    λ p fuel t logs m s h at. each_follows c.objects_and_threads_join.ensures.logs p fuel logs m h at t s
