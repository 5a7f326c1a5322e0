use Rattle.plain_monitor.specs.History.{log_of}
use Rattle.thread_logs.proofs.WrongLogs.{no_other_objects, not_elsewhere}
use Rattle.thread_logs.proofs.refused.no_machine_beside_its_logs.Goals as goal

pub returns-clause-objects : goal.returns-clause-objects
returns-clause-objects c p fuel logs m objects h after differ at =
    no_other_objects p logs m objects (c.the_machine_is_what_the_logs_make_it.ensures.objects p fuel logs m h at) after differ

pub returns-clause-threads : goal.returns-clause-threads
returns-clause-threads c p fuel logs m h differ at = differ (c.the_machine_is_what_the_logs_make_it.ensures.threads p fuel logs m h at)

pub returns-clause-each : goal.returns-clause-each
returns-clause-each c p fuel t logs m s now h follows stands differ at =
    not_elsewhere p fuel t (log_of logs t) s now (c.the_machine_is_what_the_logs_make_it.ensures.each p fuel t logs m s h at stands) follows differ
