use Rattle.bias_law.proofs.LoggedKinds.{gets, puts, exits_by_hold, exits_by_mark, exits_by_monitor, waits, resumes, notifies, notifies_all, publishes}
use Rattle.bias_law.proofs.kinds.logging_keeps_the_law_of_biases.Goals as goal

pub returns-clause-get : goal.returns-clause-get
returns-clause-get c = gets

pub returns-clause-put : goal.returns-clause-put
returns-clause-put c = puts

pub returns-clause-exit_by_hold : goal.returns-clause-exit_by_hold
returns-clause-exit_by_hold c = exits_by_hold

pub returns-clause-exit_by_mark : goal.returns-clause-exit_by_mark
returns-clause-exit_by_mark c = exits_by_mark

pub returns-clause-exit_by_monitor : goal.returns-clause-exit_by_monitor
returns-clause-exit_by_monitor c = exits_by_monitor

pub returns-clause-wait : goal.returns-clause-wait
returns-clause-wait c = waits

pub returns-clause-resume : goal.returns-clause-resume
returns-clause-resume c = resumes

pub returns-clause-notify : goal.returns-clause-notify
returns-clause-notify c = notifies

pub returns-clause-notify_all : goal.returns-clause-notify_all
returns-clause-notify_all c = notifies_all

pub returns-clause-publish : goal.returns-clause-publish
returns-clause-publish c = publishes
