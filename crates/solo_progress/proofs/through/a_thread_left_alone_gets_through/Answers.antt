use Rattle.solo_progress.proofs.Laws.{exits, gets, puts, hashes, notifies, notify_alls, dumps, checks}
use Rattle.solo_progress.proofs.through.a_thread_left_alone_gets_through.Goals as goal

pub returns-clause-exit : goal.returns-clause-exit
returns-clause-exit c = exits

pub returns-clause-get : goal.returns-clause-get
returns-clause-get c = gets

pub returns-clause-put : goal.returns-clause-put
returns-clause-put c = puts

pub returns-clause-hash : goal.returns-clause-hash
returns-clause-hash c = hashes

pub returns-clause-notify : goal.returns-clause-notify
returns-clause-notify c = notifies

pub returns-clause-notify_all : goal.returns-clause-notify_all
returns-clause-notify_all c = notify_alls

pub returns-clause-dump : goal.returns-clause-dump
returns-clause-dump c = dumps

pub returns-clause-check : goal.returns-clause-check
returns-clause-check c = checks
