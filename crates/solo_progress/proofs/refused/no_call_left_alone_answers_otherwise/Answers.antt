use Rattle.solo_progress.proofs.OtherAnswers.{no_exit, no_get, no_put, no_hash, no_notify, no_notify_all, no_dump, no_check}
use Rattle.solo_progress.proofs.OtherAnswers.{no_hash_pends, no_dump_pends, no_check_pends}
use Rattle.solo_progress.proofs.refused.no_call_left_alone_answers_otherwise.Goals as goal

pub returns-clause-exit : goal.returns-clause-exit
returns-clause-exit c = no_exit

pub returns-clause-get : goal.returns-clause-get
returns-clause-get c = no_get

pub returns-clause-put : goal.returns-clause-put
returns-clause-put c = no_put

pub returns-clause-hash : goal.returns-clause-hash
returns-clause-hash c = no_hash

pub returns-clause-hash_pends : goal.returns-clause-hash_pends
returns-clause-hash_pends c = no_hash_pends

pub returns-clause-notify : goal.returns-clause-notify
returns-clause-notify c = no_notify

pub returns-clause-notify_all : goal.returns-clause-notify_all
returns-clause-notify_all c = no_notify_all

pub returns-clause-dump : goal.returns-clause-dump
returns-clause-dump c = no_dump

pub returns-clause-dump_pends : goal.returns-clause-dump_pends
returns-clause-dump_pends c = no_dump_pends

pub returns-clause-check : goal.returns-clause-check
returns-clause-check c = no_check

pub returns-clause-check_pends : goal.returns-clause-check_pends
returns-clause-check_pends c = no_check_pends
