use Rattle.core_calls.proofs.StandsCalls.{enter_stands, wait_stands, notify_call_stands, notify_all_call_stands, hash_stands, dump_stands}
use Rattle.core_calls.proofs.standing.operations_leave_their_thread_running.Goals as goal

pub returns-clause-enter : goal.returns-clause-enter
returns-clause-enter c s k o now low = enter_stands k low s o now

pub returns-clause-wait : goal.returns-clause-wait
returns-clause-wait c s k o now low gone = wait_stands k low s o now gone

pub returns-clause-notify : goal.returns-clause-notify
returns-clause-notify c s k o now low = notify_call_stands k low s o now

pub returns-clause-notify_all : goal.returns-clause-notify_all
returns-clause-notify_all c s k o now low = notify_all_call_stands k low s o now

pub returns-clause-hash : goal.returns-clause-hash
returns-clause-hash c s k o now low = hash_stands k low s o now

pub returns-clause-dump : goal.returns-clause-dump
returns-clause-dump c s k low = dump_stands k low s
