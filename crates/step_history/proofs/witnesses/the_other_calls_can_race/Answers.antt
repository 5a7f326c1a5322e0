use Rattle.step_history.proofs.Racing.{enter_raced, exit_raced, wait_raced, notify_raced, notify_all_raced}
use Rattle.step_history.proofs.Racing.{hash_raced, dump_raced, check_raced, request_raced, stack_exit_raced}
use Rattle.step_history.proofs.witnesses.the_other_calls_can_race.Goals as goal

pub returns-clause-enter : goal.returns-clause-enter
returns-clause-enter c = enter_raced

pub returns-clause-exit : goal.returns-clause-exit
returns-clause-exit c = exit_raced

pub returns-clause-wait : goal.returns-clause-wait
returns-clause-wait c = wait_raced

pub returns-clause-notify : goal.returns-clause-notify
returns-clause-notify c = notify_raced

pub returns-clause-notify_all : goal.returns-clause-notify_all
returns-clause-notify_all c = notify_all_raced

pub returns-clause-hash : goal.returns-clause-hash
returns-clause-hash c = hash_raced

pub returns-clause-dump : goal.returns-clause-dump
returns-clause-dump c = dump_raced

pub returns-clause-check : goal.returns-clause-check
returns-clause-check c = check_raced

pub returns-clause-request : goal.returns-clause-request
returns-clause-request c = request_raced

pub returns-clause-stack_exit : goal.returns-clause-stack_exit
returns-clause-stack_exit c = stack_exit_raced
