use Rattle.plain_monitor.specs.declared.entry.Value.TheVariants.{Nil}
use Rattle.core_world.specs.declared.heap_call.HeapCall.TheVariants as task
use Rattle.core_steps.specs.SmallWorlds.{neutral}
use Rattle.solo_progress.proofs.SmallReady.{running_ready, running_may, entered_ready, first_may}
use Rattle.solo_progress.proofs.SmallReady.{may_enter, may_stack_enter, may_hash, may_dump, may_request, may_print, may_finish, may_poll, may_stop}
use Rattle.solo_progress.proofs.SmallReady.{may_exit, may_stack_exit, may_wait, may_notify, may_notify_all, may_check, neutral_mark, awake}
use Rattle.solo_progress.proofs.RoomyReady.{roomy_may}
use Rattle.solo_progress.proofs.witnesses.calls_can_begin.Goals as goal

pub returns-clause-enter : goal.returns-clause-enter
returns-clause-enter c now = running_ready (task.Enter 0 now) (may_enter now)

pub returns-clause-stack_enter : goal.returns-clause-stack_enter
returns-clause-stack_enter c = (running_ready (task.StackEnter 0 neutral) may_stack_enter, neutral_mark)

pub returns-clause-hash : goal.returns-clause-hash
returns-clause-hash c now = running_ready (task.Hash 0 now) (may_hash now)

pub returns-clause-dump : goal.returns-clause-dump
returns-clause-dump c = running_ready task.Dump may_dump

pub returns-clause-request : goal.returns-clause-request
returns-clause-request c = running_ready task.Request may_request

pub returns-clause-print : goal.returns-clause-print
returns-clause-print c = running_may (task.Print Nil) may_print

pub returns-clause-finish : goal.returns-clause-finish
returns-clause-finish c ending = running_may (task.Finish ending) (may_finish ending)

pub returns-clause-poll : goal.returns-clause-poll
returns-clause-poll c = running_ready task.Poll may_poll

pub returns-clause-stop : goal.returns-clause-stop
returns-clause-stop c = running_may task.Stop may_stop

pub returns-clause-exit : goal.returns-clause-exit
returns-clause-exit c = entered_ready (task.Exit 0) may_exit

pub returns-clause-stack_exit : goal.returns-clause-stack_exit
returns-clause-stack_exit c = entered_ready (task.StackExit 0) may_stack_exit

pub returns-clause-wait : goal.returns-clause-wait
returns-clause-wait c now = (entered_ready (task.Wait 0 now) (may_wait now), awake)

pub returns-clause-notify : goal.returns-clause-notify
returns-clause-notify c now = entered_ready (task.Notify 0 now) (may_notify now)

pub returns-clause-notify_all : goal.returns-clause-notify_all
returns-clause-notify_all c now = entered_ready (task.NotifyAll 0 now) (may_notify_all now)

pub returns-clause-check : goal.returns-clause-check
returns-clause-check c = entered_ready task.Check may_check

pub returns-clause-create : goal.returns-clause-create
returns-clause-create c = roomy_may

pub returns-clause-resume : goal.returns-clause-resume
returns-clause-resume c = first_may
