use Rattle.core_calls.proofs.wait.WhoIsWoken.{notify_wakes, notify_all_wakes}
use Rattle.core_calls.proofs.wait.Waiters.{none_woken, all_woken}
use Rattle.core_calls.proofs.wait.notify_wakes_the_oldest_waiter.Goals as goal

pub returns-clause-notify : goal.returns-clause-notify
returns-clause-notify c = notify_wakes

pub returns-clause-notify_all : goal.returns-clause-notify_all
returns-clause-notify_all c = notify_all_wakes

pub returns-clause-none : goal.returns-clause-none
returns-clause-none c = none_woken

pub returns-clause-number : goal.returns-clause-number
returns-clause-number c = all_woken
