use Rattle.wake_ups.proofs.Notified.{notified_are_told, waiters_are_listed, told_are_notified, halted_face_another}
use Rattle.wake_ups.proofs.waking.no_wake_up_is_lost.Goals as goal

pub returns-clause-notified : goal.returns-clause-notified
returns-clause-notified c = notified_are_told

pub returns-clause-waits : goal.returns-clause-waits
returns-clause-waits c = waiters_are_listed

pub returns-clause-told : goal.returns-clause-told
returns-clause-told c = told_are_notified

pub returns-clause-halted : goal.returns-clause-halted
returns-clause-halted c = halted_face_another
