use Rattle.wake_ups.proofs.OtherWakeUps.{not_asleep, not_unlisted, not_untold, not_free}
use Rattle.wake_ups.proofs.refused.no_world_that_loses_a_wake_up.Goals as goal

pub returns-clause-notified : goal.returns-clause-notified
returns-clause-notified c = not_asleep

pub returns-clause-waits : goal.returns-clause-waits
returns-clause-waits c = not_unlisted

pub returns-clause-told : goal.returns-clause-told
returns-clause-told c = not_untold

pub returns-clause-halted : goal.returns-clause-halted
returns-clause-halted c = not_free
