use Rattle.wake_ups.proofs.Notified.{no_lost_notify}
use Rattle.wake_ups.proofs.refused.no_notify_without_its_store.Goals as goal

pub returns : goal.returns
returns c = no_lost_notify
