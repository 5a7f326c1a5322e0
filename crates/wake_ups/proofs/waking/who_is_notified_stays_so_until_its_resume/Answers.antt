use Rattle.wake_ups.proofs.Later.{notified_stay}
use Rattle.wake_ups.proofs.waking.who_is_notified_stays_so_until_its_resume.Goals as goal

pub returns : goal.returns
returns c = notified_stay
