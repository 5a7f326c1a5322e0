use Rattle.wake_ups.proofs.NotifiedThere.{left_there}
use Rattle.wake_ups.proofs.witnesses.who_is_notified_can_be_left_waiting.Goals as goal

pub returns : goal.returns
returns c = left_there
