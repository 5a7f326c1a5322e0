use Rattle.every_outcome.proofs.Stamped.{led_is_after_logs}
use Rattle.every_outcome.proofs.ends.led_machines_are_under_legal_logs.Goals as goal

pub returns : goal.returns
returns c = led_is_after_logs
