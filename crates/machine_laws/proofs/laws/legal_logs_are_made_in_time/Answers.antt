use Rattle.machine_laws.proofs.MadeInTime.{made_in_time}
use Rattle.machine_laws.proofs.laws.legal_logs_are_made_in_time.Goals as goal

pub returns : goal.returns
returns c = made_in_time
