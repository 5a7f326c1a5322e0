use Rattle.small_runs.proofs.Waited.{is_blocked, is_barred}
use Rattle.small_runs.proofs.witnesses.a_turn_can_be_blocked_by_its_own_wait.Goals as goal

pub returns-clause-blocked : goal.returns-clause-blocked
returns-clause-blocked c = is_blocked

pub returns-clause-barred : goal.returns-clause-barred
returns-clause-barred c = is_barred
