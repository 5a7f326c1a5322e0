use Rattle.small_runs.proofs.Rivalled.{is_owned, is_barred}
use Rattle.small_runs.proofs.witnesses.a_turn_can_be_blocked_by_another_thread_that_owns_its_object.Goals as goal

pub returns-clause-blocked : goal.returns-clause-blocked
returns-clause-blocked c = is_owned

pub returns-clause-barred : goal.returns-clause-barred
returns-clause-barred c = is_barred
