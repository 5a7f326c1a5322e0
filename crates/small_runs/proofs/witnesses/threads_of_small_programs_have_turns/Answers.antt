use Rattle.small_runs.proofs.Turned.{live, ends_alone, is_blocked, is_barred}
use Rattle.small_runs.proofs.witnesses.threads_of_small_programs_have_turns.Goals as goal

pub returns-clause-live : goal.returns-clause-live
returns-clause-live c = live

pub returns-clause-ends : goal.returns-clause-ends
returns-clause-ends c = ends_alone

pub returns-clause-blocked : goal.returns-clause-blocked
returns-clause-blocked c = is_blocked

pub returns-clause-barred : goal.returns-clause-barred
returns-clause-barred c = is_barred
