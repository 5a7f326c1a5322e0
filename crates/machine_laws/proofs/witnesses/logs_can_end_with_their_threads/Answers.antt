use Rattle.machine_laws.proofs.ExampleMachines.{ends, all_ended, is_now_stuck}
use Rattle.machine_laws.proofs.witnesses.logs_can_end_with_their_threads.Goals as goal

pub returns-clause-ends : goal.returns-clause-ends
returns-clause-ends c = ends

pub returns-clause-ended : goal.returns-clause-ended
returns-clause-ended c = all_ended

pub returns-clause-stuck : goal.returns-clause-stuck
returns-clause-stuck c = is_now_stuck
