use Rattle.small_runs.proofs.Finished.{finished, logged, halted_end, biased_end}
use Rattle.small_runs.proofs.witnesses.small_heaps_come_to_their_ends.Goals as goal

pub returns-clause-finished : goal.returns-clause-finished
returns-clause-finished c = finished

pub returns-clause-logged : goal.returns-clause-logged
returns-clause-logged c = logged

pub returns-clause-halted : goal.returns-clause-halted
returns-clause-halted c = halted_end

pub returns-clause-biased : goal.returns-clause-biased
returns-clause-biased c = biased_end
