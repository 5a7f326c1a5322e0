use Rattle.bias_law.proofs.QuietKinds.{grabs, takes_over, raises_count, lowers_count, resets_count, drops, quits, regains, restores, saves_count}
use Rattle.bias_law.proofs.kinds.owning_a_monitor_keeps_the_law_of_biases.Goals as goal

pub returns-clause-grabbed : goal.returns-clause-grabbed
returns-clause-grabbed c = grabs

pub returns-clause-takes_over : goal.returns-clause-takes_over
returns-clause-takes_over c = takes_over

pub returns-clause-up : goal.returns-clause-up
returns-clause-up c = raises_count

pub returns-clause-down : goal.returns-clause-down
returns-clause-down c = lowers_count

pub returns-clause-none : goal.returns-clause-none
returns-clause-none c = resets_count

pub returns-clause-dropped : goal.returns-clause-dropped
returns-clause-dropped c = drops

pub returns-clause-quits : goal.returns-clause-quits
returns-clause-quits c = quits

pub returns-clause-regained : goal.returns-clause-regained
returns-clause-regained c = regains

pub returns-clause-restored : goal.returns-clause-restored
returns-clause-restored c = restores

pub returns-clause-saved : goal.returns-clause-saved
returns-clause-saved c = saves_count
