use Rattle.core_law.proofs.RunEnds.{run_ends, run_fits, verdicts_at_most, verdicts_with_one_more}
use Rattle.bias_law.proofs.runs.the_law_of_biases_holds_of_runs.Goals as goal

pub returns-clause-ended : goal.returns-clause-ended
returns-clause-ended c = λ w P v law none. (run_ends w P v law none, verdicts_at_most w P v law none)

pub returns-clause-stuck : goal.returns-clause-stuck
returns-clause-stuck c = λ w P v law none. (run_fits w P v law none, verdicts_with_one_more w P v law)
