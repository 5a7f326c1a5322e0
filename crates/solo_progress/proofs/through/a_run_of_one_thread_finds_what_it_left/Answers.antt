use Rattle.solo_progress.proofs.Runs.{moves_found}
use Rattle.solo_progress.proofs.through.a_run_of_one_thread_finds_what_it_left.Goals as goal

pub returns-clause-found : goal.returns-clause-found
returns-clause-found c w t ms v m = (moves_found w t ms v m).found

pub returns-clause-words : goal.returns-clause-words
returns-clause-words c w t ms v n m = (moves_found w t ms v m).words n
