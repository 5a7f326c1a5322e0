use Rattle.turn_progress.proofs.Beginning.{runs}
use Rattle.turn_progress.proofs.witnesses.a_heap_of_one_thread_comes_to_a_world_in_which_it_runs.Goals as goal

pub returns : goal.returns
returns c = runs
