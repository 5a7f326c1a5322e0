use Rattle.core_calls.proofs.Followed.{path_ran, leads_ran}
use Rattle.core_calls.proofs.running.every_path_of_a_tree_is_run.Goals as goal

pub returns-clause-path : goal.returns-clause-path
returns-clause-path g c s start d ms k a path = path_ran s start k d ms a path

pub returns-clause-words : goal.returns-clause-words
returns-clause-words g c s start d words k a ends = leads_ran s start d words k a ends
