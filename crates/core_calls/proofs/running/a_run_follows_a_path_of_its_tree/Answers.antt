use Rattle.core_calls.proofs.Runs.{follows, knows}
use Rattle.core_calls.proofs.running.a_run_follows_a_path_of_its_tree.Goals as goal

pub returns-clause-known : goal.returns-clause-known
returns-clause-known g c s start d k l a ran = knows ran

pub returns-clause-path : goal.returns-clause-path
returns-clause-path g c s start d k l a ran = follows ran
