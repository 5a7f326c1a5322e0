use Rattle.bias_cli.proofs.BlockRuns.{run_of_compiled, sync_of_compiled}
use Rattle.bias_cli.proofs.block_laws.compiling_first_changes_nothing.Goals as goal

pub returns-clause-run : goal.returns-clause-run
returns-clause-run c = run_of_compiled

pub returns-clause-sync : goal.returns-clause-sync
returns-clause-sync c = sync_of_compiled
