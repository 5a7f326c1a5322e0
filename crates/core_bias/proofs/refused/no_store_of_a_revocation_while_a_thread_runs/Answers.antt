use Rattle.core_bias.proofs.RefusedStores.{no_running}
use Rattle.core_bias.proofs.refused.no_store_of_a_revocation_while_a_thread_runs.Goals as goal

pub returns : goal.returns
returns c = no_running
