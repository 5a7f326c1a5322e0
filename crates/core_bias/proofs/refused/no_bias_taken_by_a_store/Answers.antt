use Rattle.core_bias.proofs.RefusedStores.{no_stored_bias}
use Rattle.core_bias.proofs.refused.no_bias_taken_by_a_store.Goals as goal

pub returns : goal.returns
returns c = no_stored_bias
