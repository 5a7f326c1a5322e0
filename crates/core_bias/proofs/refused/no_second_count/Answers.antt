use Rattle.core_bias.proofs.RefusedStores.{no_count}
use Rattle.core_bias.proofs.refused.no_second_count.Goals as goal

pub returns : goal.returns
returns c = no_count
