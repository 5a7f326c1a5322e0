use Rattle.every_outcome.proofs.Shut.{hash_shuts_out}
use Rattle.every_outcome.proofs.refused.hashes_do_not_go_alone.Goals as goal

pub returns : goal.returns
returns c = hash_shuts_out
