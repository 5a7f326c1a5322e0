use Rattle.every_outcome.proofs.NotReached.{other_object}
use Rattle.every_outcome.proofs.Shut.{other_hash}
use Rattle.every_outcome.proofs.refused.another_object_or_hash_is_another_entry.Goals as goal

pub returns-clause-object : goal.returns-clause-object
returns-clause-object c = other_object

pub returns-clause-hash : goal.returns-clause-hash
returns-clause-hash c = other_hash
