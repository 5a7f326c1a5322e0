use Rattle.every_outcome.proofs.Offers.{taken_is_offered}
use Rattle.every_outcome.proofs.entries.taken_entries_are_offered.Goals as goal

pub returns : goal.returns
returns c = taken_is_offered
