use Rattle.core_made.proofs.Prototypes.{prototype_first, seen_prototype_first}
use Rattle.core_made.proofs.making.a_prototype_is_a_first_mark.Goals as goal

pub returns-clause-word : goal.returns-clause-word
returns-clause-word c = prototype_first

pub returns-clause-seen : goal.returns-clause-seen
returns-clause-seen c = seen_prototype_first
