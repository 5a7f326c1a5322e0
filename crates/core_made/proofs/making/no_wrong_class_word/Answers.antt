use Rattle.core_made.proofs.RefusedMakings.{no_such_class, seen_class_stays}
use Rattle.core_made.proofs.making.no_wrong_class_word.Goals as goal

pub returns-clause-class : goal.returns-clause-class
returns-clause-class c = no_such_class

pub returns-clause-seen : goal.returns-clause-seen
returns-clause-seen c = seen_class_stays
