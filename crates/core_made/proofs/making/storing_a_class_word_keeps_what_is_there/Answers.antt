use Rattle.core_made.proofs.ClassStored.{class_keeps_law}
use Rattle.core_made.proofs.making.storing_a_class_word_keeps_what_is_there.Goals as goal

pub returns : goal.returns
returns c = class_keeps_law
