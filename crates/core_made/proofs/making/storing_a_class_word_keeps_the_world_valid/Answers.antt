use Rattle.core_made.proofs.ClassWords.{class_valid}
use Rattle.core_made.proofs.making.storing_a_class_word_keeps_the_world_valid.Goals as goal

pub returns : goal.returns
returns c = class_valid
