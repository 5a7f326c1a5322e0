use Rattle.core_made.proofs.RefusedMakings.{unclassed_refuses}
use Rattle.core_made.proofs.making.no_biased_first_mark_before_the_class_word.Goals as goal

pub returns : goal.returns
returns c = unclassed_refuses
