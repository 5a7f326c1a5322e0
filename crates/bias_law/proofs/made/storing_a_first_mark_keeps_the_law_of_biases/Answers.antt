use Rattle.bias_law.proofs.made.MarkStored.{mark_stored}
use Rattle.bias_law.proofs.made.storing_a_first_mark_keeps_the_law_of_biases.Goals as goal

pub returns : goal.returns
returns c = λ e o class m w P t within runs calm works room untouched even classed prototype v law.
    mark_stored e o class m w P t within calm works untouched even classed prototype v law
