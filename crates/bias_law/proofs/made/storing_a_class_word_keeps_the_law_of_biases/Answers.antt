use Rattle.bias_law.proofs.made.ClassStored.{class_stored}
use Rattle.bias_law.proofs.made.storing_a_class_word_keeps_the_law_of_biases.Goals as goal

pub returns : goal.returns
returns c = λ e o class w P t within calm goes untouched v law. class_stored e o class w P t calm goes untouched v law
