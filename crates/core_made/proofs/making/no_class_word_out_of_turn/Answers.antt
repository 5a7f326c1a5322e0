use Rattle.core_made.proofs.RefusedMakings.{out_of_turn}
use Rattle.core_made.proofs.making.no_class_word_out_of_turn.Goals as goal

pub returns : goal.returns
returns c = out_of_turn
