use Rattle.core_made.proofs.RefusedMakings.{unmade_refuses}
use Rattle.core_made.proofs.making.no_first_mark_out_of_turn.Goals as goal

pub returns : goal.returns
returns c = unmade_refuses
