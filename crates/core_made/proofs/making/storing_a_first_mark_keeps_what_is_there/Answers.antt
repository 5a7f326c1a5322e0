use Rattle.core_made.proofs.MarkStored.{mark_keeps_law}
use Rattle.core_made.proofs.making.storing_a_first_mark_keeps_what_is_there.Goals as goal

pub returns : goal.returns
returns c = mark_keeps_law
