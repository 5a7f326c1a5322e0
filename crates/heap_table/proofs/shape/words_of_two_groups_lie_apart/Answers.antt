use Rattle.heap_table.proofs.Places.{apart_by_8}
use Rattle.heap_table.proofs.shape.words_of_two_groups_lie_apart.Goals as goal

pub returns : goal.returns
returns c = apart_by_8
