use Rattle.heap_table.proofs.Places.{one_name}
use Rattle.heap_table.proofs.shape.no_two_names_have_one_place.Goals as goal

pub returns : goal.returns
returns c = one_name
