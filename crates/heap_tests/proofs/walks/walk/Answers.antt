use Rattle.heap_tests.proofs.Walking.{is_still}
use Rattle.heap_tests.proofs.walks.walk.Goals as goal

pub returns : goal.returns
returns c = λ e. is_still _ _ (c.stop.ensures e)
