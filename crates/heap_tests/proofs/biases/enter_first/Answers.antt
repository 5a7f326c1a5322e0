use Rattle.heap_tests.proofs.Biased.{first_enters}
use Rattle.heap_tests.proofs.biases.enter_first.Goals as goal

pub enter-tried-requires : goal.enter-tried-requires
enter-tried-requires g c = first_enters c.args.heap.now c.args.pass.now c.requires.knows c.requires.biasing
