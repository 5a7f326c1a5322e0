use Rattle.heap_tests.proofs.Biased.{second_enters}
use Rattle.heap_tests.proofs.biases.enter_second.Goals as goal

pub enter-tried-requires : goal.enter-tried-requires
enter-tried-requires g c = second_enters c.args.heap.now c.args.pass.now c.requires.knows c.requires.biasing
