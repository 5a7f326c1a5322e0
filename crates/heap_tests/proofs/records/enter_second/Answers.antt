use Rattle.heap_tests.proofs.Recorded.{second_enters}
use Rattle.heap_tests.proofs.records.enter_second.Goals as goal

pub enter-progress-requires : goal.enter-progress-requires
enter-progress-requires g c = second_enters c.args.heap.now c.args.pass.now c.requires.knows c.requires.biasing
