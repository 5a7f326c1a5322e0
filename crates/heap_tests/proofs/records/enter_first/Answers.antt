use Rattle.heap_tests.proofs.Recorded.{first_enters, first_again}
use Rattle.heap_tests.proofs.records.enter_first.Goals as goal

pub enter-progress-requires : goal.enter-progress-requires
enter-progress-requires g c = first_enters c.args.heap.now c.args.pass.now c.requires.knows c.requires.biasing

pub returns : goal.returns
returns g c = first_again c.args.heap.now c.args.pass.now c.enter-progress.new.pass c.enter-progress.result
    c.requires.knows c.requires.biasing c.enter-progress.ensures c.in-Done.path c.in-Done.is
