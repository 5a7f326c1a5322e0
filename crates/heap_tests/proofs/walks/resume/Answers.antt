use Rattle.heap_tests.proofs.Known.{first_next}
use Rattle.heap_tests.proofs.walks.resume.Goals as goal

pub resume-requires-clause-next : goal.resume-requires-clause-next
resume-requires-clause-next c = first_next c.args.heap.now.heap.biasing

pub returns : goal.returns
returns c = λ e. record { knows = c.resume.ensures e; plain = c.requires.plain }
