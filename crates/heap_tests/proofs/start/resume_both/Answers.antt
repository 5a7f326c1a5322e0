use Rattle.heap_tests.proofs.Known.{first_next, second_next}
use Rattle.heap_tests.proofs.start.resume_both.Goals as goal

pub resume-requires-clause-next : goal.resume-requires-clause-next
resume-requires-clause-next g c = first_next c.args.heap.now.heap.biasing

pub resume-requires-2-clause-next : goal.resume-requires-2-clause-next
resume-requires-2-clause-next g c = second_next c.args.heap.now.heap.biasing
