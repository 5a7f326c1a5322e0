use Rattle.std.proofs.Common.{◌<◌, length, sym, subst, arith}
use Rattle.core_law.specs.Logic.{Heap}
use Rattle.heap_tests.proofs.Recorded.{due}
use Rattle.heap_tests.proofs.records.enter.Goals as goal

pub stack_enter-requires-clause-object : goal.stack_enter-requires-clause-object
stack_enter-requires-clause-object c = subst (λ (h : Heap). 0 < length h.shape.objects) (sym c.requires.heap) (omega arith)

pub stack_enter-requires-clause-due : goal.stack_enter-requires-clause-due
stack_enter-requires-clause-due c = due c.args.heap.now c.args.pass.now c.args.mark c.requires
