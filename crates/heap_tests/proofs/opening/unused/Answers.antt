use Rattle.std.proofs.Common.{ap, ◌∙◌}
use Rattle.core_law.specs.Logic.{Heap}
use Rattle.heap_table.proofs.Resting.{if_ok}
use Rattle.heap_tests.proofs.opening.unused.Goals as goal

pub returns : goal.returns
returns c =
    if_ok c.end.result (λ closed e. ap (λ (h : Heap). h.shape) (e ∙ c.in_ok-heap.ensures.heap) ∙ c.in_ok-shape.ensures) c.end.ensures
