use Rattle.std.proofs.Common.{ap, ◌∙◌}
use Rattle.core_law.specs.Logic.{Heap}
use Rattle.heap_table.proofs.Resting.{if_ok}
use Rattle.heap_tests.proofs.races.looked_at.Goals as goal

pub returns : goal.returns
returns g c = if_ok c.end.result (λ closed e. ap (λ (h : Heap). h.shape) e ∙ c.in_ok-heap.ensures.knows.0.shape) c.end.ensures
