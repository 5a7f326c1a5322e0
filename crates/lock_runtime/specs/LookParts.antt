-- Parts of checks and of dumps, by what their threads know as they begin.
use Rattle.std.specs.Prelude.{◌≡◌}
use Rattle.core_world.specs.Due.{Ran}
use Rattle.core_world.specs.Trees.StepTree.{StepTree}
use Rattle.heap_table.specs.Seen.{HeapSeen, PassSeen, IsOf}

-- DUMPS. The pass was p, and is q after these steps, with this answer. It is a pass of this heap still, with the same limit, whatever became of its
-- draft of a shot.
pub record HasDumped {A : Type 0} (h : HeapSeen) (d : StepTree A) (p q : PassSeen) (a : A) : Type 0 where
  pub heap : IsOf h q
  pub limit : q.limit ≡ p.limit
  pub ran : Ran h.heap.shape h.heap.start d p.known q.known a
