-- Parts of the steps that take a shot, and what they see.
use Rattle.std.specs.Prelude.{◌≡◌}
use Rattle.core_world.specs.Due.{Ran}
use Rattle.core_world.specs.Trees.StepTree.{StepTree}
use Rattle.heap_table.specs.Seen.{HeapSeen, PassSeen, IsOf}

-- The pass was p, and is q after these steps. It is a pass of this heap still, with the same limit.
pub record HasShot (h : HeapSeen) (d : StepTree (Unit {0})) (p q : PassSeen) : Type 0 where
  pub heap : IsOf h q
  pub limit : q.limit ≡ p.limit
  pub ran : Ran h.heap.shape h.heap.start d p.known q.known tt
